use Rattle.std.proofs.Common.{◌-◌, length, take, drop, sym, refl, ap, arith, length-drop, take_all, rules}
use native.Mathlib.Nat.{sub-zero}
use Rattle.std.proofs.lemmas.List.{take_rest}
use Rattle.script.proofs.Cuts.{next_cut, next_whole, placed}
use Rattle.script.proofs.reader.ReaderIterator.next.Goals as goal

pub returns-then-n-rest : goal.returns-then-n-rest
returns-then-n-rest c =
    let text = c.args.self.now.text.now in
    let at = c.args.self.now.at in
    let n = c.find_end-n.result in
    let rest = take (length text - at) (drop at text) in
    let front = ap (λ k. take k rest) (sub-zero n) in
    let piece = next_cut c.args.self.now.end at n text rest (take_rest text at) c.find_end-n.ensures.before _ front c.if-n-rest.true (c.find_end-n.ensures.stops c.if-n-rest.true) in
    record {
      steps = record {
        piece = piece;
        place = placed n rest _ _ (take_rest text at) front;
        onward = (omega arith, search rules);
        text = refl;
        end = refl;
      };
      goes = record { on = λ _. (tt, tt, omega (arith, ap length piece)); keeps = tt; rests = λ _. tt };
    }

pub returns : goal.returns
returns c =
    let text = c.args.self.now.text.now in
    let at = c.args.self.now.at in
    let n = c.find_end-n.result in
    let rest = take (length text - at) (drop at text) in
    let piece = next_whole c.args.self.now.end at n text rest (take_rest text at) c.find_end-n.ensures.before (omega (arith, ap length (take_rest text at), length-drop at text, c.if-self.false)) (omega (arith, c.find_end-n.ensures.within, c.if-n-rest.false)) in
    record {
      steps = record {
        piece = piece;
        place = placed (length rest) rest _ _ (take_rest text at) (sym (take_all (length rest) rest (omega arith)));
        onward = (omega (arith, ap length (take_rest text at), length-drop at text, c.if-self.false, c.if-n-rest.false), search rules);
        text = refl;
        end = refl;
      };
      goes = record { on = λ _. (tt, tt, omega (arith, ap length piece)); keeps = tt; rests = λ _. tt };
    }
