-- What the adding-up routine gives over packets and registers, in the words of the model.
use Rattle.std.proofs.Common.{◌≡◌, ℕ, ◌+◌, ◌<◌, ◌≤◌, Bool, true, false, ◌&&◌, ltb, List, [], ◌∷◌, map, length, get_or, None, sym, refl, ap, ◌∙◌, add-one, arith, lt-ltb}
use lib.ListN.{length-map}
use Rattle.sums.specs.Sums.{sum_below, total, gate, counted, counted_from}
use Rattle.sums.proofs.Below.{sum_same}
use Rattle.sums.proofs.Counted.{counted_total, counted_below}
use Rattle.register.specs.Keys.{number_of, found}
use Rattle.denom.specs.Denomination.{Denom, Token, same_denom, same_token}
use Rattle.denom.specs.declared.types.Denomination.{Denomination}
use Rattle.denom.specs.Views.{denom_view}
use Rattle.protocol.specs.Ledger.{users_hold}
use Rattle.protocol.specs.World as protocol
use Rattle.protocol.specs.World.{World, is_open, supply_of, home_of, held, no_denom}
use Rattle.tables.specs.declared.types.Packet.{Packet}
use Rattle.tables.specs.declared.types.Rows.{Rows}
use Rattle.tables.specs.Rows.{rows_of}
use Rattle.tables.specs.View.{packet_view, packets_in}
use Rattle.tables.proofs.Taken.{few_rows}
use Rattle.audit.specs.Figures.{held_on}

-- a total over what rows stand for
pub total_map : {X Y : Type 0} (f : X → Y) (g : Y → ℕ) (xs : List X) → total g (map f xs) ≡ total (λ x. g (f x)) xs
total_map f g [] = refl
total_map f g (x ∷ xs) = ap (λ n. g (f x) + n) (total_map f g xs)

-- the open packets that pass a test
pub open_counted :
    (w : World) (test : protocol.Packet → Bool) (ps : List Packet) → map packet_view ps ≡ w.packets →
    counted (λ (p : Packet) i. p.amount) (λ p i. is_open w (packet_view p) && test (packet_view p)) ps ≡ protocol.open_packets w test
open_counted w test ps e =
    counted_total (λ (p : Packet) i. p.amount) (λ p i. is_open w (packet_view p) && test (packet_view p)) (λ p. p.amount) (λ p. is_open w (packet_view p) && test (packet_view p)) (λ p i. refl) (λ p i. refl) ps
    ∙ sym (total_map packet_view (λ (p : protocol.Packet). gate (is_open w p && test p) p.amount) ps)
    ∙ ap (total (λ (p : protocol.Packet). gate (is_open w p && test p) p.amount)) e

-- there are at most 512 packets
pub few_packets : (t : Rows Packet 512) (ps : List Packet) → map packet_view ps ≡ packets_in t → length ps ≤ 512
few_packets t ps e = omega (arith, few_rows t, length-map ps packet_view, ap length e, length-map (rows_of t) packet_view)

-- no supply where no number was found
pub no_supply : (w : World) (c : ℕ) (e : Denom) → number_of (same_denom e) (w.register c) ≡ None → 0 ≡ supply_of w c e
no_supply w c e is = go (found (same_denom e) (w.register c)) refl
  where
    go : (b : Bool) → found (same_denom e) (w.register c) ≡ b → 0 ≡ supply_of w c e
    go false unknown = rw unknown refl
    go true known = let none = rw known at is in let z : ◌≡◌ {A = ℕ} 0 1 = cc in absurd (omega arith)

-- rows by what they stand for
counted_map :
    {X Y : Type 0} (f : X → Y) (amount : Y → ℕ → ℕ) (counts : Y → ℕ → Bool) (i : ℕ) (xs : List X) →
    counted_from (λ x j. amount (f x) j) (λ x j. counts (f x) j) i xs ≡ counted_from amount counts i (map f xs)
counted_map f amount counts i [] = refl
counted_map f amount counts i (x ∷ xs) =
    ap (λ n. gate (counts (f x) i) (amount (f x) i) + n) (counted_map f amount counts (i + 1) xs)

-- what users hold of a chain's denominations whose home is a token
pub held_counted :
    (w : World) (t : Token) (c : ℕ) (es : List Denomination) → map denom_view es ≡ w.register c → length es ≤ 32 → (0 < length es → c < 8) →
    counted (λ (e : Denomination) d. gate (ltb c 8 && ltb d 32) (users_hold w.ledger.balance c d)) (λ e d. same_token (home_of w.links c (denom_view e)) t) es ≡ held_on w t c
unfolding held_on
held_counted w t c es known few served =
    let worth : Denom → ℕ → ℕ = λ e d. gate (ltb c 8 && ltb d 32) (users_hold w.ledger.balance c d) in
    let of-it : Denom → ℕ → Bool = λ e d. same_token (home_of w.links c e) t in
    let long = ap length known in
    let all = length-map es denom_view in
    counted_map denom_view worth of-it 0 es
    ∙ ap (counted worth of-it) known
    ∙ counted_below worth of-it no_denom (w.register c)
    ∙ sum_same (length (w.register c)) _ _ (λ k h.
    let here : c < 8 = served (omega arith) in
    let low : k < 32 = omega arith in
    ap (gate (of-it (get_or (w.register c) k no_denom) k)) (rw (lt-ltb c 8 here, lt-ltb k 32 low) refl))

-- one chain more
pub sum_more : (n : ℕ) (f : ℕ → ℕ) → sum_below (n + 1) f ≡ sum_below n f + f n
unfolding sum_below
sum_more n f = rw add-one refl

-- over all chains it is what users hold
pub held_all : (w : World) (t : Token) (n : ℕ) → n ≡ 8 → sum_below n (held_on w t) ≡ held w t
unfolding held_on
held_all w t n e = ap (λ (k : ℕ). sum_below k (held_on w t)) e
