-- What users hold of a token, and open packets: what each small change does to them.
use Rattle.std.proofs.Common.{◌≡◌, ℕ, ◌+◌, ◌<◌, Bool, true, false, not, ◌&&◌, eqb, ltb, ◌≢◌, List, ◌++◌, map, length, get_or, set, None, sym, refl, ap, ◌∙◌, ap₂, arith}
use Rattle.std.proofs.lemmas.List.{length-map, set-get_or, get_or-map}
use Rattle.std.proofs.lemmas.Bool.{lt-ltb, le-ltb}
use Rattle.sums.specs.Sums.{total, gate, sum_below}
use Rattle.denom.specs.Denomination.{Denom, Token, same_token}
use Rattle.protocol.specs.House.{chains_most, users, escrow_account}
use Rattle.protocol.specs.Ledger.{Balances, users_hold}
use Rattle.protocol.specs.Book.{is_one}
use Rattle.protocol.specs.World.{Link, Packet, World, home_of, no_denom, is_open, open_packets, link_kind, mark_at}
use Rattle.protocol.specs.Calls.{no_packet, no_more_standing, recorded, ended, mark_written}
use Rattle.protocol.proofs.Bools.{and_true, and_swap}
use Rattle.protocol.proofs.Sums.{sum_same, sum_longer, sum_zero, total_push, total_at, gate_zero}
use Rattle.protocol.proofs.Measures.{Weight, Measure, one_balance, reweigh, gated, summed}
use Rattle.protocol.proofs.Homes.{Leads, home_grows}
use Rattle.protocol.proofs.Good.{Registers, Blank, Names, Traced, Key, no_key, key, Numbered, grown, grown_length, grown_old}
use Rattle.protocol.proofs.Marking.{mark_other, mark_here}

-- What users hold, by its parts

-- number d of chain c is a denomination of the token
abbrev pub is_of : List Link → Registers → Token → ℕ → ℕ → Bool
is_of ls reg t c d = same_token (home_of ls c (get_or (reg c) d no_denom)) t

-- what users hold of a token, by the parts of a world that it reads
abbrev pub Held : List Link → Registers → Balances → Token → ℕ
Held ls reg b t = sum_below chains_most (λ c. sum_below (length (reg c)) (λ d. gate (is_of ls reg t c d) (users_hold b c d)))

-- which balances count towards it
abbrev pub held_weight : List Link → Registers → Token → Weight
held_weight ls reg t c a d = ltb c chains_most && (ltb d (length (reg c)) && (is_of ls reg t c d && ltb a users))

-- the last of four put first
and_last : (p q r s : Bool) → (p && (q && (r && s))) ≡ (s && (p && (q && r)))
and_last true true true true = refl
and_last true true true false = refl
and_last true true false true = refl
and_last true true false false = refl
and_last true false r true = refl
and_last true false r false = refl
and_last false q r true = refl
and_last false q r false = refl

module _ (ls : List Link) (reg : Registers) (t : Token) where
  -- the balances of a chain's users under one number
  users_measure : (c₀ d₀ : ℕ) → Measure (λ b. sum_below users (λ u. b c₀ u d₀)) (λ c a d. ltb a users && (eqb c₀ c && eqb d₀ d))
  users_measure c₀ d₀ =
      summed users (λ k b. b c₀ k d₀) (λ c a d. a) (λ _ c a d. eqb c₀ c && eqb d₀ d) (λ k.
      reweigh (λ b. b c₀ k d₀) (λ c a d. eqb c₀ c && eqb k a && eqb d₀ d) (λ c a d. eqb k a && (eqb c₀ c && eqb d₀ d))
      (λ c a d. and_swap (eqb c₀ c) (eqb k a) (eqb d₀ d)) (one_balance c₀ k d₀))

  -- the same, counted only if the number is of the token
  denom_measure :
      (c₀ d₀ : ℕ) →
      Measure
      (λ b. gate (is_of ls reg t c₀ d₀) (users_hold b c₀ d₀))
      (λ c a d. eqb d₀ d && (is_of ls reg t c₀ d₀ && (ltb a users && eqb c₀ c)))
  denom_measure c₀ d₀ =
      reweigh (λ b. gate (is_of ls reg t c₀ d₀) (users_hold b c₀ d₀))
      (λ c a d. is_of ls reg t c₀ d₀ && (ltb a users && (eqb c₀ c && eqb d₀ d)))
      (λ c a d. eqb d₀ d && (is_of ls reg t c₀ d₀ && (ltb a users && eqb c₀ c)))
      (λ c a d. and_last (is_of ls reg t c₀ d₀) (ltb a users) (eqb c₀ c) (eqb d₀ d))
      (gated (is_of ls reg t c₀ d₀) (λ b. sum_below users (λ u. b c₀ u d₀)) (λ c a d. ltb a users && (eqb c₀ c && eqb d₀ d)) (users_measure c₀ d₀))

  -- all numbers of one chain
  chain_measure :
      (c₀ : ℕ) →
      Measure
      (λ b. sum_below (length (reg c₀)) (λ d. gate (is_of ls reg t c₀ d) (users_hold b c₀ d)))
      (λ c a d. eqb c₀ c && (ltb d (length (reg c₀)) && (is_of ls reg t c₀ d && ltb a users)))
  chain_measure c₀ =
      reweigh (λ b. sum_below (length (reg c₀)) (λ d. gate (is_of ls reg t c₀ d) (users_hold b c₀ d)))
      (λ c a d. ltb d (length (reg c₀)) && (is_of ls reg t c₀ d && (ltb a users && eqb c₀ c)))
      (λ c a d. eqb c₀ c && (ltb d (length (reg c₀)) && (is_of ls reg t c₀ d && ltb a users)))
      (λ c a d. and_last (ltb d (length (reg c₀))) (is_of ls reg t c₀ d) (ltb a users) (eqb c₀ c))
      (summed (length (reg c₀)) (λ d b. gate (is_of ls reg t c₀ d) (users_hold b c₀ d)) (λ c a d. d)
      (λ d₀ c a d. is_of ls reg t c₀ d₀ && (ltb a users && eqb c₀ c)) (denom_measure c₀))

  -- all chains: a user's balance counts wherever its denomination is of the token
  pub held_measure : Measure (λ b. Held ls reg b t) (held_weight ls reg t)
  held_measure =
      summed chains_most (λ c b. sum_below (length (reg c)) (λ d. gate (is_of ls reg t c d) (users_hold b c d))) (λ c a d. c)
      (λ c₀ c a d. ltb d (length (reg c₀)) && (is_of ls reg t c₀ d && ltb a users)) chain_measure

  -- under the number of e, a user's balance counts where e's home is the token, and no other balance does
  pub weight_user :
      (c u d : ℕ) (e : Denom) → c < chains_most → Names reg c d e → u < users → held_weight ls reg t c u d ≡ same_token (home_of ls c e) t
  weight_user c u d e s n l =
      rw (lt-ltb c chains_most s) (rw (lt-ltb d (length (reg c)) n.0) (rw (lt-ltb u users l) (rw n.1 (and_true (same_token (home_of ls c e) t)))))

  -- an escrow account's never does
  pub weight_escrow : (c k d : ℕ) → held_weight ls reg t c (escrow_account k) d ≡ false
  weight_escrow c k d =
      rw (le-ltb (escrow_account k) users (omega arith)) (go (ltb c chains_most) (ltb d (length (reg c))) (is_of ls reg t c d))
    where
      go : (p q r : Bool) → (p && (q && (r && false))) ≡ false
      go true true true = refl
      go true true false = refl
      go true false r = refl
      go false q r = refl

-- a denomination enrolled
pub held_grown :
    (ls : List Link) (reg : Registers) (b : Balances) (t : Token) (c : ℕ) (e : Denom) → Blank reg b →
    Held ls (grown reg c e) b t ≡ Held ls reg b t
held_grown ls reg b t c e h =
    sum_same chains_most
    (λ x. sum_below (length (grown reg c e x)) (λ d. gate (is_of ls (grown reg c e) t x d) (users_hold b x d)))
    (λ x. sum_below (length (reg x)) (λ d. gate (is_of ls reg t x d) (users_hold b x d)))
    (λ x l.
    sum_longer (length (reg x)) (length (grown reg c e x))
    (λ d. gate (is_of ls (grown reg c e) t x d) (users_hold b x d)) (grown_length reg c e x)
    (λ d m. ap (gate (is_of ls (grown reg c e) t x d)) (sum_zero users (λ u. b x u d) (λ u. h x u d m)) ∙ gate_zero (is_of ls (grown reg c e) t x d)) ∙
    sum_same (length (reg x)) (λ d. gate (is_of ls (grown reg c e) t x d) (users_hold b x d))
    (λ d. gate (is_of ls reg t x d) (users_hold b x d))
    (λ d m. ap (λ (f : Denom). gate (same_token (home_of ls x f) t) (users_hold b x d)) (grown_old reg c e x d m)))

-- a link opened
pub home_stays :
    (ls ms : List Link) (c : ℕ) (e : Denom) → Leads ls e.hops c → home_of (ls ++ ms) c e ≡ home_of ls c e
home_stays ls ms c e h = let p = home_grows ls ms e.hops c h in λ i. record { chain = p i; symbol = e.symbol }

-- the homes of what is registered stay, so what is held does
pub held_links :
    (ls ms : List Link) (reg : Registers) (b : Balances) (t : Token) → Traced ls reg → Held (ls ++ ms) reg b t ≡ Held ls reg b t
held_links ls ms reg b t h =
    sum_same chains_most
    (λ x. sum_below (length (reg x)) (λ d. gate (is_of (ls ++ ms) reg t x d) (users_hold b x d)))
    (λ x. sum_below (length (reg x)) (λ d. gate (is_of ls reg t x d) (users_hold b x d)))
    (λ x l.
    sum_same (length (reg x)) (λ d. gate (is_of (ls ++ ms) reg t x d) (users_hold b x d))
    (λ d. gate (is_of ls reg t x d) (users_hold b x d))
    (λ d m. ap (λ (y : Token). gate (same_token y t) (users_hold b x d)) (home_stays ls ms x (get_or (reg x) d no_denom) (h x d m))))

-- Open packets

-- a packet recorded, under a key of which no book has a mark
pub open_push :
    (w : World) (p : Packet) (test : Packet → Bool) → p.standing ≡ true →
    ((k : Bool) → (w.books k).mark p.lane p.sequence ≡ None) →
    open_packets (recorded w p) test ≡ open_packets w test + gate (test p) p.amount
open_push w p test st none =
    total_push (λ x. gate (is_open w x && test x) x.amount) w.packets p ∙
    ap (λ b. open_packets w test + gate (b && test p) p.amount) is
  where
    is : is_open w p ≡ true
    is = rw st (rw (none (link_kind w p.lane)) refl)

-- a packet that ends
pub open_ended :
    (w : World) (q : ℕ) (test : Packet → Bool) → q < length w.packets →
    open_packets (ended w q) test +
    gate (is_open w (get_or w.packets q no_packet) && test (get_or w.packets q no_packet)) (get_or w.packets q no_packet).amount ≡
    open_packets w test
open_ended w q test l =
    let f = λ (x : Packet). gate (is_open w x && test x) x.amount in
    omega (arith, total_at f f w.packets q (no_more_standing (get_or w.packets q no_packet)) no_packet l (λ j _ _. refl))

-- a mark written
module _ (w : World) (q i s m : ℕ) (test : Packet → Bool) (l : q < length w.packets)
    (is : key (get_or w.packets q no_packet) ≡ (i, s)) (st : (get_or w.packets q no_packet).standing ≡ true)
    (none : (w.books (link_kind w i)).mark i s ≡ None) (distinct : Numbered (map key w.packets) w.books) where
  -- a packet under another key is open as it was
  other : (p : Packet) → (key p ≡ (i, s) → ⊥) → is_open (mark_written w i s m) p ≡ is_open w p
  other p ne = ap (λ o. p.standing && not (is_one o)) (mark_other w i s m p ne)

  -- the packet is open now unless that mark is 1
  here : is_open (mark_written w i s m) (get_or w.packets q no_packet) ≡ not (eqb m 1)
  here = ap₂ (λ x o. x && not (is_one o)) st (mark_here w i s m (get_or w.packets q no_packet) is)

  -- it was open before
  was : is_open w (get_or w.packets q no_packet) ≡ true
  was = ap₂ (λ x o. x && not (is_one o)) st (ap (λ (k : Key). mark_at w k.0 k.1) is ∙ none)

  -- the open packets lose it where the mark is 1, and keep it otherwise
  pub open_mark :
      open_packets (mark_written w i s m) test + gate (test (get_or w.packets q no_packet)) (get_or w.packets q no_packet).amount ≡
      open_packets w test +
      gate (not (eqb m 1) && test (get_or w.packets q no_packet)) (get_or w.packets q no_packet).amount
  open_mark =
      let f = λ (x : Packet). gate (is_open w x && test x) x.amount in
      let g = λ (x : Packet). gate (is_open (mark_written w i s m) x && test x) x.amount in
      let apart : (j : ℕ) → j < length w.packets → j ≢ q → key (get_or w.packets j no_packet) ≡ (i, s) → ⊥ =
      λ j h ne e.
      ne
      (distinct.distinct j q (rw (length-map w.packets key) h) (rw (length-map w.packets key) l)
      (get_or-map key w.packets j no_packet no_key h ∙ e ∙ sym is ∙ sym (get_or-map key w.packets q no_packet no_key l))) in
      let r =
      total_at f g w.packets q (get_or w.packets q no_packet) no_packet l (λ j h ne.
      ap (λ b. gate (b && test (get_or w.packets j no_packet)) (get_or w.packets j no_packet).amount) (other (get_or w.packets j no_packet) (apart j h ne))) in
      let a : f (get_or w.packets q no_packet) ≡ gate (test (get_or w.packets q no_packet)) (get_or w.packets q no_packet).amount =
      ap (λ b. gate (b && test (get_or w.packets q no_packet)) (get_or w.packets q no_packet).amount) was in
      let b : g (get_or w.packets q no_packet) ≡ gate (not (eqb m 1) && test (get_or w.packets q no_packet)) (get_or w.packets q no_packet).amount =
      ap (λ b. gate (b && test (get_or w.packets q no_packet)) (get_or w.packets q no_packet).amount) here in
      let c : total g (set w.packets q (get_or w.packets q no_packet)) ≡ total g w.packets =
      ap (total g) (set-get_or w.packets q no_packet) in
      omega arith
