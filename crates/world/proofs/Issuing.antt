-- The number under which an issue credits.
use Rattle.std.proofs.Common.{◌≡◌, ℕ, ◌<◌, ◌≤◌, Bool, true, false, cond, not, ◌&&◌, ◌||◌, eqb, leb, List, [], ◌∷◌, length, is_some, IfSome, Some, None, Option, sym, refl, ap, ◌∙◌, arith, ltb, ltb-true, le-ltb, lt-ltb, leb-true, leb-false}
use borrow.Author.Tests.{lt-leb}
use Rattle.std.specs.Bool.{then_some}
use Rattle.register.specs.Keys.{place, found, number_of}
use Rattle.register.proofs.Places.{place_le, some_found}
use Rattle.denom.specs.Denomination.{Denom, same_denom, hopless}
use Rattle.denom.specs.Text.{is_symbol}
use Rattle.protocol.specs.Refusals.{first, ◌when◌}
use Rattle.protocol.specs.Ledger.{too_large, credit_refusals}
use Rattle.protocol.specs.World.{World, number, registered}
use Rattle.protocol.specs.Calls.{served, token_known, token_at, issue, refusals}
use Rattle.tables.specs.Registers.{number_for}
use Rattle.world.proofs.Ledgers.{in_ledger}

-- whether a key is known, by the number that was found for it
pub found_some : {K : Type 0} (p : K → Bool) (xs : List K) (o : Option ℕ) → o ≡ number_of p xs → found p xs ≡ is_some o
found_some p xs o e = sym (some_found p xs) ∙ ap is_some (sym e)

-- a key for which no number was found is unknown
pub none_found : {K : Type 0} (p : K → Bool) (xs : List K) → None ≡ number_of p xs → found p xs ≡ false
none_found p xs e = found_some p xs None e

-- the number that a chain has or would give is below 32, where its register has 32 places
pub number_for_small : (e : Denom) (es : List Denom) → length es ≤ 32 → (o : Option ℕ) → o ≡ number_for e es → IfSome o (λ n. n < 32)
number_for_small e es few None is = tt
number_for_small e es few (Some n) is = go (found (same_denom e) es) refl (leb 32 (length es)) refl is
  where
    go :
        (b : Bool) → found (same_denom e) es ≡ b → (f : Bool) → leb 32 (length es) ≡ f →
        ◌≡◌ {A = Option ℕ} (Some n) (cond (not b && f) None (Some (place (same_denom e) es))) → n < 32
    go true t f u s = let same : n ≡ place (same_denom e) es = cc in omega (arith, same, ltb-true (place (same_denom e) es) (length es) t)
    go false t true u s = let z : ◌≡◌ {A = ℕ} 0 1 = cc in absurd (omega arith)
    go false t false u s =
        let same : n ≡ place (same_denom e) es = cc in
        omega (arith, same, leb-false 32 (length es) u, place_le (same_denom e) es)

-- what is there, where it is there only if a test fails
pub there_if : {X : Type 0} (b : Bool) (x y : X) → Some x ≡ cond b None (Some y) → (b ≡ false) × (x ≡ y)
there_if true x y e = let z : ◌≡◌ {A = ℕ} 0 1 = cc in absurd (omega arith)
there_if false x y e = (refl, cc)

-- and what is not there where the test holds
pub absent_if : {X : Type 0} (b : Bool) (y : X) → None ≡ cond b None (Some y) → b ≡ true
absent_if true y e = refl
absent_if false y e = let z : ◌≡◌ {A = ℕ} 0 1 = cc in absurd (omega arith)

-- past the world's own checks the refusals of an issue are the ledger's
pub issue_left :
    (w : World) (c u : ℕ) (s : List ℕ) (n d : ℕ) → is_symbol s ≡ true → served w c ≡ true → u < 16 → eqb n 0 ≡ false →
    ((not (token_known w (token_at c s)) && leb 64 (length w.tokens)) || (not (registered w c (hopless s)) && leb 32 (length (w.register c)))) ≡ false →
    number w c (hopless s) ≡ d → d < 32 →
    first (refusals w (issue c u s n)) ≡ first (credit_refusals w.ledger c u d n)
issue_left w c u s n d spelt chain user some room is low =
    let over = lt-leb 16 u user in
    let here = in_ledger w c chain in
    let account = lt-leb 24 u (omega arith) in
    let known = lt-leb 32 d low in
    (λ i. first (
    5 when not (spelt i) ∷ 6 when not (chain i) ∷ 12 when over i ∷ 13 when some i ∷ 23 when room i
    ∷ 33 when too_large w.ledger.balance c (is i) n ∷ []))
    ∙ sym (λ i. first (6 when here i ∷ 12 when account i ∷ 13 when some i ∷ 14 when known i ∷ 33 when too_large w.ledger.balance c d n ∷ []))

-- the number of a denomination, where its token is known or there is room for it
pub number_if_room :
    (known full : Bool) (n many place : ℕ) → Some n ≡ cond full None (Some place) →
    then_some (known || ltb many 64) n ≡ cond ((not known && leb 64 many) || full) None (Some place)
number_if_room known full n many place e =
    let there = there_if full n place e in
    rw (there.0, there.1) (go known (leb 64 many) refl)
  where
    go : (b f : Bool) → leb 64 many ≡ f → then_some (b || ltb many 64) place ≡ cond ((not b && f) || false) None (Some place)
    go true f t = refl
    go false true t = rw (le-ltb many 64 (leb-true 64 many t)) refl
    go false false t = rw (lt-ltb many 64 (leb-false 64 many t)) refl

-- and it is small where that number is
pub small_if_room : (b : Bool) (n : ℕ) (o : Option ℕ) → o ≡ then_some b n → n < 32 → IfSome o (λ m. m < 32)
small_if_room b n None e h = tt
small_if_room true n (Some m) e h = let same : m ≡ n = cc in omega (arith, same, h)
small_if_room false n (Some m) e h = let z : ◌≡◌ {A = ℕ} 0 1 = cc in absurd (omega arith)
