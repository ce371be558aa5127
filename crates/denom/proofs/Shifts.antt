-- A trace with a hop put in front or taken off, in the six places for its hops.
use Rattle.std.proofs.Common.{◌≡◌, ℕ, zero, suc, ◌+◌, ◌-◌, ◌<◌, ◌≤◌, List, [], ◌∷◌, ◌++◌, length, get_or, take, sym, refl, ap, ◌∙◌, add-one, arith}
use lib.Seq.{take-append-le}
use Rattle.denom.specs.Denomination.{later_hops}

-- the six places one by one
six_places :
    (at : List ℕ) → length at ≡ 6 →
    at ≡ get_or at 0 0 ∷ get_or at 1 0 ∷ get_or at 2 0 ∷ get_or at 3 0 ∷ get_or at 4 0 ∷ get_or at 5 0 ∷ []
six_places [] e = absurd (omega arith)
six_places (a ∷ []) e = absurd (omega arith)
six_places (a ∷ b ∷ []) e = absurd (omega arith)
six_places (a ∷ b ∷ c ∷ []) e = absurd (omega arith)
six_places (a ∷ b ∷ c ∷ d ∷ []) e = absurd (omega arith)
six_places (a ∷ b ∷ c ∷ d ∷ f ∷ []) e = absurd (omega arith)
six_places (a ∷ b ∷ c ∷ d ∷ f ∷ g ∷ []) e = refl
six_places (a ∷ b ∷ c ∷ d ∷ f ∷ g ∷ h ∷ xs) e = absurd (omega arith)

-- six channels are a table of channels
pub six_channels :
    (a b c d f g : ℕ) → a < 8 → b < 8 → c < 8 → d < 8 → f < 8 → g < 8 → (i : ℕ) →
    get_or (a ∷ b ∷ c ∷ d ∷ f ∷ g ∷ []) i 0 < 8
six_channels a b c d f g pa pb pc pd pf pg zero = pa
six_channels a b c d f g pa pb pc pd pf pg (suc zero) = pb
six_channels a b c d f g pa pb pc pd pf pg (suc (suc zero)) = pc
six_channels a b c d f g pa pb pc pd pf pg (suc (suc (suc zero))) = pd
six_channels a b c d f g pa pb pc pd pf pg (suc (suc (suc (suc zero)))) = pf
six_channels a b c d f g pa pb pc pd pf pg (suc (suc (suc (suc (suc zero))))) = pg
six_channels a b c d f g pa pb pc pd pf pg (suc (suc (suc (suc (suc (suc i)))))) = omega arith

-- the hops one place further back, behind h
pub hop_in_front :
    (at : List ℕ) (n h : ℕ) → length at ≡ 6 → n < 6 →
    take (n + 1) (h ∷ get_or at 0 0 ∷ get_or at 1 0 ∷ get_or at 2 0 ∷ get_or at 3 0 ∷ get_or at 4 0 ∷ []) ≡ h ∷ take n at
hop_in_front at n h e few =
    let five = get_or at 0 0 ∷ get_or at 1 0 ∷ get_or at 2 0 ∷ get_or at 3 0 ∷ get_or at 4 0 ∷ [] in
    let within : n ≤ length five = omega arith in
    rw add-one (ap (λ (l : List ℕ). h ∷ l) (sym (ap (take n) (six_places at e) ∙ take-append-le n five (get_or at 5 0 ∷ []) within)))

-- the hops one place further to the front
pub hop_taken_off :
    (at : List ℕ) (n m : ℕ) → length at ≡ 6 → n ≤ 6 → m ≡ n - 1 →
    take m (get_or at 1 0 ∷ get_or at 2 0 ∷ get_or at 3 0 ∷ get_or at 4 0 ∷ get_or at 5 0 ∷ 0 ∷ []) ≡ later_hops (take n at)
hop_taken_off at zero m e few less = ap (λ k. take k (get_or at 1 0 ∷ get_or at 2 0 ∷ get_or at 3 0 ∷ get_or at 4 0 ∷ get_or at 5 0 ∷ 0 ∷ [])) less
hop_taken_off at (suc n) m e few less =
    let five = get_or at 1 0 ∷ get_or at 2 0 ∷ get_or at 3 0 ∷ get_or at 4 0 ∷ get_or at 5 0 ∷ [] in
    let within : n ≤ length five = omega arith in
    let one : m ≡ n = omega arith in
    ap (λ k. take k (five ++ 0 ∷ [])) one
    ∙ take-append-le n five (0 ∷ []) within
    ∙ sym (ap (λ (l : List ℕ). later_hops (take (suc n) l)) (six_places at e))
