-- Where a key stands among keys, and what a register holds after a key was offered to it.
use Rattle.std.specs.Prelude.{◌≡◌, ℕ, suc, ◌+◌, ◌<◌, ◌≤◌, Bool, true, false, cond, List, [], ◌∷◌, ◌++◌, length, take, Some, None, Option, nat_lt, slice_index_or, slice_set}

-- the place, from 0, of the first row that passes the test; the length where none does
abbrev pub place : {X : Type 0} → (X → Bool) → List X → ℕ
place p [] = 0
place p (x ∷ xs) = cond (p x) 0 (suc (place p xs))

-- whether a row passes the test
abbrev pub found : {X : Type 0} → (X → Bool) → List X → Bool
found p xs = nat_lt (place p xs) (length xs)

-- that place as an answer: the number of the first row that passes, or nothing
abbrev pub number_of : {X : Type 0} → (X → Bool) → List X → Option ℕ
number_of p xs = cond (found p xs) (Some (place p xs)) None

-- What a register of `room` places, the first n of them taken, holds after key k was offered, by the number that k had before:
-- k is put behind the others where it is new and there is room.

-- the memory
abbrev pub kept : {K : Type 0} → List K → ℕ → K → Option ℕ → List K
kept ks n k (Some i) = ks
kept ks n k None = cond (nat_lt n (length ks)) (slice_set ks n k) ks

-- how many places are taken
abbrev pub kept_count : ℕ → ℕ → Option ℕ → ℕ
kept_count room n (Some i) = n
kept_count room n None = cond (nat_lt n room) (n + 1) n

-- the number that k has then, or nothing where it is new and there is no room
abbrev pub kept_number : ℕ → ℕ → Option ℕ → Option ℕ
kept_number room n (Some i) = Some i
kept_number room n None = cond (nat_lt n room) (Some n) None

-- the keys in order of arrival with k among them
abbrev pub entered : {K : Type 0} → K → List K → Option ℕ → List K
entered k xs (Some i) = xs
entered k xs None = xs ++ k ∷ []

-- no two of the keys are the same
abbrev pub Distinct : {K : Type 0} → (K → K → Bool) → List K → Type 0
Distinct {K} same ks = (i j : ℕ) (d : K) → i < j → j < length ks → same (slice_index_or ks j d) (slice_index_or ks i d) ≡ false

-- keys that are distinct stay so when another is offered
abbrev pub StaysDistinct : {K : Type 0} → (K → K → Bool) → Type 0
StaysDistinct {K} same =
    (ks : List K) (n : ℕ) (k : K) → n ≤ length ks → Distinct same (take n ks) →
    Distinct same (take (kept_count (length ks) n (number_of (same k) (take n ks))) (kept ks n k (number_of (same k) (take n ks))))

-- where there is room, the keys in order of arrival are the old ones with the key among them
abbrev pub KeepsOrder : {K : Type 0} → (K → K → Bool) → Type 0
KeepsOrder {K} same =
    (ks : List K) (n : ℕ) (k : K) → n < length ks →
    take (kept_count (length ks) n (number_of (same k) (take n ks))) (kept ks n k (number_of (same k) (take n ks))) ≡
    entered k (take n ks) (number_of (same k) (take n ks))

-- keys that are the same have one number
abbrev pub OneNumber : {K : Type 0} → (K → K → Bool) → Type 0
OneNumber {K} same = (ks : List K) (j k : K) → same j k ≡ true → number_of (same j) ks ≡ number_of (same k) ks
