-- Keys of the code and what they stand for: a search finds the same number among both, and a key offered joins both.
use Rattle.std.proofs.Common.{◌≡◌, ℕ, suc, ◌+◌, ◌<◌, ◌≤◌, Bool, true, false, cond, ltb, List, [], ◌∷◌, ◌++◌, map, length, get_or, take, set, Some, None, Option, sym, refl, ap, ◌∙◌, arith, ltb-true, ltb-false, lt-ltb, le-ltb, leb-true, leb-false, length-take-le, not, leb, ◌&&◌, ◌||◌}
use Rattle.std.specs.Option.{option_or}
use Rattle.std.specs.Bool.{then_some}
use Rattle.register.proofs.Places.{place_le, position_is}
use Rattle.std.specs.List.{position, list_any}
use Rattle.std.proofs.lemmas.List.{map_push, take_more_set, get_or-map}
use Rattle.std.proofs.lemmas.Bool.Decides.{nat_tests}
use lib.ListN.{length-map}
use Rattle.register.specs.Keys.{place, found, number_of, kept, kept_count, kept_number}
use Rattle.tables.specs.Registers.{joined}

place_map : {X Y : Type 0} (f : X → Y) (p : Y → Bool) (xs : List X) → place p (map f xs) ≡ place (λ x. p (f x)) xs
place_map f p [] = refl
place_map f p (x ∷ xs) = ap (λ n. cond (p (f x)) 0 (suc n)) (place_map f p xs)

-- the first row whose view passes is the first view that passes
pub number_map : {X Y : Type 0} (f : X → Y) (p : Y → Bool) (xs : List X) → number_of p (map f xs) ≡ number_of (λ x. p (f x)) xs
number_map f p xs =
    let at = place_map f p xs in
    let all = length-map xs f in
    λ i. cond (ltb (at i) (all i)) (Some (at i)) None

-- a number that was answered is the place of a row that was found
pub number_some : {X : Type 0} (p : X → Bool) (xs : List X) (n : ℕ) → number_of p xs ≡ Some n → (found p xs ≡ true) × (place p xs ≡ n)
number_some p xs n e = go (found p xs) refl e
  where
    go : (b : Bool) → found p xs ≡ b → ◌≡◌ {A = Option ℕ} (cond b (Some (place p xs)) None) (Some n) → (found p xs ≡ true) × (place p xs ≡ n)
    go true t f = (t, cc)
    go false t f = let z : ◌≡◌ {A = ℕ} 0 1 = cc in absurd (omega arith)

-- the row at a number that was found stands for what is found there
pub found_row :
    {X Y : Type 0} (f : X → Y) (p : Y → Bool) (rows : List X) (n : ℕ) (x : X) (d : Y) → Some n ≡ number_of p (map f rows) → x ≡ get_or rows n x →
    f x ≡ get_or (map f rows) n d
found_row f p rows n x d e read =
    let at = number_some p (map f rows) n (sym e) in
    let within : n < length rows = omega (arith, at.1, ltb-true _ _ at.0, length-map rows f) in
    ap f read ∙ sym (get_or-map f rows n x d within)

-- a position among the rows is a number among what they stand for
pub position_seen : {X Y : Type 0} (f : X → Y) (p : Y → Bool) (xs : List X) → position (λ x. p (f x)) xs ≡ number_of p (map f xs)
position_seen f p xs = position_is (λ x. p (f x)) xs ∙ sym (number_map f p xs)

-- some row passes where some of what they stand for is found
pub any_seen : {X Y : Type 0} (f : X → Y) (p : Y → Bool) (xs : List X) → list_any (λ x. p (f x)) xs ≡ found p (map f xs)
any_seen f p [] = refl
any_seen f p (x ∷ xs) = go (p (f x)) (any_seen f p xs)
  where
    go : (b : Bool) → list_any (λ x. p (f x)) xs ≡ found p (map f xs) → (b || list_any (λ x. p (f x)) xs) ≡ ltb (cond b 0 (suc (place p (map f xs)))) (suc (length (map f xs)))
    go true e = sym (lt-ltb 0 (suc (length (map f xs))) (omega arith))
    go false e = e ∙ grind (arith, nat_tests)

-- What a key offered to a table of `room` places, the first n of them taken, is answered, and which rows there are then.
module _ {X : Type 0} (ks : List X) (n room : ℕ) (full : length ks ≡ room) (within : n ≤ length ks) where
  pub joins : (k : X) (o : Option ℕ) → take (kept_count (length ks) n o) (kept ks n k o) ≡ joined room k (take n ks) o
  joins k (Some i) = refl
  joins k None =
      let at = length-take-le n ks within in
      go (ltb n (length ks)) refl ∙ (λ i. cond (ltb (sym at i) (full i)) (take n ks ++ k ∷ []) (take n ks))
    where
      go :
          (b : Bool) → ltb n (length ks) ≡ b →
          take (cond b (n + 1) n) (cond b (set ks n k) ks) ≡ cond b (take n ks ++ k ∷ []) (take n ks)
      go true t = take_more_set ks n k (ltb-true n (length ks) t)
      go false t = refl

  pub offer_answered : (o : Option ℕ) → kept_number (length ks) n o ≡ kept_number room (length (take n ks)) o
  offer_answered o = λ i. kept_number (full i) (sym (length-take-le n ks within) i) o

-- what the keys stand for after one was offered
pub joined_seen :
    {X Y : Type 0} (f : X → Y) (p : Y → Bool) (room : ℕ) (k : X) (old new : List X) → new ≡ joined room k old (number_of (λ x. p (f x)) old) →
    map f new ≡ joined room (f k) (map f old) (number_of p (map f old))
joined_seen f p room k old new e =
    ap (map f) e ∙ go (number_of (λ x. p (f x)) old) ∙ ap (joined room (f k) (map f old)) (sym (number_map f p old))
  where
    pushed : (b : Bool) → map f (cond b (old ++ k ∷ []) old) ≡ cond b (map f old ++ f k ∷ []) (map f old)
    pushed true = map_push f old k
    pushed false = refl

    go : (o : Option ℕ) → map f (joined room k old o) ≡ joined room (f k) (map f old) o
    go (Some i) = refl
    go None = pushed (ltb (length old) room) ∙ (λ i. cond (ltb (sym (length-map old f) i) room) (map f old ++ f k ∷ []) (map f old))

-- the number of a key, or else the next one where there is room for it
pub number_or_next :
    {X : Type 0} (p : X → Bool) (xs : List X) (room : ℕ) →
    option_or (number_of p xs) (then_some (ltb (length xs) room) (length xs)) ≡ cond (not (found p xs) && leb room (length xs)) None (Some (place p xs))
number_or_next p xs room = go (found p xs) refl
  where
    n : ℕ
    n = length xs

    next : (b : Bool) → leb room n ≡ b → place p xs ≡ n → then_some (ltb n room) n ≡ cond b None (Some (place p xs))
    next true t e = rw (le-ltb n room (leb-true room n t)) refl
    next false t e = rw (lt-ltb n room (leb-false room n t)) (ap Some (sym e))

    go : (b : Bool) → found p xs ≡ b → option_or (cond b (Some (place p xs)) None) (then_some (ltb n room) n) ≡ cond (not b && leb room n) None (Some (place p xs))
    go true t = refl
    go false t = next (leb room n) refl (omega (arith, ltb-false (place p xs) n t, place_le p xs))
