-- Where an end stands among the ends of all links.
use Rattle.std.proofs.Common.{◌≡◌, ℕ, zero, suc, ◌+◌, ◌*◌, ◌<◌, ◌≤◌, Bool, true, false, cond, ltb, List, [], ◌∷◌, map, length, get_or, drop, Some, None, sym, refl, ap, ◌∙◌, arith, le-ltb, lt-ltb, ltb-true, ltb-false, Option, MatchOption}
use Rattle.std.proofs.lemmas.List.{at_drop_more, at_drop_all}
use Rattle.std.proofs.lemmas.Bool.Decides.{nat_tests}
use Rattle.std.specs.List.{find, range_with_len}
use Rattle.std.specs.Option.{option_map}
use Rattle.register.proofs.Places.{place_le}
use Rattle.register.specs.Keys.{place, number_of}
use Rattle.protocol.specs.World.{ends, numbers_from}
use Rattle.protocol.specs.World as protocol
use Rattle.tables.specs.declared.types.Link.{Link}
use Rattle.tables.specs.View.{end_view, link_view}

-- the ends of some links
abbrev pub ends_of : List Link → List protocol.End
ends_of ls = ends (map link_view ls)

pub length_ends_of : (ls : List Link) → length (ends_of ls) ≡ 2 * length ls
length_ends_of [] = refl
length_ends_of (l ∷ ls) = omega (arith, length_ends_of ls)

module _ (p : protocol.End → Bool) (ls : List Link) (i : ℕ) where
  -- a search that has passed the ends of i links
  abbrev pub Passed : Type 0
  Passed = place p (ends_of (drop i ls)) + 2 * i ≡ place p (ends_of ls)

  one_link :
      (l : Link) → i < length ls → l ≡ get_or ls i l →
      place p (ends_of (drop i ls)) ≡
      cond (p (end_view l.first)) 0 (suc (cond (p (end_view l.second)) 0 (suc (place p (ends_of (drop (i + 1) ls))))))
  one_link l h read =
      at_drop_more (λ l. place p (ends_of l)) ls i l h
      ∙ ap
      (λ (m : Link). cond (p (end_view m.first)) 0 (suc (cond (p (end_view m.second)) 0 (suc (place p (ends_of (drop (i + 1) ls)))))))
      (sym read)

  -- where the place is known, so is the answer
  found_at : (n : ℕ) → place p (ends_of ls) ≡ n → n < 2 * length ls → Some n ≡ number_of p (ends_of ls)
  found_at n e h =
      let inside : ltb (place p (ends_of ls)) (length (ends_of ls)) ≡ true = lt-ltb (place p (ends_of ls)) (length (ends_of ls)) (omega (arith, length_ends_of ls)) in
      sym (rw (inside, e) refl)

  pub first_end : (l : Link) → i < length ls → l ≡ get_or ls i l → Passed → p (end_view l.first) ≡ true → Some (2 * i) ≡ number_of p (ends_of ls)
  first_end l h read inv e =
      let here : place p (ends_of (drop i ls)) ≡ 0 = rw e at (one_link l h read) in
      found_at (2 * i) (omega (arith, here, inv)) (omega arith)

  pub second_end :
      (l : Link) → i < length ls → l ≡ get_or ls i l → Passed → p (end_view l.first) ≡ false → p (end_view l.second) ≡ true →
      Some (2 * i + 1) ≡ number_of p (ends_of ls)
  second_end l h read inv e f =
      let here : place p (ends_of (drop i ls)) ≡ 1 = rw (e, f) at (one_link l h read) in
      found_at (2 * i + 1) (omega (arith, here, inv)) (omega arith)

  neither_end :
      (l : Link) → i < length ls → l ≡ get_or ls i l → p (end_view l.first) ≡ false → p (end_view l.second) ≡ false →
      place p (ends_of (drop i ls)) ≡ suc (suc (place p (ends_of (drop (i + 1) ls))))
  neither_end l h read e f = rw (e, f) at (one_link l h read)

pub passed_more :
    (p : protocol.End → Bool) (ls : List Link) (i : ℕ) (l : Link) → i < length ls → l ≡ get_or ls i l → Passed p ls i →
    p (end_view l.first) ≡ false → p (end_view l.second) ≡ false → Passed p ls (i + 1)
passed_more p ls i l h read inv e f = omega (arith, neither_end p ls i l h read e f, inv)

pub passed_all : (p : protocol.End → Bool) (ls : List Link) (i : ℕ) → length ls ≤ i → i ≤ length ls → Passed p ls i → None ≡ number_of p (ends_of ls)
passed_all p ls i past within inv =
    let end : place p (ends_of (drop i ls)) ≡ 0 = at_drop_all (λ l. place p (ends_of l)) ls i past in
    let out : ltb (place p (ends_of ls)) (length (ends_of ls)) ≡ false = le-ltb (place p (ends_of ls)) (length (ends_of ls)) (omega (arith, end, inv, length_ends_of ls)) in
    sym (rw out refl)

-- a search among n numbers from k on finds the first that passes the test
pub first_number :
    (q : ℕ → Bool) (n k : ℕ) →
    find q (range_with_len k n) ≡ cond (ltb (place q (numbers_from k n)) n) (Some (k + place q (numbers_from k n))) None
first_number q zero k = refl
first_number q (suc n) k =
    let next : suc k ≡ k + 1 = omega arith in
    let ih : find q (range_with_len (k + 1) n) ≡ cond (ltb (m (suc k)) n) (Some (k + 1 + m (suc k))) None =
    rw next (first_number q n (k + 1))
    in
    go (q k) (m (suc k)) ih
  where
    m : ℕ → ℕ
    m j = place q (numbers_from j n)

    go :
        (b : Bool) (m : ℕ) → find q (range_with_len (k + 1) n) ≡ cond (ltb m n) (Some (k + 1 + m)) None →
        cond b (Some k) (find q (range_with_len (k + 1) n)) ≡ cond (ltb (cond b 0 (suc m)) (suc n)) (Some (k + cond b 0 (suc m))) None
    go true m e = rw (lt-ltb 0 (suc n) (omega arith)) (ap Some (omega arith))
    go false m e =
        let passed : ltb m n ≡ ltb (suc m) (suc n) = grind (arith, nat_tests) in
        let same : k + 1 + m ≡ k + suc m = omega arith in
        e ∙ (λ i. cond (passed i) (Some (same i)) None)

length_numbers : (n k : ℕ) → length (numbers_from k n) ≡ n
length_numbers zero k = refl
length_numbers (suc n) k = ap suc (length_numbers n (suc k))

-- what a search among the numbers below n answers: the first that passes the test, or nothing where the place is n
pub first_below :
    (q : ℕ → Bool) (n : ℕ) (r : Option ℕ) → option_map (λ k. k) r ≡ find q (range_with_len 0 n) →
    MatchOption r (place q (numbers_from 0 n) ≡ n) (λ c. (c ≡ place q (numbers_from 0 n)) × (c < n))
first_below q n r e = go (ltb m n) refl r (e ∙ first_number q n 0)
  where
    m : ℕ
    m = place q (numbers_from 0 n)

    go : (b : Bool) → ltb m n ≡ b → (r : Option ℕ) → option_map (λ k. k) r ≡ cond b (Some (0 + m)) None → MatchOption r (m ≡ n) (λ c. (c ≡ m) × (c < n))
    go true t None e = let z : ◌≡◌ {A = ℕ} 0 1 = cc in absurd (omega arith)
    go true t (Some c) e = let same : c ≡ 0 + m = cc in (omega (arith, same), omega (arith, same, ltb-true m n t))
    go false t None e = omega (arith, ltb-false m n t, place_le q (numbers_from 0 n), length_numbers n 0)
    go false t (Some c) e = let z : ◌≡◌ {A = ℕ} 0 1 = cc in absurd (omega arith)
