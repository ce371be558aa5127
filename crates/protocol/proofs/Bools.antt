-- Truth values: when two are the same, and what a constant beside `&&` or `||` does.
use Rattle.std.proofs.Common.{◌≡◌, Bool, true, false, ◌&&◌, ◌||◌, sym, refl}
use Rattle.protocol.specs.Calls.{same_kind}

-- truth values that imply each other are the same
pub bool_same : (x y : Bool) → (x ≡ true → y ≡ true) → (y ≡ true → x ≡ true) → x ≡ y
bool_same true true f g = refl
bool_same true false f g = sym (f refl)
bool_same false true f g = g refl
bool_same false false f g = refl

-- what is not true is false
pub bool_false : (x : Bool) → (x ≡ true → ⊥) → x ≡ false
bool_false true f = absurd (f refl)
bool_false false f = refl

-- `&& true` changes nothing
pub and_true : (b : Bool) → (b && true) ≡ b
and_true true = refl
and_true false = refl

-- `&& false` is false
pub and_false : (b : Bool) → (b && false) ≡ false
and_false true = refl
and_false false = refl

-- `|| false` changes nothing
pub or_false : (b : Bool) → (b || false) ≡ b
or_false true = refl
or_false false = refl

-- the second of three put first
pub and_swap : (p q r : Bool) → (p && q && r) ≡ (q && (p && r))
and_swap true true r = refl
and_swap true false r = refl
and_swap false true r = refl
and_swap false false r = refl

-- a kind is the same as itself
pub same_kind_refl : (k : Bool) → same_kind k k ≡ true
same_kind_refl true = refl
same_kind_refl false = refl
