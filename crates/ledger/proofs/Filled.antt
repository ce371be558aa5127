-- A table with one value in all its places.
use Rattle.std.proofs.Common.{◌≡◌, ℕ, ◌<◌, ◌≤◌, get_or, replicate, ⊎_elim}
use lib.ListN.{length-replicate}
use Rattle.std.proofs.lemmas.List.{get_or_past, get_or-replicate}
use Rattle.std.proofs.lemmas.Bool.{cases_lt}

-- it reads as that value everywhere, where the value stands for places past its end too
pub filled : {X : Type 0} (x : X) (n k : ℕ) → get_or (replicate n x) k x ≡ x
filled x n k =
    ⊎_elim
    (λ (h : k < n). get_or-replicate n k x x h)
    (λ (h : n ≤ k). get_or_past (replicate n x) k x (rw length-replicate h))
    (cases_lt k n)
