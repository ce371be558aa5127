-- Where a book may have marks.
use Rattle.std.specs.Prelude.{◌≡◌, ℕ, Bool, false, ◌&&◌, None, nat_le, nat_lt}
use Rattle.protocol.specs.Book.{Book}
use Rattle.protocol.specs.House.{lanes_most, packets_most}

-- lane i is one of 0 to 31, and sequence s one of 1 to 512
abbrev pub in_book : ℕ → ℕ → Bool
in_book i s = nat_lt i lanes_most && (nat_le 1 s && nat_le s packets_most)

-- elsewhere there is no mark
pub record Bounded (b : Book) : Type 0 where
  pub elsewhere : (i s : ℕ) → in_book i s ≡ false → b.mark i s ≡ None
