-- What a table of marks means as a book: 512 places for each of 32 lanes, one for each sequence from 1 on.
use Rattle.std.specs.Prelude.{ℕ, ◌+◌, ◌-◌, ◌*◌, Bool, cond, List, None, Option, slice_index_or, refl}
use Rattle.std.specs.Option.{option_map}
use Rattle.protocol.specs.declared.marks.Mark.{Mark}
use Rattle.protocol.specs.Book.{Book, mark_number}
use Rattle.books.specs.Bounds.{in_book, Bounded}

-- the number of the mark at lane i and sequence s
unfoldable pub mark_in : List (Option Mark) → ℕ → ℕ → Option ℕ
mark_in xs i s = cond (in_book i s) (option_map mark_number (slice_index_or xs (i * 512 + (s - 1)) None)) None

-- a book of that table, strict or not
abbrev pub book_of : Bool → List (Option Mark) → Book
book_of strict xs = record { strict = strict; mark = mark_in xs }

-- a book without marks
abbrev pub empty_book : Bool → Book
empty_book strict = record { strict = strict; mark = λ _ _. None }

pub book_bounded : (strict : Bool) (xs : List (Option Mark)) → Bounded (book_of strict xs)
unfolding mark_in
book_bounded strict xs = record { elsewhere = λ i s e. rw e refl }
