-- The line that answers a command.
use Rattle.std.specs.Prelude.{ℕ, List, [], ◌∷◌, codes, Result}
use Rattle.figures.specs.Figures.{figure, line_of}
use Rattle.denom.specs.Views.{token_view}
use Rattle.protocol.specs.declared.faults.Fault.{Fault}
use Rattle.protocol.specs.declared.faults.Layer.{Layer}
use Rattle.protocol.specs.declared.faults.Layer.TheVariants.{Script, Book, Ledger, World}
use Rattle.protocol.specs.Calls.{Answer, done, says, home_is, no, said}
use Rattle.protocol.specs.Faults.{fault_number, layer_of}
use Rattle.commands.specs.declared.replies.Reply.{Reply}
use Rattle.commands.specs.declared.replies.Reply.TheVariants.{Done, Number, Home}

-- a layer by its name
abbrev pub layer_text : Layer → List ℕ
layer_text Script = codes "script"
layer_text Book = codes "book"
layer_text Ledger = codes "ledger"
layer_text World = codes "world"

-- the words behind the line's number
abbrev pub answer_words : Answer → List (List ℕ)
answer_words done = codes "ok" ∷ []
answer_words (says n) = codes "ok" ∷ figure n ∷ []
answer_words (home_is t) = codes "ok" ∷ figure t.chain ∷ t.symbol ∷ []
answer_words (no n) = codes "no" ∷ figure n ∷ layer_text (layer_of n) ∷ []

-- the answer to the line with this number
abbrev pub answer_line : ℕ → Answer → List ℕ
answer_line n a = line_of (figure n) (answer_words a)

-- what a reply says
abbrev pub reply_answer : Reply → Answer
reply_answer Done = done
reply_answer (Number n) = says n
reply_answer (Home t) = home_is (token_view t)

-- what a reply or a fault says
abbrev pub answer_of : Result Reply Fault → Answer
answer_of r = said reply_answer fault_number r
