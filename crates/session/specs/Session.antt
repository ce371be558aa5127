-- What a line of a script does to a world, and what it answers.
use Rattle.std.specs.Prelude.{ℕ, List, [], ◌∷◌, Some, None, Ok, Err, Option, Result}
use Rattle.protocol.specs.declared.faults.Fault.{Fault}
use Rattle.protocol.specs.Faults.{fault_number}
use Rattle.protocol.specs.World.{World}
use Rattle.protocol.specs.Calls.{Answer, no, step}
use Rattle.commands.specs.declared.replies.Reply.{Reply}
use Rattle.commands.specs.Answers.{reply_answer}
use Rattle.commands.specs.Commands.{Request, call, audit, parsed}

-- What a request comes to: a call is a step of the model; an audit is not served yet, and is refused like an unknown command.
abbrev pub performed : World → Request → World × Answer
performed w (call k) = step w k
performed w audit = (w, no 3)

-- what a line that reads so does, and what it answers; a line that is passed over answers nothing
abbrev pub line_by : World → Result (Option Request) ℕ → World × Option Answer
line_by w (Ok None) = (w, None)
line_by w (Ok (Some r)) = ((performed w r).0, Some (performed w r).1)
line_by w (Err n) = (w, Some (no n))

-- the same of the line itself
abbrev pub carried_out : World → List ℕ → World × Option Answer
carried_out w line = line_by w (parsed line)

-- a reply, a fault or nothing as an answer
abbrev pub some_answer : Result (Option Reply) Fault → Option Answer
some_answer (Ok None) = None
some_answer (Ok (Some r)) = Some (reply_answer r)
some_answer (Err f) = Some (no (fault_number f))

-- the world after lines that are carried out one after another
abbrev pub script_after : World → List (List ℕ) → World
script_after w [] = w
script_after w (line ∷ others) = script_after (carried_out w line).0 others
