-- The commands of a script: which words each has, and what a line is read as.
use Rattle.std.specs.Prelude.{ℕ, Bool, true, false, cond, not, List, [], ◌∷◌, length, Some, None, Ok, Err, codes, Option, Result, ◌==◌, slice_index_or}
use Rattle.std.specs.Str.{bytes_eq}
use Rattle.figures.specs.Figures.{number_read}
use Rattle.denom.specs.Denomination.{Denom}
use Rattle.denom.specs.Text.{is_symbol, denom_of}
use Rattle.denom.specs.Views.{symbol_of, denom_view}
use Rattle.protocol.specs.World.{is_strict}
use Rattle.protocol.specs.Calls.{Call, open_link, issue, retire, pay, send, receive, ack, timeout, tick, bar, unbar, home}
use Rattle.protocol.specs.Requests.{sending, receiving, acknowledging, timing_out}
use Rattle.protocol.specs.declared.requests.PacketId.{PacketId}
use Rattle.script.specs.Lines.{words, line_too_long, is_comment, well_formed}
use Rattle.commands.specs.declared.commands.Name.{Name}
use Rattle.commands.specs.declared.commands.Name.TheVariants.{Open, Issue, Retire, Pay, Send, Receive, Ack, Timeout, Tick, Bar, Unbar, Home, Audit}
use Rattle.commands.specs.declared.commands.Command.{Command}
use Rattle.commands.specs.declared.commands.Command.TheVariants as command

-- what a line asks for: a call on the world, or an audit
pub data Request : Type 0 where
  call : Call → Request
  audit : Request

-- what a command asks for
abbrev pub request_of : Command → Request
request_of (command.Open a b k) = call (open_link a b (is_strict k))
request_of (command.Issue c u s n) = call (issue c u (symbol_of s) n)
request_of (command.Retire c u e n) = call (retire c u (denom_view e) n)
request_of (command.Pay c u v e n) = call (pay c u v (denom_view e) n)
request_of (command.Send t) = call (sending t)
request_of (command.Receive p) = call (receiving p)
request_of (command.Ack p) = call (acknowledging p)
request_of (command.Timeout p) = call (timing_out p)
request_of (command.Tick c n) = call (tick c n)
request_of (command.Bar c u) = call (bar c u)
request_of (command.Unbar c u) = call (unbar c u)
request_of (command.Home c e) = call (home c (denom_view e))
request_of command.Audit = audit

-- the first word of each command
abbrev pub name_text : Name → List ℕ
name_text Open = codes "open"
name_text Issue = codes "issue"
name_text Retire = codes "retire"
name_text Pay = codes "pay"
name_text Send = codes "send"
name_text Receive = codes "receive"
name_text Ack = codes "ack"
name_text Timeout = codes "timeout"
name_text Tick = codes "tick"
name_text Bar = codes "bar"
name_text Unbar = codes "unbar"
name_text Home = codes "home"
name_text Audit = codes "audit"

-- all of them
abbrev pub names : List Name
names = Open ∷ Issue ∷ Retire ∷ Pay ∷ Send ∷ Receive ∷ Ack ∷ Timeout ∷ Tick ∷ Bar ∷ Unbar ∷ Home ∷ Audit ∷ []

-- the first of some names that a word spells
abbrev pub name_among : List Name → List ℕ → Option Name
name_among [] w = None
name_among (n ∷ ns) w = cond (bytes_eq w (name_text n)) (Some n) (name_among ns w)

-- the command that a word names
abbrev pub name_of : List ℕ → Option Name
name_of w = name_among names w

-- how many words a command has, its name among them
abbrev pub words_of : Name → ℕ
words_of Open = 4
words_of Issue = 5
words_of Retire = 5
words_of Pay = 6
words_of Send = 8
words_of Receive = 4
words_of Ack = 4
words_of Timeout = 4
words_of Tick = 3
words_of Bar = 3
words_of Unbar = 3
words_of Home = 3
words_of Audit = 1

-- Words of a kind; another word is refused by 5.

-- a value, or 5
abbrev pub or_bad : {X : Type 0} → Option X → Result X ℕ
or_bad None = Err 5
or_bad (Some x) = Ok x

-- go on with a value, or keep the refusal
abbrev pub and_then : {X Y : Type 0} → Result X ℕ → (X → Result Y ℕ) → Result Y ℕ
and_then (Ok x) f = f x
and_then (Err n) f = Err n

-- the word of a line at a place
abbrev pub word : List ℕ → ℕ → List ℕ
word line i = slice_index_or (words line) i []

abbrev pub number_word : List ℕ → ℕ → Result ℕ ℕ
number_word line i = or_bad (number_read (word line i))

abbrev pub denom_word : List ℕ → ℕ → Result Denom ℕ
denom_word line i = or_bad (denom_of (word line i))

abbrev pub symbol_word : List ℕ → ℕ → Result (List ℕ) ℕ
symbol_word line i = cond (is_symbol (word line i)) (Ok (word line i)) (Err 5)

-- `free` or `strict`
abbrev pub kind_word : List ℕ → ℕ → Result Bool ℕ
kind_word line i =
    cond (bytes_eq (word line i) (codes "free")) (Ok false) (cond (bytes_eq (word line i) (codes "strict")) (Ok true) (Err 5))

-- link, direction and sequence of a packet
abbrev pub packet_words : List ℕ → Result PacketId ℕ
packet_words line =
    and_then (number_word line 1) (λ l.
    and_then (number_word line 2) (λ d.
    and_then (number_word line 3) (λ s. Ok (record { link = l; direction = d; sequence = s }))))

-- a chain and a user
abbrev pub user_words : List ℕ → Result (ℕ × ℕ) ℕ
user_words line = and_then (number_word line 1) (λ c. and_then (number_word line 2) (λ u. Ok (c, u)))

-- the words behind a name, each of its kind, in their order
abbrev pub request : Name → List ℕ → Result Request ℕ
request Open line =
    and_then (number_word line 1) (λ a.
    and_then (number_word line 2) (λ b.
    and_then (kind_word line 3) (λ k. Ok (call (open_link a b k)))))
request Issue line =
    and_then (number_word line 1) (λ c.
    and_then (number_word line 2) (λ u.
    and_then (symbol_word line 3) (λ s.
    and_then (number_word line 4) (λ n. Ok (call (issue c u s n))))))
request Retire line =
    and_then (number_word line 1) (λ c.
    and_then (number_word line 2) (λ u.
    and_then (denom_word line 3) (λ e.
    and_then (number_word line 4) (λ n. Ok (call (retire c u e n))))))
request Pay line =
    and_then (number_word line 1) (λ c.
    and_then (number_word line 2) (λ u.
    and_then (number_word line 3) (λ v.
    and_then (denom_word line 4) (λ e.
    and_then (number_word line 5) (λ n. Ok (call (pay c u v e n)))))))
request Send line =
    and_then (number_word line 1) (λ c.
    and_then (number_word line 2) (λ k.
    and_then (number_word line 3) (λ u.
    and_then (number_word line 4) (λ v.
    and_then (denom_word line 5) (λ e.
    and_then (number_word line 6) (λ n.
    and_then (number_word line 7) (λ t. Ok (call (send c k u v e n t)))))))))
request Receive line = and_then (packet_words line) (λ p. Ok (call (receive p.link p.direction p.sequence)))
request Ack line = and_then (packet_words line) (λ p. Ok (call (ack p.link p.direction p.sequence)))
request Timeout line = and_then (packet_words line) (λ p. Ok (call (timeout p.link p.direction p.sequence)))
request Tick line = and_then (number_word line 1) (λ c. and_then (number_word line 2) (λ n. Ok (call (tick c n))))
request Bar line = and_then (user_words line) (λ p. Ok (call (bar p.0 p.1)))
request Unbar line = and_then (user_words line) (λ p. Ok (call (unbar p.0 p.1)))
request Home line =
    and_then (number_word line 1) (λ c. and_then (denom_word line 2) (λ e. Ok (call (home c e))))
request Audit line = Ok audit

-- by the name that the first word is: 3 where it is none, 4 where the number of words is wrong
abbrev pub request_by : Option Name → List ℕ → Result Request ℕ
request_by None line = Err 3
request_by (Some n) line = cond (length (words line) == words_of n) (request n line) (Err 4)

-- what a line that is neither too long nor a comment asks for, or the number of its refusal
abbrev pub asked : List ℕ → Result Request ℕ
asked line = cond (not (well_formed line)) (Err 2) (request_by (name_of (word line 0)) line)

-- the same with `nothing` for a line that is passed over
abbrev pub some_request : Result Request ℕ → Result (Option Request) ℕ
some_request (Ok r) = Ok (Some r)
some_request (Err n) = Err n

-- what a line is read as
abbrev pub parsed : List ℕ → Result (Option Request) ℕ
parsed line = cond (line_too_long line) (Err 1) (cond (is_comment line) (Ok None) (some_request (asked line)))
