-- Known outcomes: what calls answer, one after another, and what they leave.
use Rattle.std.specs.Prelude.{◌≡◌, ℕ, Bool, true, false, List, [], ◌∷◌, ◌++◌, None, codes}
use Rattle.denom.specs.Denomination.{Denom}
use Rattle.denom.specs.Text.{denom_text}
use Rattle.protocol.specs.Ledger.{Ledger}
use Rattle.protocol.specs.World.{World, made, number}
use Rattle.protocol.specs.Calls.{Call, open_link, issue, send, receive, ack, timeout, tick, home, Answer, done, says, home_is, no, step, token_at}
use Rattle.protocol.specs.Audit.{audit_lines}

-- the world after calls, the first one first
abbrev pub after : World → List Call → World
after w [] = w
after w (c ∷ cs) = after (step w c).0 cs

-- what they answer
abbrev pub answers : World → List Call → List Answer
answers w [] = []
answers w (c ∷ cs) = (step w c).1 ∷ answers (step w c).0 cs

-- a world over any ledger with two chains, its free book free and its strict one strict
abbrev pub start : Ledger → World
start l =
    made
    (record { chains = 2; serves_bars = l.serves_bars; balance = l.balance; barred = l.barred })
    (λ kind. record { strict = kind; mark = λ _ _. None })

abbrev pub gold : List ℕ
gold = codes "gold"

-- gold behind these hops
abbrev pub trace : List ℕ → Denom
trace hops = record { hops = hops; symbol = gold }

-- what a user of chain c has of gold behind these hops
abbrev pub has : World → ℕ → ℕ → List ℕ → ℕ
has w c u hops = w.ledger.balance c u (number w c (trace hops))

-- one link between chains 0 and 1, and 100 gold for user 2 of chain 0
abbrev pub funded : Ledger → Bool → World
funded l kind = after (start l) (open_link 0 1 kind ∷ issue 0 2 gold 100 ∷ [])

-- 10 gold sent with this timeout height
abbrev pub send_until : ℕ → Call
send_until t = send 0 0 2 5 (trace []) 10 t

-- two links between chains 0 and 1, and 10 gold sent out by the first and back by the second: it has two hops then
abbrev pub around : List Call
around =
    open_link 0 1 false
    ∷ open_link 0 1 false
    ∷ issue 0 2 gold 10
    ∷ send 0 0 2 2 (trace []) 10 0
    ∷ receive 0 0 1
    ∷ send 1 1 2 2 (trace (0 ∷ [])) 10 0
    ∷ receive 1 1 1
    ∷ []

-- the same way twice more: six hops
abbrev pub six_hops : List ℕ
six_hops = 1 ∷ 0 ∷ 1 ∷ 0 ∷ 1 ∷ 0 ∷ []

abbrev pub thrice_around : List Call
thrice_around =
    around
    ++ send 0 0 2 2 (trace (1 ∷ 0 ∷ [])) 10 0
    ∷ receive 0 0 2
    ∷ send 1 1 2 2 (trace (0 ∷ 1 ∷ 0 ∷ [])) 10 0
    ∷ receive 1 1 2
    ∷ send 0 0 2 2 (trace (1 ∷ 0 ∷ 1 ∷ 0 ∷ [])) 10 0
    ∷ receive 0 0 3
    ∷ send 1 1 2 2 (trace (0 ∷ 1 ∷ 0 ∷ 1 ∷ 0 ∷ [])) 10 0
    ∷ receive 1 1 3
    ∷ []

-- sent out once more, received and acknowledged
abbrev pub once_more : List Call
once_more = send 0 0 2 2 (trace six_hops) 10 0 ∷ receive 0 0 4 ∷ ack 0 0 4 ∷ []

-- the example script
abbrev pub example : List Call
example =
    open_link 0 1 false
    ∷ issue 0 2 gold 100
    ∷ send 0 0 2 5 (trace []) 40 0
    ∷ receive 0 0 1
    ∷ send 1 0 5 3 (trace (0 ∷ [])) 10 0
    ∷ []

-- The known outcomes together, and the example with its audit.
pub record KnownOutcomes (l : Ledger) : Type 0 where
  -- T = 5 with far height 4: send accepted; at height 5: 17
  pub timeout_height :
      answers (funded l false) (tick 1 4 ∷ send_until 5 ∷ tick 1 1 ∷ send_until 5 ∷ []) ≡
      done ∷ says 1 ∷ done ∷ no 17 ∷ []
  -- T = 5, unmarked: at height 4 timeout 21 and receive accepted; at height 5 receive 20 and timeout accepted
  pub expiry_before :
      answers (funded l false) (tick 1 4 ∷ send_until 5 ∷ timeout 0 0 1 ∷ receive 0 0 1 ∷ []) ≡
      done ∷ says 1 ∷ no 21 ∷ says 1 ∷ []
  pub expiry_after :
      answers (funded l false) (tick 1 4 ∷ send_until 5 ∷ tick 1 1 ∷ receive 0 0 1 ∷ timeout 0 0 1 ∷ []) ≡
      done ∷ says 1 ∷ done ∷ no 20 ∷ done ∷ []
  -- a strict lane, 1 and 2 sent: receive 2 first gives 26; both received, ack 2 first gives 29
  pub strict_order :
      answers
      (funded l true)
      (send_until 0 ∷ send_until 0 ∷ receive 0 0 2 ∷ receive 0 0 1 ∷ receive 0 0 2 ∷ ack 0 0 2 ∷ []) ≡
      says 1 ∷ says 2 ∷ no 26 ∷ says 1 ∷ says 1 ∷ no 29 ∷ []
  -- a strict link, packet 1 timed out: packet 2 with T = 0, unmarked, times out too
  pub strict_closes :
      answers (funded l true) (send_until 5 ∷ send_until 0 ∷ tick 1 5 ∷ timeout 0 0 1 ∷ timeout 0 0 2 ∷ []) ≡
      says 1 ∷ says 2 ∷ done ∷ done ∷ done ∷ []
  -- gold that came by channel 0 leaves chain 1 by channel 1: chain 0 gets it behind channels 1 and 0, with its home on chain 0
  pub longer_trace : has (after (start l) around) 0 2 (1 ∷ 0 ∷ []) ≡ 10
  pub longer_text : denom_text (trace (1 ∷ 0 ∷ [])) ≡ codes "transfer/channel-1/transfer/channel-0/gold"
  pub its_home : (step (after (start l) around) (home 0 (trace (1 ∷ 0 ∷ [])))).1 ≡ home_is (token_at 0 gold)
  -- six hops, not homeward: receipt gives mark 2, ack refunds
  pub six_hops_marked : answers (after (start l) thrice_around) once_more ≡ says 4 ∷ says 2 ∷ done ∷ []
  pub six_hops_refunded : has (after (start l) (thrice_around ++ once_more)) 0 2 six_hops ≡ 10
  -- the example's answers and its audit
  pub example_answers : answers (start l) example ≡ says 0 ∷ done ∷ says 1 ∷ says 1 ∷ says 1 ∷ []
  pub example_audit :
      audit_lines (after (start l) example) ≡
      codes "audit 1 1 2\n" ∷ codes "token 0 gold 100 90 10\n" ∷ codes "escrow 0 0 gold 40 30 10\n" ∷ []

abbrev pub OutcomesKnown : Type 0
OutcomesKnown = (l : Ledger) → KnownOutcomes l
