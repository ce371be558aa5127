use Rattle.std.proofs.Common.{codes, refl, arith}
use Rattle.commands.specs.declared.commands.Name.TheVariants.{Open, Issue, Retire, Pay, Send, Receive, Ack, Timeout, Tick, Bar, Home, Audit}
use Rattle.commands.proofs.Spelt.{named}
use Rattle.commands.proofs.commands.Name.of.Goals as goal

-- the check finds `unbar` alone

pub returns-in-open : goal.returns-in-open
returns-in-open c = named c.args.word.now (codes "open") Open refl (omega arith) (search arith)

pub returns-in-issue : goal.returns-in-issue
returns-in-issue c = named c.args.word.now (codes "issue") Issue refl (omega arith) (search arith)

pub returns-in-retire : goal.returns-in-retire
returns-in-retire c = named c.args.word.now (codes "retire") Retire refl (omega arith) (search arith)

pub returns-in-pay : goal.returns-in-pay
returns-in-pay c = named c.args.word.now (codes "pay") Pay refl (omega arith) (search arith)

pub returns-in-send : goal.returns-in-send
returns-in-send c = named c.args.word.now (codes "send") Send refl (omega arith) (search arith)

pub returns-in-receive : goal.returns-in-receive
returns-in-receive c = named c.args.word.now (codes "receive") Receive refl (omega arith) (search arith)

pub returns-in-ack : goal.returns-in-ack
returns-in-ack c = named c.args.word.now (codes "ack") Ack refl (omega arith) (search arith)

pub returns-in-timeout : goal.returns-in-timeout
returns-in-timeout c = named c.args.word.now (codes "timeout") Timeout refl (omega arith) (search arith)

pub returns-in-tick : goal.returns-in-tick
returns-in-tick c = named c.args.word.now (codes "tick") Tick refl (omega arith) (search arith)

pub returns-in-bar : goal.returns-in-bar
returns-in-bar c = named c.args.word.now (codes "bar") Bar refl (omega arith) (search arith)

pub returns-in-home : goal.returns-in-home
returns-in-home c = named c.args.word.now (codes "home") Home refl (omega arith) (search arith)

pub returns-in-audit : goal.returns-in-audit
returns-in-audit c = named c.args.word.now (codes "audit") Audit refl (omega arith) (search arith)
