-- What a bank means is what its places with notes mean, and that keeps both laws.
use Rattle.std.proofs.Common.{◌≡◌, ℕ, ◌≤◌, List, [], length, Some, None, Option, refl, sym, ap, arith}
use Rattle.std.proofs.lemmas.Bool.{le-ltb}
use Rattle.protocol.specs.Ledger.{Lawful}
use Rattle.ledger.specs.Empty.{without_bars}
use Rattle.bank.specs.OneChain.{bank_meaning}
use Rattle.note_bank.specs.declared.notes.Notes.{Notes}
use Rattle.note_bank.specs.Notes.{Place, note_chains, note_balances, notes_meaning, notes_lawful}
use Rattle.note_bank.specs.Meaning.{places_of}
use Rattle.note_bank.proofs.Shares.{free_balances, freed_supplies}

-- over 1,024 places or more one chain is served
one_chain : (xs : List Place) → 1024 ≤ length xs → 1 ≡ note_chains xs
one_chain xs h = rw (le-ltb (length xs) 1024 h) refl

pub means_its_notes : (o : Option Notes) → bank_meaning (λ (s : Notes). note_balances s.places.items) o ≡ notes_meaning (places_of o)
means_its_notes None = ap (without_bars 0) (sym (free_balances [] (λ k. refl)))
means_its_notes (Some s) = ap (λ (n : ℕ). without_bars n (note_balances s.places.items)) (one_chain s.places.items (omega (arith, s.large)))

pub notes_keep_laws : (o : Option Notes) → Lawful (notes_meaning (places_of o))
notes_keep_laws None = notes_lawful [] (freed_supplies [] (λ k. refl))
notes_keep_laws (Some s) = notes_lawful s.places.items s.supplies
