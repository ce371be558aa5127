-- The places that a bank stands on.
use Rattle.std.specs.Prelude.{List, [], Some, None, Option}
use Rattle.note_bank.specs.declared.notes.Notes.{Notes}
use Rattle.note_bank.specs.Notes.{Place}

-- the places of a bank; without a store there are none
abbrev pub places_of : Option Notes → List Place
places_of None = []
places_of (Some s) = s.places.items
