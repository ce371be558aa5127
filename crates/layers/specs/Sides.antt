-- On which side a chain is served, where the first ledger serves n chains.
use Rattle.std.specs.Prelude.{◌≡◌, ℕ, ◌-◌, ◌<◌, ◌≤◌, Ok, Err, Result}
use Rattle.protocol.specs.declared.faults.LedgerFault.{LedgerFault}
use Rattle.protocol.specs.declared.faults.LedgerFault.TheVariants.{ChainNotServed}
use Rattle.layers.specs.Layers.{beside_most}
use Rattle.layers.specs.declared.beside.Side.{Side}
use Rattle.layers.specs.declared.beside.Side.TheVariants.{First, Second}

-- the chain is one of the first ledger's, or one of the second's under its own number, or above what is served
abbrev pub OnSide : ℕ → ℕ → Result Side LedgerFault → Type 0
OnSide n c (Ok (First c')) = (c < beside_most) × (c < n) × (c' ≡ c)
OnSide n c (Ok (Second c')) = (c < beside_most) × (n ≤ c) × (c' ≡ c - n)
OnSide n c (Err f) = (beside_most ≤ c) × (f ≡ ChainNotServed)
