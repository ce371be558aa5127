-- The keys of a register.
use Rattle.std.specs.Prelude.{List, take}
use Rattle.register.specs.declared.Register.{Register}

-- those in its first places, so many as it counts
abbrev pub held : {K : Type 0} → Register K → List K
held r = take r.count r.keys.now
