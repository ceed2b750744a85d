-- Where the rows of a table are after an add or a paste at q.
use Rattle.std.proofs.Math.Option.{some}
use Rattle.std.specs.Prelude.{List}
use Rattle.path.specs.Address.{Address, up, on}
use Rattle.model.specs.Things.{Row}
use Rattle.model.specs.Moves.{carried}

-- those that stood there
abbrev pub raised : {P : Type 0} → Address → List (Row P) → List (Row P)
raised q l = carried (λ p. some (up q p)) l

-- those of the branch, with the prefix of the new place
abbrev pub below : {P : Type 0} → Address → List (Row P) → List (Row P)
below q l = carried (λ p. some (on q p)) l
