-- What the tests are asked about.
use Rattle.std.proofs.Math.Option.{Option}
use Rattle.path.specs.View.{steps}
use Rattle.model.specs.Decide.{Object}
use Rattle.model.specs.Moves.{object_at}
use Rattle.model.specs.Refusals.{Found}
use Rattle.model.specs.Run.{found}
use Rattle.tables.specs.declared.Dossier.{Dossier}
use Rattle.tables.specs.View.{view_dossier}
use Rattle.refusals.specs.declared.Placed.{Placed}
use Rattle.refusals.specs.View.{view_placed}

-- what an editor finds for the request
abbrev pub found_for : Dossier → Placed → Found
found_for d q = found (view_placed q) (view_dossier d)

abbrev pub object_of : Dossier → Placed → Option Object
object_of d q = object_at (steps q.path) q.name (view_dossier d)
