-- The permission, unless it is for the object of that name at p. Assumes nothing.
use Rattle.path.specs.View.{steps}
use Rattle.model.specs.Moves.{other_object}
use Rattle.tables.specs.View.{view_permission, permission_of}
use Rattle.tables.proofs.Rows.{permission_same}
use Rattle.rows.proofs.Steps.{so_not, kept, dropped}
use Rattle.permissions.proofs.fn.without.moved.Goals as goal

pub returns-then-is_at : goal.returns-then-is_at
returns-then-is_at c = dropped permission_of (other_object (steps c.captures.p) c.captures.name) (view_permission c.args.row) (so_not c.is_at.ensures c.if-is_at.true)

pub returns-else-is_at : goal.returns-else-is_at
returns-else-is_at c =
    kept permission_of (other_object (steps c.captures.p) c.captures.name) (permission_same c.args.row c.requires.0) (so_not c.is_at.ensures c.if-is_at.false)
