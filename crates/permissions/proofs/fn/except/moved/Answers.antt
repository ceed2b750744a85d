-- The permission, unless it is the exact one. Assumes nothing.
use Rattle.path.specs.View.{steps}
use Rattle.model.specs.Moves.{other_permission}
use Rattle.tables.specs.View.{view_grant, view_permission, permission_of}
use Rattle.tables.proofs.Rows.{permission_same}
use Rattle.rows.proofs.Steps.{so_not, kept, dropped}
use Rattle.permissions.proofs.fn.except.moved.Goals as goal

pub returns-then-is_exactly : goal.returns-then-is_exactly
returns-then-is_exactly c =
    dropped permission_of (other_permission (steps c.captures.p) c.captures.name (view_grant c.captures.g)) (view_permission c.args.row) (so_not c.is_exactly.ensures c.if-is_exactly.true)

pub returns-else-is_exactly : goal.returns-else-is_exactly
returns-else-is_exactly c =
    kept permission_of (other_permission (steps c.captures.p) c.captures.name (view_grant c.captures.g)) (permission_same c.args.row c.requires.0) (so_not c.is_exactly.ensures c.if-is_exactly.false)
