-- `permissions::of_object` meets its contract: the permissions for one object, with the empty path. Assumes nothing.
use Rattle.std.proofs.Common.{rules}
use mathlib.Core.Path.{◌≡◌, ap, ◌∙◌}
use Rattle.laws.specs.Sorted.{move}
use Rattle.path.specs.View.{steps}
use Rattle.tables.specs.View.{view_permissions, permissions_of}
use Rattle.moves.specs.Room.{held_grant}
use Rattle.permissions.proofs.Objects.{held_list}
use Rattle.permissions.proofs.of_object.Goals as goal

pub returns : goal.returns
unfolding permissions_of
returns c =
    let e : c.moved.result ≡ permissions_of (move (held_grant (steps c.args.p) c.args.name) (view_permissions c.args.t)) = search rules in
    e ∙ ap permissions_of (held_list (steps c.args.p) c.args.name (view_permissions c.args.t))
