-- `bounds::fill::roles` meets its contract: the table stays sound. Assumes nothing.
use Prim.Native.Nat.{◌≤◌}
use Rattle.tables.specs.View.{PermissionsSound}
use Rattle.bounds.proofs.fill.roles.Given as goal

abbrev pub invariant-loop-role : goal.invariant-loop-role
invariant-loop-role l = (l.role ≤ 15) × PermissionsSound l.all
