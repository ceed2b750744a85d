-- `image::permissions::read_permissions` meets its contract. The loop's invariant: the records so far are good, and the tables hold them. Assumes nothing.
use Rattle.image.specs.Rows.{PermissionsUpto}
use Rattle.image.proofs.permissions.read_permissions.Given as goal

abbrev pub invariant-loop-k : goal.invariant-loop-k
invariant-loop-k l = PermissionsUpto l.image l.n l.k l.nodes l.attributes l.t
