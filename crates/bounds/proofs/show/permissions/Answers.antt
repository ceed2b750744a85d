-- `bounds::show::permissions` is safe: the count stays within the table, and each row's path is one. Assumes nothing.
use Rattle.laws.proofs.Fill.{held_room}
use Rattle.tables.proofs.Rows.{permission_path, permissions_held}
use Rattle.bounds.proofs.Rows.{held_row}
use Rattle.bounds.proofs.show.permissions.Goals as goal

pub shared_ref_as_front-a-items : goal.shared_ref_as_front-a-items
shared_ref_as_front-a-items g c = held_room _ _ _ _ _ _ (permissions_held c.args.t c.requires)

pub permission-requires : goal.permission-requires
permission-requires g c = permission_path (held_row _ _ _ _ _ _ (permissions_held c.args.t c.requires) _ _ c.loop-a-test.true)
