-- `bounds::fill::permissions` meets its contract: it begins with an empty table, which is sound. Assumes nothing.
use Rattle.bounds.proofs.Filled.{no_permissions}
use Rattle.bounds.proofs.fill.permissions.Goals as goal

pub on_places-requires : goal.on_places-requires
on_places-requires c = no_permissions c.no_permissions.ensures
