-- `bounds::fill::nodes` meets its contract: it begins with an empty table, which is sound. Assumes nothing.
use Rattle.bounds.proofs.Filled.{no_nodes}
use Rattle.bounds.proofs.fill.nodes.Goals as goal

pub children-requires : goal.children-requires
children-requires c = no_nodes c.no_nodes.ensures
