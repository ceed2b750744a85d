-- `tables::no_nodes` meets its contract: 64 blank rows. Assumes nothing.
use mathlib.Core.Path.{ap}
use lib.ListN.{replicate}
use Rattle.tables.specs.View.{nodes_of, nodes_with}
use Rattle.tables.proofs.no_nodes.Goals as goal

pub returns : goal.returns
unfolding nodes_of
returns c = ap (λ x. nodes_with (replicate 64 x) 0) c.blank_node.ensures
