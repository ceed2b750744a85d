-- `tables::blank_node` meets its contract: the root's path, and 0. Assumes nothing.
use mathlib.Core.Path.{◌∙◌}
use Rattle.tables.specs.View.{node_row}
use Rattle.tables.proofs.Rows.{blank_path_lem}
use Rattle.tables.proofs.blank_node.Goals as goal

pub returns : goal.returns
returns c = let e = c.root.ensures ∙ blank_path_lem in λ i. node_row (e i) 0
