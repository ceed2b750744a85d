-- `tables::blank_attribute` meets its contract: the root's path, and 0. Assumes nothing.
use mathlib.Core.Path.{◌∙◌}
use Rattle.tables.specs.declared.Value.TheVariants.{Whole}
use Rattle.tables.proofs.Rows.{blank_path_lem}
use Rattle.tables.proofs.blank_attribute.Goals as goal

pub returns : goal.returns
returns c = let e = c.root.ensures ∙ blank_path_lem in λ i. record { path = e i; name = 0; owner = 0; value = Whole 0 }
