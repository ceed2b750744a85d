-- `tables::blank_permission` meets its contract: the root's path, and 0. Assumes nothing.
use mathlib.Core.Path.{◌∙◌}
use Rattle.tables.specs.View.{blank_grant}
use Rattle.tables.proofs.Rows.{blank_path_lem}
use Rattle.tables.proofs.blank_permission.Goals as goal

pub returns : goal.returns
returns c = let e = c.root.ensures ∙ blank_path_lem in λ i. record { path = e i; name = 0; grant = blank_grant }
