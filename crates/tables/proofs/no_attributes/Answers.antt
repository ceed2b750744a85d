-- `tables::no_attributes` meets its contract: 256 blank rows. Assumes nothing.
use mathlib.Core.Path.{ap}
use lib.ListN.{replicate}
use Rattle.tables.specs.View.{attributes_of, attributes_with}
use Rattle.tables.proofs.no_attributes.Goals as goal

pub returns : goal.returns
unfolding attributes_of
returns c = ap (λ x. attributes_with (replicate 256 x) 0) c.blank_attribute.ensures
