-- `tables::no_permissions` meets its contract: 128 blank rows. Assumes nothing.
use mathlib.Core.Path.{ap}
use lib.ListN.{replicate}
use Rattle.tables.specs.View.{permissions_of, permissions_with}
use Rattle.tables.proofs.no_permissions.Goals as goal

pub returns : goal.returns
unfolding permissions_of
returns c = ap (λ x. permissions_with (replicate 128 x) 0) c.blank_permission.ensures
