-- `image::columns::objects_of` meets its contract: each row's number and name are stored at the row's place. Assumes nothing.
use lib.ListN.{drop}
use Rattle.laws.specs.Slots.{slots}
use Rattle.laws.proofs.Fill.{Fills}
use Rattle.tables.specs.View.{view_attributes}
use Rattle.image.specs.Columns.{objects_of}
use Rattle.image.proofs.Keys.{alone, object_of}
use Rattle.image.proofs.columns.objects_of.Given as goal

abbrev pub invariant-loop-i : goal.invariant-loop-i
invariant-loop-i l = Fills alone object_of (λ l. l) 256 (slots 256 (0, 0) (objects_of (view_attributes l.fn.t))) l.objects l.i (drop l.i (view_attributes l.fn.t))
