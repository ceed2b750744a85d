-- `image::columns::keys_of` meets its contract: each row's number is stored at the row's place. Assumes nothing.
use lib.ListN.{drop}
use Rattle.laws.specs.Slots.{slots}
use Rattle.laws.proofs.Fill.{Fills}
use Rattle.tables.specs.View.{view_nodes}
use Rattle.image.specs.Columns.{keys_of}
use Rattle.image.proofs.Keys.{alone, key_of_row}
use Rattle.image.proofs.columns.keys_of.Given as goal

abbrev pub invariant-loop-i : goal.invariant-loop-i
invariant-loop-i l = Fills alone key_of_row (λ l. l) 64 (slots 64 0 (keys_of (view_nodes l.fn.t))) l.keys l.i (drop l.i (view_nodes l.fn.t))
