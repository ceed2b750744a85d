-- `save::put_rows` meets its contract. The loop's invariant: what it must leave is what it has, with the records of the rows left from k on. Assumes nothing.
use mathlib.Core.List.{map}
use lib.ListN.{drop}
use Rattle.laws.specs.Slots.{put}
use Rattle.model.specs.Image.{bytes_of}
use Rattle.save.proofs.Rows.{Puts}
use Rattle.save.proofs.put_rows.Given as goal

abbrev pub invariant-loop-row : goal.invariant-loop-row
invariant-loop-row g l =
    Puts g.R.Row.is_sound g.R.Row.as_record (put l.fn.out l.fn.at (bytes_of (map g.R.Row.as_record l.rows))) l.out l.k (drop l.row-index l.rows)
