-- `rows::merged` meets its contract: two lists in order, put together from their ends: at each turn the row that comes last. Assumes nothing.
use mathlib.Core.Path.{◌≡◌}
use mathlib.Core.List.{map}
use Prim.Native.Nat.{◌≤◌, ◌+◌}
use lib.ListN.{take, length}
use Rattle.laws.specs.Sorted.{interleave, merge}
use Rattle.laws.proofs.Inplace.{Falls}
use Rattle.rows.specs.Tables.{row_lt, seen, table_of, table_with}
use Rattle.rows.proofs.merged.Given as goal

abbrev pub invariant-loop-i : goal.invariant-loop-i
invariant-loop-i g l =
    let r = g.R.Row in
    (l.i ≤ length l.c) × (l.j ≤ l.fn.t.count) × (length l.c + l.fn.t.count ≤ g.row.N) × (length l.out.rows ≡ g.row.N) × (l.out.count ≡ length l.c + l.fn.t.count)
    × Falls (table_with g.row.N) r.of g.row.N l.fn.t.rows (table_of g.row.N r.blank r.of (merge (row_lt r.lt) (map r.view l.c) (seen r.view l.fn.t)))
    (length l.c + l.fn.t.count) l.out.rows l.j (l.i + l.j) (interleave (row_lt r.lt) (take l.i (map r.view l.c)) (take l.j (seen r.view l.fn.t)))

abbrev pub decreases-loop-i : goal.decreases-loop-i
decreases-loop-i g l = l.i + l.j
