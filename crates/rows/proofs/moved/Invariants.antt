-- `rows::moved` meets its contract: what f gives of the rows so far stands at the front, for whatever g says what f gives. Assumes nothing.
use mathlib.Core.Path.{◌≡◌}
use Prim.Native.Nat.{◌≤◌}
use lib.ListN.{drop, length}
use Rattle.laws.specs.Sorted.{move}
use Rattle.laws.proofs.Fill.{Fills}
use Rattle.rows.specs.Tables.{Step, Gives, seen, table_of, table_with}
use Rattle.rows.proofs.moved.Given as goal

abbrev pub invariant-loop-row : goal.invariant-loop-row
invariant-loop-row g l =
    let r = g.R.Row in
    (l.count ≤ l.row-index) × (length l.rows ≡ g.row.N) × (length l.row-items ≤ g.row.N)
    × ((f : Step r.Payload) → Gives r.of r.view (λ s o. goal.F-post g l.f s o) f
    → Fills (table_with g.row.N) r.of (move f) g.row.N (table_of g.row.N r.blank r.of (move f (seen r.view l.t))) l.rows l.count (drop l.row-index (seen r.view l.t)))
