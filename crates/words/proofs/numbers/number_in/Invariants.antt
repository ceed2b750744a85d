-- `words::numbers::number_in` meets its contract. The loop's invariant: the bytes not yet seen go on from the number so far. Assumes nothing.
use mathlib.Core.Path.{◌≡◌}
use Prim.Native.Nat.{◌≤◌}
use lib.ListN.{drop}
use Rattle.words.specs.Numbers.{scan, decimal, up_to}
use Rattle.words.proofs.numbers.number_in.Given as goal

abbrev pub invariant-loop-b : goal.invariant-loop-b
invariant-loop-b l = (l.n ≤ l.max) × (up_to l.max (decimal l.s) ≡ up_to l.max (scan l.n (drop l.b-index l.s)))
