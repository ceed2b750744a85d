-- `path::path_at` meets its contract. The loop’s invariant: the number is that of the length and the steps seen so far, and those not yet seen decide. Assumes nothing.
use mathlib.Core.Path.{◌≡◌}
use Prim.Native.Nat.{◌-◌, ◌≤◌}
use lib.ListN.{drop}
use Rattle.path.proofs.Bytes.{Taken, steps_fit}
use Rattle.path.proofs.path_at.Given as goal

abbrev pub invariant-loop-i : goal.invariant-loop-i
invariant-loop-i l = (l.n ≤ 6) × Taken l.n l.i l.x-items l.k × (steps_fit l.n l.x-items ≡ steps_fit (l.n - l.i) (drop l.i l.x-items))
