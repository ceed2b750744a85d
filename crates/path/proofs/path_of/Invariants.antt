-- `path::path_of` meets its contract: after each turn the number is that of the length and the steps taken. Assumes nothing.
use Prim.Native.Nat.{◌≤◌}
use Rattle.path.proofs.Bytes.{Taken}
use Rattle.path.proofs.path_of.Given as goal

abbrev pub invariant-loop-s : goal.invariant-loop-s
invariant-loop-s l = (l.n ≤ 6) × Taken l.n l.s-index l.fn.p.steps l.k
