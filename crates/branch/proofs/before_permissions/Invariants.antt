-- `branch::before_permissions` meets its contract. The loop's invariant: no record before k is a permission. Assumes nothing.
use Rattle.branch.proofs.Before.{Before}
use Rattle.branch.proofs.before_permissions.Given as goal

abbrev pub invariant-loop-k : goal.invariant-loop-k
invariant-loop-k l = Before l.image l.n l.k
