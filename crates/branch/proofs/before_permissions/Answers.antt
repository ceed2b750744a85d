-- `branch::before_permissions` meets its contract. The loop's invariant: no record before k is a permission. Assumes nothing.
use mathlib.Core.Path.{sym}
use Prim.Native.Nat.{◌/◌}
use lib.ListN.{length}
use Rattle.branch.proofs.Before.{before_stop, before_more}
use Rattle.branch.proofs.before_permissions.Goals as goal

pub returns-then-image-k-eq3 : goal.returns-then-image-k-eq3
returns-then-image-k-eq3 c =
    let b = c.args.image.now in
    sym (before_stop b (length b / 40) c.loop-k.k c.loop-k.invariant c.loop-k-test.true c.if-image-k-eq3.true)

pub loop-k-preserved : goal.loop-k-preserved
loop-k-preserved c =
    let b = c.args.image.now in
    before_more b (length b / 40) c.loop-k.k c.loop-k.invariant c.loop-k-test.true c.if-image-k-eq3.false
