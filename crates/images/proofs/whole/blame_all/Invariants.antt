-- `images::whole::blame_all` is safe: no more wrong answers than images. Assumes nothing.
use Prim.Native.Nat.{◌≤◌}
use Rattle.images.proofs.whole.blame_all.Given as goal

abbrev pub invariant-loop-images : goal.invariant-loop-images
invariant-loop-images g l = l.all.wrong ≤ l.images
