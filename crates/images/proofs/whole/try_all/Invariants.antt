-- `images::whole::try_all` is safe: at most 450 records and one wrong answer an image. Assumes nothing.
use Prim.Native.Nat.{◌≤◌, ◌*◌}
use Rattle.images.proofs.whole.try_all.Given as goal

abbrev pub invariant-loop-images : goal.invariant-loop-images
invariant-loop-images g l = (l.all.records ≤ 450 * l.images) × (l.all.wrong ≤ l.images)
