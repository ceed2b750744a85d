-- `bounds::fill::attributes` meets its contract: an empty table is sound, and stays so. Assumes nothing.
use Prim.Native.Nat.{◌≤◌}
use Rattle.tables.specs.View.{AttributesSound}
use Rattle.bounds.proofs.fill.attributes.Given as goal

abbrev pub invariant-loop-k : goal.invariant-loop-k
invariant-loop-k l = (l.k ≤ 16) × AttributesSound l.all
