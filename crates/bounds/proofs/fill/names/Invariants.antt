-- `bounds::fill::names` meets its contract: the table stays sound. Assumes nothing.
use Prim.Native.Nat.{◌≤◌}
use Rattle.tables.specs.View.{AttributesSound}
use Rattle.bounds.proofs.fill.names.Given as goal

abbrev pub invariant-loop-name : goal.invariant-loop-name
invariant-loop-name l = (l.name ≤ 100) × AttributesSound l.all
