-- `bounds::fill::children` meets its contract: the table stays sound. Assumes nothing.
use Rattle.tables.specs.View.{NodesSound}
use Rattle.bounds.proofs.fill.children.Given as goal

abbrev pub invariant-loop-k : goal.invariant-loop-k
invariant-loop-k l = NodesSound l.all
