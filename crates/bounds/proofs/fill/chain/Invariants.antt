-- `bounds::fill::chain` meets its contract: the table stays sound. Assumes nothing.
use Rattle.tables.specs.View.{NodesSound}
use Rattle.bounds.proofs.fill.chain.Given as goal

abbrev pub invariant-loop-n : goal.invariant-loop-n
invariant-loop-n l = NodesSound l.all
