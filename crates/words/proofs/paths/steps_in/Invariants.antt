-- `words::paths::steps_in` meets its contract. The loop's invariant: the steps so far stand in the array, and the parts not yet seen decide. Assumes nothing.
use Rattle.std.proofs.Common.{length}
use Rattle.words.proofs.Steps.{Steps}
use Rattle.words.proofs.paths.steps_in.Given as goal

abbrev pub invariant-loop-word : goal.invariant-loop-word
invariant-loop-word l = Steps l.s (length l.yielded) l.path
