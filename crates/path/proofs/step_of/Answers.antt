-- `path::step_of` meets its contract: digit 0 is the length, so that step i is digit i + 1. Assumes nothing.
use native.Mathlib.Omega.{arith}
use Rattle.path.proofs.Structs.{facts}
use Rattle.path.proofs.step_of.Goals as goal

pub overflow_add-i : goal.overflow_add-i
overflow_add-i c = let n = (facts c.args.p c.requires.0).short in omega arith

pub digit-requires : goal.digit-requires
digit-requires c = let n = (facts c.args.p c.requires.0).short in omega arith
