-- `path::parent_of` meets its contract: the last digit goes, and the length is one less. Assumes nothing.
use native.Mathlib.Omega.{arith}
use Rattle.path.proofs.Steps.{root_is, parent_key, parent_path}
use Rattle.path.proofs.parent_of.Goals as goal

pub returns-then-k-eq0 : goal.returns-then-k-eq0
returns-then-k-eq0 c = let k = c.size-k.ensures.0 in root_is c.args.p c.requires (omega arith)

pub overflow_sub-result : goal.overflow_sub-result
overflow_sub-result c =
    let k = parent_key c.args.p c.requires _ c.size-k.ensures.0 (omega arith) _ _ (c.digit.ensures.1 c.requires) c.placed-less.ensures in omega arith

pub overflow_sub-result-2 : goal.overflow_sub-result-2
overflow_sub-result-2 c =
    let k = parent_key c.args.p c.requires _ c.size-k.ensures.0 (omega arith) _ _ (c.digit.ensures.1 c.requires) c.placed-less.ensures in omega arith

pub returns : goal.returns
returns c =
    parent_path c.args.p c.requires _ c.size-k.ensures.0 (omega arith) _ _ (c.digit.ensures.1 c.requires) c.placed-less.ensures
