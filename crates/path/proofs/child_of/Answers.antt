-- `path::child_of` meets its contract: a digit more, and the length is one more. Assumes nothing.
use mathlib.Core.List.{[], ◌∷◌}
use Prim.Native.Nat.{◌+◌}
use native.Mathlib.Omega.{arith}
use lib.ListN.{length-append}
use Rattle.path.specs.Address.{child, in_depth}
use Rattle.path.specs.View.{steps}
use Rattle.path.proofs.Parts.{in_depth_fits}
use Rattle.path.proofs.Structs.{facts, there}
use Rattle.path.proofs.Number.{placed_small}
use Rattle.path.proofs.Steps.{child_path}
use Rattle.path.proofs.child_of.Goals as goal

pub overflow_add-result : goal.overflow_add-result
overflow_add-result c = let b = (facts c.args.p c.requires).bound in omega arith

pub overflow_add-result-2 : goal.overflow_add-result-2
overflow_add-result-2 c =
    let b = (facts c.args.p c.requires).bound in
    let k = c.size-k.result in
    let h = placed_small c.args.s (k + 1) c.ranges.s.fits in
    let e = c.placed-more.ensures in omega arith

pub returns : goal.returns
returns c =
    let l = child (steps c.args.p) c.args.s in
    let k = c.size-k in
    let e = k.ensures.0 in
    let n = length-append (steps c.args.p) (c.args.s ∷ []) in
    there (in_depth l) (child_path c.args.p c.requires _ e c.args.s _ (omega arith) c.ranges.s.fits c.placed-more.ensures)
    (in_depth_fits l (omega arith))
