-- `path::path_on` meets its contract: the digits move down by as many as come. Assumes nothing.
use Prim.Native.Nat.{◌*◌, ◌%◌, ◌^◌}
use native.Mathlib.Nat.{div-le_self}
use native.Mathlib.Omega.{arith}
use lib.ListN.{length-append}
use Rattle.path.specs.Address.{on, in_depth}
use Rattle.path.specs.View.{steps}
use Rattle.path.proofs.Parts.{in_depth_fits}
use Rattle.path.proofs.Structs.{facts, there}
use Rattle.path.proofs.Steps.{on_path}
use Rattle.path.proofs.path_on.Goals as goal

pub overflow_add-result : goal.overflow_add-result
overflow_add-result c =
    let a = (facts c.args.p c.requires.0).bound in
    let b = (facts c.args.q c.requires.1).bound in omega arith

pub overflow_add-result-2 : goal.overflow_add-result-2
overflow_add-result-2 c =
    let a = (facts c.args.p c.requires.0).bound in
    let b = (facts c.args.q c.requires.1).bound in
    let d = div-le_self (c.args.p.key % 256 ^ 6) (2 ^ (8 * c.size-k.result)) in omega arith

pub returns : goal.returns
returns c =
    let l = on (steps c.args.q) (steps c.args.p) in
    let k = c.size-k.ensures.0 in
    let j = c.size.ensures.0 in
    let m = length-append (steps c.args.q) (steps c.args.p) in
    there (in_depth l) (on_path c.args.p c.args.q c.requires.0 c.requires.1 _ k (omega arith)) (in_depth_fits l (omega arith))
