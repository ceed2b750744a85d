-- `parse::is_node` meets its contract: the bytes that are not used are 0. Assumes nothing.
use native.Mathlib.Omega.{arith}
use Rattle.parse.proofs.Zeros.{part_zeros}
use Rattle.parse.proofs.is_node.Goals as goal

pub returns : goal.returns
returns c =
    let name = part_zeros c.args.b.now 8 2 c.all_zero-name.result (omega arith) c.all_zero-name.ensures in
    let rest = part_zeros c.args.b.now 11 29 c.all_zero-rest.result (omega arith) c.all_zero-rest.ensures in
    cc
