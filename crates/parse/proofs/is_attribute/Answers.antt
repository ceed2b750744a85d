-- `parse::is_attribute` meets its contract: the bytes that are not used are 0. Assumes nothing.
use native.Mathlib.Omega.{arith}
use Rattle.parse.proofs.Zeros.{part_zeros}
use Rattle.parse.proofs.is_attribute.Goals as goal

pub returns : goal.returns
returns c =
    let b = c.args.b.now in
    let grant = part_zeros b 11 3 c.all_zero-grant.result (omega arith) c.all_zero-grant.ensures in
    let gap = part_zeros b 15 1 c.all_zero-gap.result (omega arith) c.all_zero-gap.ensures in
    let rest = part_zeros b 20 20 c.all_zero-rest.result (omega arith) c.all_zero-rest.ensures in
    let name = c.read2-name.ensures in
    cc
