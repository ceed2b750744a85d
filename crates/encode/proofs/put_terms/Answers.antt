-- `encode::put_terms` meets its contract: the times, messages and agreements, one behind the other. Assumes nothing.
use mathlib.Core.List.{◌++◌}
use native.Mathlib.Omega.{arith}
use mir.Syntax.{w64}
use mir.Val.{of_z}
use Rattle.laws.proofs.Put.{then}
use Rattle.model.specs.Image.{bytes4, bytes8}
use Rattle.encode.proofs.put_terms.Goals as goal

pub returns : goal.returns
returns c =
    let a = c.args in
    let g = a.g in
    let l = a.out.now in
    let c1 = c.put_span in
    let c2 = c.put4 in
    let c3 = c.put4-2 in
    let times = bytes8 (of_z w64 g.span.first) ++ bytes8 (of_z w64 g.span.last) in
    then l c2.new.out c3.new.out a.at (times ++ bytes4 g.messages) (bytes4 g.agreements)
    (then l c1.new.out c2.new.out a.at times (bytes4 g.messages) c1.ensures c2.ensures (omega (arith, c.requires))) c3.ensures (omega (arith, c.requires))
