-- `encode::put_permission` meets its contract: the front and the terms, one behind the other. Assumes nothing.
use mathlib.Core.List.{◌++◌}
use Prim.Native.Nat.{◌+◌}
use native.Mathlib.Omega.{arith}
use mir.Syntax.{w64}
use mir.Val.{of_z}
use Rattle.path.specs.View.{steps}
use Rattle.model.specs.Image.{bytes4, bytes8, front}
use Rattle.tables.proofs.Rows.{permission_path}
use Rattle.encode.proofs.Parts.{behind, front_length}
use Rattle.encode.proofs.put_permission.Goals as goal

pub returns : goal.returns
returns c =
    let a = c.args in
    let g = a.a.grant in
    let room = c.requires.1 in
    let c1 = c.put_front in
    let c2 = c.put_terms in
    let n = front_length a.a.path (permission_path c.requires.0) 3 a.a.name 0 g.role g.action g.user 0 in
    behind a.out.now c1.new.out c2.new.out a.at (a.at + 16) (front 3 (steps a.a.path) a.a.name 0 g.role g.action g.user 0)
    (bytes8 (of_z w64 g.span.first) ++ (bytes8 (of_z w64 g.span.last) ++ (bytes4 g.messages ++ bytes4 g.agreements))) c1.ensures c2.ensures (omega arith) (omega arith)
