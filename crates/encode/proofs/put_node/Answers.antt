-- `encode::put_node` meets its contract: the front and zeros, one behind the other. Assumes nothing.
use Prim.Native.Nat.{◌+◌}
use native.Mathlib.Omega.{arith}
use lib.ListN.{replicate}
use Rattle.path.specs.View.{steps}
use Rattle.model.specs.Image.{front}
use Rattle.tables.proofs.Rows.{node_path}
use Rattle.encode.proofs.Parts.{behind, front_length}
use Rattle.encode.proofs.put_node.Goals as goal

pub returns : goal.returns
returns c =
    let a = c.args in
    let room = c.requires.1 in
    let c1 = c.put_front in
    let c2 = c.put_zeros in
    let n = front_length a.a.path (node_path c.requires.0) 1 0 a.a.owner 0 0 0 0 in
    behind a.out.now c1.new.out c2.new.out a.at (a.at + 16) (front 1 (steps a.a.path) 0 a.a.owner 0 0 0 0) (replicate 24 0) c1.ensures c2.ensures (omega arith) (omega arith)
