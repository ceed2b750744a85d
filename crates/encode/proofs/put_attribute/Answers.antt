-- `encode::put_attribute` meets its contract: the front, the value and zeros, one behind the other. Assumes nothing.
use mathlib.Core.Path.{ap, ◌∙◌}
use mathlib.Core.List.{◌++◌, append_assoc}
use Prim.Native.Nat.{ℕ, ◌+◌}
use native.Mathlib.Omega.{arith}
use lib.ListN.{replicate, length-append}
use Rattle.laws.specs.Slots.{put}
use Rattle.path.specs.View.{steps}
use Rattle.model.specs.Image.{bytes4, front, value_kind, value_bits}
use Rattle.tables.specs.View.{view_value}
use Rattle.tables.proofs.Rows.{attribute_path}
use Rattle.encode.proofs.Parts.{behind, front_length}
use Rattle.encode.proofs.put_attribute.Goals as goal

pub returns : goal.returns
returns c =
    let a = c.args in
    let l = a.out.now in
    let r = a.a in
    let room = c.requires.1 in
    let c1 = c.put_front in
    let c2 = c.put4 in
    let c3 = c.put_zeros in
    let f = front 2 (steps r.path) r.name r.owner 0 0 0 (value_kind (view_value r.value)) in
    let b = bytes4 (value_bits (view_value r.value)) in
    let n = front_length r.path (attribute_path c.requires.0) 2 r.name r.owner 0 0 0 (value_kind (view_value r.value)) in
    let m = length-append f b in
    let e = c1.ensures ∙ ap (λ (k : ℕ). put l a.at (front 2 (steps r.path) r.name r.owner 0 0 0 k)) c.value_kind.ensures in
    let g = c2.ensures ∙ ap (λ (k : ℕ). put c1.new.out (a.at + 16) (bytes4 k)) c.value_bits.ensures in
    behind l c2.new.out c3.new.out a.at (a.at + 20) (f ++ b) (replicate 20 0)
    (behind l c1.new.out c2.new.out a.at (a.at + 16) f b e g (omega arith) (omega arith)) c3.ensures (omega arith) (omega arith)
    ∙ ap (put l a.at) (append_assoc f b (replicate 20 0))
