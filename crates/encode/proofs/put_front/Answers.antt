-- `encode::put_front` meets its contract: kind, path, name and six bytes, one behind the other. Assumes nothing.
use mathlib.Core.List.{[], ◌∷◌, ◌++◌}
use mathlib.Core.Path.{refl}
use Prim.Native.Nat.{◌+◌}
use native.Mathlib.Omega.{arith}
use lib.ListN.{set}
use Rattle.laws.proofs.Put.{run, then}
use Rattle.path.specs.Bytes.{step_bytes}
use Rattle.path.specs.View.{steps}
use Rattle.model.specs.Image.{bytes2}
use Rattle.encode.proofs.Parts.{behind, steps_length, front_put}
use Rattle.encode.proofs.put_front.Goals as goal

pub returns : goal.returns
returns c =
    let a = c.args in
    let l = a.out.now in
    let room = c.requires.1 in
    let c1 = c.put_path in
    let c2 = c.put2 in
    let c3 = c.put_six in
    let f = a.f in
    let path = steps f.path in
    let n = steps_length f.path c.requires.0 in
    let six = f.owner ∷ f.role ∷ f.action ∷ f.user ∷ f.value ∷ 0 ∷ [] in
    front_put f.path c.requires.0 l c1.new.out c3.new.out a.at room f.kind (bytes2 f.name ++ six)
    (then l (set l a.at f.kind) c1.new.out a.at (f.kind ∷ []) (step_bytes path) (run f.kind [] l a.at (omega arith)) c1.ensures (omega arith))
    (λ e. behind c1.new.out c2.new.out c3.new.out (a.at + 8) (a.at + 10) (bytes2 f.name) six c2.ensures c3.ensures (omega arith) (omega arith)) refl
