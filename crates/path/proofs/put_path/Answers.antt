-- `path::put_path` meets its contract: the seven last bytes of the number are the digits. Assumes nothing.
use mathlib.Core.Path.{◌≡◌, ap, ap₂, ◌∙◌}
use Prim.Native.Nat.{ℕ, ◌+◌, ◌-◌}
use borrow.Rule.Slice.PartMut.{put_mid}
use lib.ListN.{length, take, drop}
use lib.Seq.{drop-drop}
use mathlib.Core.List.{List, ◌++◌}
use native.Mathlib.Omega.{arith}
use Rattle.path.specs.Bytes.{step_bytes}
use Rattle.path.specs.View.{steps}
use Rattle.path.proofs.Bytes.{key_bytes, bytes_length}
use Rattle.path.proofs.Structs.{facts}
use Rattle.path.proofs.put_path.Goals as goal

pub returns : goal.returns
returns c =
    let p = c.args.p in
    let q = steps p in
    let full = bytes_length q (facts p c.requires.0).short in
    let e : c.copy_from_slice.new.self ≡ step_bytes q = c.copy_from_slice.ensures.after ∙ ap (λ b. take 7 (drop 1 b)) c.to_be_bytes.ensures ∙ key_bytes p c.requires.0 in
    let n : c.args.at + 7 - c.args.at ≡ length (step_bytes q) = omega arith in
    let s = c.args.out.now in
    ap₂ (λ k b. put_mid c.args.at k s b) n e ∙ ap (λ (r : List ℕ). take c.args.at s ++ (step_bytes q ++ r)) (drop-drop (length (step_bytes q)) c.args.at s)
