-- `encode::put_span` meets its contract: two times, one behind the other. Assumes nothing.
use mathlib.Core.Path.{ap, ◌∙◌}
use Prim.Native.Nat.{ℕ, ◌+◌}
use native.Mathlib.Omega.{arith}
use mir.Syntax.{w64}
use mir.Val.{of_z}
use mir.ValLaws.{to_z-of_z}
use Rattle.laws.specs.Slots.{put}
use Rattle.laws.proofs.Put.{then}
use Rattle.model.specs.Image.{bytes8}
use Rattle.encode.proofs.put_span.Goals as goal

pub returns : goal.returns
returns c =
    let a = c.args in
    let l = a.out.now in
    let c1 = c.put8 in
    let c2 = c.put8-2 in
    let f = c.bits_of_time.ensures ∙ ap (of_z w64) (to_z-of_z w64 a.s.first (record { sfits = c.struct_told-1.given.0.1 })) in
    let g = c.bits_of_time-2.ensures ∙ ap (of_z w64) (to_z-of_z w64 a.s.last (record { sfits = c.struct_told-2-1.given.1.0.1 })) in
    then l c1.new.out c2.new.out a.at (bytes8 (of_z w64 a.s.first)) (bytes8 (of_z w64 a.s.last)) (c1.ensures ∙ ap (λ (n : ℕ). put l a.at (bytes8 n)) f)
    (c2.ensures ∙ ap (λ (n : ℕ). put c1.new.out (a.at + 8) (bytes8 n)) g) (omega (arith, c.requires))
