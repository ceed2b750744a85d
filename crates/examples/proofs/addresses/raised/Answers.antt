-- `examples::addresses::raised` meets its contract: a step below 32 is one after it was raised. Assumes nothing.
use mathlib.Core.Path.{◌≡◌, ap, subst, ◌∙◌}
use Prim.Native.Nat.{◌-◌, ◌<◌}
use native.Mathlib.Omega.{arith}
use lib.ListN.{length, get_or}
use Rattle.path.specs.View.{steps}
use Rattle.path.proofs.Kept.{up_sound}
use Rattle.examples.proofs.addresses.raised.Goals as goal

pub returns : goal.returns
returns c =
    let n : c.size-n.result ≡ length (steps c.args.q) = c.size-n.ensures.0 in
    let x : c.step_of.result ≡ get_or (steps c.args.p) (c.size-n.result - 1) 0 = c.step_of.ensures in
    let low = c.if-step_of-ge32.false in
    up_sound c.args.q c.requires.0
    (λ k e. let w : c.size-n.result - 1 ≡ k = omega arith in subst (λ j. j < 32) (x ∙ ap (λ j. get_or (steps c.args.p) j 0) w) low) c.path_up.ensures
