-- `image::nodes::left_of` meets its contract: the child of the parent with one step less. Assumes nothing.
use mathlib.Core.Path.{◌≡◌, sym, ap, ap₂, ◌∙◌}
use Prim.Native.Nat.{◌-◌}
use native.Mathlib.Omega.{arith}
use Rattle.std.proofs.Common.{rules, Some}
use Rattle.std.proofs.lemmas.Option.{same_Some}
use Rattle.path.specs.Address.{parent, child, in_depth}
use Rattle.path.specs.View.{steps, path_of, moved_of}
use Rattle.path.proofs.Structs.{parent_sound, view_path, path_valid, valid_short, in_depth_fits}
use Rattle.model.specs.Image.{left}
use Rattle.image.proofs.Tests.{left_long}
use Rattle.image.proofs.nodes.left_of.Goals as goal
use Rattle.image.proofs.nodes.left_of.Goals.{After-child_of}

-- it is not too deep
there : (c : After-child_of) → c.child_of.result ≡ Some (path_of (left (steps c.args.p)))
there c =
    let p = steps c.args.p in
    let n = valid_short p (path_valid c.requires.0) in
    let m = left_long p c.requires.1 in
    let e : steps c.parent_of.result ≡ parent p = ap steps c.parent_of.ensures ∙ view_path (parent p) in
    c.child_of.ensures ∙ ap₂ (λ q k. moved_of (in_depth (child q (k - 1)))) e c.last_step.ensures ∙ ap moved_of (in_depth_fits (left p) (omega arith))

pub child_of-requires : goal.child_of-requires
child_of-requires c = parent_sound c.requires.0 c.parent_of.ensures

pub unwrap-requires : goal.unwrap-requires
unwrap-requires c = let e = there (goal.at.unwrap-requires c).After-child_of in search rules

pub returns : goal.returns
returns c = same_Some _ _ (sym c.unwrap.ensures ∙ there (goal.at.returns c).After-child_of)
