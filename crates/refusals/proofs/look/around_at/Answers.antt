-- `refusals::look::around_at` meets its contract: the parent's path stands for the parent. Assumes nothing.
use mathlib.Core.Path.{ap, ◌∙◌}
use Prim.Native.Nat.{ℕ}
use Rattle.path.specs.Address.{Address, parent}
use Rattle.path.specs.View.{steps}
use Rattle.path.proofs.Structs.{view_path, parent_sound}
use Rattle.model.specs.Moves.{owner_in, children_in}
use Rattle.std.specs.Prelude as std
use Rattle.tables.specs.View.{owner_of, view_nodes}
use Rattle.refusals.specs.declared.look.Around.{Around}
use Rattle.refusals.proofs.look.around_at.Goals as goal

pub owner_in-requires-2 : goal.owner_in-requires-2
owner_in-requires-2 c = (c.requires.0, parent_sound c.requires.1 c.parent_of-above.ensures)

pub children_in-requires : goal.children_in-requires
children_in-requires c = (c.requires.0, parent_sound c.requires.1 c.parent_of-above.ensures)

abbrev made : std.Option ℕ → std.Option ℕ → ℕ → Around
made node above siblings = record { node = node; parent = above; siblings = siblings }

pub returns : goal.returns
returns c =
    let a = c.args in
    let up = ap steps c.parent_of-above.ensures ∙ view_path (parent (steps a.p)) in
    let owner = c.owner_in-2.ensures ∙ ap (λ (z : Address). owner_of (owner_in z (view_nodes a.t))) up in
    let children = c.children_in.ensures ∙ ap (λ (z : Address). children_in z (view_nodes a.t)) up in
    λ i. made (c.owner_in.ensures i) (owner i) (children i)
