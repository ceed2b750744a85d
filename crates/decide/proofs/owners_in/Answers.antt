-- `decide::owners_in` meets its contract: each owner by its lookup. Assumes nothing.
use mathlib.Core.Path.{ap, ◌∙◌}
use Prim.Native.Nat.{ℕ}
use Rattle.std.specs.Prelude as std
use Rattle.path.specs.Address.{Address, parent}
use Rattle.path.specs.View.{steps}
use Rattle.path.proofs.Structs.{parent_sound, view_path}
use Rattle.model.specs.Moves.{owner_in}
use Rattle.tables.specs.View.{owner_of, view_nodes}
use Rattle.decide.specs.View.{found_owner}
use Rattle.decide.specs.declared.Owners.{Owners}
use Rattle.decide.proofs.owners_in.Goals as goal

pub owner_in-requires-2 : goal.owner_in-requires-2
owner_in-requires-2 c = (c.requires.0, parent_sound c.requires.2 c.parent_of.ensures)

abbrev made : std.Option ℕ → std.Option ℕ → std.Option ℕ → Owners
made node above attribute = record { node = node; parent = above; attribute = attribute }

pub returns : goal.returns
returns c =
    let a = c.args in
    let up = c.owner_in-2.ensures ∙ ap (λ (p : Address). owner_of (owner_in p (view_nodes a.n))) (ap steps c.parent_of.ensures ∙ view_path (parent (steps a.p))) in
    λ i. made (c.owner_in.ensures i) (up i) ((c.owner_found.ensures ∙ ap found_owner c.attribute_in.ensures) i)
