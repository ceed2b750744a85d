-- `refusals::look::looked` meets its contract: each part by the function that finds it. Assumes nothing.
use mathlib.Core.Path.{ap, ◌∙◌}
use Prim.Native.Nat.{ℕ}
use Rattle.path.specs.View.{steps}
use Rattle.model.specs.Moves.{permissions_in}
use Rattle.model.specs.Refusals as refusals
use Rattle.std.proofs.Common.{Option}
use Rattle.tables.specs.View.{view_permissions}
use Rattle.grants.specs.View.{decision_of}
use Rattle.lookups.specs.declared.Held.{Held}
use Rattle.decide.specs.declared.Owners.{Owners}
use Rattle.decide.specs.View.{found_owner, object_owned, found_by}
use Rattle.refusals.specs.declared.look.Around.{Around}
use Rattle.refusals.specs.View.{view_placed}
use Rattle.refusals.specs.Look.{weights_for}
use Rattle.refusals.proofs.Objects.{nodes_size, attributes_size, permissions_size}
use Rattle.refusals.proofs.Looked.{granted_seen, weights_seen}
use Rattle.laws.specs.Slots.{pick}
use lib.Dec.{eqb}
use Rattle.refusals.proofs.look.looked.Goals as goal

abbrev made : Option ℕ → Option ℕ → Option ℕ → Owners
made node above attribute = record { node = node; parent = above; attribute = attribute }

pub returns : goal.returns
returns c =
    let d = c.args.d in
    let q = c.args.q in
    let r = view_placed q in
    let l = view_permissions d.permissions in
    let around = c.around_at-a.ensures in
    let held = c.held_for-h.ensures in
    let node = ap (λ (x : Around). x.node) around in
    let above = ap (λ (x : Around). x.parent) around in
    let owner = c.owner_found.ensures ∙ ap (λ (x : Held). found_owner x.found) held in
    let may = c.granted_to-may.ensures ∙ (λ i. decision_of (refusals.granted r (found_by r (made (node i) (above i) (owner i)) l))) ∙ ap decision_of (granted_seen d q) in
    let object = c.object_owner-object.ensures ∙ (λ i. pick (eqb q.name 0) (node i) (owner i)) in
    let weights = c.weights_for-w.ensures ∙ ap (λ (o : Option ℕ). weights_for r (object_owned o (permissions_in (steps q.path) q.name l))) object ∙ weights_seen d q in
    λ i. record {
      node = node i;
      parent = above i;
      siblings = (around i).siblings;
      attribute = (held i).found;
      names = (held i).names;
      nodes = nodes_size c.requires.0 i;
      attributes = attributes_size c.requires.0 i;
      permissions = permissions_size c.requires.0 i;
      may = may i;
      held = (weights i).held;
      covered = (weights i).covered;
      clashing = (weights i).clashing;
    }
