-- What is seen of a dossier for a request, and the tests on that alone.
use Rattle.std.specs.Prelude.{None, is_none, Bool, false, ◌&&◌, ◌||◌, not, List, [], ◌∷◌, ℕ, ◌+◌, ◌≤◌, eqb, ltb, length, replicate}
use Rattle.std.proofs.Math.Option.{Option, none}
use Rattle.laws.specs.Slots.{pick}
use Rattle.path.specs.Address.{Address, parent, last}
use Rattle.model.specs.Things.{Row, Attribute}
use Rattle.model.specs.Decide.{Object}
use Rattle.model.specs.Moves.{owner_in, children_in}
use Rattle.model.specs.Refusals as refusals
use Rattle.model.specs.Refusals.{Request, among, choose, subject, permissions_of}
use Rattle.tables.specs.declared.Dossier.{Dossier}
use Rattle.tables.specs.View.{owner_of, view_nodes, view_attributes, view_permissions}
use Rattle.grants.specs.declared.Weights.{Weights}
use Rattle.grants.specs.View.{decision_of, weights_of}
use Rattle.lookups.specs.declared.Held.{Held}
use Rattle.lookups.specs.View.{held_in}
use Rattle.refusals.specs.declared.Placed.{Placed}
use Rattle.refusals.specs.declared.Cache.{Cache}
use Rattle.refusals.specs.declared.Seen.{Seen}
use Rattle.refusals.specs.declared.look.Around.{Around}
use Rattle.refusals.specs.View.{view_placed, view_cache}
use Rattle.refusals.specs.Parts.{found_for, object_of}

-- ---- what is seen
abbrev pub around_in : Address → List (Row ℕ) → Around
around_in p l = record { node = owner_of (owner_in p l); parent = owner_of (owner_in (parent p) l); siblings = children_in (parent p) l }

-- the requests that don't look at attributes, and those that weigh the permissions of their object
abbrev pub bare : List ℕ
bare = 1 ∷ 3 ∷ 4 ∷ 5 ∷ 6 ∷ 7 ∷ 17 ∷ []

abbrev pub weighing : List ℕ
weighing = 14 ∷ 15 ∷ 16 ∷ []

abbrev pub held_for : Request → List (Row Attribute) → Held
held_for r l = pick (among r.number bare) (record { found = None; names = 0 }) (held_in r.path r.name l)

abbrev pub weights_for : Request → Option Object → Weights
weights_for r o = pick (among r.number weighing) (weights_of (subject r) r.permission (permissions_of o)) (record { held = false; covered = false; clashing = false })

abbrev pub seen_of : Dossier → Placed → Seen
seen_of d q =
    let r = view_placed q in
    record {
      node = owner_of (owner_in r.path (view_nodes d.nodes));
      parent = owner_of (owner_in (parent r.path) (view_nodes d.nodes));
      siblings = children_in (parent r.path) (view_nodes d.nodes);
      attribute = (held_for r (view_attributes d.attributes)).found;
      names = (held_for r (view_attributes d.attributes)).names;
      nodes = length (view_nodes d.nodes);
      attributes = length (view_attributes d.attributes);
      permissions = length (view_permissions d.permissions);
      may = decision_of (refusals.granted r (found_for d q));
      held = (weights_for r (object_of d q)).held;
      covered = (weights_for r (object_of d q)).covered;
      clashing = (weights_for r (object_of d q)).clashing;
    }

-- counts of a dossier within its bounds
pub record SeenSound (s : Seen) : Type 0 where
  pub siblings : s.siblings ≤ 64
  pub names : s.names ≤ 256
  pub nodes : s.nodes ≤ 64
  pub attributes : s.attributes ≤ 256
  pub permissions : s.permissions ≤ 128

-- ---- the tests
abbrev pub absent_in : Seen → Request → Bool
absent_in s r =
    choose r.number false
    ((1 ∷ 4 ∷ 5 ∷ 6 ∷ 8 ∷ 13 ∷ [], is_none s.node)
    ∷ (2 ∷ 9 ∷ 10 ∷ 11 ∷ 12 ∷ [], is_none s.attribute)
    ∷ (3 ∷ 7 ∷ 17 ∷ [], is_none s.parent || ltb (s.siblings + 1) (last r.path))
    ∷ (14 ∷ 16 ∷ [], pick (eqb r.name 0) (is_none s.node) (is_none s.attribute))
    ∷ (15 ∷ [], not s.held)
    ∷ [])

abbrev pub taken_in : Seen → Request → Bool
taken_in s r = among r.number (8 ∷ 13 ∷ []) && not (is_none s.attribute)

abbrev pub uncovered_in : Seen → Request → Bool
uncovered_in s r = eqb r.number 16 && not s.covered

abbrev pub clashing_in : Seen → Request → Bool
clashing_in s r = among r.number (14 ∷ 16 ∷ []) && s.clashing

-- of all that an editor finds, what the bounds look at
abbrev pub room_in : Seen → refusals.Found
room_in s =
    record {
      node = none;
      parent = none;
      attribute = none;
      names = replicate s.names 0;
      children = 0;
      siblings = s.siblings;
      sizes = record { nodes = s.nodes; attributes = s.attributes; permissions = s.permissions };
    }

abbrev pub totals_in : Seen → Cache → Placed → refusals.Totals
totals_in s c q = refusals.totals (view_placed q) (room_in s) (view_cache c)
