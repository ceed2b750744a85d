-- What lookups answer, and what the model finds. Assumes nothing.
use borrow.Author.Tests.{ne_eqb}
use mathlib.Core.Path.{◌≡◌, refl, ◌∙◌}
use mathlib.Core.Option.{Option, none, some, map}
use mathlib.Core.List.{List, [], ◌∷◌}
use Prim.Native.Nat.{ℕ, ◌≤◌}
use native.Mathlib.Omega.{arith}
use lib.Dec.{eqb}
use lib.ListN.{length, length-map}
use Rattle.laws.proofs.Fill.{held_room}
use Rattle.laws.specs.Sorted.{push, move}
use Rattle.path.specs.Address.{Address}
use Rattle.model.specs.Things.{Attribute, Permission, Dossier}
use Rattle.model.specs.Decide.{Object}
use Rattle.model.specs.Moves.{at, owner_in, attribute_in, names_in, child_step, children_in, node_at, attribute_object, holds}
use Rattle.model.specs.Refusals.{is_root, missing, held, permissions_of}
use Rattle.tables.specs.declared.Dossier as tables
use Rattle.tables.specs.View.{view_nodes, view_attributes, view_permissions, DossierFits, owner_of, found_of}
use Rattle.tables.proofs.Parts.{nodes_sound, attributes_sound, permissions_sound}
use Rattle.tables.proofs.Rows.{nodes_held, attributes_held, permissions_held}
use Rattle.tables.proofs.Tables.{nodes_count, attributes_count, permissions_count}
use Rattle.std.specs.Prelude.{is_none}

-- ---- what is not there
missing_map : {A : Type 0} (f : A → Object) (o : Option A) → missing o ≡ missing (map f o)
missing_map f none = refl
missing_map f (some a) = refl

pub node_missing : (p : Address) (d : Dossier) → is_none (owner_of (owner_in p d.nodes)) ≡ missing (node_at p d)
node_missing p d = go (owner_in p d.nodes) ∙ missing_map _ (owner_in p d.nodes)
  where
    go : (o : Option ℕ) → is_none (owner_of o) ≡ missing o
    go none = refl
    go (some u) = refl

pub attribute_missing : (p : Address) (n : ℕ) (d : Dossier) → is_none (found_of (attribute_in p n d.attributes)) ≡ missing (attribute_object p n d)
attribute_missing p n d = go (attribute_in p n d.attributes) ∙ missing_map _ (attribute_in p n d.attributes)
  where
    go : (o : Option Attribute) → is_none (found_of o) ≡ missing o
    go none = refl
    go (some a) = refl

-- ---- the permissions of an object
pub held_in_lem : (g : Permission) (o : Option Object) → holds g (permissions_of o) ≡ held g o
held_in_lem g none = refl
held_in_lem g (some o) = refl

-- ---- how many
pub move_few : {A B : Type 0} (f : A → Option B) (l : List A) → length (move f l) ≤ length l
move_few f [] = omega arith
move_few f (a ∷ l) = go (f a) (move_few f l)
  where
    go : (o : Option _) → length (move f l) ≤ length l → length (push o (move f l)) ≤ length (a ∷ l)
    go none h = omega arith
    go (some b) h = omega arith

module _ {d : tables.Dossier} (h : DossierFits d) where
  -- a table's count is its length, and within its bound
  pub nodes_size : d.nodes.count ≡ length (view_nodes d.nodes)
  nodes_size = nodes_count d.nodes (nodes_sound h)

  pub nodes_room : d.nodes.count ≤ 64
  nodes_room = held_room _ _ _ _ _ _ (nodes_held d.nodes (nodes_sound h))

  pub attributes_size : d.attributes.count ≡ length (view_attributes d.attributes)
  attributes_size = attributes_count d.attributes (attributes_sound h)

  pub attributes_room : d.attributes.count ≤ 256
  attributes_room = held_room _ _ _ _ _ _ (attributes_held d.attributes (attributes_sound h))

  pub permissions_size : d.permissions.count ≡ length (view_permissions d.permissions)
  permissions_size = permissions_count d.permissions (permissions_sound h)

  pub permissions_room : d.permissions.count ≤ 128
  permissions_room = held_room _ _ _ _ _ _ (permissions_held d.permissions (permissions_sound h))

  pub children_few : (p : Address) → children_in p (view_nodes d.nodes) ≤ 64
  children_few p =
      let n = move_few (child_step p) (view_nodes d.nodes) in
      let e = nodes_size in
      let room = nodes_room in
      omega arith

  pub names_few : (p : Address) → length (names_in p (view_attributes d.attributes)) ≤ 256
  names_few p =
      let m = length-map (move (at {P = Attribute} p) (view_attributes d.attributes)) (λ (a : Attribute). a.name) in
      let n = move_few (at {P = Attribute} p) (view_attributes d.attributes) in
      let e = attributes_size in
      let room = attributes_room in
      omega arith

pub root_size : (p : Address) → eqb (length p) 0 ≡ is_root p
root_size [] = refl
root_size (s ∷ p) = ne_eqb (length (s ∷ p)) 0 (λ e. omega arith)
