-- What is seen of a dossier is enough for the tests: on it they answer as the model does on all that an editor finds. Assumes nothing.
use mathlib.Core.Path.{◌≡◌, refl, sym, ap, ◌∙◌}
use mathlib.Core.Bool.{Bool, true, false, ◌&&◌, ◌||◌, not}
use mathlib.Core.Option.{Option, none}
use mathlib.Core.List.{List, [], ◌∷◌}
use Prim.Native.Nat.{ℕ, ◌+◌, ◌≤◌}
use native.Mathlib.Omega.{arith}
use borrow.Author.Tests.{eqb-true, not-true}
use borrow.Table.Steps.{cases}
use lib.Dec.{eqb, ltb}
use lib.ListN.{length, replicate, length-replicate}
use Rattle.laws.specs.Slots.{pick}
use Rattle.path.specs.Address.{Address, parent, last}
use Rattle.path.specs.View.{steps}
use Rattle.path.proofs.Structs.{no}
use Rattle.model.specs.Decide.{Object}
use Rattle.model.specs.Moves.{permissions_in, node_at, attribute_object, names_in}
use Rattle.model.specs.Refusals as refusals
use Rattle.model.specs.Refusals.{Request, Cached, among, missing, permissions_of, with_rows}
use Rattle.tables.specs.declared.Dossier.{Dossier}
use Rattle.std.specs.Prelude.{None, is_none}
use Rattle.tables.specs.View.{view_attributes, view_permissions, view_dossier, DossierFits}
use Rattle.grants.specs.View.{weights_of}
use Rattle.lookups.specs.declared.Held.{Held}
use Rattle.lookups.specs.View.{held_in}
use Rattle.decide.specs.View.{object_owned, found_owner, needed, found_by}
use Rattle.decide.proofs.Objects.{node_owned, attribute_owned}
use Rattle.refusals.specs.declared.Placed.{Placed}
use Rattle.refusals.specs.View.{view_placed}
use Rattle.refusals.specs.Parts.{found_for, object_of}
use Rattle.refusals.specs.Look.{bare, weighing, weights_for, seen_of, SeenSound, absent_in, taken_in, uncovered_in, clashing_in, room_in}
use Rattle.refusals.proofs.Objects.{node_missing, attribute_missing, held_in_lem, children_few, names_few, nodes_size, nodes_room, attributes_size, attributes_room, permissions_size, permissions_room}

-- ---- numbers of a row
abbrev every : (ℕ → Bool) → List ℕ → Bool
every F [] = true
every F (k ∷ ks) = F k && every F ks

-- what holds of every number of a row holds of a number that is in it
of_row : (F : ℕ → Bool) (n : ℕ) (ks : List ℕ) → every F ks ≡ true → among n ks ≡ true → F n ≡ true
of_row F n [] a e = no (sym e)
of_row F n (k ∷ ks) a e = go (eqb n k) refl (F k) refl a e (of_row F n ks)
  where
    go : (b : Bool) → eqb n k ≡ b → (c : Bool) → F k ≡ c → (c && every F ks) ≡ true → (b || among n ks) ≡ true → (every F ks ≡ true → among n ks ≡ true → F n ≡ true) → F n ≡ true
    go b f false g a e rest = no (sym a)
    go true f true g a e rest = ap F (eqb-true n k f) ∙ g
    go false f true g a e rest = rest a e

not_of_row : (F : ℕ → Bool) (n : ℕ) (ks : List ℕ) → every (λ k. not (F k)) ks ≡ true → among n ks ≡ true → F n ≡ false
not_of_row F n ks a e = not-true (F n) (of_row (λ k. not (F k)) n ks a e)

-- two tables of the same rows, alike in the row of the number
row : {A : Type 0} (b : Bool) {x x' y y' : A} → (b ≡ true → x ≡ x') → y ≡ y' → pick b x y ≡ pick b x' y'
row true f g = f refl
row false f g = g

where_true : (b : Bool) {x x' : Bool} → (b ≡ true → x ≡ x') → (b && x) ≡ (b && x')
where_true true f = f refl
where_true false f = refl

-- ---- what is granted where attributes play no part
bare_granted : (r : Request) (node above a a' : Option Object) → among r.number bare ≡ true → refusals.granted r (needed node above a) ≡ refusals.granted r (needed node above a')
bare_granted r node above a a' e =
    let n = r.number in
    simp (
      not_of_row (λ m. eqb m 2) n bare refl e,
      not_of_row (λ m. eqb m 10) n bare refl e,
      not_of_row (λ m. eqb m 11) n bare refl e,
      not_of_row (λ m. eqb m 12) n bare refl e,
      not_of_row (λ m. eqb m 14) n bare refl e,
      not_of_row (λ m. eqb m 15) n bare refl e,
      not_of_row (λ m. eqb m 16) n bare refl e,
    )

module _ (d : Dossier) (q : Placed) where
  abbrev r : Request
  r = view_placed q

  abbrev at : Address
  at = steps q.path

  abbrev held_there : Held
  held_there = held_in at q.name (view_attributes d.attributes)

  abbrev held_if : Bool → Held
  held_if b = pick b (record { found = None; names = 0 }) held_there

  -- an attribute that is looked at
  abbrev looks : Type 0
  looks = among q.number bare ≡ false

  found_seen : looks → is_none (seen_of d q).attribute ≡ missing (found_for d q).attribute
  found_seen e = ap (λ b. is_none (held_if b).found) e ∙ attribute_missing at q.name (view_dossier d)

  -- ---- what is granted
  pub granted_seen : refusals.granted r (found_by r (record { node = (seen_of d q).node; parent = (seen_of d q).parent; attribute = found_owner (seen_of d q).attribute }) (view_permissions d.permissions))
      ≡ refusals.granted r (found_for d q)
  granted_seen = go (among q.number bare) refl
    where
      go : (b : Bool) → among q.number bare ≡ b
          → refusals.granted r (needed (object_owned (seen_of d q).node (permissions_in at 0 (view_permissions d.permissions))) (object_owned (seen_of d q).parent (permissions_in (parent at) 0 (view_permissions d.permissions)))
          (object_owned (found_owner (held_if b).found) (permissions_in at q.name (view_permissions d.permissions))))
          ≡ refusals.granted r (found_for d q)
      go true e =
          (λ i. refusals.granted r (needed (node_owned at (view_dossier d) i) (node_owned (parent at) (view_dossier d) i) none))
          ∙ bare_granted r (node_at at (view_dossier d)) (node_at (parent at) (view_dossier d)) none (attribute_object at q.name (view_dossier d)) e
      go false e = λ i. refusals.granted r (needed (node_owned at (view_dossier d) i) (node_owned (parent at) (view_dossier d) i) (attribute_owned at q.name (view_dossier d) i))

  -- ---- the object of requests 14 to 16
  object_seen : (b : Bool) → b ≡ false
      → object_owned (pick (eqb q.name 0) (seen_of d q).node (found_owner (held_if b).found)) (permissions_in at q.name (view_permissions d.permissions)) ≡ object_of d q
  object_seen true e = no e
  object_seen false e =
      cases (eqb q.name 0)
      (λ f. rw f (ap (λ n. object_owned (seen_of d q).node (permissions_in at n (view_permissions d.permissions))) (eqb-true q.name 0 f) ∙ node_owned at (view_dossier d)))
      (λ f. rw f (attribute_owned at q.name (view_dossier d)))

  pub weights_seen : weights_for r (object_owned (pick (eqb q.name 0) (seen_of d q).node (found_owner (seen_of d q).attribute)) (permissions_in at q.name (view_permissions d.permissions)))
      ≡ weights_for r (object_of d q)
  weights_seen =
      row (among q.number weighing)
      (λ e. ap (λ o. weights_of (refusals.subject r) r.permission (permissions_of o)) (object_seen (among q.number bare) (not_of_row (λ m. among m bare) q.number weighing refl e)))
      refl

  -- ---- each test
  pub absent_seen : absent_in (seen_of d q) r ≡ refusals.absent r (found_for d q)
  absent_seen =
      let n = q.number in
      let m = view_dossier d in
      row (among n (1 ∷ 4 ∷ 5 ∷ 6 ∷ 8 ∷ 13 ∷ [])) (λ e. node_missing at m)
      (row (among n (2 ∷ 9 ∷ 10 ∷ 11 ∷ 12 ∷ [])) (λ e. found_seen (not_of_row (λ k. among k bare) n (2 ∷ 9 ∷ 10 ∷ 11 ∷ 12 ∷ []) refl e))
      (row (among n (3 ∷ 7 ∷ 17 ∷ [])) (λ e. ap (λ b. b || ltb ((found_for d q).siblings + 1) (last at)) (node_missing (parent at) m))
      (row (among n (14 ∷ 16 ∷ [])) (λ e. no_object (eqb q.name 0) (not_of_row (λ k. among k bare) n (14 ∷ 16 ∷ []) refl e))
      (row (among n (15 ∷ [])) (λ e. ap not (weighed (of_row (λ k. among k weighing) n (15 ∷ []) refl e) ∙ held_in_lem r.permission (object_of d q))) refl))))
    where
      no_object : (b : Bool) → looks → pick b (is_none (seen_of d q).node) (is_none (seen_of d q).attribute) ≡ missing (pick b (found_for d q).node (found_for d q).attribute)
      no_object true e = node_missing at (view_dossier d)
      no_object false e = found_seen e

      weighed : among q.number weighing ≡ true → (seen_of d q).held ≡ (weights_of (refusals.subject r) r.permission (permissions_of (object_of d q))).held
      weighed e = ap (λ b. (pick b (weights_of (refusals.subject r) r.permission (permissions_of (object_of d q))) (record { held = false; covered = false; clashing = false })).held) e

  pub taken_seen : taken_in (seen_of d q) r ≡ refusals.taken r (found_for d q)
  taken_seen = where_true (among q.number (8 ∷ 13 ∷ [])) (λ e. ap not (found_seen (not_of_row (λ k. among k bare) q.number (8 ∷ 13 ∷ []) refl e)))

  pub uncovered_seen : uncovered_in (seen_of d q) r ≡ refusals.uncovered r (found_for d q)
  uncovered_seen =
      where_true (eqb q.number 16)
      (λ e. ap (λ b. not (pick b (weights_of (refusals.subject r) r.permission (permissions_of (object_of d q))) (record { held = false; covered = false; clashing = false })).covered) (ap (λ k. among k weighing) (eqb-true q.number 16 e)))

  pub clashing_seen : clashing_in (seen_of d q) r ≡ refusals.clashing r (found_for d q)
  clashing_seen =
      where_true (among q.number (14 ∷ 16 ∷ []))
      (λ e. ap (λ b. (pick b (weights_of (refusals.subject r) r.permission (permissions_of (object_of d q))) (record { held = false; covered = false; clashing = false })).clashing) (of_row (λ k. among k weighing) q.number (14 ∷ 16 ∷ []) refl e))

  -- ---- the bounds
  rows_seen : looks → (a p : ℕ) → with_rows a p (room_in (seen_of d q)) ≡ with_rows a p (found_for d q)
  rows_seen e a p =
      let count : length (replicate {A = ℕ} (seen_of d q).names 0) ≡ length (names_in at (view_attributes d.attributes)) = length-replicate {A = ℕ} (seen_of d q).names 0 ∙ ap (λ b. (held_if b).names) e in
      λ i. record {
        nodes = 0;
        depth = 0;
        children = 0;
        attributes = length (view_attributes d.attributes) + a;
        on_node = count i + a;
        permissions = length (view_permissions d.permissions) + p;
      }

  pub totals_seen : (c : Cached) → refusals.totals r (room_in (seen_of d q)) c ≡ refusals.totals r (found_for d q) c
  totals_seen c =
      let n = q.number in
      row (among n (3 ∷ [])) (λ e. refl)
      (row (among n (7 ∷ 17 ∷ [])) (λ e. refl)
      (row (among n (8 ∷ [])) (λ e. rows_seen (not_of_row (λ k. among k bare) n (8 ∷ []) refl e) 1 0)
      (row (among n (13 ∷ [])) (λ e. rows_seen (not_of_row (λ k. among k bare) n (13 ∷ []) refl e) 1 c.sizes.permissions)
      (row (among n (14 ∷ 16 ∷ [])) (λ e. rows_seen (not_of_row (λ k. among k bare) n (14 ∷ 16 ∷ []) refl e) 0 1) refl))))

  pub seen_sound : DossierFits d → SeenSound (seen_of d q)
  seen_sound h =
      let few = names_few h at in
      let n = nodes_size h in
      let n' = nodes_room h in
      let a = attributes_size h in
      let a' = attributes_room h in
      let p = permissions_size h in
      let p' = permissions_room h in
      record { siblings = children_few h (parent at); names = go (among q.number bare) few; nodes = omega arith; attributes = omega arith; permissions = omega arith }
    where
      go : (b : Bool) → length (names_in at (view_attributes d.attributes)) ≤ 256 → (held_if b).names ≤ 256
      go true few = omega arith
      go false few = few
