-- One record of an image is taken alike by a tree and by its tables. Assumes nothing.
use mathlib.Core.Path.{◌≡◌, refl, sym, ap, ◌∙◌}
use mathlib.Core.Bool.{Bool, true, false, not, ◌&&◌, ◌||◌}
use mathlib.Core.Option.{Option, none, some, map, none-ne-some, map-eq-none_iff}
use mathlib.Core.List.{[], ◌∷◌, append-nil}
use Prim.Native.Nat.{ℕ, zero, suc, ◌+◌, ◌-◌, ◌≤◌}
use native.Mathlib.Omega.{arith}
use lib.Dec.{T, eqb, leb, ltb, eqb→eq, T_not}
use lib.ListN.{length}
use mir.Facts.{and_yes}
use Rattle.laws.specs.Slots.{pick}
use Rattle.laws.specs.Sorted.{insert, merge}
use Rattle.laws.proofs.Order.{nat_order}
use Rattle.path.specs.Address.{Address, steps_good, valid, parent, last, on}
use Rattle.model.specs.Things.{Attribute, Permission, Row, Dossier, lt_attribute, before_node, before_attribute, before_permission}
use Rattle.model.specs.Moves.{carried, with_attribute, add_permission}
use Rattle.model.specs.Refusals.{missing, user_good}
use Rattle.model.specs.Image as images
use Rattle.model.specs.Image.{Record, node_record, attribute_record, permission_record, in_range, node_fits, attribute_fits, permission_fits, left, there, no_records}
use Rattle.roundtrip.proofs.Checks.{absent_none, there_map}
use Rattle.roundtrip.proofs.Orders.{attribute_order, lt_named, named_order}
use Rattle.roundtrip.proofs.Found.{fits_parts}
use Rattle.roundtrip.proofs.Load.{last_good}
use Rattle.twin.specs.Tree.{Tree, then, payload, kids, count, kid, branch, look, paste_tree, set_at}
use Rattle.twin.specs.Twin.{Holding, Node, leaf, plain, node_object, holding_at, node_at, object_at, names_of, node_items, attribute_items, permission_items, sizes_of, with_holding, with_permission, or_empty, size_of, accept}
use Rattle.twin.specs.Good.{dossier_of, GoodTree}
use Rattle.twin.proofs.Trees.{then_some, child_below, Place, place_of, look_on, look_branch}
use Rattle.twin.proofs.KeepTree.{nothing_there}
use Rattle.twin.proofs.End.{End, end_of, paste_end}
use Rattle.twin.proofs.KeepEdits.{look_good}
use Rattle.twin.proofs.Same.{node_same, attribute_at_same, object_same, names_same, sizes_same}
use Rattle.twin.proofs.SameEdit.{bare_same, hold_same, grant_same}
use Rattle.twin.proofs.SameRequest.{not_missing, its_there}

-- nothing so far, or a good tree
abbrev pub SoFar : Option (Tree Node) → Type 0
SoFar none = Unit {0}
SoFar (some t) = GoodTree t

-- the tables of the tree so far
abbrev pub tables_of : Option (Tree Node) → Dossier
tables_of none = no_records
tables_of (some t) = dossier_of t

-- ---- one more node, after the last child: it moves nothing
-- a place whose left neighbour is there, or that is the first
left_near : (k : ℕ) (q : Address) (t s : Tree Node) → branch (parent (k ∷ q)) t ≡ some s → T (eqb (last (k ∷ q)) 1 || there (node_at (left (k ∷ q)) t)) → last (k ∷ q) ≤ count (kids s) + 1
left_near k q t s e h = go (eqb (last (k ∷ q)) 1) (eqb→eq (last (k ∷ q)) 1) h
  where
    below : (i : ℕ) (u : Tree Node) → kid i (kids s) ≡ some u → i ≤ count (kids s)
    below zero u d = absurd (none-ne-some u d)
    below (suc i) u d = child_below (kids s) i u d

    go : (b : Bool) → (T b → last (k ∷ q) ≡ 1) → T (b || there (node_at (left (k ∷ q)) t)) → last (k ∷ q) ≤ count (kids s) + 1
    go true y c = let d : last (k ∷ q) ≡ 1 = y tt in omega arith
    go false y c =
        let i = last (k ∷ q) - 1 in
        let w = not_missing node_object (look (left (k ∷ q)) t) (T_not (missing (node_at (left (k ∷ q)) t)) c) in
        let d : look (i ∷ []) s ≡ some w.0 = sym (look_on (parent (k ∷ q)) (i ∷ []) t ∙ ap (λ (o : Option (Tree Node)). then o (λ u. look (i ∷ []) u)) e) ∙ w.1 in
        let v = then_some (kid i (kids s)) (λ u. some (payload u)) w.0 d in
        let b : last (k ∷ q) - 1 ≤ count (kids s) = below i v.0 v.1 in omega arith

-- the tables with one node more
abbrev with_row : Row ℕ → Dossier → Dossier
with_row r d = record { nodes = insert before_node r d.nodes; attributes = d.attributes; permissions = d.permissions }

node_added : (u n : ℕ) (p : Address) (t : Tree Node) → T (valid p) → T (node_fits p (there (node_at p t)) (there (node_at (parent p) t)) (there (node_at (left p) t)) n)
    → with_row (p, u) (dossier_of t) ≡ dossier_of (paste_tree (leaf u) p t)
node_added u n [] t v h = absurd h
node_added u n (k ∷ q) t v h =
    let a = and_yes (not (there (node_at (k ∷ q) t))) _ h in
    let b = and_yes (there (node_at (parent (k ∷ q)) t) && (eqb (last (k ∷ q)) 1 || there (node_at (left (k ∷ q)) t))) (ltb n 64) a.1 in
    let c = and_yes (there (node_at (parent (k ∷ q)) t)) (eqb (last (k ∷ q)) 1 || there (node_at (left (k ∷ q)) t)) b.0 in
    let w = not_missing node_object (look (parent (k ∷ q)) t) (T_not (missing (node_at (parent (k ∷ q)) t)) c.0) in
    let s = look_branch (parent (k ∷ q)) t w.0 w.1 in
    let one : 1 ≤ last (k ∷ q) = (last_good k q (and_yes (leb (length (k ∷ q)) 6) (steps_good (k ∷ q)) v).1).0 in
    let near : last (k ∷ q) ≤ count (kids s.0) + 1 = left_near k q t s.0 s.1 c.1 in
    let place : Place k q t = place_of k q t s.0 s.1 one (omega arith) in
    let end : End k q t = end_of k q t s.0 s.1 (nothing_there k q t s.0 s.1 ((map-eq-none_iff node_object (look (k ∷ q) t)).0 (absent_none (node_at (k ∷ q) t) a.0)) one) in
    λ i. record {
      nodes = (ap (λ (r : Address). insert before_node (r, u) (dossier_of t).nodes) (sym (append-nil (k ∷ q)))
          ∙ ap (λ (d : Dossier). merge before_node (carried (λ r. some (on (k ∷ q) r)) d.nodes) (dossier_of t).nodes) (bare_same u)
          ∙ sym (paste_end node_items ltb nat_order (leaf u) k q t place end)) i;
      attributes = (ap (λ (d : Dossier). merge before_attribute (carried (λ r. some (on (k ∷ q) r)) d.attributes) (dossier_of t).attributes) (bare_same u)
          ∙ sym (paste_end attribute_items lt_attribute attribute_order (leaf u) k q t place end)) i;
      permissions = (ap (λ (d : Dossier). merge before_permission (carried (λ r. some (on (k ∷ q) r)) d.permissions) (dossier_of t).permissions) (bare_same u)
          ∙ sym (paste_end permission_items lt_named named_order (leaf u) k q t place end)) i;
    }

first_node : (p : Address) (u : ℕ) → pick (node_fits p false false false 0) (some (with_row (p, u) no_records)) none
    ≡ map tables_of (pick (node_fits p false false false 0) (some (some (leaf u))) none)
first_node [] u = ap some (bare_same u)
first_node (k ∷ q) u = refl

-- ---- one more record
taken : (b : Bool) (d : Dossier) (t : Option (Tree Node)) → (T b → d ≡ tables_of t) → pick b (some d) none ≡ map tables_of (pick b (some t) none)
taken true d t f = ap some (f tt)
taken false d t f = refl

-- what the tree's editor asks of a record
abbrev pub node_in : Address → Option (Tree Node) → Bool
node_in p t = node_fits p (there (or_empty (node_at p) t)) (there (or_empty (node_at (parent p)) t)) (there (or_empty (node_at (left p)) t)) (size_of (λ s. (sizes_of s).nodes) t)

abbrev pub attribute_in : Address → ℕ → Tree Node → Bool
attribute_in p k t = attribute_fits (there (node_at p t)) (there (holding_at p k t)) (sizes_of t).attributes (length (names_of (look p t)))

abbrev pub permission_in : Address → ℕ → Permission → Tree Node → Bool
permission_in p k x t = permission_fits x (object_at p k t) (sizes_of t).permissions

-- an attribute without permissions
abbrev pub bare_holding : Attribute → Holding
bare_holding a = record { name = a.name; owner = a.owner; value = a.value; permissions = [] }

pub accept_same : (t : Option (Tree Node)) (r : Record) → SoFar t → T (in_range r) → images.accept (tables_of t) r ≡ map tables_of (accept t r)
accept_same none (node_record r) g h = first_node r.0 r.1
accept_same none (attribute_record r) g h = refl
accept_same none (permission_record r) g h = go (eqb r.1.0 0)
  where
    go : (b : Bool) → pick (permission_fits r.1.1 (pick b none none) 0) (some (add_permission r.0 r.1.0 r.1.1 no_records)) none ≡ none
    go true = refl
    go false = refl
accept_same (some t) (node_record r) g h =
    (λ i. pick (node_fits r.0 (there (node_same r.0 t g i)) (there (node_same (parent r.0) t g i)) (there (node_same (left r.0) t g i)) (sizes_same t g i).nodes)
    (some (with_row r (dossier_of t))) none)
    ∙ taken (node_in r.0 (some t)) (with_row r (dossier_of t)) (some (paste_tree (leaf r.1) r.0 t))
    (node_added r.1 (sizes_of t).nodes r.0 t (and_yes (valid r.0) (user_good r.1) h).0)
accept_same (some t) (attribute_record r) g h =
    (λ i. pick (attribute_fits (there (node_same r.0 t g i)) ((ap there (attribute_at_same r.0 r.1.name t g) ∙ there_map plain (holding_at r.0 r.1.name t)) i)
    (sizes_same t g i).attributes (length (names_same r.0 t i))) (some (with_attribute r.0 r.1 (dossier_of t))) none)
    ∙ taken (attribute_in r.0 r.1.name t) (with_attribute r.0 r.1 (dossier_of t)) (some (set_at (with_holding (bare_holding r.1)) r.0 t))
    (λ c.
    let w = not_missing node_object (look r.0 t) (T_not (missing (node_at r.0 t)) (and_yes (there (node_at r.0 t)) _ c).0) in
    hold_same (bare_holding r.1) r.0 t w.0 w.1)
accept_same (some t) (permission_record r) g h =
    (λ i. pick (permission_fits r.1.1 (object_same r.0 r.1.0 t g i) (sizes_same t g i).permissions) (some (add_permission r.0 r.1.0 r.1.1 (dossier_of t))) none)
    ∙ taken (permission_in r.0 r.1.0 r.1.1 t) (add_permission r.0 r.1.0 r.1.1 (dossier_of t)) (some (set_at (with_permission r.1.0 r.1.1) r.0 t))
    (λ c.
    let w = its_there r.0 r.1.0 t (T_not (missing (object_at r.0 r.1.0 t)) (fits_parts r.1.1 (sizes_of t).permissions (object_at r.0 r.1.0 t) c).0) in
    grant_same r.1.0 r.1.1 r.0 t w.0 w.1 (look_good r.0 t w.0 w.1 g) w.2.0 w.2.1)
