-- One row more: a table that fits and has room fits with the row in its place; an empty table fits; three tables are a dossier. Assumes nothing.
use mathlib.Core.Path.{◌≡◌, refl, sym, ap, ◌∙◌}
use mathlib.Core.Bool.{Bool, true, false}
use mathlib.Core.List.{List, [], ◌∷◌}
use Prim.Native.Nat.{ℕ, ◌+◌, ◌≤◌, ◌<◌}
use native.Mathlib.Omega.{arith}
use lib.Dec.{T, ltb}
use lib.ListN.{length}
use Rattle.laws.specs.Slots.{All, Is}
use Rattle.laws.specs.Sorted.{StrictOrder, nil, insert_by, insert}
use Rattle.laws.specs.Order.{lt_pair}
use Rattle.laws.proofs.Fill.{is_seen}
use Rattle.laws.proofs.Order.{nat_order}
use Rattle.laws.proofs.Sorted.{insert_sorted}
use Rattle.path.specs.declared.Path.{Path}
use Rattle.path.specs.Address.{valid, before}
use Rattle.path.specs.View.{steps, PathSound}
use Rattle.path.proofs.Structs.{path_valid}
use Rattle.model.specs.Things as things
use Rattle.model.specs.Things.{Row}
use Rattle.tables.specs.declared.Value.{Value}
use Rattle.tables.specs.declared.Grant.{Grant}
use Rattle.tables.specs.View.{Nodes}
use Rattle.tables.specs.View.{Attributes}
use Rattle.tables.specs.View.{Permissions}
use Rattle.tables.specs.View.{view_value, view_grant, node_row, NodeSound, AttributeSound, PermissionSound, view_nodes, nodes_of, NodesSound, view_attributes, attributes_of, AttributesSound, view_permissions, permissions_of, PermissionsSound, DossierFits, Fits}
use Rattle.tables.proofs.Rows.{value_there, view_nodes_lem, view_attributes_lem, view_permissions_lem}
use Rattle.roundtrip.proofs.Orders.{attribute_order, lt_named, named_order, row_order}

-- ---- a row put in its place, of any list
module _ {A : Type 0} (P : A → Type 0) (lt : A → A → Bool) where
  insert_by_all : (b c : Bool) (x y : A) (l r : List A) → P x → P y → All P l → All P r → All P (insert_by b c x y l r)
  insert_by_all true c x y l r h k a s = (h, (k, a))
  insert_by_all false true x y l r h k a s = (k, s)
  insert_by_all false false x y l r h k a s = (k, a)

  insert_all : (x : A) (l : List A) → P x → All P l → All P (insert lt x l)
  insert_all x [] h a = (h, tt)
  insert_all x (y ∷ l) h a = insert_by_all (lt x y) (lt y x) x y l (insert lt x l) h a.0 a.1 (insert_all x l h a.1)

module _ {A : Type 0} (lt : A → A → Bool) where
  insert_by_length : (b c : Bool) (x y : A) (l r : List A) → length r ≤ length l + 1 → length (insert_by b c x y l r) ≤ length (y ∷ l) + 1
  insert_by_length true c x y l r h = omega arith
  insert_by_length false true x y l r h = omega arith
  insert_by_length false false x y l r h = omega arith

  insert_length : (x : A) (l : List A) → length (insert lt x l) ≤ length l + 1
  insert_length x [] = omega arith
  insert_length x (y ∷ l) = insert_by_length (lt x y) (lt y x) x y l (insert lt x l) (insert_length x l)

-- ---- any table
module _ {P S : Type 0} (less : P → P → Bool) (o : StrictOrder less) (n : ℕ) (table_of : List (Row P) → S) (view : S → List (Row P)) (count : S → ℕ)
    (seen : (l : List (Row P)) → view (table_of l) ≡ l) (counted : (l : List (Row P)) → count (table_of l) ≡ length l) where
  abbrev Held : S → Type 0
  Held t = Is table_of (Fits (lt_pair before less) n) t

  empty : {r : S} → r ≡ table_of [] → Held r
  empty e = record { model = []; same = e; fits = record { room = omega arith; each = tt; ascend = nil } }

  with_row : {t r : S} {p : Path} (x : P) → Held t → PathSound p → count t < n → r ≡ table_of (insert (lt_pair before less) (steps p, x) (view t)) → Held r
  with_row {t} {r} {p} x h v room e =
      let lt = lt_pair before less in
      let l = h.model in
      let row : Row P = (steps p, x) in
      let size : count t ≡ length l = ap count h.same ∙ counted l in
      let more = insert_length lt row l in
      record {
        model = insert lt row l;
        same = e ∙ ap (λ m. table_of (insert lt row m)) (is_seen table_of view seen (Fits lt n) t h);
        fits = record {
          room = omega arith;
          each = insert_all (λ r. T (valid r.0)) lt row l (path_valid v) h.fits.each;
          ascend = insert_sorted lt (row_order less o) row h.fits.ascend;
        };
      }

-- ---- nodes
node_count : (l : List (Row ℕ)) → (nodes_of l).count ≡ length l
unfolding nodes_of
node_count l = refl

pub no_nodes : {r : Nodes} → r ≡ nodes_of [] → NodesSound r
no_nodes = empty ltb nat_order 64 nodes_of view_nodes (λ t. t.count) view_nodes_lem node_count

pub with_node_lem : {t r : Nodes} {p : Path} (u : ℕ) → NodesSound t → PathSound p → t.count < 64 → r ≡ nodes_of (insert things.before_node (steps p, u) (view_nodes t)) → NodesSound r
with_node_lem = with_row ltb nat_order 64 nodes_of view_nodes (λ t. t.count) view_nodes_lem node_count

pub node_at_lem : {p : Path} (u : ℕ) → PathSound p → NodeSound (node_row p u)
node_at_lem u h = record { model = (h.model, u); same = λ i. node_row (h.same i) u; fits = h.fits }

-- ---- attributes
attribute_count : (l : List (Row things.Attribute)) → (attributes_of l).count ≡ length l
unfolding attributes_of
attribute_count l = refl

pub no_attributes : {r : Attributes} → r ≡ attributes_of [] → AttributesSound r
no_attributes = empty things.lt_attribute attribute_order 256 attributes_of view_attributes (λ t. t.count) view_attributes_lem attribute_count

pub with_attribute_lem : {t r : Attributes} {p : Path} (a : things.Attribute) → AttributesSound t → PathSound p → t.count < 256
    → r ≡ attributes_of (insert things.before_attribute (steps p, a) (view_attributes t)) → AttributesSound r
with_attribute_lem = with_row things.lt_attribute attribute_order 256 attributes_of view_attributes (λ t. t.count) view_attributes_lem attribute_count

pub attribute_at_lem : {p : Path} (n u : ℕ) (v : Value) → PathSound p → AttributeSound (record { path = p; name = n; owner = u; value = v })
attribute_at_lem n u v h =
    record {
      model = (h.model, record { name = n; owner = u; value = view_value v });
      same = λ i. record { path = h.same i; name = n; owner = u; value = sym (value_there v) i };
      fits = h.fits;
    }

-- ---- permissions
permission_count : (l : List (Row (ℕ × things.Permission))) → (permissions_of l).count ≡ length l
unfolding permissions_of
permission_count l = refl

pub no_permissions : {r : Permissions} → r ≡ permissions_of [] → PermissionsSound r
no_permissions = empty lt_named named_order 128 permissions_of view_permissions (λ t. t.count) view_permissions_lem permission_count

pub with_permission_lem : {t r : Permissions} {p : Path} (a : ℕ × things.Permission) → PermissionsSound t → PathSound p → t.count < 128
    → r ≡ permissions_of (insert things.before_permission (steps p, a) (view_permissions t)) → PermissionsSound r
with_permission_lem = with_row lt_named named_order 128 permissions_of view_permissions (λ t. t.count) view_permissions_lem permission_count

pub permission_at_lem : {p : Path} (n : ℕ) (g : Grant) → PathSound p → PermissionSound (record { path = p; name = n; grant = g })
permission_at_lem n g h = record { model = (h.model, (n, view_grant g)); same = λ i. record { path = h.same i; name = n; grant = g }; fits = h.fits }

-- ---- a dossier of three tables
pub dossier : {n : Nodes} {a : Attributes} {q : Permissions} → NodesSound n → AttributesSound a → PermissionsSound q
    → DossierFits (record { nodes = n; attributes = a; permissions = q })
dossier h k l =
    record {
      model = record { nodes = h.model; attributes = k.model; permissions = l.model };
      same = λ i. record { nodes = h.same i; attributes = k.same i; permissions = l.same i };
      fits = record { nodes = h.fits; attributes = k.fits; permissions = l.fits };
    }
