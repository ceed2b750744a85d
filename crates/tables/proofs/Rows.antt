-- Rows and tables that stand for the model's: seeing undoes standing for, a row's path is sound, a sound table holds its rows. Assumes nothing.
use mathlib.Core.Path.{◌≡◌, refl, ap, ap₂, ◌∙◌}
use mathlib.Core.Bool.{Bool}
use mathlib.Core.List.{List, [], ◌∷◌, map, map-map, map-id}
use Prim.Native.Nat.{ℕ}
use lib.ListN.{length}
use Rattle.laws.specs.Slots.{slots, Is}
use Rattle.laws.proofs.Fill.{Held, seen, is_same}
use Rattle.path.specs.declared.Path.{Path}
use Rattle.path.specs.Packed.{number}
use Rattle.path.specs.View.{path_of, PathSound}
use Rattle.path.proofs.Structs.{view_path}
use Rattle.model.specs.Things as things
use Rattle.model.specs.Things.{Row}
use Rattle.model.specs.Moves.{grant_row, head}
use Rattle.tables.specs.declared.Value.{Value}
use Rattle.tables.specs.declared.Value.TheVariants.{Whole, Reading}
use Rattle.tables.specs.declared.Node.{Node}
use Rattle.tables.specs.declared.Attribute.{Attribute}
use Rattle.tables.specs.declared.Permission.{Permission}
use Rattle.tables.specs.View.{Nodes}
use Rattle.tables.specs.View.{Attributes}
use Rattle.tables.specs.View.{Permissions}
use Rattle.tables.specs.View.{AtPath, blank_path, view_value, value_of, view_node, node_of, view_attribute, attribute_of, view_permission, permission_of, NodeSound, AttributeSound, PermissionSound, blank_node, blank_attribute, blank_permission, view_nodes, nodes_of, NodesSound, view_attributes, attributes_of, AttributesSound, view_permissions, permissions_of, PermissionsSound, view_dossier, dossier_of, view_single, view_clipboard, clipboard_of, Fits}

-- ---- a blank row's path is the root's
pub blank_path_lem : path_of [] ≡ blank_path
unfolding number
blank_path_lem = refl

-- ---- values
pub value_back : (v : things.Value) → view_value (value_of v) ≡ v
value_back (things.whole n) = refl
value_back (things.reading x) = refl

pub value_there : (v : Value) → value_of (view_value v) ≡ v
value_there (Whole n) = refl
value_there (Reading x) = refl

-- ---- any row type and any table of such rows
row_path : {S P : Type 0} (of : Row P → S) (path : S → Path) → ((r : Row P) → path (of r) ≡ path_of r.0) → {s : S} → Is of AtPath s → PathSound (path s)
row_path of path e h = record { model = h.model.0; same = ap path h.same ∙ e h.model; fits = h.fits }

table_held : {S P T : Type 0} (of : Row P → S) (lt : Row P → Row P → Bool) (n : ℕ) (b : S) (table_of : List (Row P) → T) (rows : T → List S) (count : T → ℕ)
    → ((l : List (Row P)) → (rows (table_of l) ≡ slots n b (map of l)) × (count (table_of l) ≡ length l))
    → (t : T) → Is table_of (Fits lt n) t → Held of AtPath n b (rows t) (count t)
table_held of lt n b table_of rows count e t h =
    record {
      model = h.model;
      rows_are = ap rows h.same ∙ (e h.model).0;
      count_is = ap count h.same ∙ (e h.model).1;
      room = h.fits.room;
      fits = h.fits.each;
    }

-- ---- nodes
pub view_node_lem : (r : Row ℕ) → view_node (node_of r) ≡ r
view_node_lem r = λ i. (view_path r.0 i, r.1)

pub node_path : {a : Node} → NodeSound a → PathSound a.path
node_path = row_path node_of (λ x. x.path) (λ r. refl)

pub node_same : (a : Node) → NodeSound a → a ≡ node_of (view_node a)
node_same = is_same node_of view_node view_node_lem AtPath

pub nodes_held : (t : Nodes) → NodesSound t → Held node_of AtPath 64 blank_node t.rows t.count
unfolding nodes_of
nodes_held = table_held node_of things.before_node 64 blank_node nodes_of (λ x. x.rows) (λ x. x.count) (λ l. (refl, refl))

pub view_nodes_lem : (l : List (Row ℕ)) → view_nodes (nodes_of l) ≡ l
unfolding nodes_of
view_nodes_lem = seen node_of view_node view_node_lem 64 blank_node

-- ---- attributes
pub view_attribute_lem : (r : Row things.Attribute) → view_attribute (attribute_of r) ≡ r
view_attribute_lem r = λ i. (view_path r.0 i, record { name = r.1.name; owner = r.1.owner; value = value_back r.1.value i })

pub attribute_path : {a : Attribute} → AttributeSound a → PathSound a.path
attribute_path = row_path attribute_of (λ x. x.path) (λ r. refl)

pub attribute_same : (a : Attribute) → AttributeSound a → a ≡ attribute_of (view_attribute a)
attribute_same = is_same attribute_of view_attribute view_attribute_lem AtPath

pub attributes_held : (t : Attributes) → AttributesSound t → Held attribute_of AtPath 256 blank_attribute t.rows t.count
unfolding attributes_of
attributes_held = table_held attribute_of things.before_attribute 256 blank_attribute attributes_of (λ x. x.rows) (λ x. x.count) (λ l. (refl, refl))

pub view_attributes_lem : (l : List (Row things.Attribute)) → view_attributes (attributes_of l) ≡ l
unfolding attributes_of
view_attributes_lem = seen attribute_of view_attribute view_attribute_lem 256 blank_attribute

-- ---- permissions
pub view_permission_lem : (r : Row (ℕ × things.Permission)) → view_permission (permission_of r) ≡ r
view_permission_lem r = λ i. (view_path r.0 i, r.1)

pub permission_path : {a : Permission} → PermissionSound a → PathSound a.path
permission_path = row_path permission_of (λ x. x.path) (λ r. refl)

pub permission_same : (a : Permission) → PermissionSound a → a ≡ permission_of (view_permission a)
permission_same = is_same permission_of view_permission view_permission_lem AtPath

pub permissions_held : (t : Permissions) → PermissionsSound t → Held permission_of AtPath 128 blank_permission t.rows t.count
unfolding permissions_of
permissions_held = table_held permission_of things.before_permission 128 blank_permission permissions_of (λ x. x.rows) (λ x. x.count) (λ l. (refl, refl))

pub view_permissions_lem : (l : List (Row (ℕ × things.Permission))) → view_permissions (permissions_of l) ≡ l
unfolding permissions_of
view_permissions_lem = seen permission_of view_permission view_permission_lem 128 blank_permission

-- ---- a dossier
pub view_dossier_lem : (d : things.Dossier) → view_dossier (dossier_of d) ≡ d
view_dossier_lem d = λ i. record { nodes = view_nodes_lem d.nodes i; attributes = view_attributes_lem d.attributes i; permissions = view_permissions_lem d.permissions i }

-- ---- a clipboard
pub view_clipboard_lem : (c : things.Clipboard) → view_clipboard (clipboard_of c) ≡ c
view_clipboard_lem things.empty = refl
view_clipboard_lem (things.branch d) = ap things.branch (view_dossier_lem d)
view_clipboard_lem (things.single a l) =
    ap₂ (λ x y. view_single (head x) y) (view_attributes_lem (([], a) ∷ [])) (view_permissions_lem (map (grant_row [] a.name) l))
    ∙ ap (things.single a) (map-map (λ (r : Row (ℕ × things.Permission)). r.1.1) (grant_row [] a.name) l ∙ map-id l)
