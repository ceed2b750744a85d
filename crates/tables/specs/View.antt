-- The structs of this crate and the model: view (struct to model), ..Of (model to the one struct that stands for it), ..Sound.
use Rattle.std.specs.Prelude as rust
use Rattle.std.specs.Prelude.{None, Some, Bool, ◌&&◌, List, [], ◌∷◌, map, ℕ, ◌≤◌, pos, T, eqb, take, length}
use Rattle.std.proofs.Math.Option.{Option, none, some}
use Rattle.laws.specs.Slots.{pick, slots, All, Is}
use Rattle.laws.specs.Sorted.{Sorted}
use Rattle.path.specs.Address.{valid, same}
use Rattle.path.specs.View.{steps, path_of}
use Rattle.model.specs.Things as things
use Rattle.model.specs.Things.{Row}
use Rattle.model.specs.Sound.{Sound, SoundClipboard}
use Rattle.model.specs.Moves.{grant_row, head}
use Rattle.path.specs.declared.Path.{Path}
use Rattle.tables.specs.declared.Value.{Value}
use Rattle.tables.specs.declared.Value.TheVariants.{Whole, Reading}
use Rattle.tables.specs.declared.Node.{Node}
use Rattle.tables.specs.declared.Attribute.{Attribute}
use Rattle.tables.specs.declared.Grant.{Grant}
use Rattle.tables.specs.declared.Permission.{Permission}
use Rattle.tables.specs.declared.Table.{Table}
use Rattle.tables.specs.declared.Dossier.{Dossier}
use Rattle.tables.specs.declared.Clipboard.{Clipboard}
use Rattle.tables.specs.declared.Found.{Found}
use Rattle.tables.specs.declared.Names.{Names}

-- ---- what a path must be, of a row
abbrev pub AtPath : {P : Type 0} → Row P → Type 0
AtPath r = T (valid r.0)

abbrev pub blank_path : Path
blank_path = record { key = 0 }

-- a path read past the end of a table
abbrev pub no_path : Path
no_path = record { key = 0 }

-- ---- values
abbrev pub view_value : Value → things.Value
view_value (Whole n) = things.whole n
view_value (Reading x) = things.reading x

abbrev pub value_of : things.Value → Value
value_of (things.whole n) = Whole n
value_of (things.reading x) = Reading x

-- ---- rows
abbrev pub view_node : Node → Row ℕ
view_node a = (steps a.path, a.owner)

-- a node's row, with its unused bytes
abbrev pub node_row : Path → ℕ → Node
node_row p user = record { path = p; owner = user; unused = 0 ∷ 0 ∷ 0 ∷ 0 ∷ 0 ∷ 0 ∷ 0 ∷ [] }

abbrev pub node_of : Row ℕ → Node
node_of r = node_row (path_of r.0) r.1

abbrev pub view_attribute : Attribute → Row things.Attribute
view_attribute a = (steps a.path, record { name = a.name; owner = a.owner; value = view_value a.value })

abbrev pub attribute_of : Row things.Attribute → Attribute
attribute_of r = record { path = path_of r.0; name = r.1.name; owner = r.1.owner; value = value_of r.1.value }

abbrev pub view_grant : Grant → things.Permission
view_grant g =
    record {
      role = g.role;
      action = g.action;
      user = g.user;
      first = g.span.first;
      last = g.span.last;
      messages = g.messages;
      agreements = g.agreements;
    }

abbrev pub grant_of : things.Permission → Grant
grant_of p =
    record {
      role = p.role;
      action = p.action;
      user = p.user;
      span = record { first = p.first; last = p.last };
      messages = p.messages;
      agreements = p.agreements;
    }

abbrev pub view_permission : Permission → Row (ℕ × things.Permission)
view_permission a = (steps a.path, (a.name, view_grant a.grant))

abbrev pub permission_of : Row (ℕ × things.Permission) → Permission
permission_of r = record { path = path_of r.0; name = r.1.0; grant = grant_of r.1.1 }

abbrev pub NodeSound : Node → Type 0
NodeSound a = Is node_of AtPath a

abbrev pub AttributeSound : Attribute → Type 0
AttributeSound a = Is attribute_of AtPath a

abbrev pub PermissionSound : Permission → Type 0
PermissionSound a = Is permission_of AtPath a

-- two attributes that differ in path or name
abbrev pub Apart : Row things.Attribute → Row things.Attribute → Type 0
Apart r s = T (same r.0 s.0 && eqb r.1.name s.1.name) → ⊥

-- ---- blank rows, and rows read past the end of a table
abbrev pub blank_node : Node
blank_node = node_row blank_path 0

abbrev pub no_node : Node
no_node = record { path = no_path; owner = 0; unused = [] }

abbrev pub blank_attribute : Attribute
blank_attribute = record { path = blank_path; name = 0; owner = 0; value = Whole 0 }

abbrev pub no_attribute : Attribute
no_attribute = record { path = no_path; name = 0; owner = 0; value = Whole 0 }

abbrev pub blank_grant : Grant
blank_grant = record { role = 0; action = 0; user = 0; span = record { first = pos 0; last = pos 0 }; messages = 0; agreements = 0 }

abbrev pub blank_permission : Permission
blank_permission = record { path = blank_path; name = 0; grant = blank_grant }

abbrev pub no_permission : Permission
no_permission = record { path = no_path; name = 0; grant = blank_grant }

-- ---- tables
abbrev pub Nodes : Type 0
Nodes = Table Node 64

abbrev pub Attributes : Type 0
Attributes = Table Attribute 256

abbrev pub Permissions : Type 0
Permissions = Table Permission 128

-- what a table must be to be held: so many rows at most, each at a path, in strict order
pub record Fits {P : Type 0} (lt : Row P → Row P → Bool) (n : ℕ) (l : List (Row P)) : Type 0 where
  pub room : length l ≤ n
  pub each : All AtPath l
  pub ascend : Sorted lt l

abbrev pub view_nodes : Nodes → List (Row ℕ)
view_nodes t = map view_node (take t.count t.rows)

abbrev pub nodes_with : List Node → ℕ → Nodes
nodes_with l n = record { rows = l; count = n }

unfoldable pub nodes_of : List (Row ℕ) → Nodes
nodes_of l = nodes_with (slots 64 blank_node (map node_of l)) (length l)

abbrev pub NodesSound : Nodes → Type 0
NodesSound t = Is nodes_of (Fits things.before_node 64) t

abbrev pub view_attributes : Attributes → List (Row things.Attribute)
view_attributes t = map view_attribute (take t.count t.rows)

abbrev pub attributes_with : List Attribute → ℕ → Attributes
attributes_with l n = record { rows = l; count = n }

unfoldable pub attributes_of : List (Row things.Attribute) → Attributes
attributes_of l = attributes_with (slots 256 blank_attribute (map attribute_of l)) (length l)

abbrev pub AttributesSound : Attributes → Type 0
AttributesSound t = Is attributes_of (Fits things.before_attribute 256) t

abbrev pub view_permissions : Permissions → List (Row (ℕ × things.Permission))
view_permissions t = map view_permission (take t.count t.rows)

abbrev pub permissions_with : List Permission → ℕ → Permissions
permissions_with l n = record { rows = l; count = n }

unfoldable pub permissions_of : List (Row (ℕ × things.Permission)) → Permissions
permissions_of l = permissions_with (slots 128 blank_permission (map permission_of l)) (length l)

abbrev pub PermissionsSound : Permissions → Type 0
PermissionsSound t = Is permissions_of (Fits things.before_permission 128) t

-- ---- a dossier and a clipboard
abbrev pub view_dossier : Dossier → things.Dossier
view_dossier d = record { nodes = view_nodes d.nodes; attributes = view_attributes d.attributes; permissions = view_permissions d.permissions }

abbrev pub dossier_of : things.Dossier → Dossier
dossier_of d = record { nodes = nodes_of d.nodes; attributes = attributes_of d.attributes; permissions = permissions_of d.permissions }

-- each table fits: what looking things up needs of a dossier, and less than that it is sound
pub record TablesFit (d : things.Dossier) : Type 0 where
  pub nodes : Fits things.before_node 64 d.nodes
  pub attributes : Fits things.before_attribute 256 d.attributes
  pub permissions : Fits things.before_permission 128 d.permissions

abbrev pub DossierFits : Dossier → Type 0
DossierFits d = Is dossier_of TablesFit d

abbrev pub DossierSound : Dossier → Type 0
DossierSound d = Is dossier_of Sound d

-- a cached attribute is held as its rows at the root's path
abbrev pub single_rows : things.Attribute → List things.Permission → things.Dossier
single_rows a l = record { nodes = []; attributes = ([], a) ∷ []; permissions = map (grant_row [] a.name) l }

abbrev pub clipboard_of : things.Clipboard → Clipboard
clipboard_of things.empty = record { kind = 0; held = dossier_of (record { nodes = []; attributes = []; permissions = [] }) }
clipboard_of (things.branch d) = record { kind = 1; held = dossier_of d }
clipboard_of (things.single a l) = record { kind = 2; held = dossier_of (single_rows a l) }

-- by kind: 1 a branch, 2 the attribute of its one row with its permissions, else empty
abbrev pub view_single : Option (Row things.Attribute) → List (Row (ℕ × things.Permission)) → things.Clipboard
view_single none l = things.empty
view_single (some a) l = things.single a.1 (map (λ r. r.1.1) l)

abbrev pub view_clipboard : Clipboard → things.Clipboard
view_clipboard c =
    pick (eqb c.kind 1) (things.branch (view_dossier c.held))
    (pick (eqb c.kind 2) (view_single (head (view_attributes c.held.attributes)) (view_permissions c.held.permissions)) things.empty)

abbrev pub ClipboardSound : Clipboard → Type 0
ClipboardSound c = Is clipboard_of SoundClipboard c

-- ---- answers
-- a node's owner, or that there is no such node; an attribute's owner and value, or that there is none
abbrev pub owner_of : Option ℕ → rust.Option ℕ
owner_of none = None
owner_of (some u) = Some u

abbrev pub found_of : Option things.Attribute → rust.Option Found
found_of none = None
found_of (some a) = Some (record { owner = a.owner; value = value_of a.value })

abbrev pub names_of : List ℕ → Names
names_of l = record { names = slots 16 0 l; count = length l }
