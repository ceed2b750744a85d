-- The tables as an image is read: its nodes, then its attributes, then its permissions, each row behind those that are there.
use Rattle.std.specs.Prelude.{◌≡◌, Bool, ◌&&◌, ◌||◌, List, [], ℕ, ◌≤◌, ◌<◌, ◌-◌, T, eqb, ltb, length, get_or, Some}
use Rattle.laws.specs.Sorted.{◌∈◌}
use Rattle.path.specs.declared.Path.{Path}
use Rattle.path.specs.Address.{Address, before, parent}
use Rattle.path.specs.View.{steps, PathSound}
use Rattle.model.specs.Things as things
use Rattle.model.specs.Things.{Row}
use Rattle.model.specs.Moves.{owner_in, attribute_in, names_in}
use Rattle.model.specs.Image.{node_fits, attribute_fits, left, there}
use Rattle.tables.specs.declared.Attribute.{Attribute}
use Rattle.tables.specs.View.{Nodes}
use Rattle.tables.specs.View.{Attributes, no_attribute}
use Rattle.tables.specs.View.{Permissions}
use Rattle.tables.specs.View.{view_nodes, NodesSound, view_attributes, AttributesSound, view_permissions, PermissionsSound}
use Rattle.tables.specs.Places.{before_object, of_permission}
use Rattle.parse.specs.declared.Record.{Record}
use Rattle.parse.specs.declared.Record.TheVariants as kinds
use Rattle.parse.specs.View.{record_of}
use Rattle.image.specs.Records.{record_at, Upto}

-- no row is at a path that comes after p
abbrev pub NoneAfter : {P : Type 0} → Address → List (Row P) → Type 0
NoneAfter {P} p l = (r : Row P) → r ∈ l → T (before p r.0) → ⊥

-- no row's object comes after o
abbrev pub NoObjectAfter : Address × ℕ → List (Row (ℕ × things.Permission)) → Type 0
NoObjectAfter o l = (r : Row (ℕ × things.Permission)) → r ∈ l → T (before_object o (of_permission r)) → ⊥

-- what the rules ask of a node and of an attribute, of the rows that are there
abbrev pub node_fits_in : Address → List (Row ℕ) → Bool
node_fits_in p l = node_fits p (there (owner_in p l)) (there (owner_in (parent p) l)) (there (owner_in (left p) l)) (length l)

abbrev pub attribute_fits_in : Address → ℕ → List (Row ℕ) → List (Row things.Attribute) → Bool
attribute_fits_in p name nodes l = attribute_fits (there (owner_in p nodes)) (there (attribute_in p name l)) (length l) (length (names_in p l))

-- the paths of the rows are sound
abbrev pub PathsSound : List Attribute → Type 0
PathsSound l = (i : ℕ) → i < length l → PathSound (get_or l i no_attribute).path

-- the row n places before the end, or the first where there are fewer
abbrev pub from_end : ℕ → List Attribute → Attribute
from_end n l = get_or l (length l - n) no_attribute

-- the same of an attribute behind so many rows, by the last row and the row 16 places before the end
abbrev pub attribute_tests : Bool → ℕ → Attribute → Attribute → Path → ℕ → Bool
attribute_tests node count last far p name =
    node && ((eqb count 0 || before_object (steps last.path, last.name) (steps p, name)) && (ltb count 256 && (ltb count 16 || before (steps far.path) (steps p))))

-- record k, if there is one, is not of that kind
abbrev pub NotOf : {A : Type 0} → (A → Record) → List ℕ → ℕ → ℕ → Type 0
NotOf {A} kind b n k = k < n → (a : A) → record_of (record_at k b) ≡ Some (kind a) → ⊥

-- ---- the nodes: k of n records are read
pub record NodesUpto (b : List ℕ) (n k : ℕ) (t : Nodes) : Type 0 where
  pub inside : k ≤ n
  pub sound : NodesSound t
  pub upto : Upto b k (record { nodes = view_nodes t; attributes = []; permissions = [] })

pub record NodesDone (b : List ℕ) (n k : ℕ) (t : Nodes) : Type 0 where
  pub read : NodesUpto b n k t
  pub no_node : NotOf kinds.Node b n k

-- ---- the attributes
pub record AttributesUpto (b : List ℕ) (n k : ℕ) (nodes : Nodes) (t : Attributes) : Type 0 where
  pub inside : k ≤ n
  pub on : NodesSound nodes
  pub sound : AttributesSound t
  pub upto : Upto b k (record { nodes = view_nodes nodes; attributes = view_attributes t; permissions = [] })
  pub no_node : NotOf kinds.Node b n k

pub record AttributesDone (b : List ℕ) (n k : ℕ) (nodes : Nodes) (t : Attributes) : Type 0 where
  pub read : AttributesUpto b n k nodes t
  pub no_attribute : NotOf kinds.Attribute b n k

-- ---- the permissions
pub record PermissionsUpto (b : List ℕ) (n k : ℕ) (nodes : Nodes) (attributes : Attributes) (t : Permissions) : Type 0 where
  pub inside : k ≤ n
  pub on : NodesSound nodes
  pub of : AttributesSound attributes
  pub sound : PermissionsSound t
  pub upto : Upto b k (record { nodes = view_nodes nodes; attributes = view_attributes attributes; permissions = view_permissions t })
  pub no_node : NotOf kinds.Node b n k
  pub no_attribute : NotOf kinds.Attribute b n k
