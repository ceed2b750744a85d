-- A sound state: what document 01 says of every dossier, clipboard, signature table and log.
use Rattle.std.specs.Prelude.{◌≡◌, ◌||◌, List, [], ℕ, ◌≤◌, T, eqb, length}
use Rattle.laws.specs.Sorted.{◌∈◌, Sorted}
use Rattle.path.specs.Address.{Address, parent, last}
use Rattle.model.specs.Things.{Attribute, Permission, Row, Dossier, Clipboard, empty, branch, single, State, before_node, before_attribute, before_permission, lt_permission}
use Rattle.model.specs.Decide.{clash}
use Rattle.model.specs.Moves.{node_at, object_at, names_on, grant_row}
use Rattle.model.specs.Refusals.{user_good, is_root}
use Rattle.model.specs.Image.{node_record, attribute_record, permission_record, in_range, left, there}

pub record Sound (d : Dossier) : Type 0 where
  -- tables in strict order
  pub nodes_ascend : Sorted before_node d.nodes
  pub attributes_ascend : Sorted before_attribute d.attributes
  pub permissions_ascend : Sorted before_permission d.permissions
  -- every field in its range, readings finite
  pub nodes_good : (r : Row ℕ) → r ∈ d.nodes → T (in_range (node_record r))
  pub attributes_good : (r : Row Attribute) → r ∈ d.attributes → T (in_range (attribute_record r))
  pub permissions_good : (r : Row (ℕ × Permission)) → r ∈ d.permissions → T (in_range (permission_record r))
  -- the root is there, and of every other node the parent and the left sibling
  pub root : T (there (node_at [] d))
  pub above : (r : Row ℕ) → r ∈ d.nodes → T (is_root r.0 || there (node_at (parent r.0) d))
  pub left_there : (r : Row ℕ) → r ∈ d.nodes → T (is_root r.0 || (eqb (last r.0) 1 || there (node_at (left r.0) d)))
  -- an attribute's node and a permission's object are there
  pub on_node : (r : Row Attribute) → r ∈ d.attributes → T (there (node_at r.0 d))
  pub on_object : (r : Row (ℕ × Permission)) → r ∈ d.permissions → T (there (object_at r.0 r.1.0 d))
  -- one owner for a node, one attribute for a name, no clash
  pub one_node : (p : Address) (o o' : ℕ) → (p, o) ∈ d.nodes → (p, o') ∈ d.nodes → o ≡ o'
  pub one_attribute : (p : Address) (a b : Attribute) → (p, a) ∈ d.attributes → (p, b) ∈ d.attributes → a.name ≡ b.name → a ≡ b
  pub no_clash : (p : Address) (n : ℕ) (g h : Permission) → grant_row p n g ∈ d.permissions → grant_row p n h ∈ d.permissions → T (clash g h) → g ≡ h
  -- bounds
  pub few_nodes : length d.nodes ≤ 64
  pub few_attributes : length d.attributes ≤ 256
  pub few_on_node : (p : Address) → length (names_on p d) ≤ 16
  pub few_permissions : length d.permissions ≤ 128

-- an attribute on the clipboard with its permissions
pub record SoundSingle (a : Attribute) (l : List Permission) : Type 0 where
  pub attribute_good : T (in_range (attribute_record ([], a)))
  pub ascend : Sorted lt_permission l
  pub permissions_good : (g : Permission) → g ∈ l → T (in_range (permission_record (grant_row [] a.name g)))
  pub no_clash : (g h : Permission) → g ∈ l → h ∈ l → T (clash g h) → g ≡ h
  pub few : length l ≤ 128

abbrev pub SoundClipboard : Clipboard → Type 0
SoundClipboard empty = Unit {0}
SoundClipboard (branch d) = Sound d
SoundClipboard (single a l) = SoundSingle a l

pub record SoundState (s : State) : Type 0 where
  pub one : Sound s.one
  pub two : Sound s.two
  pub clipboard : SoundClipboard s.clipboard
  -- one row of agreements for each user
  pub rows : length s.signatures ≡ 64
  pub agreements : (n : ℕ) → n ∈ s.signatures → n ≤ 4294967295
  -- at most 256 entries of a user and a message
  pub entries : length s.log ≤ 256
  pub log : (e : ℕ × ℕ) → e ∈ s.log → T (user_good e.0) × (e.1 ≤ 31)
