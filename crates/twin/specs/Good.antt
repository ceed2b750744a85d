-- What the second dossier stands for in the first one's tables, and what holds of every tree that the calls can leave.
use Rattle.std.specs.Prelude.{List, [], ◌∷◌, map, ℕ, ◌≤◌, ◌≡◌, T, length}
use Rattle.laws.specs.Sorted.{◌∈◌}
use Rattle.model.specs.Things.{Permission, Dossier, Clipboard, State}
use Rattle.model.specs.Things as things
use Rattle.model.specs.Decide.{clash_any}
use Rattle.model.specs.Refusals.{user_good, name_good, value_good, permission_good}
use Rattle.twin.specs.Tree.{Tree, Forest, node, fnil, fcons, payload, kids, count, height, weigh}
use Rattle.twin.specs.Twin.{Holding, Node, Clip, empty, branched, single, Session, plain, in_order, node_items, attribute_items, permission_items, node_rows, attribute_rows, permission_rows}

-- ---- the tables of a tree, and of a session
abbrev pub dossier_of : Tree Node → Dossier
dossier_of t = record { nodes = node_rows t; attributes = attribute_rows t; permissions = permission_rows t }

abbrev pub clipboard_of : Clip → Clipboard
clipboard_of empty = things.empty
clipboard_of (branched t) = things.branch (dossier_of t)
clipboard_of (single a) = things.single (plain a) (in_order a.permissions)

abbrev pub state_of : Session → State
state_of s =
    record { one = dossier_of s.one; two = dossier_of s.two; clipboard = clipboard_of s.clipboard; signatures = s.signatures; log = s.log }

-- ---- Q holds of the tree and of every branch of it
module _ {P : Type 0} (Q : Tree P → Type 0) where
  abbrev mutual
    pub Each : Tree P → Type 0
    Each (node p f) = Q (node p f) × EachF f

    pub EachF : Forest P → Type 0
    EachF fnil = Unit {0}
    EachF (fcons t f) = Each t × EachF f

abbrev pub NoClash : List Permission → Type 0
NoClash [] = Unit {0}
NoClash (g ∷ l) = (T (clash_any g l) → ⊥) × NoClash l

-- nothing twice
abbrev pub Distinct : {A : Type 0} → List A → Type 0
Distinct [] = Unit {0}
Distinct (x ∷ l) = (x ∈ l → ⊥) × Distinct l

-- the permissions of an object: name 0 for a node
pub record GoodPermissions (name : ℕ) (l : List Permission) : Type 0 where
  pub each : (g : Permission) → g ∈ l → T (permission_good name g)
  pub no_clash : NoClash l

pub record GoodHolding (a : Holding) : Type 0 where
  pub name : T (name_good a.name)
  pub owner : T (user_good a.owner)
  pub value : T (value_good a.value)
  pub permissions : GoodPermissions a.name a.permissions

pub record GoodNode (n : Node) : Type 0 where
  pub owner : T (user_good n.owner)
  pub permissions : GoodPermissions 0 n.permissions
  pub attributes : (a : Holding) → a ∈ n.attributes → GoodHolding a
  pub distinct : Distinct (map (λ a. a.name) n.attributes)
  pub few : length n.attributes ≤ 16

pub record GoodTop (t : Tree Node) : Type 0 where
  pub node : GoodNode (payload t)
  pub narrow : count (kids t) ≤ 32

pub record GoodTree (t : Tree Node) : Type 0 where
  pub each : Each GoodTop t
  pub low : height t ≤ 6
  pub few_nodes : weigh node_items t ≤ 64
  pub few_attributes : weigh attribute_items t ≤ 256
  pub few_permissions : weigh permission_items t ≤ 128

pub record GoodSingle (a : Holding) : Type 0 where
  pub holding : GoodHolding a
  pub few : length a.permissions ≤ 128

abbrev pub GoodClip : Clip → Type 0
GoodClip empty = Unit {0}
GoodClip (branched t) = GoodTree t
GoodClip (single a) = GoodSingle a

pub record GoodSession (s : Session) : Type 0 where
  pub one : GoodTree s.one
  pub two : GoodTree s.two
  pub clipboard : GoodClip s.clipboard
  pub rows : length s.signatures ≡ 64
  pub agreements : (n : ℕ) → n ∈ s.signatures → n ≤ 4294967295
  pub entries : length s.log ≤ 256
  pub log : (e : ℕ × ℕ) → e ∈ s.log → T (user_good e.0) × (e.1 ≤ 31)
