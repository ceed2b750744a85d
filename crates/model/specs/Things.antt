-- What a session holds (document 01, "What a session holds").
use Rattle.std.specs.Prelude.{Bool, true, false, List, [], ◌∷◌, ℕ, ℤ, pos, negsuc, Float, ltb, replicate}
use Rattle.std.specs.Float.{nan, inf, fin}
use Rattle.laws.specs.Order.{lt_list, lt_pair}
use Rattle.path.specs.Address.{Address, before}

-- "a whole number 0..4294967295 or a measured reading in 32-bit floating point"
pub data Value : Type 0 where
  whole : ℕ → Value
  reading : Float → Value

-- "each node has attributes (name and value)"; "Each object has one owner"
pub record Attribute : Type 0 where
  pub name : ℕ
  pub owner : ℕ
  pub value : Value

-- "role, object, action, condition, provisions", the object aside; user 0 is any user, messages and agreements are sets, bit n for number n
pub record Permission : Type 0 where
  pub role : ℕ
  pub action : ℕ
  pub user : ℕ
  pub first : ℤ
  pub last : ℤ
  pub messages : ℕ
  pub agreements : ℕ

-- what stands at a path
abbrev pub Row : Type 0 → Type 0
Row P = Address × P

-- a node's row has its owner; a permission's row has its object's name (0: the node itself) and the permission
pub record Dossier : Type 0 where
  pub nodes : List (Row ℕ)
  pub attributes : List (Row Attribute)
  pub permissions : List (Row (ℕ × Permission))

-- "The clipboard is empty, holds a branch, or holds one attribute"
pub data Clipboard : Type 0 where
  empty : Clipboard
  branch : Dossier → Clipboard
  single : Attribute → List Permission → Clipboard

-- "Two open dossiers (numbered 1 and 2), one clipboard, one signature table, one log"
pub record State : Type 0 where
  pub one : Dossier
  pub two : Dossier
  pub clipboard : Clipboard
  pub signatures : List ℕ
  pub log : List (ℕ × ℕ)

-- "a bare root owned by" a user
abbrev pub bare : ℕ → Dossier
bare u = record { nodes = ([], u) ∷ []; attributes = []; permissions = [] }

-- "A fresh session has two dossiers of a bare root owned by user 1, and empty clipboard, signatures and log"
abbrev pub fresh : State
fresh = record { one = bare 1; two = bare 1; clipboard = empty; signatures = replicate 64 0; log = [] }

-- ---- the order of rows: by path, then as the fields of their records compare
-- "Times are in two's complement": those below 0 come after the others
abbrev pub lt_time : ℤ → ℤ → Bool
lt_time (pos a) (pos b) = ltb a b
lt_time (pos a) (negsuc b) = true
lt_time (negsuc a) (pos b) = false
lt_time (negsuc a) (negsuc b) = ltb b a

-- no two attributes share path and name: what follows the name only makes the order total
abbrev pub sign_of : Bool → ℕ
sign_of true = 1
sign_of false = 0

abbrev pub code_reading : Float → List ℕ
code_reading nan = 0 ∷ []
code_reading (inf s) = 1 ∷ sign_of s ∷ []
code_reading (fin s m (pos e)) = 2 ∷ sign_of s ∷ m ∷ e ∷ []
code_reading (fin s m (negsuc e)) = 3 ∷ sign_of s ∷ m ∷ e ∷ []

abbrev pub code_value : Value → List ℕ
code_value (whole n) = 1 ∷ n ∷ []
code_value (reading x) = 2 ∷ code_reading x

abbrev pub lt_attribute : Attribute → Attribute → Bool
lt_attribute a b = lt_list ltb (a.name ∷ a.owner ∷ code_value a.value) (b.name ∷ b.owner ∷ code_value b.value)

abbrev pub Fields : Type 0
Fields = List ℕ × (ℤ × (ℤ × List ℕ))

abbrev pub fields : Permission → Fields
fields p = (p.role ∷ p.action ∷ p.user ∷ [], (p.first, (p.last, p.messages ∷ p.agreements ∷ [])))

abbrev pub lt_fields : Fields → Fields → Bool
lt_fields = lt_pair (lt_list ltb) (lt_pair lt_time (lt_pair lt_time (lt_list ltb)))

abbrev pub lt_permission : Permission → Permission → Bool
lt_permission p q = lt_fields (fields p) (fields q)

abbrev pub before_node : Row ℕ → Row ℕ → Bool
before_node = lt_pair before ltb

abbrev pub before_attribute : Row Attribute → Row Attribute → Bool
before_attribute = lt_pair before lt_attribute

abbrev pub before_permission : Row (ℕ × Permission) → Row (ℕ × Permission) → Bool
before_permission = lt_pair before (lt_pair ltb lt_permission)
