-- The row that a record of an image is, by its kind; and that kinds never fall. Assumes nothing.
use mathlib.Core.Path.{◌≡◌, refl, sym, ap, ◌∙◌}
use mathlib.Core.Option as math
use mathlib.Core.Option.{none, some}
use mathlib.Core.List.{List}
use Prim.Native.Nat.{ℕ, suc, ◌<◌}
use native.Mathlib.Omega.{arith}
use lib.Dec.{T}
use Rattle.path.specs.declared.Path.{Path}
use Rattle.path.specs.View.{path_of, PathSound}
use Rattle.model.specs.Things as things
use Rattle.model.specs.Things.{Row}
use Rattle.model.specs.Image.{Record, node_record, attribute_record, permission_record, encode}
use Rattle.roundtrip.proofs.Records as laid
use Rattle.roundtrip.proofs.Bytes.{less}
use Rattle.std.proofs.Common.{Option, Some, None}
use Rattle.tables.specs.declared.Node.{Node}
use Rattle.tables.specs.declared.Attribute.{Attribute}
use Rattle.tables.specs.declared.Permission.{Permission}
use Rattle.tables.specs.View.{node_of, attribute_of, permission_of}
use Rattle.parse.specs.declared.Record as parsed
use Rattle.parse.specs.declared.Record.TheVariants as kinds
use Rattle.parse.specs.View.{record_of}
use Rattle.image.specs.Records.{record_at}
use Rattle.image.specs.Rows.{NotOf}
use Rattle.image.proofs.Steps.{record_range, after_record}

-- a record's kind, 0 where there is none
abbrev kind : Option parsed.Record → ℕ
kind None = 0
kind (Some (kinds.Node a)) = 1
kind (Some (kinds.Attribute a)) = 2
kind (Some (kinds.Permission a)) = 3

-- ---- what a record of each kind stands for
pub record IsNode (o : math.Option Record) (a : Node) : Type 0 where
  pub row : Row ℕ
  pub found : o ≡ some (node_record row)
  pub is : a ≡ node_of row

pub record IsAttribute (o : math.Option Record) (a : Attribute) : Type 0 where
  pub row : Row things.Attribute
  pub found : o ≡ some (attribute_record row)
  pub is : a ≡ attribute_of row

pub record IsPermission (o : math.Option Record) (a : Permission) : Type 0 where
  pub row : Row (ℕ × things.Permission)
  pub found : o ≡ some (permission_record row)
  pub is : a ≡ permission_of row

-- two of one kind that are the same
abbrev node_in : Node → Option parsed.Record → Node
node_in d None = d
node_in d (Some (kinds.Node a)) = a
node_in d (Some (kinds.Attribute a)) = d
node_in d (Some (kinds.Permission a)) = d

abbrev attribute_in : Attribute → Option parsed.Record → Attribute
attribute_in d None = d
attribute_in d (Some (kinds.Node a)) = d
attribute_in d (Some (kinds.Attribute a)) = a
attribute_in d (Some (kinds.Permission a)) = d

abbrev permission_in : Permission → Option parsed.Record → Permission
permission_in d None = d
permission_in d (Some (kinds.Node a)) = d
permission_in d (Some (kinds.Attribute a)) = d
permission_in d (Some (kinds.Permission a)) = a

pub is_node : {a : Node} (o : math.Option Record) → Some (kinds.Node a) ≡ record_of o → IsNode o a
is_node none e = absurd (let z : 1 ≡ 0 = ap kind e in omega arith)
is_node {a} (some (node_record r)) e = record { row = r; found = refl; is = ap (node_in a) e }
is_node (some (attribute_record r)) e = absurd (let z : 1 ≡ 2 = ap kind e in omega arith)
is_node (some (permission_record r)) e = absurd (let z : 1 ≡ 3 = ap kind e in omega arith)

pub is_attribute : {a : Attribute} (o : math.Option Record) → Some (kinds.Attribute a) ≡ record_of o → IsAttribute o a
is_attribute none e = absurd (let z : 2 ≡ 0 = ap kind e in omega arith)
is_attribute (some (node_record r)) e = absurd (let z : 2 ≡ 1 = ap kind e in omega arith)
is_attribute {a} (some (attribute_record r)) e = record { row = r; found = refl; is = ap (attribute_in a) e }
is_attribute (some (permission_record r)) e = absurd (let z : 2 ≡ 3 = ap kind e in omega arith)

pub is_permission : {a : Permission} (o : math.Option Record) → Some (kinds.Permission a) ≡ record_of o → IsPermission o a
is_permission none e = absurd (let z : 3 ≡ 0 = ap kind e in omega arith)
is_permission (some (node_record r)) e = absurd (let z : 3 ≡ 1 = ap kind e in omega arith)
is_permission (some (attribute_record r)) e = absurd (let z : 3 ≡ 2 = ap kind e in omega arith)
is_permission {a} (some (permission_record r)) e = record { row = r; found = refl; is = ap (permission_in a) e }

-- a row that was found in a record
pub row_is : {A : Type 0} (make : A → parsed.Record) {r o : Option parsed.Record} {f : parsed.Record} {a : A} → r ≡ Some f → f ≡ make a → r ≡ o → Some (make a) ≡ o
row_is make e f g = sym (e ∙ ap Some f) ∙ g

-- of no kind, no record
pub is_none : (o : math.Option Record) → ((a : Node) → record_of o ≡ Some (kinds.Node a) → ⊥) → ((a : Attribute) → record_of o ≡ Some (kinds.Attribute a) → ⊥)
    → ((a : Permission) → record_of o ≡ Some (kinds.Permission a) → ⊥) → o ≡ none
is_none none f g h = refl
is_none (some (node_record r)) f g h = absurd (f (node_of r) refl)
is_none (some (attribute_record r)) f g h = absurd (g (attribute_of r) refl)
is_none (some (permission_record r)) f g h = absurd (h (permission_of r) refl)

-- the path of a record's struct is sound
pub path_sound : (b : List ℕ) (k : ℕ) (r : Record) {p : Path} → record_at k b ≡ some r → p ≡ path_of (laid.path_of r) → PathSound p
path_sound b k r e h = record { model = laid.path_of r; same = h; fits = laid.path_valid r (record_range b k r e) }

-- ---- the record after one of a kind is of no lesser kind
kinds_rise : (r z : Record) → T (less (encode r) (encode z)) → laid.kind_of z < laid.kind_of r → ⊥
kinds_rise (node_record r) (node_record z) t h = omega arith
kinds_rise (node_record r) (attribute_record z) t h = omega arith
kinds_rise (node_record r) (permission_record z) t h = omega arith
kinds_rise (attribute_record r) (node_record z) t h = t
kinds_rise (attribute_record r) (attribute_record z) t h = omega arith
kinds_rise (attribute_record r) (permission_record z) t h = omega arith
kinds_rise (permission_record r) (node_record z) t h = t
kinds_rise (permission_record r) (attribute_record z) t h = t
kinds_rise (permission_record r) (permission_record z) t h = omega arith

kind_of_lem : (r : Record) → kind (record_of (some r)) ≡ laid.kind_of r
kind_of_lem (node_record r) = refl
kind_of_lem (attribute_record r) = refl
kind_of_lem (permission_record r) = refl

-- behind record k, of a later kind, comes none of the kind numbered m
not_behind : {A : Type 0} (make : A → parsed.Record) (m : ℕ) → ((a : A) → kind (Some (make a)) ≡ m) → (b : List ℕ) (n k : ℕ) (r : Record) → record_at k b ≡ some r → 0 < m → m < laid.kind_of r
    → NotOf make b n (suc k)
not_behind {A} make m is b n k r e p h q a f = go (record_at (suc k) b) refl f
  where
    go : (o : math.Option Record) → record_at (suc k) b ≡ o → record_of o ≡ Some (make a) → ⊥
    go none d g = let z : 0 ≡ m = ap kind g ∙ is a in omega arith
    go (some z) d g = let y : laid.kind_of z ≡ m = sym (kind_of_lem z) ∙ ap kind g ∙ is a in kinds_rise r z (after_record b k r z e d) (omega arith)

pub no_node_after : (b : List ℕ) (n k : ℕ) (r : Record) → record_at k b ≡ some r → 1 < laid.kind_of r → NotOf kinds.Node b n (suc k)
no_node_after b n k r e h = not_behind kinds.Node 1 (λ a. refl) b n k r e (omega arith) h

pub no_attribute_after : (b : List ℕ) (n k : ℕ) (r : Record) → record_at k b ≡ some r → 2 < laid.kind_of r → NotOf kinds.Attribute b n (suc k)
no_attribute_after b n k r e h = not_behind kinds.Attribute 2 (λ a. refl) b n k r e (omega arith) h
