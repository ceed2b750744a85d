-- Tables of any rows and the model: the table that stands for a list of rows, what a table is seen as, and what it must be to be held.
use Rattle.std.specs.Prelude.{◌≡◌, Bool, List, map, ℕ, ltb, ◌+◌, ◌≤◌, take, length, Option, None, Some}
use Rattle.std.proofs.Math.Option as math
use Rattle.laws.specs.Slots.{slots, Is}
use Rattle.laws.specs.Sorted.{◌∈◌, StrictOrder, Sorted, Disjoint}
use Rattle.laws.specs.Order.{lt_pair}
use Rattle.path.specs.Address.{before}
use Rattle.model.specs.Things.{Row, Permission, lt_permission}
use Rattle.tables.specs.declared.Table.{Table}
use Rattle.tables.specs.View.{AtPath, Fits}

-- rows by their paths, then by what stands there
abbrev pub row_lt : {P : Type 0} → (P → P → Bool) → Row P → Row P → Bool
row_lt lt = lt_pair before lt

-- of two permissions at one path: by name, then by the permission
abbrev pub lt_named : ℕ × Permission → ℕ × Permission → Bool
lt_named = lt_pair ltb lt_permission

-- not the same row
abbrev pub Differ : {A : Type 0} → A → A → Type 0
Differ r s = r ≡ s → ⊥

abbrev pub table_with : {S : Type 0} (n : ℕ) → List S → ℕ → Table S n
table_with n l k = record { rows = l; count = k }

module _ {S P : Type 0} where
  abbrev pub RowSound : (Row P → S) → S → Type 0
  RowSound of s = Is of AtPath s

  abbrev pub seen : {n : ℕ} → (S → Row P) → Table S n → List (Row P)
  seen view t = map view (take t.count t.rows)

  abbrev pub table_of : (n : ℕ) → S → (Row P → S) → List (Row P) → Table S n
  table_of n b of l = table_with n (slots n b (map of l)) (length l)

  abbrev pub TableSound : (n : ℕ) → S → (Row P → S) → (P → P → Bool) → Table S n → Type 0
  TableSound n b of lt t = Is (table_of n b of) (Fits (row_lt lt) n) t

  -- seeing undoes standing for; rows are in a strict order; no row is apart from itself
  pub record RowLaws (of : Row P → S) (view : S → Row P) (lt : P → P → Bool) (apart : Row P → Row P → Type 0) : Type 0 where
    pub back : (r : Row P) → view (of r) ≡ r
    pub order : StrictOrder lt
    pub itself : (r : Row P) → apart r r → ⊥

-- ---- what a function of rows does, as the model has it
abbrev pub Step : Type 0 → Type 0
Step P = Row P → math.Option (Row P)

module _ {S P : Type 0} where
  abbrev pub given : (Row P → S) → math.Option (Row P) → Option S
  given of math.none = None
  given of (math.some r) = Some (of r)

  -- each answer for a sound row is what g has of it
  abbrev pub Gives : (Row P → S) → (S → Row P) → (S → Option S → Type 0) → Step P → Type 0
  Gives of view post g = (s : S) (o : Option S) → RowSound of s → post s o → o ≡ given of (g (view s))

  -- rows that are put among those of a table: both in order, none in both, and how a test compares one with another
  pub record Merging (n : ℕ) (b : S) (of : Row P → S) (view : S → Row P) (lt : P → P → Bool) (pre : S → S → Type 0) (post : S → S → Bool → Type 0) (c : List S) (t : Table S n) : Type 0 where
    pub new : c ≡ map of (map view c)
    pub table : t ≡ table_of n b of (seen view t)
    pub room : length c + t.count ≤ n
    pub ascend_new : Sorted (row_lt lt) (map view c)
    pub ascend : Sorted (row_lt lt) (seen view t)
    pub disjoint : Disjoint (map view c) (seen view t)
    pub callable : (x y : Row P) → x ∈ map view c → y ∈ seen view t → pre (of x) (of y)
    pub compares : (x y : Row P) (r : Bool) → x ∈ map view c → y ∈ seen view t → post (of x) (of y) r → r ≡ row_lt lt x y
