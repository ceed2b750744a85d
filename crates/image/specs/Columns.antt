-- A table's rows by their numbers alone, so that a lookup is lent a column and takes no table: the numbers of the rows' paths, or those each with a name.
use Rattle.std.specs.Prelude.{◌≡◌, refl, Bool, true, false, not, ◌&&◌, ◌||◌, List, [], ◌∷◌, map, ℕ, ◌<◌, eqb, ltb, length}
use Rattle.laws.specs.Sorted.{◌∈◌, Sorted}
use Rattle.laws.specs.Order.{lt_pair}
use Rattle.path.specs.Address.{Address, parent}
use Rattle.path.specs.Packed.{number}
use Rattle.model.specs.Things.{Row, Attribute}
use Rattle.model.specs.Image.{node_fits, left}

-- whether the test holds of an element
abbrev pub any_of : {A : Type 0} → (A → Bool) → List A → Bool
any_of b [] = false
any_of b (x ∷ l) = b x || any_of b l

-- no element comes before one that stands ahead of it
abbrev pub Rises : {A : Type 0} → (A → A → Bool) → List A → Type 0
Rises lt l = Sorted (λ x y. not (lt y x)) l

-- whether a number is in a column
abbrev pub among : ℕ → List ℕ → Bool
among k l = any_of (λ x. eqb x k) l

-- no number of the column is above k
abbrev pub NoneAbove : ℕ → List ℕ → Type 0
NoneAbove k l = (x : ℕ) → x ∈ l → k < x → ⊥

-- by the first number, then by the one beside it
abbrev pub before_pair : ℕ × ℕ → ℕ × ℕ → Bool
before_pair = lt_pair ltb ltb

-- whether two numbers stand side by side in the column
abbrev pub pair_among : ℕ × ℕ → List (ℕ × ℕ) → Bool
pair_among o l = any_of (λ x. eqb x.0 o.0 && eqb x.1 o.1) l

-- ---- the columns of a table's rows
-- the numbers of the rows' paths
abbrev pub keys_of : {P : Type 0} → List (Row P) → List ℕ
keys_of l = map (λ r. number r.0) l

-- the numbers of attributes' paths, each with its name
abbrev pub objects_of : List (Row Attribute) → List (ℕ × ℕ)
objects_of l = map (λ r. (number r.0, r.1.name)) l

-- what the rules ask of a node, by the column of the nodes that are there
abbrev pub node_fits_among : Address → List ℕ → Bool
node_fits_among p l = node_fits p (among (number p) l) (among (number (parent p)) l) (among (number (left p)) l) (length l)

-- ---- examples
among_yes : among 5 (3 ∷ 5 ∷ []) ≡ true
among_yes = refl

pair_no : pair_among (5, 1) ((3, 1) ∷ (5, 2) ∷ []) ≡ false
pair_no = refl

pair_yes : pair_among (5, 2) ((3, 1) ∷ (5, 2) ∷ []) ≡ true
pair_yes = refl
