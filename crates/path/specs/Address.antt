-- Addresses, their order, and how they move: document 01, "How addresses move", for any length.
use Rattle.std.specs.Prelude.{Bool, true, false, ◌&&◌, List, [], ◌∷◌, ◌++◌, ℕ, ◌+◌, ◌-◌, eqb, leb, ltb, length}
use Rattle.std.proofs.Math.Option.{Option, none, some}
use Rattle.laws.specs.Slots.{pick}
use Rattle.laws.specs.Order.{lt_list, lt_pair}

-- an address such as 2.1.4: its steps; the root is empty
abbrev pub Address : Type 0
Address = List ℕ

-- ---- what a path must be
-- "each 1..32"
abbrev pub steps_good : Address → Bool
steps_good [] = true
steps_good (s ∷ p) = (leb 1 s && leb s 32) && steps_good p

-- "0 to 6 steps, each 1..32; root is empty"
abbrev pub valid : Address → Bool
valid p = leb (length p) 6 && steps_good p

-- ---- questions
abbrev pub same : Address → Address → Bool
same [] [] = true
same [] (y ∷ q) = false
same (x ∷ p) [] = false
same (x ∷ p) (y ∷ q) = pick (eqb x y) (same p q) false

-- image order: the length, then the steps in turn, as numbers
abbrev pub before : Address → Address → Bool
before p q = lt_pair ltb (lt_list ltb) (length p, p) (length q, q)

-- p is q or below q
abbrev pub under : Address → Address → Bool
under [] p = true
under (x ∷ q) [] = false
under (x ∷ q) (y ∷ p) = pick (eqb x y) (under q p) false

-- ---- parts: the parent and the last step of an address that is not the root's
abbrev pub parent : Address → Address
parent [] = []
parent (x ∷ []) = []
parent (x ∷ y ∷ p) = x ∷ parent (y ∷ p)

abbrev pub last : Address → ℕ
last [] = 0
last (x ∷ []) = x
last (x ∷ y ∷ p) = last (y ∷ p)

abbrev pub child : Address → ℕ → Address
child p s = p ++ (s ∷ [])

-- ---- moves
-- p is of length ≥ k, the length of q, and agrees with q in its first k − 1 steps
abbrev pub beside : Address → Address → Bool
beside [] p = false
beside (x ∷ []) [] = false
beside (x ∷ []) (y ∷ p) = true
beside (x ∷ x' ∷ q) [] = false
beside (x ∷ x' ∷ q) (y ∷ p) = pick (eqb x y) (beside (x' ∷ q) p) false

-- p, with f done to its step k where p is beside q; f is handed q's step k and p's
abbrev pub at_last : (ℕ → ℕ → ℕ) → Address → Address → Address
at_last f [] p = p
at_last f (x ∷ []) [] = []
at_last f (x ∷ []) (y ∷ p) = f x y ∷ p
at_last f (x ∷ x' ∷ q) [] = []
at_last f (x ∷ x' ∷ q) (y ∷ p) = y ∷ pick (eqb x y) (at_last f (x' ∷ q) p) p

-- "has step k ≥ that of q gets step k one higher"
abbrev pub higher : ℕ → ℕ → ℕ
higher x y = pick (leb x y) (y + 1) y

-- "with step k greater gets it one lower"
abbrev pub lower : ℕ → ℕ → ℕ
lower x y = pick (ltb x y) (y - 1) y

-- add or paste at q
abbrev pub up : Address → Address → Address
up q p = at_last higher q p

-- delete at q, of what stays
abbrev pub fall : Address → Address → Address
fall q p = at_last lower q p

-- delete at q: "objects at or below q go"; the others stay, moved or not
abbrev pub down : Address → Address → Option Address
down q p = pick (under q p) none (some (fall q p))

-- copy: "prefix removed"; nothing for what is not at or below q
abbrev pub off : Address → Address → Option Address
off [] p = some p
off (x ∷ q) [] = none
off (x ∷ q) (y ∷ p) = pick (eqb x y) (off q p) none

-- paste: "puts the prefix of the new place"
abbrev pub on : Address → Address → Address
on q p = q ++ p

-- an address that is too deep is none
abbrev pub in_depth : Address → Option Address
in_depth p = pick (leb (length p) 6) (some p) none
