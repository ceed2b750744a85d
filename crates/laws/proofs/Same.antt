-- The test whether two lists of bytes are the same says exactly that. Assumes nothing.
use mathlib.Core.Path.{◌≡◌, refl}
use mathlib.Core.List.{List, [], ◌∷◌}
use Prim.Native.Nat.{ℕ}
use lib.Dec.{T, eqb, eqb→eq, eqb_refl}
use mir.Facts.{and_yes, yes_and}
use Rattle.laws.specs.Slots.{same_bytes}

pub same_bytes_lem : (b : List ℕ) → T (same_bytes b b)
same_bytes_lem [] = tt
same_bytes_lem (x ∷ b) = yes_and (eqb x x) (same_bytes b b) (eqb_refl x) (same_bytes_lem b)

pub bytes_same : (a b : List ℕ) → T (same_bytes a b) → a ≡ b
bytes_same [] [] t = refl
bytes_same [] (y ∷ b) t = absurd t
bytes_same (x ∷ a) [] t = absurd t
bytes_same (x ∷ a) (y ∷ b) t = let w = and_yes (eqb x y) (same_bytes a b) t in λ i. eqb→eq x y w.0 i ∷ bytes_same a b w.1 i
