-- A walk over the rows of a table: the row looked at, and a count or the deepest path so far. Assumes nothing.
use mathlib.Core.Path.{◌≡◌, sym, ap, subst, ◌∙◌}
use mathlib.Core.Bool.{Bool, true, false}
use mathlib.Core.Option.{Option}
use mathlib.Core.List.{List, [], ◌∷◌, map}
use Prim.Native.Nat.{ℕ, ◌+◌, ◌-◌, ◌<◌, max}
use native.Mathlib.Omega.{arith}
use lib.ListN.{length, take, drop, get_or, length-take}
use lib.Seq.{get_or-take}
use Rattle.std.specs.Prelude.{Some, None}
use Rattle.std.specs.List.{slice_get}
use Rattle.std.specs.Ordering.{ord_max, nat_cmp}
use Rattle.std.proofs.lemmas.Option.{get_or_from_slice_get}
use Rattle.laws.specs.Slots.{Is}
use Rattle.laws.proofs.Fill.{Held, held_each, held_next}
use Rattle.model.specs.Image.{there}
use Rattle.tables.proofs.Asked.{Counts, count_hit, count_miss}

module _ {S M : Type 0} {of : M → S} {P : M → Type 0} {n : ℕ} {b : S} {rows : List S} {count : ℕ} (h : Held of P n b rows count) (i : ℕ) (d : S) (m : i < length (take count rows)) where
  inside : i < count
  inside = let l = length-take count rows in omega arith

  pub row_each : Is of P (get_or (take count rows) i d)
  row_each = subst (Is of P) (sym (get_or-take count rows i d inside)) (held_each _ _ _ _ _ _ h i d inside)

  module _ (v : S → M) where
    pub row_next : drop i (map v (take count rows)) ≡ v (get_or (take count rows) i d) ∷ drop (i + 1) (map v (take count rows))
    row_next = held_next _ _ _ _ _ _ h v i d inside ∙ ap (λ x. v x ∷ drop (i + 1) (map v (take count rows))) (sym (get_or-take count rows i d inside))

    -- the test r says whether the row gives anything
    module _ {B : Type 0} (f : M → Option B) {k j : ℕ} (c : Counts f (map v (take count rows)) i k) {r : Bool} (e : r ≡ there (f (v (get_or (take count rows) i d)))) where
      pub hit : r ≡ true → j ≡ k + 1 → Counts f (map v (take count rows)) (i + 1) j
      hit t q = subst (Counts f (map v (take count rows)) (i + 1)) (sym q) (count_hit _ _ i k c (v (get_or (take count rows) i d)) row_next (sym e ∙ t))

      pub miss : r ≡ false → j ≡ k → Counts f (map v (take count rows)) (i + 1) j
      miss t q = subst (Counts f (map v (take count rows)) (i + 1)) (sym q) (count_miss _ _ i k c (v (get_or (take count rows) i d)) row_next (sym e ∙ t))

-- the last row of a table that has one
pub last_row : {S : Type 0} (l : List S) (x : S) → Some x ≡ slice_get l (length l - 1) → (length l - 1 < length l) × (x ≡ get_or l (length l - 1) x)
last_row [] x e = absurd (no_some e)
  where
    no_some : {A : Type 0} {y : A} → Some y ≡ None → ⊥
    no_some f = let z : ◌≡◌ {A = ℕ} 0 1 = cc in omega arith
last_row (y ∷ l) x e = (omega arith, sym (get_or_from_slice_get (y ∷ l) (length (y ∷ l) - 1) x x (sym e)))

pub ord_max_is : (a b : ℕ) → ord_max nat_cmp a b ≡ max a b
ord_max_is a b = grind arith
