-- Values from a kind and 32 bits: which patterns are finite readings, and what the tests pick. Assumes nothing.
use mathlib.Core.Path.{◌≡◌, refl, sym, ap, subst, ◌∙◌}
use mathlib.Core.Bool.{Bool, true, false, not}
use mathlib.Core.Option.{none, some}
use Prim.Native.Nat.{ℕ, ◌≤◌, ◌<◌, ◌%◌}
use lib.Dec.{T}
use lib.Ieee.{Float, nan, inf, fin, is_nan, nan_bits, of_bits, binary32}
use lib.Ieee.Bits.{nan_bits_is, nan_bits_above}
use borrow.Author.Tests.{lt-ltb, le-ltb, ne_eqb}
use Rattle.laws.specs.Slots.{pick}
use Rattle.path.proofs.Structs.{no}
use Rattle.model.specs.Things.{reading}
use Rattle.model.specs.Refusals.{finite}
use Rattle.parse.specs.Fields.{value_from}

-- ---- NaN
pub finite_number : (x : Float) → T (finite x) → T (not (is_nan x))
unfolding is_nan
finite_number nan h = absurd h
finite_number (inf s) h = tt
finite_number (fin s m e) h = tt

nan_not : (x : Float) → is_nan x ≡ true → finite x ≡ false
unfolding is_nan
nan_not nan h = refl
nan_not (inf s) h = refl
nan_not (fin s m e) h = no (sym h)

-- a pattern above the infinity's is a NaN's, and no other is
pub above_not : (n : ℕ) → 2139095040 < n % 2147483648 → finite (of_bits binary32 n) ≡ false
above_not n h = nan_not (of_bits binary32 n) (sym (nan_bits_is binary32 n) ∙ nan_bits_above binary32 n ∙ lt-ltb _ _ h)

pub below_number : (n : ℕ) → n % 2147483648 ≤ 2139095040 → T (not (nan_bits binary32 n))
below_number n h = subst (λ (b : Bool). T (not b)) (sym (nan_bits_above binary32 n ∙ le-ltb _ _ h)) tt

-- ---- the cases of a value
module _ (k n : ℕ) where
  pub other_kind : (k ≡ 1 → ⊥) → (k ≡ 2 → ⊥) → value_from k n ≡ none
  other_kind p q = simp (ne_eqb k 1 p, ne_eqb k 2 q)

  second : k ≡ 2 → (b : Bool) → finite (of_bits binary32 n) ≡ b → value_from k n ≡ pick b (some (reading (of_bits binary32 n))) none
  second e b f = ap (λ (j : ℕ). value_from j n) e ∙ ap (λ (t : Bool). pick t (some (reading (of_bits binary32 n))) none) f

  pub no_reading : k ≡ 2 → finite (of_bits binary32 n) ≡ false → value_from k n ≡ none
  no_reading e f = second e false f

  pub is_reading : k ≡ 2 → finite (of_bits binary32 n) ≡ true → value_from k n ≡ some (reading (of_bits binary32 n))
  is_reading e f = second e true f
