-- The reading of 32 bits: a NaN's bits make the NaN. Assumes nothing.
use mathlib.Core.Path.{◌≡◌, refl, sym, ap, subst, ◌∙◌}
use mathlib.Core.Bool.{Bool, true, not}
use mathlib.Core.List.{List}
use Prim.Native.Nat.{ℕ, ◌%◌, ◌≤◌, ◌<◌}
use native.Mathlib.Omega.{arith}
use lib.Dec.{T}
use lib.ListN.{length, take, length-take}
use lib.Ieee.{Float, nan, inf, fin, is_nan, nan_bits, of_bits, binary32}
use lib.Ieee.Bits.{nan_bits_is, nan_bits_above}
use borrow.Author.Tests.{lt-ltb, le-ltb}
use Rattle.std.proofs.lemmas.Slice.Eq.{bytes_eq-Decides}
use Rattle.words.specs.Words.{starts}

nan_is : (x : Float) → is_nan x ≡ true → nan ≡ x
unfolding is_nan
nan_is nan h = refl
nan_is (inf s) h = absurd (cc)
nan_is (fin s m e) h = absurd (cc)

pub above_nan : (n : ℕ) → 2139095040 < n % 2147483648 → nan ≡ of_bits binary32 n
above_nan n h = nan_is (of_bits binary32 n) (sym (nan_bits_is binary32 n) ∙ nan_bits_above binary32 n ∙ lt-ltb _ _ h)

pub below_number : (n : ℕ) → n % 2147483648 ≤ 2139095040 → T (not (nan_bits binary32 n))
below_number n h = subst (λ (b : Bool). T (not b)) (sym (nan_bits_above binary32 n ∙ le-ltb _ _ h)) tt

-- ---- a word that starts with another is no shorter
pub starts_long : (w s : List ℕ) → starts w s ≡ true → length w ≤ length s
starts_long w s e = let f = ap length ((bytes_eq-Decides (take (length w) s) w).0 e) in let n = length-take (length w) s in omega arith
