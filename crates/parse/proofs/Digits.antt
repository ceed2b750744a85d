-- Numbers big-endian and their bytes, there and back, for each width: the bytes of a number that was read are those that were read. Assumes nothing.
use mathlib.Core.Path.{◌≡◌, sym, ap, subst, ◌∙◌}
use mathlib.Core.Bool.{true, ◌&&◌}
use mathlib.Core.List.{List, [], ◌∷◌, ◌++◌}
use Prim.Native.Nat.{ℕ, ◌+◌, ◌*◌, ◌/◌, ◌%◌, ◌<◌}
use native.Mathlib.Nat.{mul-add-div_right, mul-add-mod_self_right, add-zero, div-eq_of_lt, mod-eq_of_lt}
use native.Mathlib.Omega.{arith}
use lib.IntN.{ℤ, pos, negsuc}
use lib.ListN.{length, get_or}
use mir.Syntax.{w64}
use mir.Val.{SFits, Fits, to_z, of_z}
use mir.ValLaws.{to_z-Fits, of_z-to_z}
use borrow.Author.Tests.{le-leb}
use Rattle.model.specs.Refusals.{time_good}
use Rattle.roundtrip.proofs.Bytes.{two_back, four_back, eight_back}
use Rattle.roundtrip.proofs.Records.{spelt, spelt_out}
use Rattle.model.specs.Image.{bytes2, bytes4, bytes8, number2, number4, number8}

abbrev pub Bytes : List ℕ → Type 0
Bytes b = (i : ℕ) → get_or b i 0 < 256

-- a law of n bytes, from the law of n bytes spelt out
pub by_bytes : (n : ℕ) (P : List ℕ → Type 0) (b : List ℕ) → length b ≡ n → P (spelt n b) → P b
by_bytes n P b e p = subst P (sym (spelt_out n b e)) p

-- ---- the bytes of a number of two halves: those of each, whatever the width
halves : (k : ℕ) (f : ℕ → List ℕ) (h l : ℕ) → l < k → f ((h * k + l) / k) ++ f ((h * k + l) % k) ≡ f h ++ f l
halves k f h l s =
    let high : (h * k + l) / k ≡ h = mul-add-div_right (omega arith) h l ∙ ap (λ (n : ℕ). h + n) (div-eq_of_lt s) ∙ add-zero h in
    let low : (h * k + l) % k ≡ l = mul-add-mod_self_right h k l ∙ mod-eq_of_lt s in
    λ i. f (high i) ++ f (low i)

module _ (s t : ℕ) (small : t < 256) where
  pub two_there : bytes2 (number2 0 (s ∷ t ∷ [])) ≡ s ∷ t ∷ []
  two_there = halves 256 (λ n. n ∷ []) s t small

pub two_small : (s t : ℕ) → s < 256 → t < 256 → s * 256 + t < 65536
two_small s t p q = omega arith

module _ (s t u v : ℕ) (a : t < 256) (b : u < 256) (c : v < 256) where
  pub four_there : bytes4 (number4 0 (s ∷ t ∷ u ∷ v ∷ [])) ≡ s ∷ t ∷ u ∷ v ∷ []
  four_there =
      halves 65536 bytes2 (s * 256 + t) (u * 256 + v) (two_small u v b c) ∙ (λ i. two_there s t a i ++ two_there u v c i)

pub four_small : (s t u v : ℕ) → s < 256 → t < 256 → u < 256 → v < 256 → (s * 256 + t) * 65536 + (u * 256 + v) < 4294967296
four_small s t u v a b c d = let p = two_small s t a b in let q = two_small u v c d in omega arith

module _ (s t u v w x y z : ℕ) (a : s < 256) (b : t < 256) (c : u < 256) (d : v < 256) (e : w < 256) (f : x < 256) (g : y < 256) (h : z < 256) where
  pub eight_there : bytes8 (number8 0 (s ∷ t ∷ u ∷ v ∷ w ∷ x ∷ y ∷ z ∷ [])) ≡ s ∷ t ∷ u ∷ v ∷ w ∷ x ∷ y ∷ z ∷ []
  eight_there =
      halves 4294967296 bytes4 ((s * 256 + t) * 65536 + (u * 256 + v)) ((w * 256 + x) * 65536 + (y * 256 + z)) (four_small w x y z e f g h)
      ∙ (λ i. four_there s t u v b c d i ++ four_there w x y z f g h i)

  eight_fits : Fits w64 (number8 0 (s ∷ t ∷ u ∷ v ∷ w ∷ x ∷ y ∷ z ∷ []))
  eight_fits = let p = four_small s t u v a b c d in let q = four_small w x y z e f g h in record { fits = omega arith }

  -- ---- times in two's complement
  pub time_there : bytes8 (of_z w64 (to_z w64 (number8 0 (s ∷ t ∷ u ∷ v ∷ w ∷ x ∷ y ∷ z ∷ [])))) ≡ s ∷ t ∷ u ∷ v ∷ w ∷ x ∷ y ∷ z ∷ []
  time_there = ap bytes8 (of_z-to_z w64 (number8 0 (s ∷ t ∷ u ∷ v ∷ w ∷ x ∷ y ∷ z ∷ [])) eight_fits) ∙ eight_there

  pub time_good_lem : time_good (to_z w64 (number8 0 (s ∷ t ∷ u ∷ v ∷ w ∷ x ∷ y ∷ z ∷ []))) ≡ true
  time_good_lem = go (to_z w64 (number8 0 (s ∷ t ∷ u ∷ v ∷ w ∷ x ∷ y ∷ z ∷ []))) (to_z-Fits w64 _ eight_fits)
    where
      go : (n : ℤ) → SFits w64 n → time_good n ≡ true
      go (pos n) k = let j = k.sfits in le-leb n 9223372036854775807 (omega arith)
      go (negsuc n) k = let j = k.sfits in ap (λ b. b && true) (le-leb n 9223372036854775807 (omega arith))

-- ---- as laws of two, four and eight bytes, and back
pub read_two : (b : List ℕ) → length b ≡ 2 → Bytes b → bytes2 (number2 0 b) ≡ b
read_two b e = by_bytes 2 (λ l. Bytes l → bytes2 (number2 0 l) ≡ l) b e (λ h. two_there _ _ (h 1))

pub read_four : (b : List ℕ) → length b ≡ 4 → Bytes b → bytes4 (number4 0 b) ≡ b
read_four b e = by_bytes 4 (λ l. Bytes l → bytes4 (number4 0 l) ≡ l) b e (λ h. four_there _ _ _ _ (h 1) (h 2) (h 3))

pub read_eight : (b : List ℕ) → length b ≡ 8 → Bytes b → bytes8 (number8 0 b) ≡ b
read_eight b e = by_bytes 8 (λ l. Bytes l → bytes8 (number8 0 l) ≡ l) b e (λ h. eight_there _ _ _ _ _ _ _ _ (h 0) (h 1) (h 2) (h 3) (h 4) (h 5) (h 6) (h 7))

pub two_read : (n : ℕ) → number2 0 (bytes2 n) ≡ n
two_read = two_back

pub four_read : (n : ℕ) → number4 0 (bytes4 n) ≡ n
four_read = four_back

pub eight_read : (n : ℕ) → number8 0 (bytes8 n) ≡ n
eight_read = eight_back
