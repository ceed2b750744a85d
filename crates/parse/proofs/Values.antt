-- A value and its four bytes: decoding takes exactly the values that the kind and the bits are. Assumes nothing.
use mathlib.Core.Path.{◌≡◌, sym, ap, subst, ◌∙◌}
use mathlib.Core.Bool.{Bool, ◌&&◌, and-false}
use mathlib.Core.Option.{Option, none, some}
use mathlib.Core.List.{List}
use Prim.Native.Nat.{ℕ, ◌<◌}
use native.Mathlib.Omega.{arith}
use lib.Dec.{T, eqb, leb, le→leb, eqb→eq}
use lib.Ieee.{of_bits, to_bits, fits, binary32}
use lib.Ieee.Bits.{to_bits-of_bits, of_bits-fits}
use mir.Facts.{yes_and}
use borrow.Author.Tests.{ne_eqb}
use Rattle.laws.specs.Slots.{pick, same_bytes}
use Rattle.laws.proofs.Same.{same_bytes_lem}
use Rattle.path.proofs.Moves.{Test, holds, fails, test, is_true, is_false, pick_yes}
use Rattle.model.specs.Things.{Value, whole, reading}
use Rattle.model.specs.Refusals.{finite, value_good}
use Rattle.model.specs.Image.{bytes4, value_kind, value_bits, read_value}
use Rattle.parse.specs.Fields.{value_from}
use Rattle.parse.proofs.Readings.{finite_number, other_kind}
use Rattle.parse.proofs.Frame.{and_then}

module _ {R : Type 0} (f : Value → R) (n : ℕ) (ws : List ℕ) (small : n < 4294967296) (same : bytes4 n ≡ ws) where
  -- what is taken of kind k as v
  abbrev took : ℕ → Value → Option R
  took k v = pick (value_good v && (eqb (value_kind v) k && same_bytes (bytes4 (value_bits v)) ws)) (some (f v)) none

  abbrev Law : ℕ → Type 0
  Law k = took k (read_value k n) ≡ and_then (value_from k n) (λ v. some (f v))

  bytes_in_lem : (j : ℕ) → j ≡ n → T (same_bytes (bytes4 j) ws)
  bytes_in_lem j e = subst (λ (l : List ℕ). T (same_bytes (bytes4 j) l)) (ap bytes4 e ∙ same) (same_bytes_lem (bytes4 j))

  first : Law 1
  first = pick_yes (leb n 4294967295 && same_bytes (bytes4 n) ws) (some (f (whole n))) none (yes_and (leb n 4294967295) (same_bytes (bytes4 n) ws) (le→leb n 4294967295 (omega arith)) (bytes_in_lem n (λ i. n)))

  second : Law 2
  second = go (test (finite (of_bits binary32 n)))
    where
      go : Test (finite (of_bits binary32 n)) → Law 2
      go (holds h) =
          let e = to_bits-of_bits binary32 n small (finite_number (of_bits binary32 n) h) in
          let b = same_bytes (bytes4 (to_bits binary32 (of_bits binary32 n))) ws in
          let v = value_good (reading (of_bits binary32 n)) in
          pick_yes (v && b) (some (f (reading (of_bits binary32 n)))) none
          (yes_and v b (yes_and (finite (of_bits binary32 n)) (fits binary32 (of_bits binary32 n)) h (of_bits-fits binary32 n)) (bytes_in_lem (to_bits binary32 (of_bits binary32 n)) e))
          ∙ ap (λ (t : Bool). and_then (pick t (some (reading (of_bits binary32 n))) none) (λ v. some (f v))) (sym (is_true (finite (of_bits binary32 n)) h))
      go (fails h) =
          let e = is_false (finite (of_bits binary32 n)) h in
          ap (λ (t : Bool). pick ((t && fits binary32 (of_bits binary32 n)) && same_bytes (bytes4 (to_bits binary32 (of_bits binary32 n))) ws) (some (f (reading (of_bits binary32 n)))) none) e
          ∙ ap (λ (t : Bool). and_then (pick t (some (reading (of_bits binary32 n))) none) (λ v. some (f v))) (sym e)

  other : (k : ℕ) → (k ≡ 1 → ⊥) → (k ≡ 2 → ⊥) → Law k
  other k p q =
      let v = value_good (reading (of_bits binary32 n)) in
      let b = same_bytes (bytes4 (to_bits binary32 (of_bits binary32 n))) ws in
      let r = some (f (reading (of_bits binary32 n))) in
      ap (λ (t : Bool). took k (pick t (whole n) (reading (of_bits binary32 n)))) (ne_eqb k 1 p)
      ∙ ap (λ (t : Bool). pick (v && (t && b)) r none) (ne_eqb 2 k (λ e. q (sym e)))
      ∙ ap (λ (t : Bool). pick t r none) (and-false v)
      ∙ ap (λ (o : Option Value). and_then o (λ v. some (f v))) (sym (other_kind k n p q))

  pub valued : (k : ℕ) → pick (value_good (read_value k n) && (eqb (value_kind (read_value k n)) k && same_bytes (bytes4 (value_bits (read_value k n))) ws)) (some (f (read_value k n))) none
      ≡ and_then (value_from k n) (λ v. some (f v))
  valued k = go (test (eqb k 1)) (test (eqb k 2))
    where
      go : Test (eqb k 1) → Test (eqb k 2) → Law k
      go (holds h) g = subst Law (sym (eqb→eq k 1 h)) first
      go (fails h) (holds g) = subst Law (sym (eqb→eq k 2 g)) second
      go (fails h) (fails g) = other k (λ e. h (subst (λ (j : ℕ). T (eqb j 1)) (sym e) tt)) (λ e. g (subst (λ (j : ℕ). T (eqb j 2)) (sym e) tt))
