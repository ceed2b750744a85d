-- Record k of an image from the image's chunks of forty bytes: its own and the one before it, compared as arrays. Assumes nothing.
use mathlib.Core.Path.{◌≡◌, refl, sym, ap, subst, ◌∙◌}
use mathlib.Core.Bool.{Bool, true, false}
use mathlib.Core.Option.{none}
use mathlib.Core.List.{List, [], ◌∷◌}
use Prim.Native.Nat.{ℕ, zero, suc, ◌+◌, ◌-◌, ◌*◌, ◌≤◌, ◌<◌}
use native.Mathlib.Omega.{arith}
use lib.ListN.{length, take, drop, get_or, length-take, length-drop}
use borrow.Author.Tests.{le-ltb, lt-ltb}
use Rattle.std.proofs.lemmas.Cmp.{same_from_slice_cmp_tested}
use Rattle.std.proofs.lemmas.List.{drop-drop}
use Rattle.std.specs.Cmp.{ranks}
use Rattle.std.specs.Cmp.Lexicographic.{slice_partial_cmp}
use Rattle.std.specs.Ordering.{nat_cmp, is_lt, is_some_and, MatchOrdering}
use Rattle.std.specs.declared.cmp.Ordering.{Ordering}
use Rattle.std.specs.declared.cmp.Ordering.TheVariants.{Less, Equal, Greater}
use Rattle.std.specs.Simd.{first_chunks}
use Rattle.std.proofs.Common.{Some}
use Rattle.laws.specs.Slots.{pick}
use Rattle.model.specs.Image.{decode}
use Rattle.roundtrip.proofs.Bytes.{less}
use Rattle.image.specs.Records.{record_bytes, bytes_before, record_at}

-- ---- the order of arrays is that of byte strings
pub less_lem : (xs ys : List ℕ) (r : Bool) → r ≡ is_some_and is_lt (slice_partial_cmp (λ x y. Some (nat_cmp x y)) xs ys) → r ≡ less xs ys
less_lem = same_from_slice_cmp_tested nat_cmp is_lt less refl (λ y ys. refl) (λ x xs. refl) more
  where
    ranked : (x y : ℕ) (o : Ordering) → o ≡ nat_cmp x y → MatchOrdering o (x < y) (x ≡ y) (y < x)
    ranked x y o e = subst (λ p. MatchOrdering p (x < y) (x ≡ y) (y < x)) (sym e) (ranks x y)

    more : (x y : ℕ) (xs ys : List ℕ) (o : Ordering) → o ≡ nat_cmp x y
        → MatchOrdering o (less (x ∷ xs) (y ∷ ys) ≡ true) (less (x ∷ xs) (y ∷ ys) ≡ less xs ys) (less (x ∷ xs) (y ∷ ys) ≡ false)
    more x y xs ys Less e = let h = ranked x y Less e in rw (lt-ltb x y h)
    more x y xs ys Equal e = let h = ranked x y Equal e in rw (le-ltb x y (omega arith), le-ltb y x (omega arith))
    more x y xs ys Greater e = let h = ranked x y Greater e in rw (le-ltb x y (omega arith), lt-ltb y x h)

-- ---- chunks
chunk_is : (k n : ℕ) (b d : List ℕ) → k < n → get_or (first_chunks 40 n b) k d ≡ record_bytes k b
chunk_is k zero b d h = absurd (omega arith)
chunk_is zero (suc n) b d h = refl
chunk_is (suc k) (suc n) b d h =
    let e : 40 + k * 40 ≡ suc k * 40 = omega arith in
    chunk_is k n (drop 40 b) d (omega arith) ∙ ap (take 40) (drop-drop (k * 40) 40 b ∙ ap (λ j. drop j b) e)

by_test : (b : List ℕ) (k : ℕ) (t : Bool) → less (bytes_before k b) (record_bytes k b) ≡ t → record_at k b ≡ pick t (decode (record_bytes k b)) none
unfolding record_at
by_test b k t e = ap (λ (s : Bool). pick s (decode (record_bytes k b)) none) e

after_none : (x : List ℕ) → 1 ≤ length x → less [] x ≡ true
after_none [] h = absurd (omega arith)
after_none (y ∷ x) h = refl

-- cs are the chunks of the image
module _ (b : List ℕ) (k n : ℕ) (h : k < n) (cs : List (List ℕ)) (chunks : cs ≡ first_chunks 40 n b) where
  abbrev pub own : List ℕ
  own = get_or cs k []

  abbrev pub prior : List ℕ
  prior = get_or cs (k - 1) []

  chunk : (j : ℕ) → j < n → get_or cs j [] ≡ record_bytes j b
  chunk j g = ap (λ (l : List (List ℕ)). get_or l j []) chunks ∙ chunk_is j n b [] g

  prior_is : (k ≡ 0 → ⊥) → prior ≡ bytes_before k b
  prior_is f = go k h f
    where
      go : (j : ℕ) → j < n → (j ≡ 0 → ⊥) → get_or cs (j - 1) [] ≡ bytes_before j b
      go zero g f = absurd (f refl)
      go (suc j) g f =
          let e : suc j - 1 ≡ j = omega arith in
          ap (λ (i : ℕ). get_or cs i []) e ∙ chunk j (omega arith)

  pub first_record : k ≡ 0 → k * 40 + 40 ≤ length b → decode own ≡ record_at k b
  first_record e g =
      let d = length-drop (k * 40) b in
      let t = length-take 40 (drop (k * 40) b) in
      let f : bytes_before k b ≡ [] = ap (λ (j : ℕ). bytes_before j b) e in
      ap decode (chunk k h) ∙ sym (by_test b k true (ap (λ (x : List ℕ). less x (record_bytes k b)) f ∙ after_none (record_bytes k b) (omega arith)))

  module _ (f : k ≡ 0 → ⊥) where
    test_is : less prior own ≡ less (bytes_before k b) (record_bytes k b)
    test_is i = less (prior_is f i) (chunk k h i)

    pub later_record : less prior own ≡ true → decode own ≡ record_at k b
    later_record e = ap decode (chunk k h) ∙ sym (by_test b k true (sym test_is ∙ e))

    pub not_after : less prior own ≡ false → none ≡ record_at k b
    not_after e = sym (by_test b k false (sym test_is ∙ e))
