-- Hex digits and the bytes that pairs of them are. Assumes nothing.
use mathlib.Core.Path.{◌≡◌, refl, sym, ap, ap₂, ◌∙◌}
use mathlib.Core.Bool.{Bool, true, false, ◌&&◌}
use Rattle.std.specs.Prelude.{Option, None, Some, option_map}
use Rattle.std.specs.Str.{bytes_eq}
use mathlib.Core.List.{List, [], ◌∷◌, ◌++◌}
use Prim.Native.Nat.{ℕ, zero, suc, ◌+◌, ◌*◌, ◌/◌, ◌%◌, ◌≤◌, ◌<◌}
use native.Mathlib.Nat.{div-add-mod'}
use native.Mathlib.Omega.{arith}
use lib.Dec.{eqb}
use lib.ListN.{length, drop, get_or}
use borrow.Author.Tests.{le-leb, lt-leb, eq-eqb, ne_eqb}
use Rattle.laws.specs.Slots.{pick}
use Rattle.words.specs.Hex.{is_hex, nibble, all_hex, pair_at, pairs, hex_in, within, onto}

-- ---- which bytes are digits
both : (t u : Bool) → (t && u) ≡ true → (t ≡ true) × (u ≡ true)
both true u e = (refl, e)
both false u e = absurd (cc)

-- ---- a word of digits
pub hex_at : (s : List ℕ) (i : ℕ) → i < length s → all_hex s ≡ true → is_hex (get_or s i 0) ≡ true
hex_at [] i h e = absurd (omega arith)
hex_at (b ∷ s) zero h e = (both (is_hex b) (all_hex s) e).0
hex_at (b ∷ s) (suc i) h e = hex_at s i (omega arith) (both (is_hex b) (all_hex s) e).1

-- ---- pairs
pub pairs_length : (s : List ℕ) (n : ℕ) → length s ≡ 2 * n → length (pairs s) ≡ n
pairs_length [] n e = omega arith
pairs_length (a ∷ []) n e = absurd (omega arith)
pairs_length (a ∷ b ∷ s) zero e = absurd (omega arith)
pairs_length (a ∷ b ∷ s) (suc n) e = ap suc (pairs_length s n (omega arith))

pub pairs_at : (s : List ℕ) (k n : ℕ) → length s ≡ 2 * n → k < n → get_or (pairs s) k 0 ≡ pair_at (2 * k) s
pairs_at [] k n e h = absurd (omega arith)
pairs_at (a ∷ []) k n e h = absurd (omega arith)
pairs_at (a ∷ b ∷ s) k zero e h = absurd (omega arith)
pairs_at (a ∷ b ∷ s) zero (suc n) e h = refl
pairs_at (a ∷ b ∷ s) (suc k) (suc n) e h =
    let p : suc (suc (2 * k)) ≡ 2 * suc k = omega arith in
    let q : suc (suc (2 * k + 1)) ≡ 2 * suc k + 1 = omega arith in
    pairs_at s k n (omega arith) (omega arith)
    ∙ ap₂ (λ i j. nibble (get_or (a ∷ b ∷ s) i 0) * 16 + nibble (get_or (a ∷ b ∷ s) j 0)) p q

-- ---- the ways in which `hex_in` ends
abbrev HexAnswer : List ℕ → List ℕ → Option ℕ → List ℕ → Type 0
HexAnswer s out r left = (r ≡ option_map length (within (length out) (hex_in s))) × (left ≡ onto out (within (length out) (hex_in s)))

module _ (s out : List ℕ) where
  ends : (o : Option (List ℕ)) → within (length out) (hex_in s) ≡ o → HexAnswer s out (option_map length o) (onto out o)
  ends o e = (ap (option_map length) (sym e), ap (onto out) (sym e))

  module _ (d : bytes_eq s (45 ∷ []) ≡ false) where
    in_pairs : (t : Bool) → (eqb (length s % 2) 0 && all_hex s) ≡ t → hex_in s ≡ pick t (Some (pairs s)) None
    in_pairs t e = λ i. pick (d i) (Some []) (pick (e i) (Some (pairs s)) None)

    pub ends_odd : (length s % 2 ≡ 0 → ⊥) → HexAnswer s out None out
    ends_odd h = ends None (ap (within (length out)) (in_pairs false (ap (λ t. t && all_hex s) (ne_eqb _ 0 h))))

    module _ (even : length s % 2 ≡ 0) where
      pub ends_other : all_hex s ≡ false → HexAnswer s out None out
      ends_other h = ends None (ap (within (length out)) (in_pairs false (λ i. eq-eqb (length s % 2) 0 even i && h i)))

      pub halves : length s ≡ 2 * (length s / 2)
      halves = let r = div-add-mod' (length s) 2 in omega arith

      half : length (pairs s) ≡ length s / 2
      half = pairs_length s (length s / 2) halves

      module _ (digits : all_hex s ≡ true) where
        is_pairs : hex_in s ≡ Some (pairs s)
        is_pairs = in_pairs true (λ i. eq-eqb (length s % 2) 0 even i && digits i)

        pub ends_room : length out < length s / 2 → HexAnswer s out None out
        ends_room h =
            let l = half in
            ends None (ap (within (length out)) is_pairs ∙ ap (λ t. pick t (Some (pairs s)) None) (lt-leb (length (pairs s)) (length out) (omega arith)))

        pub ends_bytes : length s / 2 ≤ length out → (left : List ℕ) → left ≡ pairs s ++ drop (length s / 2) out → HexAnswer s out (Some (length s / 2)) left
        ends_bytes h left e =
            let l = half in
            let w : within (length out) (hex_in s) ≡ Some (pairs s) =
            ap (within (length out)) is_pairs ∙ ap (λ t. pick t (Some (pairs s)) None) (le-leb (length (pairs s)) (length out) (omega arith)) in
            let k : length s / 2 ≡ 0 + length (pairs s) = omega arith in
            (ap Some (sym l) ∙ (ends (Some (pairs s)) w).0, e ∙ ap (λ n. pairs s ++ drop n out) k ∙ (ends (Some (pairs s)) w).1)
