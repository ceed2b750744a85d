-- An address as seven bytes, there and back, and what a loop over the six steps decides. Assumes nothing.
use mathlib.Core.Path.{◌≡◌, refl, sym, ap, ap₂, subst, ◌∙◌}
use mathlib.Core.Bool.{Bool, true, false, ◌&&◌, or-false}
use mathlib.Core.Option.{none, some, some-injective}
use mathlib.Core.List.{List, [], ◌∷◌, ◌++◌}
use Prim.Native.Nat.{ℕ, zero, suc, ◌+◌, ◌-◌, ◌*◌, ◌%◌, ◌^◌, ◌≤◌, ◌<◌}
use native.Mathlib.Nat.{pow-suc, pow-le-pow_right, mul_assoc, mul-le-mul_right, mod-eq_of_lt}
use native.Mathlib.Numerals.{add-one}
use native.Mathlib.Omega.{arith}
use lib.Dec.{T, eqb, leb, ltb}
use lib.ListN.{length, take, drop, get_or, replicate, length-drop}
use lib.Seq.{length-take-le, take_all, take-suc, take_at, drop-cons}
use mir.Facts.{and_yes, yes_and}
use mir.Syntax.{w64}
use borrow.Author.Tests.{ltb-true, ltb-false, le-leb, lt-leb, eq-eqb, ne_eqb}
use Rattle.std.specs.Int.{to_be_bytes}
use Rattle.laws.specs.Slots.{pick, slots, same_bytes}
use Rattle.laws.proofs.Fill.{slots_length}
use Rattle.laws.proofs.Same.{same_bytes_lem, bytes_same}
use Rattle.path.specs.Address.{Address, valid, steps_good}
use Rattle.path.specs.Bytes.{step_bytes, read_steps, step_fits}
use Rattle.path.specs.Packed.{pack, digits}
use Rattle.path.specs.View.{steps, path_of, PathSound, digit_of}
use Rattle.path.specs.declared.Path.{Path}
use Rattle.path.proofs.Moves.{pick_yes, pick_some}
use Rattle.path.proofs.Pack.{Small, small_append, small_front, pack_lt, pack_append, pack_shift, digits_pack}
use Rattle.path.proofs.Structs.{path_is, facts}
use Rattle.path.proofs.Number.{weight}

-- ---- there and back
pub read_written : (p : Address) → T (valid p) → read_steps (step_bytes p) ≡ some p
read_written p v =
    let e : take (length p) (slots 6 0 p) ≡ p = take_at p (replicate (6 - length p) 0) (length p) refl in
    (λ i. pick (valid (e i) && same_bytes (step_bytes (e i)) (step_bytes p)) (some (e i)) none)
    ∙ pick_yes (valid p && same_bytes (step_bytes p) (step_bytes p)) (some p) none (yes_and (valid p) (same_bytes (step_bytes p) (step_bytes p)) v (same_bytes_lem (step_bytes p)))

-- what reading asks of the bytes
read : (b : List ℕ) (p : Address) → read_steps b ≡ some p → T (valid p) × T (same_bytes (step_bytes p) b)
read b p e =
    let l = take (get_or b 0 0) (drop 1 b) in
    let w = pick_some (valid l && same_bytes (step_bytes l) b) (some l) p e in
    subst (λ (q : Address). T (valid q) × T (same_bytes (step_bytes q) b)) (some-injective l p w.1) (and_yes (valid l) (same_bytes (step_bytes l) b) w.0)

pub written_read : (b : List ℕ) (p : Address) → read_steps b ≡ some p → b ≡ step_bytes p
written_read b p e = sym (bytes_same (step_bytes p) b (read b p e).1)

pub read_valid : (b : List ℕ) (p : Address) → read_steps b ≡ some p → T (valid p)
read_valid b p e = (read b p e).0

-- ---- the six steps in turn
-- the first n may be used, the others must be blank
abbrev pub steps_fit : ℕ → List ℕ → Bool
steps_fit n [] = true
steps_fit zero (x ∷ l) = eqb 0 x && steps_fit zero l
steps_fit (suc n) (x ∷ l) = (leb 1 x && leb x 32) && steps_fit n l

blank : (x : ℕ) → eqb x 0 ≡ eqb 0 x
blank zero = refl
blank (suc x) = ne_eqb (suc x) 0 (λ e. omega arith) ∙ sym (ne_eqb 0 (suc x) (λ e. omega arith))

-- a turn of the loop: step i decides with those behind it
pub fit_next : (i n x : ℕ) {l m : List ℕ} → m ≡ x ∷ l → steps_fit (n - i) m ≡ (step_fits i n x && steps_fit (n - (i + 1)) l)
fit_next i n x {l} e = ap (steps_fit (n - i)) e ∙ go (ltb i n) refl
  where
    go : (b : Bool) → ltb i n ≡ b → steps_fit (n - i) (x ∷ l) ≡ (step_fits i n x && steps_fit (n - (i + 1)) l)
    go true h =
        let lt = ltb-true i n h in
        let k : n - i ≡ suc (n - (i + 1)) = omega arith in
        ap (λ j. steps_fit j (x ∷ l)) k ∙ sym (rw (h, lt-leb n i lt, or-false (leb 1 x && leb x 32)))
    go false h =
        let le = ltb-false i n h in
        let k : n - i ≡ 0 = omega arith in
        let j : n - (i + 1) ≡ 0 = omega arith in
        ap (λ j. steps_fit j (x ∷ l)) k ∙ sym (rw (h, le-leb n i le, j, blank x))

fit_blank : (k : ℕ) (t : List ℕ) → length t ≡ k → same_bytes (replicate k 0) t ≡ steps_fit 0 t
fit_blank zero [] e = refl
fit_blank zero (x ∷ t) e = absurd (omega arith)
fit_blank (suc k) [] e = absurd (omega arith)
fit_blank (suc k) (x ∷ t) e = ap (λ b. eqb 0 x && b) (fit_blank k t (omega arith))

regroup : (a b c : Bool) → ((a && b) && c) ≡ (a && (b && c))
regroup true b c = refl
regroup false b c = refl

fit_same : (n k : ℕ) (t : List ℕ) → length t ≡ n + k → (steps_good (take n t) && same_bytes (take n t ++ replicate k 0) t) ≡ steps_fit n t
fit_same zero k t e = fit_blank k t (omega arith)
fit_same (suc n) k [] e = absurd (omega arith)
fit_same (suc n) k (x ∷ t) e =
    rw (eq-eqb x x refl) (regroup (leb 1 x && leb x 32) (steps_good (take n t)) (same_bytes (take n t ++ replicate k 0) t)) ∙ ap (λ b. (leb 1 x && leb x 32) && b) (fit_same n k t (omega arith))

-- ---- bytes taken into a number, one after the other
-- k is the number of n and the first i of l, a digit each
pub record Taken (n i : ℕ) (l : List ℕ) (k : ℕ) : Type 0 where
  pub is : k ≡ n * 256 ^ i + pack i (take i l)
  pub small : Small (take i l)

pub taken_none : (n : ℕ) (l : List ℕ) → Taken n 0 l n
taken_none n l = record { is = omega arith; small = tt }

module _ {n i k : ℕ} {l : List ℕ} (w : Taken n i l k) where
  pub taken_next : {x : ℕ} → i < length l → x ≡ get_or l i 0 → x < 256 → Taken n (i + 1) l (k * 256 + x)
  taken_next h f g =
      let e = w.is in
      let t : take (i + 1) l ≡ take i l ++ (get_or l i 0 ∷ []) = rw (add-one, take-suc l i 0) in
      let m = length-take-le i l (omega arith) in
      let a = pack_append (take i l) (get_or l i 0 ∷ []) (i + 1) 1 (omega arith) in
      let b = pack_shift (take i l) i 1 (omega arith) in
      let c = ap (pack (i + 1)) t in
      let d : n * 256 ^ (i + 1) ≡ n * (256 ^ i * 256) = ap (λ z. n * z) (ap (λ j. 256 ^ j) (add-one i) ∙ pow-suc 256 i) in
      let p = mul_assoc n (256 ^ i) 256 in
      record { is = omega arith; small = subst Small (sym t) (small_append (take i l) (get_or l i 0 ∷ []) w.small (omega arith, tt)) }

  -- it stays far below what 64 bits hold
  pub taken_bound : n ≤ 6 → i ≤ 6 → k < 7 * 256 ^ 6
  taken_bound h g =
      let e = w.is in
      let a = mul-le-mul_right (256 ^ i) h in
      let b = pack_lt i (take i l) w.small in
      let c = pow-le-pow_right {n = 256} (omega arith) {i = i} {j = 6} g in
      omega arith

-- all of n are taken: the digits move to their places
pub taken_path : (k n : ℕ) (l : List ℕ) → n ≤ 6 → n ≤ length l → Taken n n l k → ◌≡◌ {A = Path} (record { key = (k * 2 ^ (48 - 8 * n)) % 2 ^ 64 }) (path_of (take n l))
taken_path k n l h g w =
    let s = w.small in
    let m = length-take-le n l g in
    let a = pack_shift (n ∷ take n l) (suc n) (6 - n) (omega arith) in
    let z : suc n + (6 - n) ≡ 7 = omega arith in
    let b : k * 2 ^ (48 - 8 * n) ≡ n * 256 ^ 6 + pack 6 (take n l) = ap₂ (λ x y. x * y) w.is (weight n h) ∙ sym a ∙ ap (λ j. pack j (n ∷ take n l)) z in
    let c = pack_lt 6 (take n l) s in
    path_is (take n l) (omega arith) s
    (ap (λ x. x % 2 ^ 64) b ∙ mod-eq_of_lt {n = n * 256 ^ 6 + pack 6 (take n l)} {m = 2 ^ 64} (omega arith) ∙ ap (λ j. j * 256 ^ 6 + pack 6 (take n l)) (sym m))

-- blanks count nothing
pack_blank : (n k : ℕ) → pack n (replicate k 0) ≡ 0
pack_blank n zero = refl
pack_blank zero (suc k) = refl
pack_blank (suc n) (suc k) = let ih = pack_blank n k in omega arith

pack_slots : (n : ℕ) (l : List ℕ) → length l ≤ n → pack n (slots n 0 l) ≡ pack n l
pack_slots n l h = let a = pack_append l (replicate (n - length l) 0) n (n - length l) (omega arith) in let b = pack_blank (n - length l) (n - length l) in omega arith

-- ---- the seven bytes are the digits
blank_read : (n i : ℕ) → ◌≡◌ {A = ℕ} (get_or (replicate n 0) i 0) 0
blank_read zero i = refl
blank_read (suc n) zero = refl
blank_read (suc n) (suc i) = blank_read n i

slot_read : (l : List ℕ) (n i : ℕ) → get_or (l ++ replicate n 0) i 0 ≡ get_or l i 0
slot_read [] n i = blank_read n i
slot_read (x ∷ l) n zero = refl
slot_read (x ∷ l) n (suc i) = slot_read l n i

pub byte_read : (l : Address) (i : ℕ) → get_or (step_bytes l) i 0 ≡ get_or (length l ∷ l) i 0
byte_read l zero = refl
byte_read l (suc i) = slot_read l (6 - length l) i

pub bytes_length : (l : Address) → length l ≤ 6 → length (step_bytes l) ≡ 7
bytes_length l h = ap suc (slots_length 6 0 l h)

small_blank : (n : ℕ) → Small (replicate n 0)
small_blank zero = tt
small_blank (suc n) = (omega arith, small_blank n)

-- a number's last seven bytes, one by one
pub key_bytes : (p : Path) → PathSound p → take 7 (drop 1 (to_be_bytes w64 p.key)) ≡ step_bytes (steps p)
key_bytes p h =
    let l = steps p in
    let f = facts p h in
    let s = f.short in
    let e : p.key ≡ 0 * 256 ^ 7 + pack 7 (step_bytes l) = let a = f.packed in let b = pack_slots 6 l f.short in omega arith in
    let z : p.key % 256 ≡ digit_of 6 p = omega arith in
    ap (λ x. digit_of 0 p ∷ digit_of 1 p ∷ digit_of 2 p ∷ digit_of 3 p ∷ digit_of 4 p ∷ digit_of 5 p ∷ x ∷ []) z ∙ ap (digits 7 7) e
    ∙ digits_pack (step_bytes l) 7 7 0 (omega arith, small_append l (replicate (6 - length l) 0) f.small (small_blank (6 - length l))) (bytes_length l f.short) (omega arith)

-- ---- what the bytes are read as
and_no : (a b : Bool) → (a && (false && b)) ≡ false
and_no true b = refl
and_no false b = refl

module _ (n : ℕ) (t : List ℕ) (full : length t ≡ 6) where
  pub read_deep : 6 < n → read_steps (n ∷ t) ≡ none
  read_deep h =
      let e = ap length (take_all n t (omega arith)) in
      let p = take n t in
      ap (λ b. pick (valid p && (b && same_bytes (slots 6 0 p) t)) (some p) none) (ne_eqb (length p) n (λ f. omega arith))
      ∙ ap (λ b. pick b (some p) none) (and_no (valid p) (same_bytes (slots 6 0 p) t))

  module _ (h : n ≤ 6) where
    size : length (take n t) ≡ n
    size = length-take-le n t (omega arith)

    fit_slots : (steps_good (take n t) && same_bytes (slots 6 0 (take n t)) t) ≡ steps_fit n t
    fit_slots = ap (λ k. steps_good (take n t) && same_bytes (take n t ++ replicate (6 - k) 0) t) size ∙ fit_same n (6 - n) t (omega arith)

    read_is : read_steps (n ∷ t) ≡ pick (steps_fit n t) (some (take n t)) none
    read_is =
        let s = size in
        rw (le-leb (length (take n t)) 6 (omega arith), eq-eqb (length (take n t)) n size) (ap (λ b. pick b (some (take n t)) none) fit_slots)

    pub read_none : steps_fit n t ≡ false → read_steps (n ∷ t) ≡ none
    read_none e = read_is ∙ ap (λ b. pick b (some (take n t)) none) e

    pub read_some : steps_fit n t ≡ true → read_steps (n ∷ t) ≡ some (take n t)
    read_some e = read_is ∙ ap (λ b. pick b (some (take n t)) none) e

    -- the unused steps are the blanks of the slots
    read_slots : steps_fit n t ≡ true → t ≡ slots 6 0 (take n t)
    read_slots e =
        let w = and_yes (steps_good (take n t)) (same_bytes (slots 6 0 (take n t)) t) (subst T (sym (fit_slots ∙ e)) tt) in
        sym (bytes_same (slots 6 0 (take n t)) t w.1)

    -- the number of all seven is the path
    pub read_path_lem : {k : ℕ} → steps_fit n t ≡ true → Taken n 6 t k → ◌≡◌ {A = Path} (record { key = k }) (path_of (take n t))
    read_path_lem e w =
        let l = take n t in
        let m = size in
        let s = take_all 6 t (omega arith) ∙ read_slots e in
        let z : pack 6 (take 6 t) ≡ pack 6 l = ap (pack 6) s ∙ pack_slots 6 l (omega arith) in
        path_is l (omega arith) (small_front l (replicate (6 - length l) 0) (subst Small s w.small))
        (w.is ∙ ap₂ (λ a b. a * 256 ^ 6 + b) (sym m) z)

-- ---- the seven bytes from at on: the length, and six steps
abbrev pub six : List ℕ → ℕ → List ℕ
six s at = take (at + 7 - (at + 1)) (drop (at + 1) s)

module _ (s : List ℕ) (at : ℕ) (room : at + 7 ≤ length s) where
  pub seven : take 7 (drop at s) ≡ get_or s at 0 ∷ six s at
  seven =
      let n : 6 ≡ at + 7 - (at + 1) = omega arith in
      ap (take 7) (drop-cons s at 0 (omega arith)) ∙ ap₂ (λ j k. get_or s at 0 ∷ take j (drop k s)) n (sym (add-one at))

  pub six_length : length (six s at) ≡ 6
  six_length = let d = length-drop (at + 1) s in length-take-le (at + 7 - (at + 1)) (drop (at + 1) s) (omega arith) ∙ omega arith

-- step i, and those behind it
pub six_next : (t : List ℕ) (i : ℕ) → i < length t → drop i t ≡ get_or t i 0 ∷ drop (i + 1) t
six_next t i h = drop-cons t i 0 h ∙ ap (λ k. get_or t i 0 ∷ drop k t) (sym (add-one i))
