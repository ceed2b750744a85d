-- How a path moves, on its number: the parent and a child, a step one higher or lower, a prefix off and on. Assumes nothing.
use mathlib.Core.Path.{◌≡◌, refl, sym, ap, ap₂, subst, ◌∙◌}
use mathlib.Core.Bool.{true, false}
use mathlib.Core.Option.{some}
use mathlib.Core.List.{[], ◌∷◌, ◌++◌}
use Prim.Native.Nat.{ℕ, suc, ◌+◌, ◌*◌, ◌-◌, ◌/◌, ◌%◌, ◌^◌, ◌≤◌, ◌<◌}
use native.Mathlib.Nat.{add-mul, mul-le-mul_right, mod-eq_of_lt}
use native.Mathlib.Omega.{arith}
use lib.Arith.{digits_mod}
use lib.ListN.{length, get_or, set, length-append, length-set}
use Rattle.path.specs.Address.{Address, under, beside, parent, last, child, at_last, off, on}
use Rattle.path.specs.Packed.{pack}
use Rattle.path.specs.View.{steps, path_of, PathSound}
use Rattle.path.specs.declared.Path.{Path}
use Rattle.path.proofs.Laws as laws
use Rattle.path.proofs.Laws.{on_off}
use Rattle.path.proofs.Parts.{good_small, beside_long, last_off, last_on, parent_child, parent_length, last_read}
use Rattle.path.proofs.Pack.{Small, small_append, small_front, small_back, small_set, pack_lt, pack_append, pack_shift, last_pack, high_digits}
use Rattle.path.proofs.Number.{by_bytes, weight_le}
use Rattle.path.proofs.Structs.{facts, path_is}

-- p with the steps of r behind it
pub key_append : (p r : Address) (j : ℕ) → length p + j ≡ 6 → length (p ++ r) * 256 ^ 6 + pack 6 (p ++ r) ≡ length p * 256 ^ 6 + pack 6 p + (length r * 256 ^ 6 + pack j r)
key_append p r j e = let a = length-append p r in let b = pack_append p r 6 j e in omega arith

-- ---- the last step
pub last_digit : (l : Address) → get_or (length l ∷ l) (length l) 0 ≡ last l
last_digit [] = refl
last_digit (x ∷ l) = last_read (x ∷ l) (length l) (omega arith)

pub parent_is : (p : Path) → PathSound p → 0 < length (steps p)
    → (p.key ≡ length (parent (steps p)) * 256 ^ 6 + pack 6 (parent (steps p)) + (256 ^ 6 + last (steps p) * 256 ^ (6 - length (steps p)))) × Small (parent (steps p)) × (length (steps p) ≡ length (parent (steps p)) + 1)
parent_is p hp h =
    let f = facts p hp in
    let l = steps p in
    let s = f.short in
    let e = parent_child l h in
    let n = parent_length l h in
    let one : pack (6 - length (parent l)) (last l ∷ []) ≡ last l * 256 ^ (6 - length l) =
    let z : 6 - length (parent l) ≡ suc (6 - length l) = omega arith in ap (λ k. pack k (last l ∷ [])) z ∙ omega arith in
    let w = key_append (parent l) (last l ∷ []) (6 - length (parent l)) (omega arith) in
    let k = f.packed ∙ ap (λ m. length m * 256 ^ 6 + pack 6 m) e in
    (omega arith, small_front (parent l) (last l ∷ []) (subst Small e f.small), n)

pub root_is : (p : Path) → PathSound p → length (steps p) ≡ 0 → p ≡ path_of (parent (steps p))
root_is p hp e = (facts p hp).is ∙ ap path_of (go (steps p) e)
  where
    go : (l : Address) → length l ≡ 0 → l ≡ parent l
    go [] e = refl
    go (x ∷ l) e = absurd (omega arith)

module _ (p : Path) (hp : PathSound p) (k : ℕ) (ek : k ≡ length (steps p)) where
  -- the last step goes, and the length is one less
  module _ (h : 0 < k) (y w : ℕ) (ey : y ≡ get_or (length (steps p) ∷ steps p) k 0) (ew : w ≡ y * 256 ^ (6 - k)) where
    pub parent_key : p.key ≡ length (parent (steps p)) * 256 ^ 6 + pack 6 (parent (steps p)) + (256 ^ 6 + w)
    parent_key =
        let a = (parent_is p hp (omega arith)).0 in
        let y1 = ey ∙ ap (λ n. get_or (length (steps p) ∷ steps p) n 0) ek ∙ last_digit (steps p) in
        let w1 = ew ∙ ap₂ (λ z n. z * 256 ^ (6 - n)) y1 ek in omega arith

    pub parent_path : ◌≡◌ {A = Path} (record { key = p.key - 256 ^ 6 - w }) (path_of (parent (steps p)))
    parent_path =
        let a = parent_is p hp (omega arith) in
        let n = a.2 in
        let s = (facts p hp).short in
        let i = parent_key in path_is (parent (steps p)) (omega arith) a.1 (omega arith)

  -- a step more
  pub child_path : (s w : ℕ) → k < 6 → s < 256 → w ≡ s * 256 ^ (6 - (k + 1)) → ◌≡◌ {A = Path} (record { key = p.key + 256 ^ 6 + w }) (path_of (child (steps p) s))
  child_path s w h g ew =
      let f = facts p hp in
      let l = steps p in
      let i = f.packed in
      let n = length-append l (s ∷ []) in
      let one : pack (6 - length l) (s ∷ []) ≡ s * 256 ^ (6 - (k + 1)) =
      let z : 6 - length l ≡ suc (6 - (k + 1)) = omega arith in ap (λ m. pack m (s ∷ [])) z ∙ omega arith in
      let a = key_append l (s ∷ []) (6 - length l) (omega arith) in
      path_is (child l s) (omega arith) (small_append l (s ∷ []) f.small (g, tt)) (omega arith)

-- ---- the step k of p is changed, where k is the length of q
module _ (p q : Path) (hp : PathSound p) (hq : PathSound q) where
  pub path_stays : (f : ℕ → ℕ → ℕ) → beside (steps q) (steps p) ≡ false → p ≡ path_of (at_last f (steps q) (steps p))
  path_stays f e = (facts p hp).is ∙ ap path_of (sym (last_off f (steps q) (steps p) e))

  module _ (on : beside (steps q) (steps p) ≡ true) (k : ℕ) (ek : k ≡ length (steps q)) (x y : ℕ)
      (ex : x ≡ get_or (length (steps q) ∷ steps q) k 0) (ey : y ≡ get_or (length (steps p) ∷ steps p) k 0) where
    from_one : k ≡ suc (k - 1)
    from_one = let b = beside_long (steps q) (steps p) on in omega arith

    pub at_q : x ≡ get_or (steps q) (k - 1) 0
    at_q = ex ∙ ap (λ n. get_or (length (steps q) ∷ steps q) n 0) from_one

    pub at_p : y ≡ get_or (steps p) (k - 1) 0
    at_p = ey ∙ ap (λ n. get_or (length (steps p) ∷ steps p) n 0) from_one

    changed : (f : ℕ → ℕ → ℕ) → pack 6 (at_last f (steps q) (steps p)) + y * 256 ^ (6 - k) ≡ pack 6 (steps p) + f x y * 256 ^ (6 - k)
    changed f =
        let b = beside_long (steps q) (steps p) on in
        let s = (facts p hp).short in
        let o = from_one in
        ap (λ z. pack 6 (at_last f (steps q) (steps p)) + z * 256 ^ (6 - k)) at_p
        ∙ last_pack f (steps q) (steps p) 6 (k - 1) (6 - k) on (omega arith) (omega arith)
        ∙ sym (ap₂ (λ a b. pack 6 (steps p) + f a b * 256 ^ (6 - k)) at_q at_p)

    -- the step is part of the number
    pub step_in : y * 256 ^ (6 - k) ≤ p.key
    step_in = let c = changed (λ a b. 0) in let i = (facts p hp).packed in omega arith

    pub step_small : y ≤ 32
    step_small = let h = good_small (steps p) (facts p hp).good (k - 1) in let e = at_p in omega arith

    pub path_moves : (f : ℕ → ℕ → ℕ) (n : ℕ) → f x y < 256 → n + y * 256 ^ (6 - k) ≡ p.key + f x y * 256 ^ (6 - k) → ◌≡◌ {A = Path} (record { key = n }) (path_of (at_last f (steps q) (steps p)))
    path_moves f n h e =
        let l = at_last f (steps q) (steps p) in
        let v = f (get_or (steps q) (k - 1) 0) (get_or (steps p) (k - 1) 0) in
        let o = from_one in
        let fp = facts p hp in
        let i = fp.packed in
        let s = fp.short in
        let c = changed f in
        let t : l ≡ set (steps p) (k - 1) v = last_on f (steps q) (steps p) (k - 1) on (omega arith) in
        let m : length l ≡ length (steps p) = ap length t ∙ length-set (steps p) (k - 1) v in
        path_is l (omega arith) (subst Small (sym t) (small_set (steps p) (k - 1) v fp.small (subst (λ z. z < 256) (ap₂ f at_q at_p) h))) (omega arith)

    pub path_keeps : (f : ℕ → ℕ → ℕ) → f x y ≡ y → p ≡ path_of (at_last f (steps q) (steps p))
    path_keeps f e = let s = step_small in path_moves f p.key (omega arith) (ap (λ z. p.key + z * 256 ^ (6 - k)) (sym e))

    -- one more, one less
    pub path_more : (f : ℕ → ℕ → ℕ) (w : ℕ) → w ≡ 1 * 256 ^ (6 - k) → f x y ≡ y + 1 → ◌≡◌ {A = Path} (record { key = p.key + w }) (path_of (at_last f (steps q) (steps p)))
    path_more f w ew e =
        let s = step_small in
        let a = ap (λ z. z * 256 ^ (6 - k)) e ∙ add-mul y 1 (256 ^ (6 - k)) in path_moves f (p.key + w) (omega arith) (omega arith)

    pub weight_in : 0 < y → 1 * 256 ^ (6 - k) ≤ p.key
    weight_in h = let m = mul-le-mul_right (256 ^ (6 - k)) h in let s = step_in in omega arith

    pub path_less : (f : ℕ → ℕ → ℕ) (w : ℕ) → w ≡ 1 * 256 ^ (6 - k) → 0 < y → f x y ≡ y - 1 → ◌≡◌ {A = Path} (record { key = p.key - w }) (path_of (at_last f (steps q) (steps p)))
    path_less f w ew h e =
        let s = step_small in
        let i = weight_in h in
        let y1 : y ≡ f x y + 1 = omega arith in
        let a = ap (λ z. z * 256 ^ (6 - k)) y1 ∙ add-mul (f x y) 1 (256 ^ (6 - k)) in path_moves f (p.key - w) (omega arith) (omega arith)

-- ---- a prefix goes, and comes
module _ (p q : Path) (hp : PathSound p) (hq : PathSound q) where
  module _ (e : under (steps q) (steps p) ≡ true) where
    abbrev pub rest : Address
    rest = (laws.off_under (steps q) (steps p) e).0

    whole : steps q ++ rest ≡ steps p
    whole = on_off (steps q) (steps p) rest (laws.off_under (steps q) (steps p) e).1

    rest_small : Small rest
    rest_small = small_back (steps q) rest (subst Small (sym whole) (facts p hp).small)

    -- what p has beyond q
    pub rest_is : p.key ≡ q.key + (length rest * 256 ^ 6 + pack (6 - length (steps q)) rest)
    rest_is =
        let s = (facts q hq).short in
        (facts p hp).packed ∙ sym (ap (λ l. length l * 256 ^ 6 + pack 6 l) whole) ∙ key_append (steps q) rest (6 - length (steps q)) (omega arith)
        ∙ ap (λ n. n + (length rest * 256 ^ 6 + pack (6 - length (steps q)) rest)) (sym (facts q hq).packed)

    rest_low : pack (6 - length (steps q)) rest < 256 ^ 6
    rest_low = let a = pack_lt (6 - length (steps q)) rest rest_small in let b = weight_le (length (steps q)) in omega arith

    rest_length : length (steps q) + length rest ≡ length (steps p)
    rest_length = sym (length-append (steps q) rest) ∙ ap length whole

    pub shifted : (pack (6 - length (steps q)) rest * 2 ^ (8 * length (steps q))) % 2 ^ 64 ≡ pack 6 rest
    shifted =
        let k = length (steps q) in
        let n = rest_length in
        let s = (facts p hp).short in
        let a : 6 - k + k ≡ 6 = omega arith in
        let b = pack_shift rest (6 - k) k (omega arith) in
        let c : pack (6 - k) rest * 2 ^ (8 * k) ≡ pack 6 rest = ap (λ w. pack (6 - k) rest * w) (by_bytes k) ∙ sym b ∙ ap (λ m. pack m rest) a in
        let d = pack_lt 6 rest rest_small in
        ap (λ m. m % 2 ^ 64) c ∙ mod-eq_of_lt {n = pack 6 rest} {m = 2 ^ 64} (omega arith)

    pub rest_mod : (p.key - q.key) % 256 ^ 6 ≡ pack (6 - length (steps q)) rest
    rest_mod =
        let i = rest_is in
        let d : p.key - q.key ≡ length rest * 256 ^ 6 + pack (6 - length (steps q)) rest = omega arith in
        ap (λ n. n % 256 ^ 6) d ∙ digits_mod (length rest) rest_low

    module _ (k : ℕ) (ek : k ≡ length (steps q)) where
      pub off_key : p.key - q.key - (p.key - q.key) % 256 ^ 6 + ((p.key - q.key) % 256 ^ 6 * 2 ^ (8 * k)) % 2 ^ 64 ≡ length rest * 256 ^ 6 + pack 6 rest
      off_key =
          let m = rest_mod in
          let t : ((p.key - q.key) % 256 ^ 6 * 2 ^ (8 * k)) % 2 ^ 64 ≡ pack 6 rest = ap₂ (λ z n. (z * 2 ^ (8 * n)) % 2 ^ 64) m ek ∙ shifted in
          let i = rest_is in omega arith

      pub off_bound : length rest * 256 ^ 6 + pack 6 rest < 7 * 256 ^ 6
      off_bound = let n = rest_length in let s = (facts p hp).short in let a = pack_lt 6 rest rest_small in omega arith

      pub off_path : ◌≡◌ {A = Path} (record { key = p.key - q.key - (p.key - q.key) % 256 ^ 6 + ((p.key - q.key) % 256 ^ 6 * 2 ^ (8 * k)) % 2 ^ 64 }) (path_of rest)
      off_path = let n = rest_length in let s = (facts p hp).short in path_is rest (omega arith) rest_small off_key

    pub off_some : off (steps q) (steps p) ≡ some rest
    off_some = (laws.off_under (steps q) (steps p) e).1

  pub low_part : p.key % 256 ^ 6 / 2 ^ (8 * length (steps q)) ≡ pack (6 - length (steps q)) (steps p)
  low_part =
      let f = facts p hp in
      let s = (facts q hq).short in
      ap₂ (λ a b. a / b) f.low (by_bytes (length (steps q))) ∙ high_digits (steps p) f.small 6 (6 - length (steps q)) (length (steps q)) (omega arith)

  pub on_path : (k : ℕ) → k ≡ length (steps q) → length (steps p) + k ≤ 6
      → ◌≡◌ {A = Path} (record { key = q.key + (p.key - p.key % 256 ^ 6) + p.key % 256 ^ 6 / 2 ^ (8 * k) }) (path_of (on (steps q) (steps p)))
  on_path k ek h =
      let f = facts p hp in
      let g = facts q hq in
      let i = f.packed in
      let j = g.packed in
      let l = f.low in
      let a = ap (λ n. p.key % 256 ^ 6 / 2 ^ (8 * n)) ek ∙ low_part in
      let b = key_append (steps q) (steps p) (6 - length (steps q)) (omega arith) in
      let n = length-append (steps q) (steps p) in
      path_is (on (steps q) (steps p)) (omega arith) (small_append (steps q) (steps p) g.small f.small) (omega arith)
