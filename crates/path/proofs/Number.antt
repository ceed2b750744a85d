-- Paths by their numbers: their parts as shifts and remainders, and questions as comparisons of numbers. Assumes nothing.
use mathlib.Core.Path.{◌≡◌, refl, sym, ap, ap₂, ◌∙◌}
use mathlib.Core.Bool.{Bool, true, false}
use mathlib.Core.List.{List, [], ◌∷◌}
use Prim.Native.Nat.{ℕ, zero, suc, ◌+◌, ◌*◌, ◌-◌, ◌/◌, ◌%◌, ◌^◌, ◌≤◌, ◌<◌}
use native.Mathlib.Nat.{pow-suc, pow-le-pow_right, mul-le-mul_right, suc-mul}
use native.Mathlib.Omega.{arith}
use lib.Dec.{eqb, ltb}
use lib.Pow.{pow-add, shl_exact}
use lib.ListN.{length, get_or}
use borrow.Author.Tests.{eqb-true, eqb-false}
use Rattle.path.specs.Address.{Address, same, before, under, beside}
use Rattle.path.specs.Packed.{pack, address}
use Rattle.path.specs.View.{steps, path_of, PathSound, key_of, digit_of}
use Rattle.path.specs.declared.Path.{Path}
use Rattle.path.proofs.Moves.{is_false}
use Rattle.path.proofs.Laws.{same_self, same_eq}
use Rattle.path.proofs.Pack.{Small, high_digits, digit, key_lt, under_eq, beside_eq}
use Rattle.path.proofs.Structs.{facts, number_is}

-- ---- what step n counts, as shifts have it
pub by_bytes : (j : ℕ) → 2 ^ (8 * j) ≡ 256 ^ j
by_bytes zero = refl
by_bytes (suc j) =
    let e : 8 * suc j ≡ 8 * j + 8 = omega arith in
    ap (λ k. 2 ^ k) e ∙ pow-add 2 (8 * j) 8 ∙ ap (λ m. m * 256) (by_bytes j) ∙ sym (pow-suc 256 j)

pub weight : (n : ℕ) → n ≤ 6 → 2 ^ (48 - 8 * n) ≡ 256 ^ (6 - n)
weight n h = let e : 48 - 8 * n ≡ 8 * (6 - n) = omega arith in ap (λ k. 2 ^ k) e ∙ by_bytes (6 - n)

pub weight_le : (n : ℕ) → 256 ^ (6 - n) ≤ 256 ^ 6
weight_le n = pow-le-pow_right {n = 256} (omega arith) {i = 6 - n} {j = 6} (omega arith)

-- ---- the number's parts
pub front_is : (p : Path) → PathSound p → (n : ℕ) → n ≤ 6 → p.key % 256 ^ 6 / 2 ^ (48 - 8 * n) ≡ pack n (steps p)
front_is p hp n h = let f = facts p hp in ap₂ (λ a b. a / b) f.low (weight n h) ∙ high_digits (steps p) f.small 6 n (6 - n) (omega arith)

pub digit_shifts : (p : Path) (n : ℕ) → n ≤ 6 → p.key / 2 ^ (48 - 8 * n) % 256 ≡ digit_of n p
digit_shifts p n h = ap (λ b. p.key / b % 256) (weight n h)

pub digit_is : (p : Path) → PathSound p → (n : ℕ) → n ≤ 6 → digit_of n p ≡ get_or (length (steps p) ∷ steps p) n 0
digit_is p hp n h =
    let f = facts p hp in
    let s = f.short in
    ap (λ a. a / 256 ^ (6 - n) % 256) f.packed ∙ digit (length (steps p) ∷ steps p) (omega arith, f.small) 7 n (6 - n) (omega arith)

pub placed_is : (s n : ℕ) → s < 256 → n ≤ 6 → (s * 2 ^ (48 - 8 * n)) % 2 ^ 64 ≡ s * 256 ^ (6 - n)
placed_is s n h g = shl_exact 8 (48 - 8 * n) 64 h (omega arith) ∙ ap (λ w. s * w) (weight n g)

pub placed_small : (s n : ℕ) → s < 256 → s * 256 ^ (6 - n) ≤ 256 ^ 7
placed_small s n h = let a = mul-le-mul_right (256 ^ (6 - n)) h in let w = weight_le n in let b = suc-mul s (256 ^ (6 - n)) in omega arith

-- ---- paths of addresses of at most six steps, also where a step has become 33
pub record Digits (l : Address) : Type 0 where
  pub short : length l ≤ 6
  pub small : (i : ℕ) → get_or l i 0 ≤ 33

small_of : (l : List ℕ) → ((i : ℕ) → get_or l i 0 ≤ 33) → Small l
small_of [] h = tt
small_of (x ∷ l) h = let s = h 0 in (omega arith, small_of l (λ i. h (suc i)))

pub key_order : {p u : Path} (l m : Address) → p ≡ path_of l → u ≡ path_of m → Digits l → Digits m → ltb (key_of p) (key_of u) ≡ before l m
key_order l m e f a b =
    let s = small_of l a.small in
    let t = small_of m b.small in
    ap₂ (λ (x y : Path). ltb (key_of x) (key_of y)) e f ∙ ap₂ ltb (number_is l a.short s) (number_is m b.short t) ∙ key_lt 6 l m s t a.short b.short

-- ---- paths that stand for an address
module _ (p q : Path) (hp : PathSound p) (hq : PathSound q) where
  pub key_before : ltb (key_of p) (key_of q) ≡ before (steps p) (steps q)
  key_before =
      let f = facts p hp in
      let g = facts q hq in
      ap₂ ltb f.packed g.packed ∙ key_lt 6 (steps p) (steps q) f.small g.small f.short g.short

  pub key_same : eqb (key_of p) (key_of q) ≡ same (steps p) (steps q)
  key_same = go (eqb (key_of p) (key_of q)) refl
    where
      go : (b : Bool) → eqb (key_of p) (key_of q) ≡ b → eqb (key_of p) (key_of q) ≡ same (steps p) (steps q)
      go true e =
          let s : steps p ≡ steps q = ap address (eqb-true (key_of p) (key_of q) e) in
          e ∙ sym (ap (same (steps p)) (sym s) ∙ same_self (steps p))
      go false e =
          e
          ∙ sym (is_false (same (steps p) (steps q))
          (λ t. eqb-false (key_of p) (key_of q) e (ap key_of ((facts p hp).is ∙ ap path_of (same_eq (steps p) (steps q) t) ∙ sym (facts q hq).is))))

  pub front_under : eqb (pack (length (steps q)) (steps p)) (pack (length (steps q)) (steps q)) ≡ under (steps q) (steps p)
  front_under = under_eq (steps q) (steps p) (length (steps q)) (facts q hq).small (facts p hp).small (facts q hq).good refl

  pub front_beside : (n : ℕ) → length (steps q) ≡ suc n → length (steps q) ≤ length (steps p) → eqb (pack n (steps p)) (pack n (steps q)) ≡ beside (steps q) (steps p)
  front_beside n e h = beside_eq (steps q) (steps p) n (facts q hq).small (facts p hp).small e h
