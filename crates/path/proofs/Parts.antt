-- Laws of addresses: tests, parts, what is beside and below. Assumes nothing.
use mathlib.Core.Path.{◌≡◌, refl, sym, ap, ◌∙◌}
use mathlib.Core.Logic.{◌⊎◌, inl, inr}
use mathlib.Core.Bool.{Bool, true, false, ◌&&◌}
use mathlib.Core.Option.{none, some}
use mathlib.Core.List.{[], ◌∷◌}
use Prim.Native.Nat.{ℕ, zero, suc, ◌+◌, ◌≤◌, ◌<◌}
use native.Mathlib.Omega.{arith}
use lib.Dec.{T, eqb, leb, leb→le}
use lib.ListN.{length, get_or, set, drop, length-append}
use lib.Seq.{get_or_at}
use borrow.Author.Tests.{le-leb}
use Rattle.laws.specs.Slots.{pick}
use Rattle.path.specs.Address.{Address, valid, steps_good, under, beside, at_last, parent, last, child, in_depth, off}

-- ---- tests
pub no : {A : Type 0} → true ≡ false → A
no e = let z : ◌≡◌ {A = ℕ} 0 1 = cc in absurd (omega arith)

pub both : (a b : Bool) → T (a && b) → T a × T b
both true b t = (tt, t)
both false b t = absurd t

pick_same : {A : Type 0} (t : Bool) {a b : A} → a ≡ b → pick t a b ≡ b
pick_same true e = e
pick_same false e = refl

pub pick_true : (b c : Bool) → pick b c false ≡ true → (b ≡ true) × (c ≡ true)
pick_true true c h = (refl, h)
pick_true false c h = no (sym h)

-- ---- what a path must be
pub good_small : (l : Address) → T (steps_good l) → (i : ℕ) → get_or l i 0 ≤ 32
good_small [] t i = omega arith
good_small (x ∷ l) t zero = leb→le x 32 (both (leb 1 x) (leb x 32) (both (leb 1 x && leb x 32) (steps_good l) t).0).1
good_small (x ∷ l) t (suc i) = good_small l (both (leb 1 x && leb x 32) (steps_good l) t).1 i

pub valid_short : (l : Address) → T (valid l) → length l ≤ 6
valid_short l t = leb→le (length l) 6 (both (leb (length l) 6) (steps_good l) t).0

pub valid_small : (l : Address) → T (valid l) → (i : ℕ) → get_or l i 0 ≤ 32
valid_small l t = good_small l (both (leb (length l) 6) (steps_good l) t).1

-- ---- beside
pub beside_short : (q p : Address) → length p < length q → beside q p ≡ false
beside_short [] p h = refl
beside_short (x ∷ []) [] h = refl
beside_short (x ∷ []) (y ∷ p) h = absurd (omega arith)
beside_short (x ∷ x' ∷ q) [] h = refl
beside_short (x ∷ x' ∷ q) (y ∷ p) h = pick_same (eqb x y) (beside_short (x' ∷ q) p (omega arith))

-- what is not beside q: q is the root, or p is shorter
pub beside_off : (q p : Address) {k n : ℕ} → k ≡ length q → n ≡ length p → ((0 < k × n < k) ⊎ (k ≤ 0)) → beside q p ≡ false
beside_off q p e f (inl w) = beside_short q p (omega (arith, w.1))
beside_off [] p e f (inr w) = refl
beside_off (x ∷ q) p e f (inr w) = absurd (omega arith)

pub beside_long : (q p : Address) → beside q p ≡ true → (0 < length q) × (length q ≤ length p)
beside_long [] p e = no (sym e)
beside_long (x ∷ []) [] e = no (sym e)
beside_long (x ∷ []) (y ∷ p) e = omega arith
beside_long (x ∷ x' ∷ q) [] e = no (sym e)
beside_long (x ∷ x' ∷ q) (y ∷ p) e = let ih = beside_long (x' ∷ q) p (pick_true (eqb x y) (beside (x' ∷ q) p) e).1 in omega arith

-- ---- what is done at the last step, for any f
pub last_off : (f : ℕ → ℕ → ℕ) (q p : Address) → beside q p ≡ false → at_last f q p ≡ p
last_off f [] p e = refl
last_off f (x ∷ []) [] e = refl
last_off f (x ∷ []) (y ∷ p) e = no e
last_off f (x ∷ x' ∷ q) [] e = refl
last_off f (x ∷ x' ∷ q) (y ∷ p) e = go (eqb x y) (last_off f (x' ∷ q) p) e
  where
    go : (b : Bool) → (beside (x' ∷ q) p ≡ false → at_last f (x' ∷ q) p ≡ p) → pick b (beside (x' ∷ q) p) false ≡ false
        → y ∷ pick b (at_last f (x' ∷ q) p) p ≡ y ∷ p
    go true ih h = ap (λ l. y ∷ l) (ih h)
    go false ih h = refl

pub last_on : (f : ℕ → ℕ → ℕ) (q p : Address) (n : ℕ) → beside q p ≡ true → length q ≡ suc n → at_last f q p ≡ set p n (f (get_or q n 0) (get_or p n 0))
last_on f [] p n e l = no (sym e)
last_on f (x ∷ []) [] n e l = no (sym e)
last_on f (x ∷ []) (y ∷ p) zero e l = refl
last_on f (x ∷ []) (y ∷ p) (suc n) e l = absurd (omega arith)
last_on f (x ∷ x' ∷ q) [] n e l = no (sym e)
last_on f (x ∷ x' ∷ q) (y ∷ p) zero e l = absurd (omega arith)
last_on f (x ∷ x' ∷ q) (y ∷ p) (suc n) e l =
    let h = pick_true (eqb x y) (beside (x' ∷ q) p) e in rw h.0 (ap (λ t. y ∷ t) (last_on f (x' ∷ q) p n h.1 (omega arith)))

-- ---- at or below: what is left of an address, and that there is nothing otherwise
pub off_under : (q p : Address) → under q p ≡ true → (off q p ≡ some (drop (length q) p)) × (length q ≤ length p)
off_under [] p e = (refl, omega arith)
off_under (x ∷ q) [] e = no (sym e)
off_under (x ∷ q) (y ∷ p) e =
    let h = pick_true (eqb x y) (under q p) e in
    let ih = off_under q p h.1 in
    let le = ih.1 in
    (rw h.0 ih.0, omega arith)

pub off_not : (q p : Address) → under q p ≡ false → off q p ≡ none
off_not [] p e = no e
off_not (x ∷ q) [] e = refl
off_not (x ∷ q) (y ∷ p) e = go (eqb x y) (off_not q p) e
  where
    go : (b : Bool) → (under q p ≡ false → off q p ≡ none) → pick b (under q p) false ≡ false → pick b (off q p) none ≡ none
    go true ih h = ih h
    go false ih h = refl

-- ---- the parent and the last step
pub parent_child : (l : Address) → 0 < length l → l ≡ child (parent l) (last l)
parent_child [] h = absurd (omega arith)
parent_child (x ∷ []) h = refl
parent_child (x ∷ y ∷ l) h = ap (λ r. x ∷ r) (parent_child (y ∷ l) (omega arith))

pub parent_length : (l : Address) → 0 < length l → length l ≡ length (parent l) + 1
parent_length l h = ap length (parent_child l h) ∙ length-append (parent l) (last l ∷ [])

pub last_read : (l : Address) (n : ℕ) → length l ≡ n + 1 → get_or l n 0 ≡ last l
last_read l n e =
    let p = parent_length l (omega arith) in
    ap (λ k. get_or k n 0) (parent_child l (omega arith)) ∙ get_or_at (parent l) (last l) [] 0 n (omega arith)

pub in_depth_fits : (l : Address) → length l ≤ 6 → in_depth l ≡ some l
in_depth_fits l h = rw (le-leb (length l) 6 h)

-- ---- the parent of a path is a path
map_and : (a b c : Bool) → (T b → T c) → T (a && b) → T (a && c)
map_and true b c f t = f t
map_and false b c f t = t

pub parent_good : (l : Address) → T (steps_good l) → T (steps_good (parent l))
parent_good [] t = tt
parent_good (x ∷ []) t = tt
parent_good (x ∷ y ∷ l) t = map_and (leb 1 x && leb x 32) (steps_good (y ∷ l)) (steps_good (parent (y ∷ l))) (parent_good (y ∷ l)) t

pub parent_short : (l : Address) → length (parent l) ≤ length l
parent_short [] = omega arith
parent_short (x ∷ []) = omega arith
parent_short (x ∷ y ∷ l) = let h = parent_short (y ∷ l) in omega arith
