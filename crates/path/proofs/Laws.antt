-- The laws of addresses and how they move: the order is kept, a delete takes back an add, every address is reached, a prefix goes and comes. Assumes nothing.
use mathlib.Core.Path.{◌≡◌, refl, sym, ap, ap₂, subst, subst₂, ◌∙◌}
use mathlib.Core.Logic.{◌⊎◌, inl, inr}
use mathlib.Core.Bool.{Bool, true, false, true≢false}
use mathlib.Core.Option.{none, some, some-injective, none-ne-some}
use mathlib.Core.List.{[], ◌∷◌, ◌++◌}
use Prim.Native.Nat.{ℕ, ◌+◌}
use native.Mathlib.Omega.{arith}
use lib.Dec.{T, ltb, eqb, eqb→eq, eqb_refl}
use lib.ListN.{length, length-append}
use Rattle.laws.specs.Slots.{pick}
use Rattle.laws.specs.Sorted.{StrictOrder, Monotone}
use Rattle.laws.specs.Order.{lt_list, lt_pair}
use Rattle.laws.proofs.Sorted.{back_monotone}
use Rattle.laws.proofs.Order.{nat_order, list_order, pair_order, pull, lex2_right}
use Rattle.path.specs.Address.{Address, same, before, under, parent, last, child, at_last, higher, lower, up, fall, down, off, on}
use Rattle.path.proofs.Moves.{Test, holds, fails, test, is_true, is_false, pick_yes, pick_some, pick_none, pick_both, step_up, step_down, step_up_mono, step_down_up, step_up_down, at, last_at, up_at, down_at, at_back, at_keeps, at_mono, Mono, lt_cast, address_mono}

-- ---- image order: the length, then the steps in turn, as numbers
pub address_order : StrictOrder before
address_order = pull (lt_pair ltb (lt_list ltb)) (λ (p : Address). (length p, p)) (λ a b e i. (e i).1) (pair_order ltb (lt_list ltb) nat_order (list_order ltb nat_order))

pub same_eq : (p q : Address) → T (same p q) → p ≡ q
same_eq [] [] t = refl
same_eq [] (y ∷ q) t = absurd t
same_eq (x ∷ p) [] t = absurd t
same_eq (x ∷ p) (y ∷ q) t =
    let w = pick_both (eqb x y) (same p q) t in ap₂ (λ (n : ℕ) (r : Address). n ∷ r) (eqb→eq x y w.0) (same_eq p q w.1)

pub same_refl : (p : Address) → T (same p p)
same_refl [] = tt
same_refl (x ∷ p) = subst T (sym (pick_yes (eqb x x) (same p p) false (eqb_refl x))) (same_refl p)

pub same_self : (p : Address) → same p p ≡ true
same_self p = is_true (same p p) (same_refl p)

pub same_true : (p q : Address) → same p q ≡ true → p ≡ q
same_true p q e = same_eq p q (subst T (sym e) tt)

-- ---- add or paste at q, delete at q
at_last_length : (f : ℕ → ℕ → ℕ) (q p : Address) → length (at_last f q p) ≡ length p
at_last_length f [] p = refl
at_last_length f (k ∷ q) p =
    let h : 0 + length p ≡ 0 + length (at_last f (k ∷ q) p) = at_keeps (λ x y. some (f x y)) k q p (at_last f (k ∷ q) p) (last_at f k q p) in omega arith

pub up_length : (q p : Address) → length (up q p) ≡ length p
up_length q p = at_last_length higher q p

pub fall_length : (q p : Address) → length (fall q p) ≡ length p
fall_length q p = at_last_length lower q p

-- "objects at or below q go"; the others stay, moved or not
pub down_stays : (q p : Address) → under q p ≡ false → down q p ≡ some (fall q p)
down_stays q p e = ap (λ (b : Bool). pick b none (some (fall q p))) e

-- a delete takes back an add, and an add a delete
pub down_up : (k : ℕ) (q p : Address) → down (k ∷ q) (up (k ∷ q) p) ≡ some p
down_up k q p = sym (down_at k q (up (k ∷ q) p)) ∙ at_back step_up step_down step_down_up k q p (up (k ∷ q) p) (up_at k q p)

pub up_down : (q p r : Address) → down q p ≡ some r → up q r ≡ p
up_down [] p r e = absurd (none-ne-some r e)
up_down (k ∷ q) p r e = some-injective (up (k ∷ q) r) p (sym (up_at k q r) ∙ at_back step_down step_up step_up_down k q p r (down_at k q p ∙ e))

-- nothing old is at the new place or below it
pub up_never : (k : ℕ) (q p : Address) → under (k ∷ q) (up (k ∷ q) p) ≡ false
up_never k q p = is_false (under (k ∷ q) r) (pick_none (under (k ∷ q) r) (some (fall (k ∷ q) r)) p (down_up k q p)).0
  where
    r : Address
    r = up (k ∷ q) p

pub up_order : (q : Address) → Monotone before before (λ p. some (up q p))
unfolding Monotone
up_order [] a a' b b' e e' t = subst₂ (λ (x y : Address). T (before x y)) (some-injective a b e) (some-injective a' b' e') t
up_order (k ∷ q) a a' b b' e e' t =
    address_mono 0 0 (at step_up k q) (at_keeps step_up k q) (at_mono step_up step_up_mono k q) a a' b b' (up_at k q a ∙ e) (up_at k q a' ∙ e') t

pub down_order : (q : Address) → Monotone before before (down q)
down_order q = back_monotone before before address_order address_order (λ p. some (up q p)) (down q) (λ p r e. ap some (up_down q p r e)) (up_order q)

-- ---- copy: "prefix removed"; paste: "puts the prefix of the new place"
pub on_off : (q p r : Address) → off q p ≡ some r → on q r ≡ p
on_off [] p r e = sym (some-injective p r e)
on_off (x ∷ q) [] r e = absurd (none-ne-some r e)
on_off (x ∷ q) (y ∷ p) r e =
    let w = pick_some (eqb x y) (off q p) r e in ap₂ (λ (n : ℕ) (l : Address). n ∷ l) (eqb→eq x y w.0) (on_off q p r w.1)

pub off_on : (q p : Address) → off q (on q p) ≡ some p
off_on [] p = refl
off_on (x ∷ q) p = pick_yes (eqb x x) (off q (on q p)) none (eqb_refl x) ∙ off_on q p

pub under_on : (q p : Address) → under q (on q p) ≡ true
under_on [] p = refl
under_on (x ∷ q) p = pick_yes (eqb x x) (under q (on q p)) false (eqb_refl x) ∙ under_on q p

pub off_under : (q p : Address) → under q p ≡ true → (r : Address) × (off q p ≡ some r)
off_under [] p e = (p, refl)
off_under (x ∷ q) [] e = absurd (true≢false (sym e))
off_under (x ∷ q) (y ∷ p) e =
    let w = pick_both (eqb x y) (under q p) (subst T (sym e) tt) in
    let v = off_under q p (is_true (under q p) w.1) in
    (v.0, pick_yes (eqb x y) (off q p) none w.0 ∙ v.1)

pub under_append : (q p : Address) → under q p ≡ true → (r : Address) × (p ≡ q ++ r)
under_append q p e = let w = off_under q p e in (w.0, sym (on_off q p w.0 w.1))

append_lt : (q p r : Address) → T (lt_list ltb p r) → T (lt_list ltb (q ++ p) (q ++ r))
append_lt [] p r t = t
append_lt (k ∷ q) p r t = lex2_right ltb nat_order k k (lt_list ltb (q ++ p) (q ++ r)) refl (append_lt q p r t)

on_mono : (q : Address) → Mono (λ p. some (on q p))
unfolding Monotone
on_mono q p r b b' e e' t = lt_cast (some-injective (q ++ p) b e) (some-injective (q ++ r) b' e') (append_lt q p r t)

pub on_order : (q : Address) → Monotone before before (λ p. some (on q p))
on_order q = address_mono (length q) 0 (λ p. some (on q p))
    (λ p r e. let d : length (q ++ p) ≡ length r = ap (λ (x : Address). length x) (some-injective (q ++ p) r e) in omega (arith, length-append q p)) (on_mono q)

pub off_order : (q : Address) → Monotone before before (off q)
off_order q = back_monotone before before address_order address_order (λ p. some (on q p)) (off q) (λ p r e. ap some (on_off q p r e)) (on_order q)

-- ---- every address is reached
pub down_onto : (k : ℕ) (q r : Address) → (p : Address) × (under (k ∷ q) p ≡ false) × (down (k ∷ q) p ≡ some r)
down_onto k q r = (up (k ∷ q) r, up_never k q r, down_up k q r)

pub up_onto : (k : ℕ) (q p : Address) → under (k ∷ q) p ≡ false → (r : Address) × (up (k ∷ q) r ≡ p)
up_onto k q p e = (fall (k ∷ q) p, up_down (k ∷ q) p (fall (k ∷ q) p) (down_stays (k ∷ q) p e))

-- an address comes from an old one, or is the new place or below it
pub up_or_new : (k : ℕ) (q r : Address) → ((p : Address) × (up (k ∷ q) p ≡ r)) ⊎ ((x : Address) × (r ≡ on (k ∷ q) x))
up_or_new k q r = go (test (under (k ∷ q) r))
  where
    go : Test (under (k ∷ q) r) → ((p : Address) × (up (k ∷ q) p ≡ r)) ⊎ ((x : Address) × (r ≡ on (k ∷ q) x))
    go (holds t) = inr (under_append (k ∷ q) r (is_true (under (k ∷ q) r) t))
    go (fails n) = inl (up_onto k q r (is_false (under (k ∷ q) r) n))

-- ---- the parent and the last step
pub parent_child : (p : Address) (s : ℕ) → parent (child p s) ≡ p
parent_child [] s = refl
parent_child (x ∷ []) s = refl
parent_child (x ∷ y ∷ p) s = ap (λ (r : Address). x ∷ r) (parent_child (y ∷ p) s)

pub last_child : (p : Address) (s : ℕ) → last (child p s) ≡ s
last_child [] s = refl
last_child (x ∷ []) s = refl
last_child (x ∷ y ∷ p) s = last_child (y ∷ p) s

pub child_parent : (k : ℕ) (q : Address) → child (parent (k ∷ q)) (last (k ∷ q)) ≡ k ∷ q
child_parent k [] = refl
child_parent k (j ∷ q) = ap (λ (r : Address). k ∷ r) (child_parent j q)
