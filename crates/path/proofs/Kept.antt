-- Paths that moved are paths: a delete keeps every step from 1 to 32, and so does an add where the step that it raises is below 32. Assumes nothing.
use mathlib.Core.Path.{◌≡◌, refl, sym, ap, subst}
use mathlib.Core.Bool.{Bool, true, false, ◌&&◌}
use mathlib.Core.Option.{none, some}
use Rattle.std.specs.Prelude.{Some}
use Rattle.std.proofs.lemmas.Option.{none-some, same_Some}
use mathlib.Core.List.{[], ◌∷◌}
use Prim.Native.Nat.{ℕ, zero, suc, ◌+◌, ◌-◌, ◌≤◌, ◌<◌}
use native.Mathlib.Omega.{arith}
use lib.Dec.{T, eqb, leb, ltb, leb→le, le→leb}
use lib.ListN.{length, get_or}
use mir.Facts.{and_yes, yes_and}
use borrow.Author.Tests.{ltb-true}
use Rattle.laws.specs.Slots.{pick}
use Rattle.path.specs.Address.{Address, valid, steps_good, under, at_last, higher, lower, up, fall, down}
use Rattle.path.specs.View.{steps, path_of, PathSound, moved_of}
use Rattle.path.specs.declared.Path.{Path}
use Rattle.path.proofs.Laws.{up_length, fall_length}
use Rattle.path.proofs.Parts.{good_small}
use Rattle.path.proofs.Structs.{path_valid}

abbrev step_good : ℕ → Bool
step_good s = leb 1 s && leb s 32

good : (s : ℕ) → 1 ≤ s → s ≤ 32 → T (step_good s)
good s h g = yes_and (leb 1 s) (leb s 32) (le→leb 1 s h) (le→leb s 32 g)

good_least : (l : Address) → T (steps_good l) → (i : ℕ) → i < length l → 1 ≤ get_or l i 0
good_least [] t i h = absurd (omega arith)
good_least (x ∷ l) t zero h = leb→le 1 x (and_yes (leb 1 x) (leb x 32) (and_yes (step_good x) (steps_good l) t).0).0
good_least (x ∷ l) t (suc i) h = good_least l (and_yes (step_good x) (steps_good l) t).1 i (omega arith)

-- what is done at the last step of q leaves a good step there
last_good : (f : ℕ → ℕ → ℕ) (q p : Address) → T (steps_good p) → ((k : ℕ) → length q ≡ suc k → k < length p → T (step_good (f (get_or q k 0) (get_or p k 0)))) → T (steps_good (at_last f q p))
last_good f [] p g h = g
last_good f (x ∷ []) [] g h = g
last_good f (x ∷ []) (y ∷ p) g h = yes_and (step_good (f x y)) (steps_good p) (h 0 (omega arith) (omega arith)) (and_yes (step_good y) (steps_good p) g).1
last_good f (x ∷ x' ∷ q) [] g h = g
last_good f (x ∷ x' ∷ q) (y ∷ p) g h =
    let w = and_yes (step_good y) (steps_good p) g in
    yes_and (step_good y) (steps_good (pick (eqb x y) (at_last f (x' ∷ q) p) p)) w.0
    (go (eqb x y) w.1 (last_good f (x' ∷ q) p w.1 (λ k e b. h (suc k) (ap suc e) (omega arith))))
  where
    go : (b : Bool) → T (steps_good p) → T (steps_good (at_last f (x' ∷ q) p)) → T (steps_good (pick b (at_last f (x' ∷ q) p) p))
    go true s t = t
    go false s t = s

higher_good : (x y : ℕ) → 1 ≤ y → y < 32 → T (step_good (higher x y))
higher_good x y h g = go (leb x y)
  where
    go : (b : Bool) → T (step_good (pick b (y + 1) y))
    go true = good (y + 1) (omega arith) (omega arith)
    go false = good y h (omega arith)

lower_good : (x y : ℕ) → 1 ≤ x → 1 ≤ y → y ≤ 32 → T (step_good (lower x y))
lower_good x y h g s = go (ltb x y) (ltb-true x y)
  where
    go : (b : Bool) → (b ≡ true → x < y) → T (step_good (pick b (y - 1) y))
    go true lt = let l = lt refl in good (y - 1) (omega arith) (omega arith)
    go false lt = good y g s

valid_of : (p r : Address) → T (valid p) → length r ≡ length p → T (steps_good r) → T (valid r)
valid_of p r v e g = yes_and (leb (length r) 6) (steps_good r) (subst (λ n. T (leb n 6)) (sym e) (and_yes (leb (length p) 6) (steps_good p) v).0) g

up_valid : (q p : Address) → T (valid p) → ((k : ℕ) → length q ≡ suc k → get_or p k 0 < 32) → T (valid (up q p))
up_valid q p v h =
    let g = (and_yes (leb (length p) 6) (steps_good p) v).1 in
    valid_of p (up q p) v (up_length q p) (last_good higher q p g (λ k e b. higher_good (get_or q k 0) (get_or p k 0) (good_least p g k b) (h k e)))

fall_valid : (q p : Address) → T (valid q) → T (valid p) → T (valid (fall q p))
fall_valid q p u v =
    let g = (and_yes (leb (length p) 6) (steps_good p) v).1 in
    let w = (and_yes (leb (length q) 6) (steps_good q) u).1 in
    valid_of p (fall q p) v (fall_length q p) (last_good lower q p g (λ k e b. lower_good (get_or q k 0) (get_or p k 0) (good_least q w k (omega arith)) (good_least p g k b) (good_small p g k)))

pub up_sound : (q : Path) {p r : Path} → PathSound p → ((k : ℕ) → length (steps q) ≡ suc k → get_or (steps p) k 0 < 32) → r ≡ path_of (up (steps q) (steps p)) → PathSound r
up_sound q {p} h low e = record { model = up (steps q) (steps p); same = e; fits = up_valid (steps q) (steps p) (path_valid h) low }

pub down_sound : {p q r : Path} → PathSound p → PathSound q → Some r ≡ moved_of (down (steps q) (steps p)) → PathSound r
down_sound {p} {q} {r} h g e = go (under (steps q) (steps p)) e
  where
    go : (b : Bool) → Some r ≡ moved_of (pick b none (some (fall (steps q) (steps p)))) → PathSound r
    go true e = absurd (none-some _ (sym e))
    go false e = record { model = fall (steps q) (steps p); same = same_Some _ _ e; fits = fall_valid (steps q) (steps p) (path_valid g) (path_valid h) }
