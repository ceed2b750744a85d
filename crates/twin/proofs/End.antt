-- A node put after the last child moves no path: what loading an image does, record by record. Assumes nothing.
use mathlib.Core.Path.{◌≡◌, refl, sym, ap, subst, ◌∙◌}
use mathlib.Core.Bool.{Bool}
use mathlib.Core.Option.{Option, some, map, some-injective, none-ne-some}
use mathlib.Core.List.{List, [], ◌∷◌}
use Prim.Native.Nat.{ℕ, zero, suc, ◌<◌}
use native.Mathlib.Omega.{arith}
use lib.Dec.{eqb, eqb→eq}
use Rattle.laws.specs.Slots.{pick}
use Rattle.laws.specs.Sorted.{StrictOrder, merge}
use Rattle.path.specs.Address.{Address, parent, last, up, on}
use Rattle.path.proofs.Moves.{Test, holds, fails, test, pick_yes, pick_no, step_up, step_up_below, at, up_at}
use Rattle.model.specs.Things.{Row}
use Rattle.model.specs.Moves.{carry, carried}
use Rattle.roundtrip.proofs.Orders.{lt_row}
use Rattle.roundtrip.proofs.Prefix.{move_id}
use Rattle.twin.specs.Tree.{Tree, Forest, kids, count, kid, branch, look, paste_at, table}
use Rattle.twin.proofs.Trees.{then_some, child_below, Place}
use Rattle.twin.proofs.Rows.{table_back, paste_table}

module _ {P : Type 0} where
  -- k ∷ q is beyond the last child of its parent
  abbrev pub End : ℕ → Address → Tree P → Type 0
  End k [] t = count (kids t) < k
  End k (j ∷ q) t = (s : Tree P) × (kid k (kids t) ≡ some s) × End j q s

  pub end_of : (k : ℕ) (q : Address) (t s : Tree P) → branch (parent (k ∷ q)) t ≡ some s → count (kids s) < last (k ∷ q) → End k q t
  end_of k [] t s e l = subst (λ (u : Tree P). count (kids u) < k) (sym (some-injective t s e)) l
  end_of k (j ∷ q) t s e l = let w = then_some (kid k (kids t)) (λ u. branch (parent (j ∷ q)) u) s e in (w.0, w.1, end_of j q w.0 s w.2 l)

  kid_below : (i k : ℕ) (f : Forest P) (s : Tree P) → kid i f ≡ some s → count f < k → i < k
  kid_below zero k f s e h = absurd (none-ne-some s e)
  kid_below (suc i) k f s e h = let l : i < count f = child_below f i s e in omega arith

  stays : (k : ℕ) (q p : Address) (t : Tree P) (x : P) → End k q t → look p t ≡ some x → at step_up k q p ≡ some p
  stays k [] [] t x h e = refl
  stays k [] (i ∷ p) t x h e =
      let w = then_some (kid i (kids t)) (λ s. look p s) x e in ap (map (λ (j : ℕ). j ∷ p)) (step_up_below k i (kid_below i k (kids t) w.0 w.1 h))
  stays k (j ∷ q) [] t x h e = refl
  stays k (j ∷ q) (i ∷ p) t x h e = ap (map (λ (r : Address). i ∷ r)) (go (test (eqb k i)) (λ d. stays j q p h.0 x h.2 d))
    where
      go : Test (eqb k i) → (look p h.0 ≡ some x → at step_up j q p ≡ some p) → pick (eqb k i) (at step_up j q p) (some p) ≡ some p
      go (holds b) ih =
          let w = then_some (kid i (kids t)) (λ s. look p s) x e in
          let d : w.0 ≡ h.0 = some-injective w.0 h.0 (sym w.1 ∙ ap (λ (n : ℕ). kid n (kids t)) (sym (eqb→eq k i b)) ∙ h.1) in
          pick_yes (eqb k i) (at step_up j q p) (some p) b ∙ ih (ap (λ (s : Tree P). look p s) (sym d) ∙ w.2)
      go (fails b) ih = pick_no (eqb k i) (at step_up j q p) (some p) b

  -- what is there stays where it is
  end_stays : (k : ℕ) (q p : Address) (t : Tree P) (x : P) → End k q t → look p t ≡ some x → up (k ∷ q) p ≡ p
  end_stays k q p t x h e = some-injective (up (k ∷ q) p) p (sym (up_at k q p) ∙ stays k q p t x h e)

  pub paste_end : {X : Type 0} (items : P → List X) (lt_x : X → X → Bool) → StrictOrder lt_x → (s : Tree P) (k : ℕ) (q : Address) (t : Tree P) → Place k q t → End k q t
      → table items (lt_row lt_x) (paste_at s k q t) ≡ merge (lt_row lt_x) (carried (λ p. some (on (k ∷ q) p)) (table items (lt_row lt_x) s)) (table items (lt_row lt_x) t)
  paste_end {X} items lt_x oX s k q t pl h =
      paste_table items lt_x oX s k q t pl
      ∙ ap (merge (lt_row lt_x) (carried (λ p. some (on (k ∷ q) p)) (table items (lt_row lt_x) s)))
      (move_id (carry (λ p. some (up (k ∷ q) p))) (table items (lt_row lt_x) t)
      (λ r m. let w = table_back items lt_x oX r.0 r.1 t m in ap {B = Option (Row X)} (λ (p : Address). some (p, r.1)) (end_stays k q r.0 t w.0 h w.1)))
