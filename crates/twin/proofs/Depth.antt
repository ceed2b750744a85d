-- The longest path of the table of nodes has as many steps as the tree is high. Assumes nothing.
use mathlib.Core.Path.{◌≡◌, refl, sym, ap}
use mathlib.Core.Logic.{◌⊎◌, inl, inr}
use mathlib.Core.Bool.{Bool}
use mathlib.Core.Option.{some}
use mathlib.Core.List.Memᴰ
use mathlib.Core.List.{List, [], ◌∷◌}
use Prim.Native.Nat.{ℕ, suc, ◌+◌, ◌≤◌, ◌<◌}
use native.Mathlib.Omega.{arith}
use lib.Dec.{leb, leb→le, nleb→lt, not_T}
use lib.ListN.{length}
use Rattle.laws.specs.Sorted.{◌∈◌, StrictOrder}
use Rattle.path.specs.Address.{Address}
use Rattle.path.proofs.Moves.{Test, holds, fails, test}
use Rattle.model.specs.Things.{Row}
use Rattle.model.specs.Moves.{deepest}
use Rattle.roundtrip.proofs.Orders.{lt_row}
use Rattle.twin.specs.Tree.{Tree, node, Forest, fnil, fcons, then, child, look, height, height_f, table}
use Rattle.twin.proofs.Trees.{look_branch}
use Rattle.twin.proofs.Rows.{table_in, table_back}
use Rattle.twin.proofs.Children.{one}
use Rattle.twin.proofs.KeepTree.{branch_height}

module _ {X : Type 0} where
  deepest_in : (l : List (Row X)) (r : Row X) → r ∈ l → length r.0 ≤ deepest l
  deepest_in [] r h = absurd (Memᴰ.not-nil h)
  deepest_in (x ∷ l) r h = go (deepest_in l r) (Memᴰ.cases_cons h)
    where
      go : (r ∈ l → length r.0 ≤ deepest l) → (r ≡ x) ⊎ (r ∈ l) → length r.0 ≤ deepest (x ∷ l)
      go f (inl e) = let d : length r.0 ≡ length x.0 = ap (λ (y : Row X). length y.0) e in omega arith
      go f (inr k) = let d : length r.0 ≤ deepest l = f k in omega arith

  deepest_le : (l : List (Row X)) (n : ℕ) → ((r : Row X) → r ∈ l → length r.0 ≤ n) → deepest l ≤ n
  deepest_le [] n h = omega arith
  deepest_le (x ∷ l) n h =
      let d : length x.0 ≤ n = h x (Memᴰ.head refl) in let c : deepest l ≤ n = deepest_le l n (λ r k. h r (Memᴰ.tail k)) in omega arith

module _ {P : Type 0} where
  pub look_height : (q : Address) (t : Tree P) (p : P) → look q t ≡ some p → length q ≤ height t
  look_height q t p e = let w = look_branch q t p e in let h : length q + height w.0 ≤ height t = branch_height q t w.0 w.1 in omega arith

  -- there is a node as deep as that
  abbrev DeepF : Forest P → Type 0
  DeepF f = (height_f f ≡ 0) ⊎ ((i : ℕ) × (q : Address) × (p : P) × (then (child i f) (λ s. look q s) ≡ some p) × (suc (length q) ≡ height_f f))

  abbrev Deep : Tree P → Type 0
  Deep t = (q : Address) × (p : P) × (look q t ≡ some p) × (length q ≡ height t)

  deep_root : (p : P) (f : Forest P) → DeepF f → Deep (node p f)
  unfolding height
  deep_root p f (inl e) = ([], p, refl, sym e)
  deep_root p f (inr w) = (suc w.0 ∷ w.1, w.2, w.3, w.4)

  deep_cons : (t : Tree P) (f : Forest P) → Deep t → DeepF f → DeepF (fcons t f)
  unfolding height
  deep_cons t f d (inl e) = inr (0, d.0, d.1, d.2, let h : length d.0 ≡ height t = d.3 in omega arith)
  deep_cons t f d (inr w) = go (test (leb (height_f f) (suc (height t))))
    where
      go : Test (leb (height_f f) (suc (height t))) → DeepF (fcons t f)
      go (holds b) = let l : height_f f ≤ suc (height t) = leb→le (height_f f) (suc (height t)) b in
          inr (0, d.0, d.1, d.2, let h : length d.0 ≡ height t = d.3 in omega arith)
      go (fails b) = let l : suc (height t) < height_f f = nleb→lt (height_f f) (suc (height t)) (not_T (leb (height_f f) (suc (height t))) b) in
          inr (suc w.0, w.1, w.2, w.3, let h : suc (length w.1) ≡ height_f f = w.4 in omega arith)

  mutual
    unfolding height

    deep : (t : Tree P) → Deep t
    deep (node p f) = deep_root p f (deep_f f)

    deep_f : (f : Forest P) → DeepF f
    deep_f fnil = inl refl
    deep_f (fcons t f) = deep_cons t f (deep t) (deep_f f)

  pub longest_height : {X : Type 0} (f : P → X) (lt_x : X → X → Bool) → StrictOrder lt_x → (t : Tree P) → deepest (table (one f) (lt_row lt_x) t) ≡ height t
  longest_height f lt_x oX t =
      let l : deepest (table (one f) (lt_row lt_x) t) ≤ height t = deepest_le (table (one f) (lt_row lt_x) t) (height t) (λ r h. let w = table_back (one f) lt_x oX r.0 r.1 t h in look_height r.0 t w.0 w.1) in
      let d = deep t in
      let k : length d.0 ≤ deepest (table (one f) (lt_row lt_x) t) = deepest_in (table (one f) (lt_row lt_x) t) (d.0, f d.1) (table_in (one f) lt_x oX d.0 (f d.1) t (d.1, d.2, Memᴰ.head refl)) in
      let e : length d.0 ≡ height t = d.3 in
      omega arith
