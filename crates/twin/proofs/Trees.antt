-- Laws of the child lists of a tree, and of a tree along a position: what an edit leaves, what it puts in, and where a place is. Assumes nothing.
use mathlib.Core.Path.{◌≡◌, refl, sym, ap, ap₂, subst, ◌∙◌}
use mathlib.Core.Logic.{◌⊎◌, inl, inr, ◌≢◌}
use mathlib.Core.Option.{Option, none, some, map, some-injective, none-ne-some}
use mathlib.Core.List.{[], ◌∷◌}
use Prim.Native.Nat.{ℕ, zero, suc, ◌≤◌, ◌<◌}
use native.Mathlib.Nat.{le_of_suc-le-suc, not-suc-le-zero}
use native.Mathlib.Omega.{arith}
use lib.Dec.{T, eqb, eqb→eq, eqb_refl}
use Rattle.laws.specs.Slots.{pick}
use Rattle.path.specs.Address.{Address, parent, last, on}
use Rattle.path.proofs.Moves.{Test, holds, fails, test, pick_yes, pick_no, step_up, step_down, step_up_spec, step_down_spec, at, map_some}
use Rattle.twin.specs.Tree.{Tree, node, Forest, fnil, fcons, then, payload, kids, count, child, kid, branch, look, put, drop, change, from1, edit, paste_at, set_at}

-- the last step of k ∷ q is no 0
abbrev pub Last : ℕ → Address → Type 0
Last k [] = 1 ≤ k
Last k (j ∷ q) = Last j q

pub last_of : (k : ℕ) (q : Address) → 1 ≤ last (k ∷ q) → Last k q
last_of k [] h = h
last_of k (j ∷ q) h = last_of j q h

-- two steps that the test tells apart differ
apart : (i k : ℕ) → (T (eqb k i) → ⊥) → i ≢ k
apart i k n e = n (subst (λ (m : ℕ). T (eqb k m)) (sym e) (eqb_refl k))

-- ---- a question asked only if there is something to ask
pub then_some : {A B : Type 0} (o : Option A) (F : A → Option B) (b : B) → then o F ≡ some b → (a : A) × (o ≡ some a) × (F a ≡ some b)
then_some none F b e = absurd (none-ne-some b e)
then_some (some a) F b e = (a, refl, e)

then_then : {A B C : Type 0} (o : Option A) (F : A → Option B) (G : B → Option C) (H : A → Option C) → ((a : A) → H a ≡ then (F a) G) → then o H ≡ then (then o F) G
then_then none F G H h = refl
then_then (some a) F G H h = h a

-- of what was done first, what is done after
then_map : {A B C : Type 0} (E : A → A) (G : B → C) (F : A → Option C) (H : A → Option B) (o : Option A)
    → ((s : A) → F (E s) ≡ map G (H s)) → then (map E o) F ≡ map G (then o H)
then_map E G F H none h = refl
then_map E G F H (some s) h = h s

then_same : {A B : Type 0} (E : A → A) (F H : A → Option B) (o : Option A) → ((s : A) → F (E s) ≡ H s) → then (map E o) F ≡ then o H
then_same E F H none h = refl
then_same E F H (some s) h = h s

-- ---- one list of children, counted from 0
module _ {P : Type 0} where
  put_above : (s : Tree P) (k i : ℕ) (f : Forest P) → k ≤ i → child (suc i) (put s k f) ≡ child i f
  put_above s zero i f h = refl
  put_above s (suc k) i fnil h = refl
  put_above s (suc k) zero (fcons t f) h = absurd (not-suc-le-zero h)
  put_above s (suc k) (suc i) (fcons t f) h = put_above s k i f (le_of_suc-le-suc h)

  put_below : (s : Tree P) (k i : ℕ) (f : Forest P) → i < k → child i (put s k f) ≡ child i f
  put_below s zero i f h = absurd (not-suc-le-zero h)
  put_below s (suc k) i fnil h = refl
  put_below s (suc k) zero (fcons t f) h = refl
  put_below s (suc k) (suc i) (fcons t f) h = put_below s k i f (le_of_suc-le-suc h)

  put_new : (s : Tree P) (k : ℕ) (f : Forest P) → k ≤ count f → child k (put s k f) ≡ some s
  put_new s zero f h = refl
  put_new s (suc k) fnil h = absurd (not-suc-le-zero h)
  put_new s (suc k) (fcons t f) h = put_new s k f (le_of_suc-le-suc h)

  drop_above : (k i : ℕ) (f : Forest P) → k ≤ i → child i (drop k f) ≡ child (suc i) f
  drop_above k i fnil h = refl
  drop_above zero i (fcons t f) h = refl
  drop_above (suc k) zero (fcons t f) h = absurd (not-suc-le-zero h)
  drop_above (suc k) (suc i) (fcons t f) h = drop_above k i f (le_of_suc-le-suc h)

  drop_below : (k i : ℕ) (f : Forest P) → i < k → child i (drop k f) ≡ child i f
  drop_below k i fnil h = refl
  drop_below zero i (fcons t f) h = absurd (not-suc-le-zero h)
  drop_below (suc k) zero (fcons t f) h = refl
  drop_below (suc k) (suc i) (fcons t f) h = drop_below k i f (le_of_suc-le-suc h)

  change_same : (g : Tree P → Tree P) (k : ℕ) (f : Forest P) → child k (change g k f) ≡ map g (child k f)
  change_same g k fnil = refl
  change_same g zero (fcons t f) = refl
  change_same g (suc k) (fcons t f) = change_same g k f

  change_other : (g : Tree P → Tree P) (k i : ℕ) (f : Forest P) → i ≢ k → child i (change g k f) ≡ child i f
  change_other g k i fnil n = refl
  change_other g zero zero (fcons t f) n = absurd (n refl)
  change_other g zero (suc i) (fcons t f) n = refl
  change_other g (suc k) zero (fcons t f) n = refl
  change_other g (suc k) (suc i) (fcons t f) n = change_other g k i f (λ e. n (ap suc e))

  change_kept : (g : Tree P → Tree P) (k : ℕ) (f : Forest P) → ((s : Tree P) → child k f ≡ some s → g s ≡ s) → change g k f ≡ f
  change_kept g k fnil h = refl
  change_kept g zero (fcons t f) h = ap (λ (s : Tree P). fcons s f) (h t refl)
  change_kept g (suc k) (fcons t f) h = ap (λ (r : Forest P). fcons t r) (change_kept g k f h)

  pub child_below : (f : Forest P) (i : ℕ) (t : Tree P) → child i f ≡ some t → i < count f
  child_below fnil i t e = absurd (none-ne-some t e)
  child_below (fcons s f) zero t e = omega arith
  child_below (fcons s f) (suc i) t e = let h : i < count f = child_below f i t e in omega arith

  pub count_child : (f : Forest P) (i : ℕ) → i < count f → (t : Tree P) × (child i f ≡ some t)
  count_child fnil i h = absurd (not-suc-le-zero h)
  count_child (fcons s f) zero h = (s, refl)
  count_child (fcons s f) (suc i) h = count_child f i (le_of_suc-le-suc h)

  -- ---- the same counted from 1
  kid_same : (g : Tree P → Tree P) (k : ℕ) (f : Forest P) → kid k (from1 (change g) k f) ≡ map g (kid k f)
  kid_same g zero f = refl
  kid_same g (suc k) f = change_same g k f

  kid_other : (g : Tree P → Tree P) (k i : ℕ) (f : Forest P) → i ≢ k → kid i (from1 (change g) k f) ≡ kid i f
  kid_other g zero i f n = refl
  kid_other g (suc k) zero f n = refl
  kid_other g (suc k) (suc i) f n = change_other g k i f (λ e. n (ap suc e))

  kid_kept : (g : Tree P → Tree P) (k : ℕ) (f : Forest P) → ((s : Tree P) → kid k f ≡ some s → g s ≡ s) → from1 (change g) k f ≡ f
  kid_kept g zero f h = refl
  kid_kept g (suc k) f h = change_kept g k f h

  kid_new : (s : Tree P) (k : ℕ) (f : Forest P) → 1 ≤ k → k ≤ suc (count f) → kid k (from1 (put s) k f) ≡ some s
  kid_new s zero f h l = absurd (not-suc-le-zero h)
  kid_new s (suc k) f h l = put_new s k f (le_of_suc-le-suc l)

  -- the rule g of steps says where the operation h takes each child
  abbrev pub Law : (ℕ → ℕ → Option ℕ) → (ℕ → Forest P → Forest P) → Type 0
  Law g h = (k i j : ℕ) (f : Forest P) → 1 ≤ k → g k i ≡ some j → kid j (from1 h k f) ≡ kid i f

  pub put_law : (s : Tree P) → Law step_up (put s)
  put_law s zero i j f h e = absurd (not-suc-le-zero h)
  put_law s (suc k) i j f h e = go i (step_up_spec (suc k) i j e)
    where
      go : (i : ℕ) → ((suc k ≤ i) × (j ≡ suc i)) ⊎ ((i < suc k) × (j ≡ i)) → kid j (put s k f) ≡ kid i f
      go zero (inl w) = absurd (not-suc-le-zero w.0)
      go (suc i) (inl w) = ap (λ (n : ℕ). kid n (put s k f)) w.1 ∙ put_above s k i f (le_of_suc-le-suc w.0)
      go zero (inr w) = ap (λ (n : ℕ). kid n (put s k f)) w.1
      go (suc i) (inr w) = ap (λ (n : ℕ). kid n (put s k f)) w.1 ∙ put_below s k i f (le_of_suc-le-suc w.0)

  pub drop_law : Law step_down drop
  drop_law zero i j f h e = absurd (not-suc-le-zero h)
  drop_law (suc k) i j f h e = go i j (step_down_spec (suc k) i j e)
    where
      go : (i j : ℕ) → ((i < suc k) × (j ≡ i)) ⊎ ((suc k < i) × (i ≡ suc j)) → kid j (drop k f) ≡ kid i f
      go zero j (inl w) = ap (λ (n : ℕ). kid n (drop k f)) w.1
      go (suc i) j (inl w) = ap (λ (n : ℕ). kid n (drop k f)) w.1 ∙ drop_below k i f (le_of_suc-le-suc w.0)
      go i zero (inr w) = absurd (let h : suc k < i = w.0 in let d : i ≡ 1 = w.1 in omega arith)
      go i (suc j) (inr w) = let h : suc k < i = w.0 in let d : i ≡ suc (suc j) = w.1 in drop_above k j f (omega arith) ∙ ap (λ (n : ℕ). kid n f) (sym d)

-- ---- along a position
module _ {P : Type 0} where
  -- a change of the child k, asked about below the step i: below k it is the question after the change, elsewhere the old one
  kid_changed : (E : Tree P → Tree P) (k i : ℕ) (F G : Tree P → Option P) (f : Forest P) → ((i ≡ k) → (s : Tree P) → F (E s) ≡ G s) → (i ≢ k → (s : Tree P) → F s ≡ G s)
      → then (kid i (from1 (change E) k f)) F ≡ then (kid i f) G
  kid_changed E k i F G f y n = go (test (eqb k i))
    where
      all : (o : Option (Tree P)) → ((s : Tree P) → F s ≡ G s) → then o F ≡ then o G
      all none h = refl
      all (some s) h = h s

      go : Test (eqb k i) → then (kid i (from1 (change E) k f)) F ≡ then (kid i f) G
      go (holds b) = let e : k ≡ i = eqb→eq k i b in
          ap (λ (m : ℕ). then (kid i (from1 (change E) m f)) F) e ∙ ap (λ (o : Option (Tree P)). then o F) (kid_same E i f) ∙ then_same E F G (kid i f) (y (sym e))
      go (fails b) = let d : i ≢ k = apart i k b in ap (λ (o : Option (Tree P)). then o F) (kid_other E k i f d) ∙ all (kid i f) (n d)

  -- what stood at p stands at r, where the rule of steps takes p: one law for add, paste and delete
  pub edit_old : (g : ℕ → ℕ → Option ℕ) (h : ℕ → Forest P → Forest P) → Law g h
      → (k : ℕ) (q p r : Address) (t : Tree P) → Last k q → at g k q p ≡ some r → look r (edit h k q t) ≡ look p t
  edit_old g h law k [] [] r t l e = ap (λ (x : Address). look x (edit h k [] t)) (sym (some-injective [] r e))
  edit_old g h law k [] (i ∷ p) r t l e =
      let w = map_some (λ (j : ℕ). j ∷ p) (g k i) r e in
      ap (λ (x : Address). look x (edit h k [] t)) (sym w.2) ∙ ap (λ (o : Option (Tree P)). then o (λ s. look p s)) (law k i w.0 (kids t) l w.1)
  edit_old g h law k (j ∷ q) [] r t l e = ap (λ (x : Address). look x (edit h k (j ∷ q) t)) (sym (some-injective [] r e))
  edit_old g h law k (j ∷ q) (i ∷ p) r t l e =
      let w = map_some (λ (x : Address). i ∷ x) (pick (eqb k i) (at g j q p) (some p)) r e in
      ap (λ (x : Address). look x (edit h k (j ∷ q) t)) (sym w.2)
      ∙ kid_changed (λ s. edit h j q s) k i (λ s. look w.0 s) (λ s. look p s) (kids t)
      (λ d s. edit_old g h law j q p w.0 s l (sym (pick_yes (eqb k i) (at g j q p) (some p) (subst (λ (m : ℕ). T (eqb m i)) d (eqb_refl i))) ∙ w.1))
      (λ d s. ap (λ (x : Address). look x s) (sym (some-injective p w.0 (sym (pick_no (eqb k i) (at g j q p) (some p) (λ b. d (sym (eqb→eq k i b)))) ∙ w.1))))

  -- the place k ∷ q can be added at: the nodes above it are there, and so is the place before it
  abbrev pub Place : ℕ → Address → Tree P → Type 0
  Place k [] t = (1 ≤ k) × (k ≤ suc (count (kids t)))
  Place k (j ∷ q) t = (s : Tree P) × (kid k (kids t) ≡ some s) × Place j q s

  pub place_last : (k : ℕ) (q : Address) (t : Tree P) → Place k q t → Last k q
  place_last k [] t h = h.0
  place_last k (j ∷ q) t h = place_last j q h.0 h.2

  pub place_of : (k : ℕ) (q : Address) (t s : Tree P) → branch (parent (k ∷ q)) t ≡ some s → 1 ≤ last (k ∷ q) → last (k ∷ q) ≤ suc (count (kids s)) → Place k q t
  place_of k [] t s e h l = (h, subst (λ (u : Tree P). k ≤ suc (count (kids u))) (sym (some-injective t s e)) l)
  place_of k (j ∷ q) t s e h l =
      let w = then_some (kid k (kids t)) (λ u. branch (parent (j ∷ q)) u) s e in (w.0, w.1, place_of j q w.0 s w.2 h l)

  pub paste_new : (s : Tree P) (k : ℕ) (q r : Address) (t : Tree P) → Place k q t → look (on (k ∷ q) r) (paste_at s k q t) ≡ look r s
  paste_new s k [] r t h = ap (λ (o : Option (Tree P)). then o (λ x. look r x)) (kid_new s k (kids t) h.0 h.1)
  paste_new s k (j ∷ q) r t h =
      ap (λ (o : Option (Tree P)). then o (λ x. look (on (j ∷ q) r) x)) (kid_same (λ x. paste_at s j q x) k (kids t) ∙ ap (map (λ x. paste_at s j q x)) h.1)
      ∙ paste_new s j q r h.0 h.2

  -- ---- the branch at a position and what its top carries
  pub look_on : (q r : Address) (t : Tree P) → look (on q r) t ≡ then (branch q t) (λ s. look r s)
  look_on [] r t = refl
  look_on (i ∷ q) r t = then_then (kid i (kids t)) (λ s. branch q s) (λ s. look r s) (λ s. look (on q r) s) (look_on q r)

  pub look_in : (q r : Address) (t s : Tree P) → branch q t ≡ some s → look (on q r) t ≡ look r s
  look_in q r t s e = look_on q r t ∙ ap (λ (o : Option (Tree P)). then o (λ u. look r u)) e

  look_top : (q : Address) (t : Tree P) → look q t ≡ then (branch q t) (λ s. some (payload s))
  look_top [] t = refl
  look_top (i ∷ q) t = then_then (kid i (kids t)) (λ s. branch q s) (λ s. some (payload s)) (λ s. look q s) (look_top q)

  pub branch_look : (q : Address) (t s : Tree P) → branch q t ≡ some s → look q t ≡ some (payload s)
  branch_look q t s e = look_top q t ∙ ap (λ (o : Option (Tree P)). then o (λ u. some (payload u))) e

  pub look_branch : (q : Address) (t : Tree P) (p : P) → look q t ≡ some p → (s : Tree P) × (branch q t ≡ some s) × (payload s ≡ p)
  look_branch q t p e =
      let w = then_some (branch q t) (λ s. some (payload s)) p (sym (look_top q t) ∙ e) in (w.0, w.1, some-injective (payload w.0) p w.2)

  -- ---- what one node carries, changed
  pub set_same : (g : P → P) (q : Address) (t : Tree P) → look q (set_at g q t) ≡ map g (look q t)
  set_same g [] (node p f) = refl
  set_same g (i ∷ q) t =
      ap (λ (o : Option (Tree P)). then o (λ s. look q s)) (kid_same (λ s. set_at g q s) i (kids t))
      ∙ then_map (λ s. set_at g q s) g (λ s. look q s) (λ s. look q s) (kid i (kids t)) (λ s. set_same g q s)

  pub set_other : (g : P → P) (r q : Address) (t : Tree P) → r ≢ q → look r (set_at g q t) ≡ look r t
  set_other g [] [] t n = absurd (n refl)
  set_other g [] (j ∷ q) t n = refl
  set_other g (i ∷ r) [] (node p f) n = refl
  set_other g (i ∷ r) (j ∷ q) t n =
      kid_changed (λ s. set_at g q s) j i (λ s. look r s) (λ s. look r s) (kids t)
      (λ e s. set_other g r q s (λ d. n (ap₂ (λ (a : ℕ) (b : Address). a ∷ b) e d))) (λ e s. refl)

  -- where there is no node, nothing changes
  pub set_none : (g : P → P) (q : Address) (t : Tree P) → look q t ≡ none → set_at g q t ≡ t
  set_none g [] t e = absurd (none-ne-some (payload t) (sym e))
  set_none g (i ∷ q) (node p f) e =
      ap (λ (k : Forest P). node p k)
      (kid_kept (λ s. set_at g q s) i f (λ s d. set_none g q s (sym (ap (λ (o : Option (Tree P)). then o (λ u. look q u)) d) ∙ e)))
