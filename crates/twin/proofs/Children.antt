-- How many children a node has: as many as the table of nodes has rows one step below it. Assumes nothing.
use mathlib.Core.Path.{◌≡◌, refl, sym, ap, subst, ◌∙◌}
use mathlib.Core.Logic.{◌⊎◌, inl, inr, ⊎_elim}
use mathlib.Core.Bool.{Bool, false}
use mathlib.Core.Option.{Option, none, some, some-injective, none-ne-some}
use mathlib.Core.List.Memᴰ
use mathlib.Core.List.{List, [], ◌∷◌}
use Prim.Native.Nat.{ℕ, zero, suc, ◌+◌, ◌≤◌, ◌<◌}
use native.Mathlib.Nat.{le_of_suc-le-suc, not-suc-le-zero}
use native.Mathlib.Omega.{arith}
use lib.Dec.{T, ltb, lt→ltb}
use lib.ListN.{length}
use Rattle.laws.specs.Sorted.{◌∈◌, StrictOrder, Sorted, nil, cons, move, Monotone}
use Rattle.laws.specs.Order.{lt_list}
use Rattle.laws.proofs.Sorted.{same, move_in, move_back, move_sorted_on}
use Rattle.laws.proofs.Order.{nat_order, lex2_cases}
use Rattle.path.specs.Address.{Address, before, off, on}
use Rattle.path.proofs.Laws.{address_order, on_off, off_on, off_order}
use Rattle.model.specs.Things.{Row}
use Rattle.model.specs.Moves.{one_step, child_step}
use Rattle.roundtrip.proofs.Orders.{lt_row}
use Rattle.twin.specs.Tree.{Tree, Forest, then, payload, kids, count, kid, branch, look, table}
use Rattle.twin.proofs.Trees.{then_some, child_below, count_child, look_on}
use Rattle.twin.proofs.Rows.{table_sorted, table_in, table_back}

-- one row to a node
abbrev pub one : {P X : Type 0} → (P → X) → P → List X
one f p = f p ∷ []

-- ---- the numbers from i on
abbrev pub upto : ℕ → ℕ → List ℕ
upto i zero = []
upto i (suc n) = i ∷ upto (suc i) n

upto_length : (i n : ℕ) → length (upto i n) ≡ n
upto_length i zero = refl
upto_length i (suc n) = ap suc (upto_length (suc i) n)

upto_back : (i n j : ℕ) → j ∈ upto i n → (i ≤ j) × (j < i + n)
upto_back i zero j h = absurd (Memᴰ.not-nil h)
upto_back i (suc n) j (Memᴰ.head e) = (omega arith, omega arith)
upto_back i (suc n) j (Memᴰ.tail h) = let w = upto_back (suc i) n j h in (omega arith, omega arith)

upto_in : (i n k : ℕ) → k < n → (i + k) ∈ upto i n
upto_in i zero k h = absurd (not-suc-le-zero h)
upto_in i (suc n) zero h = let e : i + 0 ≡ i = omega arith in Memᴰ.head e
upto_in i (suc n) (suc k) h = Memᴰ.tail (Memᴰ.cast (omega arith) (upto_in (suc i) n k (le_of_suc-le-suc h)))

upto_sorted : (i n : ℕ) → Sorted ltb (upto i n)
upto_sorted i zero = nil
upto_sorted i (suc n) = cons (λ j h. let w = upto_back (suc i) n j h in lt→ltb i j w.0) (upto_sorted (suc i) n)

module _ {P : Type 0} where
  kid_upto : (f : Forest P) (i : ℕ) (t : Tree P) → kid i f ≡ some t → i ∈ upto 1 (count f)
  kid_upto f zero t e = absurd (none-ne-some t e)
  kid_upto f (suc i) t e = Memᴰ.cast (omega arith) (upto_in 1 (count f) i (child_below f i t e))

  upto_kid : (f : Forest P) (i : ℕ) → (1 ≤ i) × (i < 1 + count f) → (t : Tree P) × (kid i f ≡ some t)
  upto_kid f zero h = absurd (not-suc-le-zero h.0)
  upto_kid f (suc i) h = count_child f i (omega arith)

-- ---- the step of a path that is one step below another
pub one_step_some : (o : Option Address) (i : ℕ) → one_step o ≡ some i → o ≡ some (i ∷ [])
one_step_some none i e = absurd (none-ne-some i e)
one_step_some (some []) i e = absurd (none-ne-some i e)
one_step_some (some (j ∷ [])) i e = ap (λ (n : ℕ). some (n ∷ [])) (some-injective j i e)
one_step_some (some (j ∷ k ∷ q)) i e = absurd (none-ne-some i e)

step_lt : (i j : ℕ) → T (before (i ∷ []) (j ∷ [])) → T (ltb i j)
step_lt i j t = go (lex2_cases ltb nat_order 1 1 (lt_list ltb (i ∷ []) (j ∷ [])) t)
  where
    go : T (ltb 1 1) ⊎ ((◌≡◌ {A = ℕ} 1 1) × T (lt_list ltb (i ∷ []) (j ∷ []))) → T (ltb i j)
    go (inl h) = absurd h
    go (inr h) = ⊎_elim (λ k. k) (λ k. absurd k.1) (lex2_cases ltb nat_order i j false h.1)

module _ {P X : Type 0} (f : P → X) (lt_x : X → X → Bool) (oX : StrictOrder lt_x) (q : Address) (t : Tree P) where
  -- one row at each path
  only_row : (a b : Row X) → a ∈ table (one f) (lt_row lt_x) t → b ∈ table (one f) (lt_row lt_x) t → a.0 ≡ b.0 → a.1 ≡ b.1
  only_row a b h k d =
      let w = table_back (one f) lt_x oX a.0 a.1 t h in
      let v = table_back (one f) lt_x oX b.0 b.1 t k in
      Memᴰ.eq_of_singleton w.2
      ∙ ap f (some-injective w.0 v.0 (sym w.1 ∙ ap (λ (p : Address). look p t) d ∙ v.1)) ∙ sym (Memᴰ.eq_of_singleton v.2)

  mono : (a a' : Row X) (b b' : ℕ) → a ∈ table (one f) (lt_row lt_x) t → a' ∈ table (one f) (lt_row lt_x) t → child_step q a ≡ some b → child_step q a' ≡ some b'
      → T (lt_row lt_x a a') → T (ltb b b')
  unfolding Monotone
  mono a a' b b' h h' d d' l = go (lex2_cases before address_order a.0 a'.0 (lt_x a.1 a'.1) l)
    where
      go : T (before a.0 a'.0) ⊎ ((a.0 ≡ a'.0) × T (lt_x a.1 a'.1)) → T (ltb b b')
      go (inl k) = step_lt b b' (off_order q a.0 a'.0 (b ∷ []) (b' ∷ []) (one_step_some (off q a.0) b d) (one_step_some (off q a'.0) b' d') k)
      go (inr k) = absurd (oX.irr a.1 (subst (λ (y : X). T (lt_x a.1 y)) (sym (only_row a a' h h' k.0)) k.1))

  -- the steps of the children, as the table has them
  abbrev steps : List ℕ
  steps = move (child_step q) (table (one f) (lt_row lt_x) t)

  steps_sorted : Sorted ltb steps
  steps_sorted = move_sorted_on (lt_row lt_x) ltb (child_step q) mono (table_sorted (one f) lt_x oX t)

  -- a step below q is a child of the branch at q
  steps_back : (i : ℕ) → i ∈ steps → (s : Tree P) × (branch q t ≡ some s) × ((c : Tree P) × (kid i (kids s) ≡ some c))
  steps_back i h =
      let w = move_back (child_step q) i (table (one f) (lt_row lt_x) t) h in
      let v = table_back (one f) lt_x oX w.0.0 w.0.1 t w.1 in
      let d : look (on q (i ∷ [])) t ≡ some v.0 = ap (λ (p : Address). look p t) (on_off q w.0.0 (i ∷ []) (one_step_some (off q w.0.0) i w.2)) ∙ v.1 in
      let s = then_some (branch q t) (λ u. look (i ∷ []) u) v.0 (sym (look_on q (i ∷ []) t) ∙ d) in
      let c = then_some (kid i (kids s.0)) (λ u. some (payload u)) v.0 s.2 in
      (s.0, s.1, (c.0, c.1))

  steps_in_lem : (s : Tree P) → branch q t ≡ some s → (i : ℕ) → (c : Tree P) × (kid i (kids s) ≡ some c) → i ∈ steps
  steps_in_lem s e i w = move_in (child_step q)
      (table_in (one f) lt_x oX (on q (i ∷ [])) (f (payload w.0)) t (
        payload w.0,
        look_on q (i ∷ []) t ∙ ap (λ (o : Option (Tree P)). then o (λ u. look (i ∷ []) u)) e ∙ ap (λ (o : Option (Tree P)). then o (λ u. some (payload u))) w.1,
        Memᴰ.head refl,
      ))
      (ap one_step (off_on q (i ∷ [])))

  pub child_count_lem : (s : Tree P) → branch q t ≡ some s → length (move (child_step q) (table (one f) (lt_row lt_x) t)) ≡ count (kids s)
  child_count_lem s e =
      ap length (same ltb nat_order steps_sorted (upto_sorted 1 (count (kids s))) (
        λ i h. let w = steps_back i h in kid_upto (kids s) i w.2.0 (ap (λ (u : Tree P). kid i (kids u)) (some-injective s w.0 (sym e ∙ w.1)) ∙ w.2.1),
        λ i h. steps_in_lem s e i (upto_kid (kids s) i (upto_back 1 (count (kids s)) i h)),
      ))
      ∙ upto_length 1 (count (kids s))

  pub child_count_none : branch q t ≡ none → length (move (child_step q) (table (one f) (lt_row lt_x) t)) ≡ 0
  child_count_none e = ap length (same ltb nat_order steps_sorted nil (λ i h. let w = steps_back i h in absurd (none-ne-some w.0 (sym e ∙ w.1)), λ i h. absurd (Memᴰ.not-nil h)))
