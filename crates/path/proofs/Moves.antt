-- How addresses move, as a mechanism: the rule of one step, put to work at the last step of a place, for any rule. For any length. Assumes nothing.
use mathlib.Core.Path.{◌≡◌, refl, sym, ap, subst, subst₂, ◌∙◌}
use mathlib.Core.Logic.{◌⊎◌, inl, inr}
use mathlib.Core.Bool.{Bool, true, false}
use mathlib.Core.Option.{Option, none, some, map, some-injective, none-ne-some, map-eq-some_iff}
use mathlib.Core.List.{[], ◌∷◌}
use Prim.Native.Nat.{ℕ, suc, ◌+◌, ◌-◌, ◌≤◌, ◌<◌}
use native.Mathlib.Omega.{arith}
use lib.Dec.{T, leb, ltb, eqb, leb→le, le→leb, nleb→lt, ltb→lt, lt→ltb, eqb→eq, eqb_refl, not_T}
use lib.ListN.{length}
use Rattle.laws.specs.Slots.{pick}
use Rattle.laws.specs.Sorted.{Monotone}
use Rattle.laws.specs.Order.{lt_list}
use Rattle.laws.proofs.Order.{nat_order, lex2_cases, lex2_left, lex2_right}
use Rattle.path.specs.Address.{Address, before, under, at_last, higher, lower, up, fall, down}

-- ---- a test and a choice
pub data Test (b : Bool) : Type 0 where
  holds : T b → Test b
  fails : (T b → ⊥) → Test b

pub test : (b : Bool) → Test b
test true = holds tt
test false = fails (λ t. t)

pub is_true : (b : Bool) → T b → b ≡ true
is_true true t = refl
is_true false t = absurd t

pub is_false : (b : Bool) → (T b → ⊥) → b ≡ false
is_false true n = absurd (n tt)
is_false false n = refl

module _ {A : Type 0} where
  pub pick_yes : (b : Bool) (x y : A) → T b → pick b x y ≡ x
  pick_yes true x y t = refl
  pick_yes false x y t = absurd t

  pub pick_no : (b : Bool) (x y : A) → (T b → ⊥) → pick b x y ≡ y
  pick_no true x y n = absurd (n tt)
  pick_no false x y n = refl

  -- only if b
  pub pick_some : (b : Bool) (r : Option A) (a : A) → pick b r none ≡ some a → T b × (r ≡ some a)
  pick_some true r a e = (tt, e)
  pick_some false r a e = absurd (none-ne-some a e)

  -- only if not b
  pub pick_none : (b : Bool) (r : Option A) (a : A) → pick b none r ≡ some a → (T b → ⊥) × (r ≡ some a)
  pick_none true r a e = absurd (none-ne-some a e)
  pick_none false r a e = (λ t. t, e)

pub pick_both : (b c : Bool) → T (pick b c false) → T b × T c
pick_both true c t = (tt, t)
pick_both false c t = absurd t

-- ---- one step: "step k ≥ that of q gets step k one higher"; at q it goes, "with step k greater gets it one lower"
abbrev pub step_up : ℕ → ℕ → Option ℕ
step_up k i = some (higher k i)

abbrev pub step_down : ℕ → ℕ → Option ℕ
step_down k i = pick (eqb k i) none (some (lower k i))

pub step_up_above : (k i : ℕ) → k ≤ i → step_up k i ≡ some (suc i)
step_up_above k i h = let e : i + 1 ≡ suc i = omega arith in ap some (pick_yes (leb k i) (i + 1) i (le→leb k i h) ∙ e)

pub step_up_below : (k i : ℕ) → i < k → step_up k i ≡ some i
step_up_below k i h = ap some (pick_no (leb k i) (i + 1) i (λ t. let l : k ≤ i = leb→le k i t in omega arith))

pub step_down_above : (k i : ℕ) → k ≤ i → step_down k (suc i) ≡ some i
step_down_above k i h =
    let e : suc i - 1 ≡ i = omega arith in
    pick_no (eqb k (suc i)) none (some (lower k (suc i))) (λ t. let d : k ≡ suc i = eqb→eq k (suc i) t in omega arith)
    ∙ ap some (pick_yes (ltb k (suc i)) (suc i - 1) (suc i) (lt→ltb k (suc i) (omega arith)) ∙ e)

pub step_down_below : (k i : ℕ) → i < k → step_down k i ≡ some i
step_down_below k i h =
    pick_no (eqb k i) none (some (lower k i)) (λ t. let d : k ≡ i = eqb→eq k i t in omega arith)
    ∙ ap some (pick_no (ltb k i) (i - 1) i (λ t. let l : k < i = ltb→lt k i t in omega arith))

pub step_up_spec : (k i j : ℕ) → step_up k i ≡ some j → ((k ≤ i) × (j ≡ suc i)) ⊎ ((i < k) × (j ≡ i))
step_up_spec k i j e = go (test (leb k i))
  where
    go : Test (leb k i) → ((k ≤ i) × (j ≡ suc i)) ⊎ ((i < k) × (j ≡ i))
    go (holds t) = let h = leb→le k i t in inl (h, some-injective j (suc i) (sym e ∙ step_up_above k i h))
    go (fails n) = let h = nleb→lt k i (not_T (leb k i) n) in inr (h, some-injective j i (sym e ∙ step_up_below k i h))

pub step_down_spec : (k i j : ℕ) → step_down k i ≡ some j → ((i < k) × (j ≡ i)) ⊎ ((k < i) × (i ≡ suc j))
step_down_spec k i j e = let w = pick_none (eqb k i) (some (lower k i)) j e in go w.0 (some-injective (lower k i) j w.1) (test (ltb k i)) (test (ltb i k))
  where
    go : (T (eqb k i) → ⊥) → lower k i ≡ j → Test (ltb k i) → Test (ltb i k) → ((i < k) × (j ≡ i)) ⊎ ((k < i) × (i ≡ suc j))
    go n d (holds t) c = let h : k < i = ltb→lt k i t in let z : i - 1 ≡ j = sym (pick_yes (ltb k i) (i - 1) i t) ∙ d in inr (h, omega arith)
    go n d (fails m) (holds s) = inl (ltb→lt i k s, sym d ∙ pick_no (ltb k i) (i - 1) i m)
    go n d (fails m) (fails l) =
        absurd (n (subst (λ (x : ℕ). T (eqb k x)) (nat_order.conn k i (not_T (ltb k i) m) (not_T (ltb i k) l)) (eqb_refl k)))

pub step_up_mono : (k : ℕ) → Monotone ltb ltb (step_up k)
unfolding Monotone
step_up_mono k a a' b b' e e' t = let h : a < a' = ltb→lt a a' t in lt→ltb b b' (go h (step_up_spec k a b e) (step_up_spec k a' b' e'))
  where
    go : a < a' → ((k ≤ a) × (b ≡ suc a)) ⊎ ((a < k) × (b ≡ a)) → ((k ≤ a') × (b' ≡ suc a')) ⊎ ((a' < k) × (b' ≡ a')) → b < b'
    go h (inl x) (inl y) = omega arith
    go h (inl x) (inr y) = omega arith
    go h (inr x) (inl y) = omega arith
    go h (inr x) (inr y) = omega arith

-- h takes back what g does to a step
abbrev pub Back : (ℕ → ℕ → Option ℕ) → (ℕ → ℕ → Option ℕ) → Type 0
Back g h = (k i j : ℕ) → g k i ≡ some j → h k j ≡ some i

pub step_down_up : Back step_up step_down
step_down_up k i j e = go (step_up_spec k i j e)
  where
    go : ((k ≤ i) × (j ≡ suc i)) ⊎ ((i < k) × (j ≡ i)) → step_down k j ≡ some i
    go (inl w) = ap (step_down k) w.1 ∙ step_down_above k i w.0
    go (inr w) = ap (step_down k) w.1 ∙ step_down_below k i w.0

pub step_up_down : Back step_down step_up
step_up_down k i j e = go (step_down_spec k i j e)
  where
    go : ((i < k) × (j ≡ i)) ⊎ ((k < i) × (i ≡ suc j)) → step_up k j ≡ some i
    go (inl w) = ap (step_up k) w.1 ∙ step_up_below k i w.0
    go (inr w) = let h : k ≤ j = omega arith in step_up_above k j h ∙ ap some (sym w.1)

-- ---- the rule of one step, at step k of the paths that agree with q in the first k − 1 steps
-- at the first step
abbrev pub first : (ℕ → Option ℕ) → Address → Option Address
first g [] = some []
first g (i ∷ p) = map (λ j. j ∷ p) (g i)

-- below the step k
abbrev pub below : ℕ → (Address → Option Address) → Address → Option Address
below k f [] = some []
below k f (i ∷ p) = map (λ r. i ∷ r) (pick (eqb k i) (f p) (some p))

-- at the last step of the path k ∷ q, by the rule g
abbrev pub at : (ℕ → ℕ → Option ℕ) → ℕ → Address → Address → Option Address
at g k [] p = first (g k) p
at g k (j ∷ q) p = below k (at g j q) p

pub map_some : {A B : Type 0} (f : A → B) (x : Option A) (b : B) → map f x ≡ some b → (a : A) × (x ≡ some a) × (f a ≡ b)
map_some f x b e = (map-eq-some_iff f x).0 e

-- a rule that always answers
pub last_at : (f : ℕ → ℕ → ℕ) (k : ℕ) (q p : Address) → at (λ x y. some (f x y)) k q p ≡ some (at_last f (k ∷ q) p)
last_at f k [] [] = refl
last_at f k [] (i ∷ p) = refl
last_at f k (j ∷ q) [] = refl
last_at f k (j ∷ q) (i ∷ p) = go (eqb k i) (last_at f j q p)
  where
    go : (b : Bool) → at (λ x y. some (f x y)) j q p ≡ some (at_last f (j ∷ q) p)
        → map (λ (r : Address). i ∷ r) (pick b (at (λ x y. some (f x y)) j q p) (some p)) ≡ some (i ∷ pick b (at_last f (j ∷ q) p) p)
    go true e = ap (map (λ (r : Address). i ∷ r)) e
    go false e = refl

-- add or paste at q, by `at`
pub up_at : (k : ℕ) (q p : Address) → at step_up k q p ≡ some (up (k ∷ q) p)
up_at k q p = last_at higher k q p

-- delete at q, by `at`
pub down_at : (k : ℕ) (q p : Address) → at step_down k q p ≡ down (k ∷ q) p
down_at k [] [] = refl
down_at k [] (i ∷ p) = go (eqb k i)
  where
    go : (b : Bool) → map (λ (j : ℕ). j ∷ p) (pick b none (some (lower k i))) ≡ pick (pick b true false) none (some (lower k i ∷ p))
    go true = refl
    go false = refl
down_at k (j ∷ q) [] = refl
down_at k (j ∷ q) (i ∷ p) = go (eqb k i) (under (j ∷ q) p) (down_at j q p)
  where
    go : (b c : Bool) → at step_down j q p ≡ pick c none (some (fall (j ∷ q) p))
        → map (λ (r : Address). i ∷ r) (pick b (at step_down j q p) (some p)) ≡ pick (pick b c false) none (some (i ∷ pick b (fall (j ∷ q) p) p))
    go true true e = ap (map (λ (r : Address). i ∷ r)) e
    go true false e = ap (map (λ (r : Address). i ∷ r)) e
    go false c e = refl

-- what takes back a step takes back the move
pub at_back : (g h : ℕ → ℕ → Option ℕ) → Back g h → (k : ℕ) (q p r : Address) → at g k q p ≡ some r → at h k q r ≡ some p
at_back g h v k [] [] r e = ap (first (h k)) (sym (some-injective [] r e))
at_back g h v k [] (i ∷ p) r e =
    let w = map_some (λ (n : ℕ). n ∷ p) (g k i) r e in ap (first (h k)) (sym w.2) ∙ ap (map (λ (n : ℕ). n ∷ p)) (v k i w.0 w.1)
at_back g h v k (j ∷ q) [] r e = ap (below k (at h j q)) (sym (some-injective [] r e))
at_back g h v k (j ∷ q) (i ∷ p) r e =
    let w = map_some (λ (x : Address). i ∷ x) (pick (eqb k i) (at g j q p) (some p)) r e in
    ap (below k (at h j q)) (sym w.2) ∙ ap (map (λ (x : Address). i ∷ x)) (go (eqb k i) w.0 (at_back g h v j q p w.0) w.1)
  where
    go : (b : Bool) (x : Address) → (at g j q p ≡ some x → at h j q x ≡ some p) → pick b (at g j q p) (some p) ≡ some x → pick b (at h j q x) (some x) ≡ some p
    go true x f d = f d
    go false x f d = sym d

-- ---- the order is kept
-- a move changes the length by a constant
abbrev pub Keeps : ℕ → ℕ → (Address → Option Address) → Type 0
Keeps m n f = (p r : Address) → f p ≡ some r → m + length p ≡ n + length r

abbrev pub Mono : (Address → Option Address) → Type 0
Mono f = Monotone (lt_list ltb) (lt_list ltb) f

pick_keeps : (b : Bool) (f : Address → Option Address) → Keeps 0 0 f → Keeps 0 0 (λ p. pick b (f p) (some p))
pick_keeps true f h p r e = h p r e
pick_keeps false f h p r e = ap (λ (x : Address). 0 + length x) (some-injective p r e)

pub at_keeps : (g : ℕ → ℕ → Option ℕ) (k : ℕ) (q : Address) → Keeps 0 0 (at g k q)
at_keeps g k [] [] r e = ap (λ (x : Address). 0 + length x) (some-injective [] r e)
at_keeps g k [] (i ∷ p) r e = ap (λ (x : Address). 0 + length x) (map_some (λ (n : ℕ). n ∷ p) (g k i) r e).2
at_keeps g k (j ∷ q) [] r e = ap (λ (x : Address). 0 + length x) (some-injective [] r e)
at_keeps g k (j ∷ q) (i ∷ p) r e =
    let w = map_some (λ (x : Address). i ∷ x) (pick (eqb k i) (at g j q p) (some p)) r e in
    let h : 0 + length p ≡ 0 + length w.0 = pick_keeps (eqb k i) (at g j q) (at_keeps g j q) p w.0 w.1 in
    let d : 0 + suc (length w.0) ≡ 0 + length r = ap (λ (x : Address). 0 + length x) w.2 in
    omega arith

-- two answers whose order is that of two known lists
pub lt_cast : {a b a' b' : Address} → a ≡ a' → b ≡ b' → T (lt_list ltb a b) → T (lt_list ltb a' b')
lt_cast e d t = subst₂ (λ (x y : Address). T (lt_list ltb x y)) e d t

first_mono : (g : ℕ → Option ℕ) → Monotone ltb ltb g → Mono (first g)
unfolding Monotone
first_mono g m [] [] b b' e e' t = absurd t
first_mono g m [] (j ∷ q) b b' e e' t = lt_cast (some-injective [] b e) (map_some (λ (r : ℕ). r ∷ q) (g j) b' e').2 tt
first_mono g m (i ∷ p) [] b b' e e' t = absurd t
first_mono g m (i ∷ p) (j ∷ q) b b' e e' t =
    let w = map_some (λ (r : ℕ). r ∷ p) (g i) b e in
    let w' = map_some (λ (r : ℕ). r ∷ q) (g j) b' e' in
    lt_cast w.2 w'.2 (go w.0 w'.0 w.1 w'.1 (lex2_cases ltb nat_order i j (lt_list ltb p q) t))
  where
    go : (x y : ℕ) → g i ≡ some x → g j ≡ some y → T (ltb i j) ⊎ ((i ≡ j) × T (lt_list ltb p q)) → T (lt_list ltb (x ∷ p) (y ∷ q))
    go x y d d' (inl h) = lex2_left ltb nat_order x y (lt_list ltb p q) (m i j x y d d' h)
    go x y d d' (inr h) = lex2_right ltb nat_order x y (lt_list ltb p q) (some-injective x y (sym d ∙ ap g h.0 ∙ d')) h.1

pick_mono : (b : Bool) (f : Address → Option Address) → Mono f → Mono (λ p. pick b (f p) (some p))
unfolding Monotone
pick_mono true f m p q b b' e e' t = m p q b b' e e' t
pick_mono false f m p q b b' e e' t = lt_cast (some-injective p b e) (some-injective q b' e') t

below_mono : (k : ℕ) (f : Address → Option Address) → Mono f → Mono (below k f)
unfolding Monotone
below_mono k f m [] [] b b' e e' t = absurd t
below_mono k f m [] (j ∷ q) b b' e e' t =
    lt_cast (some-injective [] b e) (map_some (λ (r : Address). j ∷ r) (pick (eqb k j) (f q) (some q)) b' e').2 tt
below_mono k f m (i ∷ p) [] b b' e e' t = absurd t
below_mono k f m (i ∷ p) (j ∷ q) b b' e e' t =
    let w = map_some (λ (r : Address). i ∷ r) (pick (eqb k i) (f p) (some p)) b e in
    let w' = map_some (λ (r : Address). j ∷ r) (pick (eqb k j) (f q) (some q)) b' e' in
    lt_cast w.2 w'.2 (go w.0 w'.0 w.1 w'.1 (lex2_cases ltb nat_order i j (lt_list ltb p q) t))
  where
    go : (x y : Address) → pick (eqb k i) (f p) (some p) ≡ some x → pick (eqb k j) (f q) (some q) ≡ some y
        → T (ltb i j) ⊎ ((i ≡ j) × T (lt_list ltb p q)) → T (lt_list ltb (i ∷ x) (j ∷ y))
    go x y d d' (inl h) = lex2_left ltb nat_order i j (lt_list ltb x y) h
    go x y d d' (inr h) = lex2_right ltb nat_order i j (lt_list ltb x y) h.0
        (pick_mono (eqb k i) f m p q x y d (ap (λ (n : ℕ). pick (eqb k n) (f q) (some q)) h.0 ∙ d') h.1)

pub at_mono : (g : ℕ → ℕ → Option ℕ) → ((k : ℕ) → Monotone ltb ltb (g k)) → (k : ℕ) (q : Address) → Mono (at g k q)
at_mono g m k [] = first_mono (g k) (m k)
at_mono g m k (j ∷ q) = below_mono k (at g j q) (at_mono g m j q)

-- a move that keeps the step order and the difference of lengths keeps the order of addresses
pub address_mono : (m n : ℕ) (f : Address → Option Address) → Keeps m n f → Mono f → Monotone before before f
unfolding Monotone
address_mono m n f k mono p q b b' e e' t = go (k p b e) (k q b' e') (lex2_cases ltb nat_order (length p) (length q) (lt_list ltb p q) t)
  where
    go : m + length p ≡ n + length b → m + length q ≡ n + length b' → T (ltb (length p) (length q)) ⊎ ((length p ≡ length q) × T (lt_list ltb p q)) → T (before b b')
    go h h' (inl s) = let z : length p < length q = ltb→lt (length p) (length q) s in
        lex2_left ltb nat_order (length b) (length b') (lt_list ltb b b') (lt→ltb (length b) (length b') (omega arith))
    go h h' (inr s) = lex2_right ltb nat_order (length b) (length b') (lt_list ltb b b') (omega arith) (mono p q b b' e e' s.1)
