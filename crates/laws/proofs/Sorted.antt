-- Laws of lists in strict order: the same members make the same list; insert, merge and move keep the order and have the members one expects; interleave is merge. Assumes nothing.
use mathlib.Core.Path.{◌≡◌, refl, sym, ap, ap₂, subst, ◌∙◌}
use mathlib.Core.Logic.{◌⊎◌, inl, inr, ⊎_elim}
use mathlib.Core.Bool.{Bool, true, false, not}
use mathlib.Core.Option.{Option, none, some, some-injective, none-ne-some}
use mathlib.Core.List.Memᴰ
use mathlib.Core.List.{List, [], ◌∷◌, map}
use lib.Dec.{T}
use Rattle.laws.specs.Slots.{pick}
use Rattle.laws.specs.Sorted.{◌∈◌, StrictOrder, Sorted, nil, cons, Same, insert_by, insert, merge, interleave_one, interleave, Disjoint, push, move, Monotone}

module _ {A : Type 0} (lt : A → A → Bool) (o : StrictOrder lt) where
  -- heads of two sorted lists with the same members
  heads : {x y : A} {l m : List A} → ((z : A) → z ∈ l → T (lt x z)) → ((z : A) → z ∈ m → T (lt y z)) → x ∈ y ∷ m → y ∈ x ∷ l → x ≡ y
  heads bx by (Memᴰ.head e) k = e
  heads bx by (Memᴰ.tail h) (Memᴰ.head e) = sym e
  heads {x} {y} bx by (Memᴰ.tail h) (Memᴰ.tail k) = absurd (o.irr x (o.trans x y x (bx y k) (by x h)))

  -- membership of an element above the head is membership of the tail
  tails : {x y z : A} {m : List A} → x ≡ y → T (lt x z) → z ∈ y ∷ m → z ∈ m
  tails {x} {y} {z} e b (Memᴰ.head d) = absurd (o.irr x (subst (λ (w : A). T (lt x w)) (d ∙ sym e) b))
  tails e b (Memᴰ.tail h) = h

  pub same : {l m : List A} → Sorted lt l → Sorted lt m → Same l m → l ≡ m
  same nil nil s = refl
  same nil (cons {x = y} by sm) s = absurd (Memᴰ.not-nil (s.1 y (Memᴰ.head refl)))
  same (cons {x} bx sl) nil s = absurd (Memᴰ.not-nil (s.0 x (Memᴰ.head refl)))
  same (cons {x} {l} bx sl) (cons {x = y} {l = m} by sm) s =
      let e : x ≡ y = heads bx by (s.0 x (Memᴰ.head refl)) (s.1 y (Memᴰ.head refl)) in
      ap₂ (λ (a : A) (r : List A). a ∷ r) e
      (same sl sm (λ z h. tails e (bx z h) (s.0 z (Memᴰ.tail h)), λ z h. tails (sym e) (by z h) (s.1 z (Memᴰ.tail h))))

-- ---- insert and merge
module _ {A : Type 0} (lt : A → A → Bool) (o : StrictOrder lt) where
  insert_by_old : (b c : Bool) (x y z : A) (l r : List A) → (z ∈ l → z ∈ r) → z ∈ y ∷ l → z ∈ insert_by b c x y l r
  insert_by_old true c x y z l r f h = Memᴰ.tail h
  insert_by_old false true x y z l r f (Memᴰ.head e) = Memᴰ.head e
  insert_by_old false true x y z l r f (Memᴰ.tail h) = Memᴰ.tail (f h)
  insert_by_old false false x y z l r f h = h

  insert_by_new : (b c : Bool) (x y : A) (l r : List A) → (T (not b) → T (not c) → x ≡ y) → x ∈ r → x ∈ insert_by b c x y l r
  insert_by_new true c x y l r e h = Memᴰ.head refl
  insert_by_new false true x y l r e h = Memᴰ.tail h
  insert_by_new false false x y l r e h = Memᴰ.head (e tt tt)

  insert_by_back : (b c : Bool) (x y z : A) (l r : List A) → (z ∈ r → (z ≡ x) ⊎ (z ∈ l)) → z ∈ insert_by b c x y l r → (z ≡ x) ⊎ (z ∈ y ∷ l)
  insert_by_back true c x y z l r f h = Memᴰ.cases_cons h
  insert_by_back false true x y z l r f (Memᴰ.head e) = inr (Memᴰ.head e)
  insert_by_back false true x y z l r f (Memᴰ.tail h) = ⊎_elim (λ e. inl e) (λ k. inr (Memᴰ.tail k)) (f h)
  insert_by_back false false x y z l r f h = inr h

  pub insert_old : (x z : A) (l : List A) → z ∈ l → z ∈ insert lt x l
  insert_old x z [] h = absurd (Memᴰ.not-nil h)
  insert_old x z (y ∷ l) h = insert_by_old (lt x y) (lt y x) x y z l (insert lt x l) (insert_old x z l) h

  pub insert_new : (x : A) (l : List A) → x ∈ insert lt x l
  insert_new x [] = Memᴰ.head refl
  insert_new x (y ∷ l) = insert_by_new (lt x y) (lt y x) x y l (insert lt x l) (o.conn x y) (insert_new x l)

  pub insert_back : (x z : A) (l : List A) → z ∈ insert lt x l → (z ≡ x) ⊎ (z ∈ l)
  insert_back x z [] h = Memᴰ.cases_cons h
  insert_back x z (y ∷ l) h = insert_by_back (lt x y) (lt y x) x y z l (insert lt x l) (insert_back x z l) h

  insert_by_sorted : (b c : Bool) (x y : A) (l r : List A) → (T b → T (lt x y)) → (T c → T (lt y x)) → ((z : A) → z ∈ r → (z ≡ x) ⊎ (z ∈ l))
      → ((z : A) → z ∈ l → T (lt y z)) → Sorted lt l → Sorted lt r → Sorted lt (insert_by b c x y l r)
  insert_by_sorted true c x y l r f g k by sl sr = cons below (cons by sl)
    where
      below : (z : A) → z ∈ y ∷ l → T (lt x z)
      below z (Memᴰ.head e) = subst (λ (w : A). T (lt x w)) (sym e) (f tt)
      below z (Memᴰ.tail h) = o.trans x y z (f tt) (by z h)
  insert_by_sorted false true x y l r f g k by sl sr = cons (λ z h. below z (k z h)) sr
    where
      below : (z : A) → (z ≡ x) ⊎ (z ∈ l) → T (lt y z)
      below z (inl e) = subst (λ (w : A). T (lt y w)) (sym e) (g tt)
      below z (inr h) = by z h
  insert_by_sorted false false x y l r f g k by sl sr = cons by sl

  pub insert_sorted : (x : A) {l : List A} → Sorted lt l → Sorted lt (insert lt x l)
  insert_sorted x nil = cons (λ z h. absurd (Memᴰ.not-nil h)) nil
  insert_sorted x (cons {x = y} {l} by sl) =
      insert_by_sorted (lt x y) (lt y x) x y l (insert lt x l) (λ t. t) (λ t. t) (λ z. insert_back x z l) by sl (insert_sorted x sl)

  -- merge
  pub merge_sorted : (xs : List A) {l : List A} → Sorted lt l → Sorted lt (merge lt xs l)
  merge_sorted [] s = s
  merge_sorted (x ∷ xs) s = insert_sorted x (merge_sorted xs s)

  pub merge_old : (xs : List A) (z : A) (l : List A) → z ∈ l → z ∈ merge lt xs l
  merge_old [] z l h = h
  merge_old (x ∷ xs) z l h = insert_old x z (merge lt xs l) (merge_old xs z l h)

  pub merge_new : (xs : List A) (z : A) (l : List A) → z ∈ xs → z ∈ merge lt xs l
  merge_new [] z l h = absurd (Memᴰ.not-nil h)
  merge_new (x ∷ xs) z l h = go (merge_new xs z l) (Memᴰ.cases_cons h)
    where
      go : (z ∈ xs → z ∈ merge lt xs l) → (z ≡ x) ⊎ (z ∈ xs) → z ∈ merge lt (x ∷ xs) l
      go f (inl e) = Memᴰ.cast e (insert_new x (merge lt xs l))
      go f (inr m) = insert_old x z (merge lt xs l) (f m)

  pub merge_back : (xs : List A) (z : A) (l : List A) → z ∈ merge lt xs l → (z ∈ xs) ⊎ (z ∈ l)
  merge_back [] z l h = inr h
  merge_back (x ∷ xs) z l h = go (merge_back xs z l) (insert_back x z (merge lt xs l) h)
    where
      go : (z ∈ merge lt xs l → (z ∈ xs) ⊎ (z ∈ l)) → (z ≡ x) ⊎ (z ∈ merge lt xs l) → (z ∈ x ∷ xs) ⊎ (z ∈ l)
      go f (inl e) = inl (Memᴰ.head e)
      go f (inr k) = ⊎_elim (λ m. inl (Memᴰ.tail m)) (λ m. inr m) (f k)

  -- any list, sorted
  pub sort_sorted : (xs : List A) → Sorted lt (merge lt xs [])
  sort_sorted xs = merge_sorted xs nil

  pub sort_back : (xs : List A) (z : A) → z ∈ merge lt xs [] → z ∈ xs
  sort_back xs z h = ⊎_elim (λ m. m) (λ m. absurd (Memᴰ.not-nil m)) (merge_back xs z [] h)

-- ---- interleave
module _ {A : Type 0} (lt : A → A → Bool) (o : StrictOrder lt) where
  insert_by_first : (b c : Bool) (x y : A) (l r : List A) → T b → insert_by b c x y l r ≡ x ∷ y ∷ l
  insert_by_first true c x y l r t = refl
  insert_by_first false c x y l r t = absurd t

  insert_by_later : (b c : Bool) (x y : A) (l r : List A) → (T b → ⊥) → T c → insert_by b c x y l r ≡ y ∷ r
  insert_by_later true c x y l r n t = absurd (n tt)
  insert_by_later false true x y l r n t = refl
  insert_by_later false false x y l r n t = absurd t

  -- an element less than all goes first
  pub insert_first : (x : A) (l : List A) → ((z : A) → z ∈ l → T (lt x z)) → insert lt x l ≡ x ∷ l
  insert_first x [] h = refl
  insert_first x (y ∷ l) h = insert_by_first (lt x y) (lt y x) x y l (insert lt x l) (h y (Memᴰ.head refl))

  -- one that is more than the first goes behind it
  pub insert_later : (x y : A) (l : List A) → T (lt y x) → insert lt x (y ∷ l) ≡ y ∷ insert lt x l
  insert_later x y l t = insert_by_later (lt x y) (lt y x) x y l (insert lt x l) (λ s. o.irr x (o.trans x y x s t)) t

  pub merge_later : (k : List A) (b : A) (l : List A) → ((z : A) → z ∈ k → T (lt b z)) → merge lt k (b ∷ l) ≡ b ∷ merge lt k l
  merge_later [] b l h = refl
  merge_later (x ∷ k) b l h =
      ap (insert lt x) (merge_later k b l (λ z m. h z (Memᴰ.tail m))) ∙ insert_later x b (merge lt k l) (h x (Memᴰ.head refl))

  -- of two that differ, one is less
  other : (a b : A) → (a ≡ b → ⊥) → T (not (lt a b)) → T (lt b a)
  other a b n t = go (lt b a) (o.conn a b t)
    where
      go : (c : Bool) → (T (not c) → a ≡ b) → T c
      go true f = tt
      go false f = n (f tt)

  pick_is : (b : Bool) (x y r : List A) → (T b → x ≡ r) → (T (not b) → y ≡ r) → pick b x y ≡ r
  pick_is true x y r f g = f tt
  pick_is false x y r f g = g tt

  one_is_insert : (a : A) (k : List A) (f : List A → List A) {l : List A} → ((m : List A) → Sorted lt m → Disjoint k m → f m ≡ merge lt k m)
      → ((z : A) → z ∈ k → T (lt a z)) → Sorted lt l → Disjoint (a ∷ k) l → interleave_one lt a f l ≡ insert lt a (merge lt k l)
  one_is_insert a k f e h nil d =
      ap (λ (r : List A). a ∷ r) (e [] nil (λ z m n. Memᴰ.not-nil n)) ∙ sym (insert_first a (merge lt k []) (λ z m. h z (sort_back lt o k z m)))
  one_is_insert a k f e h (cons {x = b} {l} bb sl) d =
      pick_is (lt a b) (a ∷ f (b ∷ l)) (b ∷ interleave_one lt a f l) (insert lt a (merge lt k (b ∷ l)))
      (λ t. ap (λ (r : List A). a ∷ r) (e (b ∷ l) (cons bb sl) (λ z m. d z (Memᴰ.tail m)))
      ∙ sym (insert_first a (merge lt k (b ∷ l)) (λ z m. above t z (merge_back lt o k z (b ∷ l) m))))
      (λ t. later (other a b (λ q. d a (Memᴰ.head refl) (Memᴰ.head q)) t) (one_is_insert a k f e h sl (λ z m n. d z m (Memᴰ.tail n))))
    where
      above : T (lt a b) → (z : A) → (z ∈ k) ⊎ (z ∈ b ∷ l) → T (lt a z)
      above t z (inl m) = h z m
      above t z (inr (Memᴰ.head q)) = subst (λ (w : A). T (lt a w)) (sym q) t
      above t z (inr (Memᴰ.tail m)) = o.trans a b z t (bb z m)

      later : T (lt b a) → interleave_one lt a f l ≡ insert lt a (merge lt k l) → b ∷ interleave_one lt a f l ≡ insert lt a (merge lt k (b ∷ l))
      later t ih =
          ap (λ (r : List A). b ∷ r) ih ∙ sym (insert_later a b (merge lt k l) t)
          ∙ ap (insert lt a) (sym (merge_later k b l (λ z m. o.trans b a z t (h z m))))

  -- two lists in order with no common element
  pub interleave_is_merge : {k l : List A} → Sorted lt k → Sorted lt l → Disjoint k l → interleave lt k l ≡ merge lt k l
  interleave_is_merge nil sl d = refl
  interleave_is_merge (cons {x = a} {l = k} ba sk) sl d = one_is_insert a k (interleave lt k) (λ m sm. interleave_is_merge sk sm) ba sl d

-- ---- move
module _ {B : Type 0} where
  push_head : (o : Option B) (b : B) (r : List B) → o ≡ some b → b ∈ push o r
  push_head none b r e = absurd (none-ne-some b e)
  push_head (some c) b r e = Memᴰ.head (sym (some-injective c b e))

  push_tail : (o : Option B) (b : B) (r : List B) → b ∈ r → b ∈ push o r
  push_tail none b r h = h
  push_tail (some c) b r h = Memᴰ.tail h

  push_back : (o : Option B) (b : B) (r : List B) → b ∈ push o r → (o ≡ some b) ⊎ (b ∈ r)
  push_back none b r h = inr h
  push_back (some c) b r (Memᴰ.head e) = inl (ap some (sym e))
  push_back (some c) b r (Memᴰ.tail h) = inr h

  push_sorted : (lt : B → B → Bool) (o : Option B) (r : List B) → ((b c : B) → o ≡ some b → c ∈ r → T (lt b c)) → Sorted lt r → Sorted lt (push o r)
  push_sorted lt none r f s = s
  push_sorted lt (some b) r f s = cons (λ c h. f b c refl h) s

module _ {A B : Type 0} where
  pub move_in : (f : A → Option B) {a : A} {b : B} {l : List A} → a ∈ l → f a ≡ some b → b ∈ move f l
  move_in f {a} {b} (Memᴰ.head {x} {xs} d) e = push_head (f x) b (move f xs) (ap f (sym d) ∙ e)
  move_in f {a} {b} (Memᴰ.tail {x} {xs} h) e = push_tail (f x) b (move f xs) (move_in f h e)

  pub move_back : (f : A → Option B) (b : B) (l : List A) → b ∈ move f l → (a : A) × (a ∈ l) × (f a ≡ some b)
  move_back f b [] h = absurd (Memᴰ.not-nil h)
  move_back f b (x ∷ l) h = go (move_back f b l) (push_back (f x) b (move f l) h)
    where
      go : (b ∈ move f l → (a : A) × (a ∈ l) × (f a ≡ some b)) → (f x ≡ some b) ⊎ (b ∈ move f l) → (a : A) × (a ∈ x ∷ l) × (f a ≡ some b)
      go k (inl e) = (x, Memᴰ.head refl, e)
      go k (inr m) = let w = k m in (w.0, Memᴰ.tail w.1, w.2)

  pub move_sorted : (lt_a : A → A → Bool) (lt_b : B → B → Bool) (f : A → Option B) → Monotone lt_a lt_b f → {l : List A} → Sorted lt_a l → Sorted lt_b (move f l)
  unfolding Monotone
  move_sorted lt_a lt_b f m nil = nil
  move_sorted lt_a lt_b f m (cons {x} {l} bx sl) =
      push_sorted lt_b (f x) (move f l)
      (λ b c e h. let w = move_back f c l h in m x w.0 b c e w.2 (bx w.0 w.1))
      (move_sorted lt_a lt_b f m sl)

  -- the same where the move keeps the order of the list's own members
  pub move_sorted_on : (lt_a : A → A → Bool) (lt_b : B → B → Bool) (f : A → Option B) {l : List A}
      → ((a a' : A) (b b' : B) → a ∈ l → a' ∈ l → f a ≡ some b → f a' ≡ some b' → T (lt_a a a') → T (lt_b b b')) → Sorted lt_a l → Sorted lt_b (move f l)
  move_sorted_on lt_a lt_b f m nil = nil
  move_sorted_on lt_a lt_b f m (cons {x} {l} bx sl) =
      push_sorted lt_b (f x) (move f l)
      (λ b c e h. let w = move_back f c l h in m x w.0 b c (Memᴰ.head refl) (Memᴰ.tail w.1) e w.2 (bx w.0 w.1))
      (move_sorted_on lt_a lt_b f (λ a a' b b' h h'. m a a' b b' (Memᴰ.tail h) (Memᴰ.tail h')) sl)

  -- what takes back a move that keeps the order keeps it too
  pub back_monotone : (lt_a : A → A → Bool) (lt_b : B → B → Bool) → StrictOrder lt_a → StrictOrder lt_b → (f : A → Option B) (g : B → Option A)
      → ((b : B) (a : A) → g b ≡ some a → f a ≡ some b) → Monotone lt_a lt_b f → Monotone lt_b lt_a g
  unfolding Monotone
  back_monotone lt_a lt_b oA oB f g v m b b' a a' e e' t = go (lt_a a a') (lt_a a' a) (oA.conn a a') (m a' a b' b (v b' a' e') (v b a e))
    where
      go : (x y : Bool) → (T (not x) → T (not y) → a ≡ a') → (T y → T (lt_b b' b)) → T x
      go true y c d = tt
      go false true c d = oB.irr b (oB.trans b b' b t (d tt))
      go false false c d =
          oB.irr b (subst (λ (z : B). T (lt_b b z)) (some-injective b' b (sym (v b' a' e') ∙ ap f (sym (c tt tt)) ∙ v b a e)) t)

  pub map_sorted : (lt_a : A → A → Bool) (lt_b : B → B → Bool) (f : A → B) → ((a a' : A) → T (lt_a a a') → T (lt_b (f a) (f a'))) → {l : List A} → Sorted lt_a l → Sorted lt_b (map f l)
  map_sorted lt_a lt_b f m nil = nil
  map_sorted lt_a lt_b f m (cons {x} {l} bx sl) =
      cons (λ z h. let w = Memᴰ.of_map f l h in subst (λ (y : B). T (lt_b (f x) y)) w.2 (m x w.0 (bx w.0 w.1))) (map_sorted lt_a lt_b f m sl)
