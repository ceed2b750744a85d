-- Lists in strict order seen from their ends: where the last element goes when one is inserted, and when two lists are put together. Assumes nothing.
use mathlib.Core.Path.{◌≡◌, refl, sym, ap, ap₂, subst, ◌∙◌}
use mathlib.Core.Bool.{Bool, true, false, not}
use mathlib.Core.Option.{Option, none, some}
use mathlib.Core.List.Memᴰ
use mathlib.Core.List.{List, [], ◌∷◌, ◌++◌, map, map-append}
use Prim.Native.Nat.{ℕ, zero, suc, ◌+◌}
use native.Mathlib.Omega.{arith}
use lib.Dec.{T}
use lib.ListN.{length, take, drop}
use Rattle.laws.specs.Slots.{pick}
use Rattle.laws.specs.Sorted.{◌∈◌, StrictOrder, Sorted, nil, cons, insert_by, insert, interleave_one, interleave, push, move}
use Rattle.laws.proofs.Sorted.{insert_later}

-- ---- the first rows of a list
pub in_take : {A : Type 0} {z : A} (i : ℕ) (l : List A) → z ∈ take i l → z ∈ l
in_take zero l h = absurd (Memᴰ.not-nil h)
in_take (suc i) [] h = h
in_take (suc i) (x ∷ l) (Memᴰ.head e) = Memᴰ.head e
in_take (suc i) (x ∷ l) (Memᴰ.tail h) = Memᴰ.tail (in_take i l h)

pub in_drop : {A : Type 0} {z : A} (i : ℕ) (l : List A) → z ∈ drop i l → z ∈ l
in_drop zero l h = h
in_drop (suc i) [] h = h
in_drop (suc i) (x ∷ l) h = Memᴰ.tail (in_drop i l h)

-- a row that is still to come is one of the rows
pub in_rest : {A : Type 0} (x : A) (i : ℕ) (l : List A) {l' : List A} → drop i l ≡ x ∷ l' → x ∈ l
in_rest x i l e = in_drop i l (subst (λ r. x ∈ r) (sym e) (Memᴰ.head refl))

-- l is k and then x
pub record Ends {A : Type 0} (l k : List A) (x : A) : Type 0 where
  pub ends : l ≡ k ++ (x ∷ [])

pub ends_in : {A : Type 0} {l k : List A} {x : A} → Ends l k x → x ∈ l
ends_in {k = k} {x} e = subst (λ r. x ∈ r) (sym e.ends) (Memᴰ.append_right k (Memᴰ.head refl))

push_append : {B : Type 0} (o : Option B) (k l : List B) → push o (k ++ l) ≡ push o k ++ l
push_append none k l = refl
push_append (some b) k l = refl

pub move_append : {A B : Type 0} (f : A → Option B) (k l : List A) → move f (k ++ l) ≡ move f k ++ move f l
move_append f [] l = refl
move_append f (x ∷ k) l = ap (push (f x)) (move_append f k l) ∙ push_append (f x) (move f k) (move f l)

pub t_true : (b : Bool) → T b → b ≡ true
t_true true t = refl
t_true false t = absurd t

module _ {A : Type 0} (lt : A → A → Bool) where
  pub sorted_take : (i : ℕ) {l : List A} → Sorted lt l → Sorted lt (take i l)
  sorted_take zero s = nil
  sorted_take (suc i) nil = nil
  sorted_take (suc i) (cons {x} {l} bx sl) = cons (λ z h. bx z (in_take i l h)) (sorted_take i sl)

  pub sorted_drop : (i : ℕ) {l : List A} → Sorted lt l → Sorted lt (drop i l)
  sorted_drop zero s = s
  sorted_drop (suc i) nil = nil
  sorted_drop (suc i) (cons {x} {l} bx sl) = sorted_drop i sl

  pub sorted_head : {x : A} {l : List A} → Sorted lt (x ∷ l) → (z : A) → z ∈ l → T (lt x z)
  sorted_head (cons bx sl) = bx

  insert_by_last : (b c : Bool) (a x y : A) (l r : List A) {r' : List A} → r' ≡ r ++ (x ∷ []) → insert_by b c a y (l ++ (x ∷ [])) r' ≡ insert_by b c a y l r ++ (x ∷ [])
  insert_by_last true c a x y l r e = refl
  insert_by_last false true a x y l r e = ap (λ q. y ∷ q) e
  insert_by_last false false a x y l r e = refl

  -- one that is less than the last goes before it
  insert_before : (a x : A) (l : List A) → lt a x ≡ true → insert lt a (l ++ (x ∷ [])) ≡ insert lt a l ++ (x ∷ [])
  insert_before a x [] t = rw t
  insert_before a x (y ∷ l) t = insert_by_last (lt a y) (lt y a) a x y l (insert lt a l) (insert_before a x l t)

  pub insert_up : (a : A) {l k : List A} {x : A} → Ends l k x → lt a x ≡ true → Ends (insert lt a l) (insert lt a k) x
  insert_up a {k = k} {x} e t = record { ends = ap (insert lt a) e.ends ∙ insert_before a x k t }

module _ {A : Type 0} (lt : A → A → Bool) (o : StrictOrder lt) where
  -- all are less than what the last is less than
  below_last : (x a : A) (l : List A) → Sorted lt (l ++ (x ∷ [])) → T (lt x a) → (z : A) → z ∈ l ++ (x ∷ []) → T (lt z a)
  below_last x a [] s t z h = subst (λ (w : A). T (lt w a)) (sym (Memᴰ.eq_of_singleton h)) t
  below_last x a (y ∷ l) (cons by sl) t z (Memᴰ.head e) =
      subst (λ (w : A). T (lt w a)) (sym e) (o.trans y x a (by x (Memᴰ.append_right l (Memᴰ.head refl))) t)
  below_last x a (y ∷ l) (cons by sl) t z (Memᴰ.tail h) = below_last x a l sl t z h

  less : (a b : A) → (a ≡ b → ⊥) → lt a b ≡ false → T (lt b a)
  less a b n t = go (lt b a) (o.conn a b (subst (λ (c : Bool). T (not c)) (sym t) tt))
    where
      go : (c : Bool) → (T (not c) → a ≡ b) → T c
      go true f = tt
      go false f = n (f tt)

  not_back : (a z : A) → T (lt z a) → lt a z ≡ false
  not_back a z t = go (lt a z) (λ u. o.irr a (o.trans a z a u t))
    where
      go : (b : Bool) → (T b → ⊥) → b ≡ false
      go true f = absurd (f tt)
      go false f = refl

  -- one that is more than all goes behind them
  insert_last : (a : A) (l : List A) → ((z : A) → z ∈ l → T (lt z a)) → insert lt a l ≡ l ++ (a ∷ [])
  insert_last a [] h = refl
  insert_last a (y ∷ l) h = insert_later lt o a y l (h y (Memᴰ.head refl)) ∙ ap (λ r. y ∷ r) (insert_last a l (λ z m. h z (Memᴰ.tail m)))

  -- one that is not less than the last goes behind it
  pub insert_end : (a : A) {l k : List A} {x : A} → Sorted lt l → Ends l k x → (a ≡ x → ⊥) → lt a x ≡ false → Ends (insert lt a l) l a
  insert_end a {l} {k} {x} s e n t =
      record { ends = insert_last a l (λ z h. below_last x a k (subst (Sorted lt) e.ends s) (less a x n t) z (subst (λ r. z ∈ r) e.ends h)) }

-- ---- two lists put together, by their last elements
module _ {A : Type 0} (lt : A → A → Bool) where
  pick_last : (c : Bool) (x : A) (p q : List A) {p' q' : List A} → p' ≡ p ++ (x ∷ []) → q' ≡ q ++ (x ∷ []) → pick c p' q' ≡ pick c p q ++ (x ∷ [])
  pick_last true x p q e d = e
  pick_last false x p q e d = d

  one_second : (a b : A) (f : List A → List A) (l : List A) → T (lt a b) → ((m : List A) → f (m ++ (b ∷ [])) ≡ f m ++ (b ∷ [])) → interleave_one lt a f (l ++ (b ∷ [])) ≡ interleave_one lt a f l ++ (b ∷ [])
  one_second a b f [] t e = rw (t_true (lt a b) t) (ap (λ r. a ∷ r) (e []))
  one_second a b f (y ∷ l) t e = pick_last (lt a y) b (a ∷ f (y ∷ l)) (y ∷ interleave_one lt a f l) (ap (λ r. a ∷ r) (e (y ∷ l))) (ap (λ r. y ∷ r) (one_second a b f l t e))

  -- the last of the second is more than all of the first
  inter_second : (b : A) (k l : List A) → ((z : A) → z ∈ k → T (lt z b)) → interleave lt k (l ++ (b ∷ [])) ≡ interleave lt k l ++ (b ∷ [])
  inter_second b [] l h = refl
  inter_second b (a ∷ k) l h = one_second a b (interleave lt k) l (h a (Memᴰ.head refl)) (λ m. inter_second b k m (λ z n. h z (Memᴰ.tail n)))

  one_first : (x a : A) (f g : List A → List A) (l : List A) → ((m : List A) → ((z : A) → z ∈ m → lt a z ≡ false) → f m ≡ g m ++ (a ∷ [])) → ((z : A) → z ∈ l → lt a z ≡ false)
      → interleave_one lt x f l ≡ interleave_one lt x g l ++ (a ∷ [])
  one_first x a f g [] e h = ap (λ r. x ∷ r) (e [] h)
  one_first x a f g (y ∷ l) e h =
      pick_last (lt x y) a (x ∷ g (y ∷ l)) (y ∷ interleave_one lt x g l) (ap (λ r. x ∷ r) (e (y ∷ l) h)) (ap (λ r. y ∷ r) (one_first x a f g l e (λ z m. h z (Memᴰ.tail m))))

  -- the last of the first is less than none of the second
  inter_first : (a : A) (k l : List A) → ((z : A) → z ∈ l → lt a z ≡ false) → interleave lt (k ++ (a ∷ [])) l ≡ interleave lt k l ++ (a ∷ [])
  inter_first a [] [] h = refl
  inter_first a [] (y ∷ l) h = rw (h y (Memᴰ.head refl)) (ap (λ r. y ∷ r) (inter_first a [] l (λ z m. h z (Memᴰ.tail m))))
  inter_first a (x ∷ k) l h = one_first x a (interleave lt (k ++ (a ∷ []))) (interleave lt k) l (λ m. inter_first a k m) h

  pick_length : (c : Bool) (n : ℕ) (p q : List A) → length p ≡ n → length q ≡ n → length (pick c p q) ≡ n
  pick_length true n p q e d = e
  pick_length false n p q e d = d

  one_length : (a : A) (f : List A → List A) (n : ℕ) (l : List A) → ((m : List A) → length (f m) ≡ n + length m) → length (interleave_one lt a f l) ≡ suc n + length l
  one_length a f n [] e = let d = e [] in omega arith
  one_length a f n (y ∷ l) e =
      let d = e (y ∷ l) in
      let r = one_length a f n l e in
      pick_length (lt a y) (suc n + suc (length l)) (a ∷ f (y ∷ l)) (y ∷ interleave_one lt a f l) (omega arith) (omega arith)

  pub inter_length : (k l : List A) → length (interleave lt k l) ≡ length k + length l
  inter_length [] l = omega arith
  inter_length (a ∷ k) l = one_length a (interleave lt k) (length k) l (inter_length k)

-- ---- the same of lists of which the ends are known
pub ends_move : {A B : Type 0} (f : A → Option B) {l k : List A} {x : A} (y : B) → Ends l k x → f x ≡ some y → Ends (move f l) (move f k) y
ends_move f {k = k} {x} y e q = record { ends = ap (move f) e.ends ∙ move_append f k (x ∷ []) ∙ ap (λ o. move f k ++ push o []) q }

pub ends_map : {A B : Type 0} (f : A → B) {l k : List A} {x : A} → Ends l k x → Ends (map f l) (map f k) (f x)
ends_map f {k = k} {x} e = record { ends = ap (map f) e.ends ∙ map-append f k (x ∷ []) }

module _ {A : Type 0} (lt : A → A → Bool) where
  -- nothing is left of the second
  pub ends_only_first : {k k' l : List A} {a : A} → l ≡ [] → Ends k k' a → Ends (interleave lt k l) (interleave lt k' l) a
  ends_only_first {k' = k'} {a = a} n e =
      record { ends = ap₂ (interleave lt) e.ends n ∙ inter_first lt a k' [] (λ z m. absurd (Memᴰ.not-nil m)) ∙ ap (λ r. interleave lt k' r ++ (a ∷ [])) (sym n) }

  module _ (o : StrictOrder lt) {k k' l l' : List A} {a b : A} (ek : Ends k k' a) (el : Ends l l' b) where
    -- the greater of the two last ones is the last
    pub ends_second : Sorted lt k → lt a b ≡ true → Ends (interleave lt k l) (interleave lt k l') b
    ends_second s t =
        record {
          ends = ap (interleave lt k) el.ends
              ∙ inter_second lt b k l' (λ z h. below_last lt o a b k' (subst (Sorted lt) ek.ends s) (subst T (sym t) tt) z (subst (λ r. z ∈ r) ek.ends h));
        }

    pub ends_first : Sorted lt l → (a ≡ b → ⊥) → lt a b ≡ false → Ends (interleave lt k l) (interleave lt k' l) a
    ends_first s n t =
        record {
          ends = ap (λ r. interleave lt r l) ek.ends
              ∙ inter_first lt a k' l (λ z h. not_back lt o a z (below_last lt o b a l' (subst (Sorted lt) el.ends s) (less lt o a b n t) z (subst (λ r. z ∈ r) el.ends h)));
        }
