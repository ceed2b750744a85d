-- Lists in strict order that grow at their end: what stands before an element, an element put behind all, and how long a list becomes. Assumes nothing.
use mathlib.Core.Path.{◌≡◌, refl, sym, ap, ap₂, subst, ◌∙◌}
use mathlib.Core.Logic.{◌⊎◌, inl, inr, ⊎_elim}
use mathlib.Core.Bool.{Bool, true, false}
use mathlib.Core.Option.{Option, none, some}
use mathlib.Core.List.Memᴰ
use mathlib.Core.List.{List, [], ◌∷◌, ◌++◌, map}
use Prim.Native.Nat.{ℕ, suc, ◌≤◌}
use native.Mathlib.Omega.{arith}
use lib.Dec.{T, ltb, lt→ltb}
use lib.ListN.{length, length-append}
use Rattle.laws.specs.Sorted.{◌∈◌, StrictOrder, Sorted, nil, cons, insert_by, insert, push, move}
use Rattle.laws.proofs.Sorted.{insert_later}

module _ {A : Type 0} {lt : A → A → Bool} where
  pub sorted_append : {l m : List A} → Sorted lt l → Sorted lt m → ((x y : A) → x ∈ l → y ∈ m → T (lt x y)) → Sorted lt (l ++ m)
  sorted_append nil sm f = sm
  sorted_append {m = m} (cons {x} {l} bx sl) sm f =
      cons (λ z h. ⊎_elim (bx z) (f x z (Memᴰ.head refl)) (Memᴰ.append_cases l h)) (sorted_append sl sm (λ y z h. f y z (Memᴰ.tail h)))

  -- a map that keeps the order of the list's own members
  pub map_sorted_on : {B : Type 0} {lt_b : B → B → Bool} (f : A → B) {l : List A}
      → ((a b : A) → a ∈ l → b ∈ l → T (lt a b) → T (lt_b (f a) (f b))) → Sorted lt l → Sorted lt_b (map f l)
  map_sorted_on f m nil = nil
  map_sorted_on {B} {lt_b} f m (cons {x} {l} bx sl) =
      cons (λ z h. let w = Memᴰ.of_map f l h in
      subst (λ (y : B). T (lt_b (f x) y)) w.2 (m x w.0 (Memᴰ.head refl) (Memᴰ.tail w.1) (bx w.0 w.1)))
      (map_sorted_on f (λ a b h k. m a b (Memᴰ.tail h) (Memᴰ.tail k)) sl)

module _ {A : Type 0} {lt : A → A → Bool} (o : StrictOrder lt) where
  -- one more in front of the first
  pub sorted_more : {x y : A} {l : List A} → T (lt x y) → Sorted lt (y ∷ l) → Sorted lt (x ∷ y ∷ l)
  sorted_more {x} {y} {l} t (cons by sl) = cons below (cons by sl)
    where
      below : (z : A) → z ∈ y ∷ l → T (lt x z)
      below z (Memᴰ.head e) = subst (λ (w : A). T (lt x w)) (sym e) t
      below z (Memᴰ.tail h) = o.trans x y z t (by z h)

  -- an element that is more than all goes last
  pub insert_last : (x : A) (l : List A) → ((y : A) → y ∈ l → T (lt y x)) → insert lt x l ≡ l ++ (x ∷ [])
  insert_last x [] f = refl
  insert_last x (y ∷ l) f =
      insert_later lt o x y l (f y (Memᴰ.head refl)) ∙ ap (λ (r : List A). y ∷ r) (insert_last x l (λ z h. f z (Memᴰ.tail h)))

  before_less : (l : List A) (x : A) (m : List A) → Sorted lt (l ++ (x ∷ m)) → (y : A) → y ∈ l → T (lt y x)
  before_less [] x m s y h = absurd (Memᴰ.not-nil h)
  before_less (z ∷ l) x m (cons bz sl) y h =
      ⊎_elim (λ e. subst (λ (w : A). T (lt w x)) (sym e) (bz x (Memᴰ.append_right l (Memᴰ.head refl)))) (before_less l x m sl y) (Memᴰ.cases_cons h)

  after_more : (l : List A) (x : A) (m : List A) → Sorted lt (l ++ (x ∷ m)) → (y : A) → y ∈ m → T (lt x y)
  after_more [] x m (cons bx sm) y h = bx y h
  after_more (z ∷ l) x m (cons bz sl) y h = after_more l x m sl y h

-- ---- a list cut at x: those before it, x, those behind it
module _ {A : Type 0} {rows : List A} (l : List A) (x : A) (m : List A) (e : l ++ (x ∷ m) ≡ rows) where
  pub cut_here : x ∈ rows
  cut_here = subst (λ (k : List A). x ∈ k) e (Memᴰ.append_right l (Memᴰ.head refl))

  pub cut_before : (y : A) → y ∈ l → y ∈ rows
  cut_before y h = subst (λ (k : List A). y ∈ k) e (Memᴰ.append_left (x ∷ m) h)

  pub cut_room : (n : ℕ) → length rows ≤ n → T (ltb (length l) n)
  cut_room n h = let c : length (l ++ (x ∷ m)) ≡ length rows = ap (λ (k : List A). length k) e in lt→ltb (length l) n (omega (arith, length-append l (x ∷ m)))

  module _ {lt : A → A → Bool} (o : StrictOrder lt) (s : Sorted lt rows) where
    -- what stands before x is less, and all that is less stands before
    pub cut_less : (y : A) → y ∈ l → T (lt y x)
    cut_less = before_less o l x m (subst (Sorted lt) (sym e) s)

    pub less_cut : (y : A) → T (lt y x) → y ∈ rows → y ∈ l
    less_cut y t h = ⊎_elim (λ k. k) (λ k. not_after (Memᴰ.cases_cons k)) (Memᴰ.append_cases l (subst (λ (k : List A). y ∈ k) (sym e) h))
      where
        not_after : (y ≡ x) ⊎ (y ∈ m) → y ∈ l
        not_after (inl d) = absurd (o.irr x (subst (λ (w : A). T (lt w x)) d t))
        not_after (inr k) = absurd (o.irr x (o.trans x y x (after_more o l x m (subst (Sorted lt) (sym e) s) y k) t))

    -- x does not stand before itself
    pub cut_once : x ∈ l → ⊥
    cut_once h = o.irr x (cut_less x h)

-- ---- how long a list becomes
module _ {A B : Type 0} (f : A → Option B) where
  -- of the elements that f answers for, at most one more
  push_long : (o : Option B) (l m : List B) → length l ≤ length m → length (push o l) ≤ length (push o m)
  push_long none l m h = h
  push_long (some b) l m h = omega arith

  push_more : (o : Option B) (l : List B) → length l ≤ length (push o l)
  push_more none l = omega arith
  push_more (some b) l = omega arith

  push_both : (p q : Option B) (l m : List B) → length m ≤ length (push p l) → length (push q m) ≤ length (push p (push q l))
  push_both none q l m h = push_long q m l h
  push_both (some b) none l m h = h
  push_both (some b) (some c) l m h = omega arith

  insert_by_long : (b c : Bool) (x y : A) (l r : List A) → length (move f r) ≤ length (push (f x) (move f l))
      → length (move f (insert_by b c x y l r)) ≤ length (push (f x) (push (f y) (move f l)))
  insert_by_long true c x y l r h = omega arith
  insert_by_long false true x y l r h = push_both (f x) (f y) (move f l) (move f r) h
  insert_by_long false false x y l r h = push_more (f x) (push (f y) (move f l))

  pub insert_long : (lt : A → A → Bool) (x : A) (l : List A) → length (move f (insert lt x l)) ≤ length (push (f x) (move f l))
  insert_long lt x [] = omega arith
  insert_long lt x (y ∷ l) = insert_by_long (lt x y) (lt y x) x y l (insert lt x l) (insert_long lt x l)

  push_append : (o : Option B) (l m : List B) → push o (l ++ m) ≡ push o l ++ m
  push_append none l m = refl
  push_append (some b) l m = refl

  move_append : (l m : List A) → move f (l ++ m) ≡ move f l ++ move f m
  move_append [] m = refl
  move_append (x ∷ l) m = ap (push (f x)) (move_append l m) ∙ push_append (f x) (move f l) (move f m)

  -- with one that f answers for, one more
  pub move_longer : (l : List A) (x : A) (b : B) (m : List A) → f x ≡ some b → suc (length (move f l)) ≤ length (move f (l ++ (x ∷ m)))
  move_longer l x b m e =
      let d = length-append (move f l) (push (f x) (move f m)) in
      let g : length (push (f x) (move f m)) ≡ suc (length (move f m)) = ap (λ (o : Option B). length (push o (move f m))) e in
      let h : length (move f (l ++ (x ∷ m))) ≡ length (move f l ++ push (f x) (move f m)) = ap (λ (k : List B). length k) (move_append l (x ∷ m)) in
      omega arith

-- all of them are answered for, each by itself
pub move_id : {A : Type 0} (f : A → Option A) (l : List A) → ((a : A) → a ∈ l → f a ≡ some a) → move f l ≡ l
move_id f [] h = refl
move_id {A} f (x ∷ l) h = ap₂ (λ (o : Option A) (r : List A). push o r) (h x (Memᴰ.head refl)) (move_id f l (λ a k. h a (Memᴰ.tail k)))

pub insert_one : {A : Type 0} (lt : A → A → Bool) (x : A) (l : List A) → length (insert lt x l) ≤ suc (length l)
insert_one {A} lt x l = omega (arith, insert_long some lt x l, all l, all (insert lt x l))
  where
    all : (m : List A) → length (move some m) ≡ length m
    all m = ap (λ (k : List A). length k) (move_id some m (λ a h. refl))
