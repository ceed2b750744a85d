-- Laws of a search by halving, for any rows, any key of a row and any list in order: the test at a row says on which side of it the place is;
-- what looks only at the rows of one key begins at the place, and ends at the first row of another key. Assumes nothing.
use mathlib.Core.Path.{◌≡◌, refl, sym, ap, subst, ◌∙◌}
use mathlib.Core.Logic.{◌⊎◌, inl, inr}
use mathlib.Core.Bool.{Bool, true, false, true≢false}
use mathlib.Core.List.Memᴰ
use mathlib.Core.List.{List, [], ◌∷◌, map}
use Prim.Native.Nat.{ℕ, zero, suc, ◌≤◌, ◌<◌}
use native.Mathlib.Omega.{arith}
use lib.Dec.{T, ltb}
use lib.ListN.{length, take, drop, get_or, length-map, length-take}
use borrow.Author.Tests.{le-ltb, lt-ltb, ltb-true, ltb-false}
use Rattle.laws.specs.Slots.{pick}
use Rattle.laws.specs.Sorted.{◌∈◌, StrictOrder, Sorted, nil, cons}
use Rattle.laws.specs.Search.{place}
use Rattle.laws.proofs.Fill.{row_next}
use Rattle.laws.proofs.Last.{t_true, in_rest, sorted_drop}

-- ---- the place, by a test that holds of all that comes before an element of which it holds
module _ {A : Type 0} (b : A → Bool) where
  pub place_le : (l : List A) → place b l ≤ length l
  place_le [] = omega arith
  place_le (x ∷ l) = go (b x) (place_le l)
    where
      go : (c : Bool) → place b l ≤ length l → pick c (suc (place b l)) 0 ≤ suc (length l)
      go true h = omega arith
      go false h = omega arith

  module _ (lt : A → A → Bool) (falls : (x y : A) → T (lt x y) → b y ≡ true → b x ≡ true) where
    -- row i is x: the place is behind it exactly if the test holds of it
    pub side : (i : ℕ) {l : List A} (x : A) (l' : List A) → Sorted lt l → drop i l ≡ x ∷ l' → ltb i (place b l) ≡ b x
    side zero x l' nil e = let z : ◌≡◌ {A = ℕ} 0 1 = cc in absurd (omega arith)
    side (suc i) x l' nil e = let z : ◌≡◌ {A = ℕ} 0 1 = cc in absurd (omega arith)
    side zero x l' (cons {x = y} {l} h s) e = let f : y ≡ x = cc in go (b y) ∙ ap b f
      where
        go : (c : Bool) → ltb 0 (pick c (suc (place b l)) 0) ≡ c
        go true = lt-ltb 0 (suc (place b l)) (omega arith)
        go false = le-ltb 0 0 (omega arith)
    side (suc i) x l' (cons {x = y} {l} h s) e = go (b y) refl (b x) refl (side i x l' s e) (h x (in_rest x i l e))
      where
        go : (c : Bool) → b y ≡ c → (d : Bool) → b x ≡ d → ltb i (place b l) ≡ b x → T (lt y x) → ltb (suc i) (pick c (suc (place b l)) 0) ≡ b x
        go true f true g k m = let w = ltb-true i (place b l) (k ∙ g) in lt-ltb (suc i) (suc (place b l)) (omega arith) ∙ sym g
        go true f false g k m = let w = ltb-false i (place b l) (k ∙ g) in le-ltb (suc i) (suc (place b l)) (omega arith) ∙ sym g
        go false f true g k m = absurd (true≢false (sym (falls y x m g) ∙ f))
        go false f false g k m = le-ltb (suc i) 0 (omega arith) ∙ sym g

-- ---- rows in order of which each has a key, and the keys never fall
pub record Keyed {A K : Type 0} (lt : A → A → Bool) (lt_k : K → K → Bool) (key : A → K) : Type 0 where
  pub order : StrictOrder lt_k
  pub rise : (x y : A) → T (lt x y) → T (lt_k (key x) (key y)) ⊎ (key x ≡ key y)

module _ {A K : Type 0} (lt : A → A → Bool) (lt_k : K → K → Bool) (key : A → K) (o : Keyed lt lt_k key) (k : K) where
  abbrev below : A → Bool
  below x = lt_k (key x) k

  falls : (x y : A) → T (lt x y) → below y ≡ true → below x ≡ true
  falls x y t e = go (o.rise x y t)
    where
      go : T (lt_k (key x) (key y)) ⊎ (key x ≡ key y) → below x ≡ true
      go (inl h) = t_true (below x) (o.order.trans (key x) (key y) k h (subst T (sym e) tt))
      go (inr h) = ap (λ z. lt_k z k) h ∙ e

  -- row i is x: the place is behind it exactly if its key is less
  pub place_side : (i : ℕ) {l : List A} (x : A) (l' : List A) → Sorted lt l → drop i l ≡ x ∷ l' → ltb i (place below l) ≡ below x
  place_side = side below lt falls

  -- what looks only at the rows of key k
  module _ {C : Type 0} (G : List A → C) (only : (x : A) (l : List A) → (key x ≡ k → ⊥) → G (x ∷ l) ≡ G l) where
    pub from_place : (l : List A) → G l ≡ G (drop (place below l) l)
    from_place [] = refl
    from_place (x ∷ l) = go (below x) refl (from_place l)
      where
        go : (c : Bool) → below x ≡ c → G l ≡ G (drop (place below l) l) → G (x ∷ l) ≡ G (drop (pick c (suc (place below l)) 0) (x ∷ l))
        go true e h = only x l (λ f. o.order.irr k (subst (λ z. T (lt_k z k)) f (subst T (sym e) tt))) ∙ h
        go false e h = refl

    none_left : (l : List A) → ((x : A) → x ∈ l → key x ≡ k → ⊥) → G l ≡ G []
    none_left [] n = refl
    none_left (x ∷ l) n = only x l (n x (Memᴰ.head refl)) ∙ none_left l (λ y m. n y (Memᴰ.tail m))

    -- row i is x, at or behind the place, and of another key: no row from it on is of key k
    pub at_other : (i : ℕ) {l : List A} (x : A) (l' : List A) → Sorted lt l → drop i l ≡ x ∷ l' → place below l ≤ i → (key x ≡ k → ⊥) → G (drop i l) ≡ G []
    at_other i {l} x l' s e h n =
        let f : below x ≡ false = sym (place_side i x l' s e) ∙ le-ltb i (place below l) h in
        ap G e ∙ none_left (x ∷ l') (other f (subst (Sorted lt) e (sorted_drop lt i s)))
      where
        less : below x ≡ false → (y : A) → key y ≡ k → T (lt_k (key x) (key y)) ⊎ (key x ≡ key y) → ⊥
        less f y d (inl t) = subst T f (subst (λ z. T (lt_k (key x) z)) d t)
        less f y d (inr q) = n (q ∙ d)

        other : below x ≡ false → Sorted lt (x ∷ l') → (y : A) → y ∈ x ∷ l' → key y ≡ k → ⊥
        other f (cons g r) y (Memᴰ.head q) d = n (ap key (sym q) ∙ d)
        other f (cons g r) y (Memᴰ.tail m) d = less f y d (o.rise x y (g y m))

-- ---- the same of a table: its rows, seen as the model's, are in order
pub record Searched {S M K : Type 0} (v : S → M) (lt_k : K → K → Bool) (key : M → K) (rows : List S) (count : ℕ) : Type 0 where
  pub lt : M → M → Bool
  pub ascend : Sorted lt (map v (take count rows))
  pub keyed : Keyed lt lt_k key
  pub full : count ≤ length rows

-- what looks only at the rows of key k, by a test that says whether the key is k
pub record Only {M K C : Type 0} (key : M → K) (k : K) (is : M → Bool) (G : List M → C) : Type 0 where
  pub to : (x : M) → is x ≡ true → key x ≡ k
  pub from : (x : M) → key x ≡ k → is x ≡ true
  pub miss : (x : M) (l : List M) → is x ≡ false → G (x ∷ l) ≡ G l

module _ {S M K : Type 0} {v : S → M} {lt_k : K → K → Bool} {key : M → K} {rows : List S} {count : ℕ} (q : Searched v lt_k key rows count) (k : K) where
  pub place_most : place (λ r. lt_k (key r) k) (map v (take count rows)) ≤ count
  place_most =
      let p = place_le (λ r. lt_k (key r) k) (map v (take count rows)) in
      let m = length-map (take count rows) v in
      let t = length-take count rows in
      omega arith

  -- row i: the place is behind it exactly if its key is less
  pub row_side : (i : ℕ) (d : S) → i < count → ltb i (place (λ r. lt_k (key r) k) (map v (take count rows))) ≡ lt_k (key (v (get_or rows i d))) k
  row_side i d c = place_side q.lt lt_k key q.keyed k i (v (get_or rows i d)) _ q.ascend (row_next v rows count i d c q.full)

  module _ {C : Type 0} {is : M → Bool} {G : List M → C} (w : Only key k is G) where
    other_key : (x : M) (l : List M) → (key x ≡ k → ⊥) → G (x ∷ l) ≡ G l
    other_key x l f = go (is x) refl
      where
        go : (c : Bool) → is x ≡ c → G (x ∷ l) ≡ G l
        go true e = absurd (f (w.to x e))
        go false e = w.miss x l e

    -- it begins at the place
    pub rows_from : {i : ℕ} → i ≡ place (λ r. lt_k (key r) k) (map v (take count rows)) → G (map v (take count rows)) ≡ G (drop i (map v (take count rows)))
    rows_from e = from_place q.lt lt_k key q.keyed k G other_key (map v (take count rows)) ∙ ap (λ j. G (drop j (map v (take count rows)))) (sym e)

    -- and ends at the first row of another key that follows
    pub rows_other : (i : ℕ) (d : S) → place (λ r. lt_k (key r) k) (map v (take count rows)) ≤ i → i < count → is (v (get_or rows i d)) ≡ false
        → G (drop i (map v (take count rows))) ≡ G []
    rows_other i d p c e =
        at_other q.lt lt_k key q.keyed k G other_key i (v (get_or rows i d)) _ q.ascend (row_next v rows count i d c q.full) p (λ f. true≢false (sym (w.from (v (get_or rows i d)) f) ∙ e))
