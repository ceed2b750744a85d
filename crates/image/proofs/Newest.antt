-- Rows in order none of which comes after a key: those of that key are the last ones, from the key's place on. Assumes nothing.
use mathlib.Core.Path.{◌≡◌, refl, sym, ap, subst, ◌∙◌}
use mathlib.Core.Logic.{◌⊎◌, inl, inr}
use mathlib.Core.Bool.{Bool, true, false, not}
use mathlib.Core.Option.{Option, some}
use mathlib.Core.List.Memᴰ
use mathlib.Core.List.{List, [], ◌∷◌, map}
use Prim.Native.Nat.{ℕ, suc, ◌-◌, ◌≤◌, ◌<◌}
use native.Mathlib.Omega.{arith}
use lib.Dec.{T, ltb, not_T}
use lib.ListN.{length, take, drop, get_or, length-map, length-take, length-drop}
use borrow.Author.Tests.{le-ltb, lt-ltb, ltb-true, ltb-false}
use Rattle.laws.specs.Slots.{pick}
use Rattle.laws.specs.Sorted.{◌∈◌, Sorted, cons, push, move}
use Rattle.laws.specs.Search.{place}
use Rattle.laws.proofs.Search.{Keyed, Searched, Only, place_most, row_side, rows_from}
use Rattle.path.proofs.Moves.{Test, holds, fails, test, is_true, is_false}

module _ {A K : Type 0} {lt : A → A → Bool} {lt_k : K → K → Bool} {key : A → K} (o : Keyed lt lt_k key) (k : K) where
  equal : (x : A) → (T (lt_k (key x) k) → ⊥) → (T (lt_k k (key x)) → ⊥) → key x ≡ k
  equal x f g = o.order.conn (key x) k (not_T (lt_k (key x) k) f) (not_T (lt_k k (key x)) g)

  -- from the place on every row is of that key
  from_all : (l : List A) → Sorted lt l → ((x : A) → x ∈ l → T (lt_k k (key x)) → ⊥) → (x : A) → x ∈ drop (place (λ r. lt_k (key r) k) l) l → key x ≡ k
  from_all [] s n x m = absurd (Memᴰ.not-nil m)
  from_all (y ∷ l) (cons h s) n x m = go (test (lt_k (key y) k)) (from_all l s (λ z w. n z (Memᴰ.tail w)) x)
    where
      later : (T (lt_k (key y) k) → ⊥) → T (lt_k (key y) (key x)) ⊎ (key y ≡ key x) → T (lt_k (key x) k) → ⊥
      later f (inl t) u = f (o.order.trans (key y) (key x) k t u)
      later f (inr e) u = f (subst (λ z. T (lt_k z k)) (sym e) u)

      here : (T (lt_k (key y) k) → ⊥) → x ∈ y ∷ l → key x ≡ k
      here f (Memᴰ.head e) = ap key e ∙ equal y f (n y (Memᴰ.head refl))
      here f (Memᴰ.tail w) = equal x (later f (o.rise y x (h x w))) (n x (Memᴰ.tail w))

      go : Test (lt_k (key y) k) → (x ∈ drop (place (λ r. lt_k (key r) k) l) l → key x ≡ k) → key x ≡ k
      go (holds t) f = f (subst (λ b. x ∈ drop (pick b (suc (place (λ r. lt_k (key r) k) l)) 0) (y ∷ l)) (is_true (lt_k (key y) k) t) m)
      go (fails f) g = here f (subst (λ b. x ∈ drop (pick b (suc (place (λ r. lt_k (key r) k) l)) 0) (y ∷ l)) (is_false (lt_k (key y) k) f) m)

module _ {S M K : Type 0} {v : S → M} {lt_k : K → K → Bool} {key : M → K} {rows : List S} {count : ℕ} (q : Searched v lt_k key rows count) (k : K)
    (none_after : (x : M) → x ∈ map v (take count rows) → T (lt_k k (key x)) → ⊥) where
  abbrev at : ℕ
  at = place (λ r. lt_k (key r) k) (map v (take count rows))

  behind : (x : M) → x ∈ drop at (map v (take count rows)) → key x ≡ k
  behind = from_all q.keyed k (map v (take count rows)) q.ascend none_after

  left_long : length (drop at (map v (take count rows))) ≡ count - at
  left_long =
      let d = length-drop at (map v (take count rows)) in
      let m = length-map (take count rows) v in
      let t = length-take count rows in
      let f = q.full in
      omega arith

  -- whether there is a row of the key: whether there is a row from the place on
  here_from : {is : M → Bool} {G : List M → Bool} → Only key k is G → G [] ≡ false → ((x : M) (l : List M) → is x ≡ true → G (x ∷ l) ≡ true) → G (map v (take count rows)) ≡ ltb at count
  here_from {is} {G} w empty hit =
      rows_from q k w refl ∙ go (drop at (map v (take count rows))) left_long behind
    where
      go : (l : List M) → length l ≡ count - at → ((x : M) → x ∈ l → key x ≡ k) → G l ≡ ltb at count
      go [] e f = empty ∙ sym (le-ltb at count (omega arith))
      go (x ∷ l) e f = hit x l (w.from x (f x (Memᴰ.head refl))) ∙ sym (lt-ltb at count (omega arith))

  -- so it is not the last row that comes before the key
  pub here_last : {is : M → Bool} {G : List M → Bool} → Only key k is G → G [] ≡ false → ((x : M) (l : List M) → is x ≡ true → G (x ∷ l) ≡ true)
      → (d : S) → 0 < count → not (G (map v (take count rows))) ≡ lt_k (key (v (get_or rows (count - 1) d))) k
  here_last {is} {G} w empty hit d c =
      ap not (here_from w empty hit) ∙ go (test (ltb at count)) ∙ row_side q k (count - 1) d (omega arith)
    where
      most : at ≤ count
      most = place_most q k

      go : Test (ltb at count) → not (ltb at count) ≡ ltb (count - 1) at
      go (holds t) = let e = is_true (ltb at count) t in let f : at < count = ltb-true at count e in rw e (sym (le-ltb (count - 1) at (omega arith)))
      go (fails n) = let e = is_false (ltb at count) n in let f : count ≤ at = ltb-false at count e in let m = most in rw e (sym (lt-ltb (count - 1) at (omega arith)))

  pub none_here : {is : M → Bool} {G : List M → Bool} → Only key k is G → G [] ≡ false → ((x : M) (l : List M) → is x ≡ true → G (x ∷ l) ≡ true)
      → count ≡ 0 → G (map v (take count rows)) ≡ false
  none_here w empty hit e = let m = place_most q k in here_from w empty hit ∙ le-ltb at count (omega arith)

  -- how many rows of the key there are, of a table that lists them
  module _ {C : Type 0} (f : M → Option C) {is : M → Bool} (w : Only key k is (move f)) (gives : (x : M) → key x ≡ k → (c : C) × (f x ≡ some c)) where
    all_given : (l : List M) → ((x : M) → x ∈ l → key x ≡ k) → length (move f l) ≡ length l
    all_given [] h = refl
    all_given (x ∷ l) h =
        let g = gives x (h x (Memᴰ.head refl)) in
        ap (λ o. length (push o (move f l))) g.1 ∙ ap suc (all_given l (λ y m. h y (Memᴰ.tail m)))

    many : length (move f (map v (take count rows))) ≡ count - at
    many = ap (λ l. length l) (rows_from q k w refl) ∙ all_given (drop at (map v (take count rows))) behind ∙ left_long

    pub few : (n : ℕ) → count < n → ltb (length (move f (map v (take count rows)))) n ≡ true
    few n c = lt-ltb _ n (let e = many in omega arith)

    -- fewer than n: the row n places before the end comes before the key
    pub few_far : (n : ℕ) (d : S) → 0 < n → n ≤ count → ltb (length (move f (map v (take count rows)))) n ≡ lt_k (key (v (get_or rows (count - n) d))) k
    few_far n d p c = ap (λ m. ltb m n) many ∙ go (test (ltb (count - at) n)) ∙ row_side q k (count - n) d (omega arith)
      where
        most : at ≤ count
        most = place_most q k

        go : Test (ltb (count - at) n) → ltb (count - at) n ≡ ltb (count - n) at
        go (holds t) = let e = is_true (ltb (count - at) n) t in let g : count - at < n = ltb-true (count - at) n e in let m = most in e ∙ sym (lt-ltb (count - n) at (omega arith))
        go (fails x) = let e = is_false (ltb (count - at) n) x in let g : n ≤ count - at = ltb-false (count - at) n e in let m = most in e ∙ sym (le-ltb (count - n) at (omega arith))
