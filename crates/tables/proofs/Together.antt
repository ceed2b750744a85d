-- The rows of one key stand together in a table in order: where the library's search by halving says that they begin and end, for any rows. Assumes nothing.
use mathlib.Core.Path.{◌≡◌, refl, sym, ap, subst, ◌∙◌}
use mathlib.Core.Logic.{◌⊎◌, inl, inr}
use mathlib.Core.Bool.{Bool, true, false, true≢false}
use mathlib.Core.List.{List, [], ◌∷◌, ◌++◌, map}
use Prim.Native.Nat.{ℕ, zero, suc, ◌+◌, ◌-◌, ◌≤◌, ◌<◌}
use native.Mathlib.Omega.{arith}
use lib.Dec.{T, ltb}
use lib.ListN.{length, take, drop, get_or, length-drop}
use lib.Seq.{get_or-take, get_or-drop, drop-drop, length-take-le}
use borrow.Author.Tests.{le-ltb, lt-ltb, ltb-true, ltb-false}
use Rattle.std.specs.List.Sorted.{IsPartitionPoint, IsPartitionedBy}
use Rattle.std.proofs.lemmas.List.{append-nil, take_all}
use Rattle.laws.specs.Sorted.{Sorted, cons}
use Rattle.laws.specs.Search.{place}
use Rattle.laws.proofs.Fill.{drop_map, row_next, row_end}
use Rattle.laws.proofs.Last.{in_rest, sorted_drop}
use Rattle.laws.proofs.Search.{Searched, Only, place_most, row_side, rows_from, rows_other}

-- a row before another of a sorted list is less
before_next : {A : Type 0} (lt : A → A → Bool) {x y : A} {l m : List A} (i : ℕ) → Sorted lt (x ∷ l) → drop i l ≡ y ∷ m → T (lt x y)
before_next lt {y = y} {l = l} i (cons h s) e = h y (in_rest y i l e)

module _ {S M K : Type 0} {v : S → M} {lt_k : K → K → Bool} {key : M → K} {rows : List S} {count : ℕ} (q : Searched v lt_k key rows count) (k : K) where
  abbrev first : ℕ
  first = place (λ r. lt_k (key r) k) (map v (take count rows))

  -- where the rows begin, by a test that says whether a row's key is less
  module _ (below : S → Bool) (b : (i : ℕ) (d : S) → i < count → below (get_or rows i d) ≡ lt_k (key (v (get_or rows i d))) k) where
    sided : (i : ℕ) (d : S) → i < count → below (get_or (take count rows) i d) ≡ ltb i first
    sided i d c = ap below (get_or-take count rows i d c) ∙ b i d c ∙ sym (row_side q k i d c)

    pub begins : IsPartitionedBy below (take count rows)
    begins i j d le lt t =
        let n = length-take-le count rows q.full in
        let f = ltb-true j first (sym (sided j d (omega arith)) ∙ t) in
        sided i d (omega arith) ∙ lt-ltb i first (omega arith)

    pub begin : (d : S) (i : ℕ) → IsPartitionPoint (λ y. below y ≡ true) (λ y. below y ≡ false) (take count rows) i → i ≤ length (take count rows) → i ≡ first
    begin d i w m = go (ltb i first) refl (ltb first i) refl
      where
        go : (x : Bool) → ltb i first ≡ x → (y : Bool) → ltb first i ≡ y → i ≡ first
        go true e y f =
            let n = length-take-le count rows q.full in
            let a = ltb-true i first e in
            let z = place_most q k in
            absurd (true≢false (sym e ∙ sym (sided i d (omega arith)) ∙ w.1 i d (omega arith) (omega arith)))
        go false e true f =
            let n = length-take-le count rows q.full in
            let a = ltb-true first i f in
            absurd (true≢false (sym (w.0 first d (omega arith) a) ∙ sided first d (omega arith) ∙ le-ltb first first (omega arith)))
        go false e false f = let a = ltb-false i first e in let c = ltb-false first i f in omega arith

  -- where they end, by a test that says whether a row's key is k, of what begins there
  module _ {C : Type 0} {is : M → Bool} {G : List M → List C} (w : Only key k is G) (equal : S → Bool) (b : (i : ℕ) (d : S) → i < count → equal (get_or rows i d) ≡ is (v (get_or rows i d)))
      {i : ℕ} (at : i ≡ first) {ys : List S} (rest : ys ≡ drop i (take count rows)) where
    row : (a : ℕ) (d : S) → get_or ys a d ≡ get_or (take count rows) (i + a) d
    row a d = ap (λ l. get_or l a d) rest ∙ get_or-drop i (take count rows) a d

    long : i + length ys ≡ count
    long = let n = length-take-le count rows q.full in let m = place_most q k in let l = ap length rest ∙ length-drop i (take count rows) in omega arith

    tested : (a : ℕ) (d : S) → a < length ys → equal (get_or ys a d) ≡ is (v (get_or rows (i + a) d))
    tested a d h = let n = long in ap equal (row a d ∙ get_or-take count rows (i + a) d (omega arith)) ∙ b (i + a) d (omega arith)

    -- a row that stands between the place and a row of key k has that key
    between : (a c : ℕ) (d : S) → a < c → i + c < count → is (v (get_or rows (i + c) d)) ≡ true → key (v (get_or rows (i + a) d)) ≡ k
    between a c d h m t = go (q.keyed.rise x y less)
      where
        x : M
        x = v (get_or rows (i + a) d)

        y : M
        y = v (get_or rows (i + c) d)

        l : List M
        l = map v (take count rows)

        next : drop (c - (a + 1)) (drop (i + a + 1) l) ≡ y ∷ drop (i + c + 1) l
        next = drop-drop (c - (a + 1)) (i + a + 1) l ∙ ap (λ n. drop n l) (omega arith) ∙ row_next v rows count (i + c) d m q.full

        less : T (q.lt x y)
        less = before_next q.lt (c - (a + 1)) (subst (Sorted q.lt) (row_next v rows count (i + a) d (omega arith) q.full) (sorted_drop q.lt (i + a) q.ascend)) next

        above : lt_k (key x) k ≡ false
        above = sym (row_side q k (i + a) d (omega arith)) ∙ le-ltb (i + a) first (omega arith)

        go : T (lt_k (key x) (key y)) ⊎ (key x ≡ key y) → key x ≡ k
        go (inl u) = absurd (subst T above (subst (λ z. T (lt_k (key x) z)) (w.to y t) u))
        go (inr e) = e ∙ w.to y t

    pub ends : IsPartitionedBy equal ys
    ends a c d le lt t = go (ltb a c) refl
      where
        go : (z : Bool) → ltb a c ≡ z → equal (get_or ys a d) ≡ true
        go true e = let n = long in let f = ltb-true a c e in
            tested a d (omega arith) ∙ w.from (v (get_or rows (i + a) d)) (between a c d f (omega arith) (sym (tested c d lt) ∙ t))
        go false e = let f = ltb-false a c e in let g : a ≡ c = omega arith in ap (λ n. equal (get_or ys n d)) g ∙ t

    module _ (h : M → C) (hit : (x : M) (l : List M) → is x ≡ true → G (x ∷ l) ≡ h x ∷ G l) (none : G [] ≡ []) where
      front : (zs : List S) (j : ℕ) → ((n : ℕ) (d : S) → n < j → is (v (get_or zs n d)) ≡ true) → j ≤ length zs → G (map v zs) ≡ map (λ s. h (v s)) (take j zs) ++ G (map v (drop j zs))
      front zs zero f m = refl
      front [] (suc j) f m = absurd (omega arith)
      front (z ∷ zs) (suc j) f m = hit (v z) (map v zs) (f 0 z (omega arith)) ∙ ap (λ r. h (v z) ∷ r) (front zs j (λ n d g. f (suc n) d (omega arith)) (omega arith))

      behind : (d : S) (j : ℕ) → j ≤ length ys → ((n : ℕ) → j ≤ n → n < length ys → equal (get_or ys n d) ≡ false) → G (map v (drop j ys)) ≡ []
      behind d j m f = ap G (sym (drop_map v j ys) ∙ ap (λ l. drop j (map v l)) rest ∙ ap (drop j) (sym (drop_map v i (take count rows))) ∙ drop-drop j i (map v (take count rows))) ∙ go (ltb j (length ys)) refl
        where
          go : (z : Bool) → ltb j (length ys) ≡ z → G (drop (i + j) (map v (take count rows))) ≡ []
          go true e = let n = long in let g = ltb-true j (length ys) e in
              rows_other q k w (i + j) d (omega arith) (omega arith) (sym (tested j d g) ∙ f j (omega arith) g) ∙ none
          go false e = let n = long in let g = ltb-false j (length ys) e in ap G (row_end v rows count (i + j) (omega arith)) ∙ none

      pub stands : (d : S) (j : ℕ) → IsPartitionPoint (λ y. equal y ≡ true) (λ y. equal y ≡ false) ys j → j ≤ length ys → map (λ s. h (v s)) (take j ys) ≡ G (map v (take count rows))
      stands d j p m =
          sym
          (rows_from q k w at ∙ ap G (drop_map v i (take count rows) ∙ ap (map v) (sym rest))
          ∙ front ys j (λ n e g. let c = long in ap (λ s. is (v s)) (row n e ∙ get_or-take count rows (i + n) e (omega arith)) ∙ sym (tested n e (omega arith)) ∙ p.0 n e (omega arith) g) m
          ∙ ap (λ r. map (λ s. h (v s)) (take j ys) ++ r) (behind d j m (λ n a c. p.1 n d a c))
          ∙ append-nil (map (λ s. h (v s)) (take j ys)))

  -- both: what the library's two searches give
  module _ {C : Type 0} {is : M → Bool} {G : List M → List C} (w : Only key k is G) (h : M → C) (hit : (x : M) (l : List M) → is x ≡ true → G (x ∷ l) ≡ h x ∷ G l) (none : G [] ≡ [])
      (below equal : S → Bool) (b : (i : ℕ) (d : S) → i < count → below (get_or rows i d) ≡ lt_k (key (v (get_or rows i d))) k)
      (e : (i : ℕ) (d : S) → i < count → equal (get_or rows i d) ≡ is (v (get_or rows i d))) (d : S) where
    abbrev from : ℕ → List S
    from i = take (length (take count rows) - i) (drop i (take count rows))

    pub all : (i j : ℕ) → i ≤ length (take count rows) → j ≤ length (from i)
        → (IsPartitionedBy below (take count rows) → IsPartitionPoint (λ y. below y ≡ true) (λ y. below y ≡ false) (take count rows) i)
        → (IsPartitionedBy equal (from i) → IsPartitionPoint (λ y. equal y ≡ true) (λ y. equal y ≡ false) (from i) j)
        → map (λ s. h (v s)) (take j (from i)) ≡ G (map v (take count rows))
    all i j m n f g =
        let at = begin below b d i (f (begins below b)) m in
        let r = length-drop i (take count rows) in
        let rest = take_all (length (take count rows) - i) (drop i (take count rows)) (omega arith) in
        stands w equal e at rest h hit none d j (g (ends w equal e at rest)) n
