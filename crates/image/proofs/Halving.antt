-- A column that never falls, of any elements: where a search by halving ends in it, and that the element there says whether the one looked for is in it. Assumes nothing.
use mathlib.Core.Path.{◌≡◌, refl, sym, ap, ◌∙◌}
use mathlib.Core.Logic.{◌⊎◌, inl, inr}
use mathlib.Core.Bool.{Bool, true, false, not, ◌&&◌, true≢false}
use mathlib.Core.List.Memᴰ
use mathlib.Core.List.{List, [], ◌∷◌}
use Prim.Native.Nat.{ℕ, ◌+◌, ◌-◌, ◌≤◌, ◌<◌}
use native.Mathlib.Numerals.{add-one}
use native.Mathlib.Omega.{arith}
use lib.Dec.{T, eqb, ltb, not_T, eqb→eq}
use lib.ListN.{length, drop, get_or, drop_of_length-le}
use lib.Seq.{drop-cons}
use borrow.Author.Tests.{eq-eqb, ltb-true, ltb-false, lt-ltb, le-ltb}
use borrow.Table.Steps.{cases}
use Rattle.std.proofs.Common.{Option, Some, None, Bor}
use Rattle.std.specs.Prelude.{IfSome, MatchOption}
use Rattle.std.specs.Option.{is_some}
use Rattle.std.specs.List.Sorted.{IsPartitionPoint, IsPartitionedBy}
use Rattle.laws.specs.Sorted.{◌∈◌, StrictOrder}
use Rattle.laws.specs.Search.{place}
use Rattle.laws.proofs.Order.{nat_order, pair_order}
use Rattle.laws.proofs.Last.{in_rest}
use Rattle.laws.proofs.Search.{Keyed, place_le, place_side, from_place, at_other}
use Rattle.path.proofs.Structs.{both}
use Rattle.path.proofs.Moves.{Test, holds, fails, test, is_true}
use Rattle.image.specs.Columns.{any_of, Rises, before_pair}

any_there : {A : Type 0} (is : A → Bool) (l : List A) (x : A) → x ∈ l → is x ≡ true → any_of is l ≡ true
any_there is [] x m h = elim m [ ]
any_there is (y ∷ l) x (Memᴰ.head e) h = rw (ap is (sym e) ∙ h)
any_there is (y ∷ l) x (Memᴰ.tail m) h = cases (is y) (λ e. rw e) (λ e. rw e (any_there is l x m h))

none_there : {A : Type 0} (is : A → Bool) (l : List A) → length l ≤ 0 → false ≡ any_of is l
none_there is [] h = refl
none_there is (x ∷ l) h = absurd (omega arith)

module _ {A : Type 0} {lt : A → A → Bool} (o : StrictOrder lt) where
  never_falls : Keyed (λ x y. not (lt y x)) lt (λ x. x)
  never_falls = record { order = o; rise = λ x y t. go x y t (test (lt x y)) }
    where
      go : (x y : A) → T (not (lt y x)) → Test (lt x y) → T (lt x y) ⊎ (x ≡ y)
      go x y t (holds h) = inl h
      go x y t (fails f) = inr (o.conn x y (not_T (lt x y) f) t)

  -- l never falls, and k is looked for
  module _ (l : List A) (s : Rises lt l) (k : A) where
    abbrev first : ℕ
    first = place (λ x. lt x k) l

    next : (i : ℕ) (d : A) → i < length l → drop i l ≡ get_or l i d ∷ drop (i + 1) l
    next i d h = rw (add-one, drop-cons l i d)

    -- the test at an element says on which side of it the place is
    column_side : (i : ℕ) (d : A) → i < length l → ltb i first ≡ lt (get_or l i d) k
    column_side i d c = place_side (λ x y. not (lt y x)) lt (λ x. x) never_falls k i (get_or l i d) _ s (next i d c)

    -- where the library's search by halving ends, by a test that says whether an element comes before k
    module _ (below : A → Bool) (b : (x : A) → below x ≡ lt x k) where
      pub column_parted : IsPartitionedBy below l
      column_parted i j d le h t =
          let f = ltb-true j first (column_side j d h ∙ sym (b (get_or l j d)) ∙ t) in
          b (get_or l i d) ∙ sym (column_side i d (omega arith)) ∙ lt-ltb i first (omega arith)

      pub column_parts : (d : A) (i : ℕ) → IsPartitionPoint (λ y. below y ≡ true) (λ y. below y ≡ false) l i → i ≤ length l → i ≡ first
      column_parts d i w m = go (ltb i first) refl (ltb first i) refl
        where
          go : (x : Bool) → ltb i first ≡ x → (y : Bool) → ltb first i ≡ y → i ≡ first
          go true e y f =
              let a = ltb-true i first e in
              let z = place_le (λ x. lt x k) l in
              absurd (true≢false (sym e ∙ column_side i d (omega arith) ∙ sym (b (get_or l i d)) ∙ w.1 i d (omega arith) (omega arith)))
          go false e true f =
              let a = ltb-true first i f in
              absurd (true≢false (sym (w.0 first d (omega arith) a) ∙ b (get_or l first d) ∙ sym (column_side first d (omega arith)) ∙ le-ltb first first (omega arith)))
          go false e false f = let a = ltb-false i first e in let c = ltb-false first i f in omega arith

    -- at the place stands k, or it stands nowhere
    module _ (is : A → Bool) (to : (x : A) → is x ≡ true → x ≡ k) (from : (x : A) → x ≡ k → is x ≡ true) where
      other : (x : A) (m : List A) → (x ≡ k → ⊥) → any_of is (x ∷ m) ≡ any_of is m
      other x m f = cases (is x) (λ h. absurd (f (to x h))) (λ h. rw h)

      module _ (i : ℕ) (e : i ≡ first) where
        begins : any_of is l ≡ any_of is (drop i l)
        begins = from_place (λ x y. not (lt y x)) lt (λ x. x) never_falls k (any_of is) other l ∙ ap (λ j. any_of is (drop j l)) (sym e)

        column_past : length l ≤ i → false ≡ any_of is l
        column_past c = sym (begins ∙ ap (any_of is) (drop_of_length-le l {i = i} c))

        column_here : (d : A) → i < length l → is (get_or l i d) ≡ any_of is l
        column_here d c =
            let n = next i d c in
            cases (is (get_or l i d))
            (λ h. sym (begins ∙ ap (any_of is) n ∙ rw h) ∙ refl)
            (λ h. h ∙ sym (begins ∙ at_other (λ x y. not (lt y x)) lt (λ x. x) never_falls k (any_of is) other i (get_or l i d) _ s n (omega arith) (λ f. true≢false (sym (from (get_or l i d) f) ∙ h))))

      -- what the code asks of the element at the place, where there is one
      pub column_asked : (i : ℕ) → i ≡ first → (g : Option (Bor A)) (r : Bool) → (is_some g ≡ ltb i (length l)) × IfSome g (λ x. x.now ≡ get_or l i x.now) → MatchOption g (r ≡ false) (λ x. r ≡ is x.now) → r ≡ any_of is l
      column_asked i e None r h m = m ∙ column_past i e (ltb-false i (length l) (sym h.0))
      column_asked i e (Some x) r h m = m ∙ ap is h.1 ∙ column_here i e x.now (ltb-true i (length l) (sym h.0))

      -- where none comes after k: the last element is k, or none is
      column_last : (d : A) → ((x : A) → x ∈ l → T (lt k x) → ⊥) → 0 < length l → is (get_or l (length l - 1) d) ≡ any_of is l
      column_last d none h =
          cases (is (get_or l (length l - 1) d)) (λ e. e ∙ sym (any_there is l _ here e))
          (λ e. e ∙ column_past (length l) (less (λ f. true≢false (sym (from (get_or l (length l - 1) d) f) ∙ e)) (test (lt (get_or l (length l - 1) d) k))) (omega arith))
        where
          here : get_or l (length l - 1) d ∈ l
          here = in_rest (get_or l (length l - 1) d) (length l - 1) l (next (length l - 1) d (omega arith))

          less : (get_or l (length l - 1) d ≡ k → ⊥) → Test (lt (get_or l (length l - 1) d) k) → length l ≡ first
          less f (holds t) =
              let m = place_le (λ x. lt x k) l in
              let w = ltb-true (length l - 1) first (column_side (length l - 1) d (omega arith) ∙ is_true (lt (get_or l (length l - 1) d) k) t) in
              omega arith
          less f (fails u) = absurd (f (o.conn (get_or l (length l - 1) d) k (not_T (lt (get_or l (length l - 1) d) k) u) (not_T (lt k (get_or l (length l - 1) d)) (none (get_or l (length l - 1) d) here))))

      -- what the code asks of the last element, where there is one
      pub column_last_asked : ((x : A) → x ∈ l → T (lt k x) → ⊥) → (g : Option (Bor A)) (r : Bool) → (is_some g ≡ ltb 0 (length l)) × IfSome g (λ x. x.now ≡ get_or l (length l - 1) x.now) → MatchOption g (r ≡ false) (λ x. r ≡ is x.now)
          → r ≡ any_of is l
      column_last_asked none None r h m = m ∙ none_there is l (ltb-false 0 (length l) (sym h.0))
      column_last_asked none (Some x) r h m = m ∙ ap is h.1 ∙ column_last x.now none (ltb-true 0 (length l) (sym h.0))

-- ---- a column of pairs
pub pairs_order : StrictOrder before_pair
pairs_order = pair_order ltb ltb nat_order nat_order

pub pair_to : (o x : ℕ × ℕ) → (eqb x.0 o.0 && eqb x.1 o.1) ≡ true → x ≡ o
pair_to o x e =
    let w = both (eqb x.0 o.0) (eqb x.1 o.1) (rw e tt) in
    let a = eqb→eq x.0 o.0 w.0 in
    let b = eqb→eq x.1 o.1 w.1 in
    λ i. (a i, b i)

pub pair_from : (o x : ℕ × ℕ) → x ≡ o → (eqb x.0 o.0 && eqb x.1 o.1) ≡ true
pair_from o x e = rw (eq-eqb x.0 o.0 (ap (λ (y : ℕ × ℕ). y.0) e), eq-eqb x.1 o.1 (ap (λ (y : ℕ × ℕ). y.1) e))

-- a fact of what an option holds, said otherwise
pub match_said : {X : Type 0} {P Q : X → Type 0} (N : Type 0) (g : Option X) → ((x : X) → P x → Q x) → MatchOption g N P → MatchOption g N Q
match_said N None f m = m
match_said N (Some x) f m = f x m
