-- Rows that are put among those of a table, from the end: what the last rows of the two tell of the list to be stored. Assumes nothing.
use mathlib.Core.Path.{◌≡◌, refl, sym, ap, ap₂, subst, subst₂, ◌∙◌}
use mathlib.Core.Bool.{Bool, true, false}
use mathlib.Core.List.{List, [], ◌∷◌, ◌++◌, map}
use Prim.Native.Nat.{ℕ, zero, suc, ◌+◌, ◌-◌, ◌≤◌, ◌<◌}
use native.Mathlib.Omega.{arith}
use lib.ListN.{length, take, set, get_or, length-map}
use lib.Seq.{take-suc, take_all}
use Rattle.std.proofs.lemmas.List.{get_or_default}
use Rattle.laws.specs.Slots.{All}
use Rattle.laws.specs.Sorted.{◌∈◌, StrictOrder, merge, interleave}
use Rattle.laws.proofs.Sorted.{interleave_is_merge}
use Rattle.laws.proofs.Fill.{Held, is_same}
use Rattle.laws.proofs.Inplace.{Falls, falls, fall, fall_each, fall_last, fallen, held_length, held_blank, held_first, map_take}
use Rattle.laws.proofs.Last.{Ends, ends_in, in_take, ends_map, sorted_take, inter_length, ends_only_first, ends_first, ends_second}
use Rattle.model.specs.Things.{Row}
use Rattle.roundtrip.proofs.Orders.{row_order}
use Rattle.tables.specs.declared.Table.{Table}
use Rattle.rows.specs.Tables.{row_lt, seen, table_of, table_with, RowLaws, Merging}

all_held : {A : Type 0} (l : List A) → All (λ x. Unit {0}) l
all_held [] = tt
all_held (x ∷ l) = (tt, all_held l)

again : {A B : Type 0} (f : A → B) (g : B → A) (l : List A) (k : ℕ) (d : A) → k < length l → get_or (map g (map f l)) k d ≡ g (f (get_or l k d))
again f g [] k d h = absurd (omega arith)
again f g (x ∷ l) zero d h = refl
again f g (x ∷ l) (suc k) d h = again f g l k d (omega arith)

last_of : {A : Type 0} (l : List A) (i : ℕ) (d : A) → 0 < i → i ≤ length l → Ends (take i l) (take (i - 1) l) (get_or l (i - 1) d)
last_of l i d p h =
    let e : i ≡ suc (i - 1) = omega arith in
    record { ends = ap (λ j. take j l) e ∙ take-suc l (i - 1) d (omega arith) }

module _ {S P : Type 0} {n : ℕ} {b : S} {of : Row P → S} {view : S → Row P} {lt : P → P → Bool} {apart : Row P → Row P → Type 0} (laws : RowLaws of view lt apart)
    {pre : S → S → Type 0} {post : S → S → Bool → Type 0} {c : List S} {t : Table S n} (m : Merging n b of view lt pre post c t) where
  order : StrictOrder (row_lt lt)
  order = row_order lt laws.order

  -- so many rows of c and of t are still to come
  abbrev pub Merged : List S → ℕ → ℕ → Type 0
  Merged out i j =
      Falls (table_with n) of n t.rows (table_of n b of (merge (row_lt lt) (map view c) (seen view t))) (length c + t.count) out j (i + j)
      (interleave (row_lt lt) (take i (map view c)) (take j (seen view t)))

  size : t.count ≡ length (seen view t)
  size = ap (λ (x : Table S n). x.count) m.table

  held : Held of (λ r. Unit {0}) n b t.rows t.count
  held =
      let room = m.room in
      let e = size in
      record { model = seen view t; rows_are = ap (λ (x : Table S n). x.rows) m.table; count_is = size; room = omega arith; fits = all_held (seen view t) }

  pub rows_full : length t.rows ≡ n
  rows_full = held_length held

  pub begins : Merged t.rows (length c) t.count
  begins =
      let room = m.room in
      let e = size in
      let k = length-map c view in
      let q = interleave_is_merge (row_lt lt) order m.ascend_new m.ascend m.disjoint in
      falls (table_with n) of n t.rows b t.count (length c + t.count)
      (sym q ∙ ap₂ (interleave (row_lt lt)) (sym (take_all (length c) (map view c) (omega arith))) (sym (take_all t.count (seen view t) (omega arith)))) (held_length held)
      (ap length (sym q) ∙ inter_length (row_lt lt) (map view c) (seen view t) ∙ omega arith) (held_blank held (length c + t.count) (omega arith))

  pub ends : {out : List S} {i j : ℕ} → Merged out i j → i ≡ 0 → j ≤ t.count → table_with n out (length c + t.count) ≡ table_of n b of (merge (row_lt lt) (map view c) (seen view t))
  ends {i = i} {j} f e h =
      let k : j ≡ i + j = omega arith in
      fallen f (ap (λ z. map of (interleave (row_lt lt) (take z (map view c)) (take j (seen view t)))) e ∙ held_first held view laws.back j h ∙ ap (λ z. take z t.rows) k) (omega arith)

  module _ {out : List S} {i j : ℕ} (f : Merged out i j) (p : 0 < i) (h : i ≤ length c) (g : j ≤ t.count) {x : S} (e : x ≡ get_or c (i - 1) x) where
    left_same : x ≡ of (view x)
    left_same = e ∙ ap (λ l. get_or l (i - 1) x) m.new ∙ again view of c (i - 1) x (omega arith) ∙ ap (λ z. of (view z)) (sym e)

    left_last : Ends (take i (map view c)) (take (i - 1) (map view c)) (view x)
    left_last =
        let w = ends_map view (last_of c i x p h) in
        record { ends = sym (map_take view i c) ∙ w.ends ∙ ap₂ (λ l z. l ++ (view z ∷ [])) (map_take view (i - 1) c) (sym e) }

    left_in : view x ∈ map view c
    left_in = in_take i (map view c) (ends_in left_last)

    pub only_left : j ≡ 0 → Merged (set out (i - 1 + j) x) (i - 1) j
    only_left z =
        let room = m.room in
        fall f x (i - 1 + j) j (i - 1 + j) (omega arith) refl (omega arith) (omega arith) (omega arith)
        (ends_only_first (row_lt lt) (ap (λ k. take k (seen view t)) z) left_last) left_same

    module _ (q : 0 < j) (d : S) where
      abbrev y : S
      y = get_or out (j - 1) d

      right_last : Ends (take j (seen view t)) (take (j - 1) (seen view t)) (view y)
      right_last = fall_last f held d q g view

      right_same : y ≡ of (view y)
      right_same = is_same of view laws.back (λ r. Unit {0}) y (fall_each f held d q g)

      right_in : view y ∈ seen view t
      right_in = in_take j (seen view t) (ends_in right_last)

      pub may_ask : pre x y
      may_ask = subst₂ pre (sym left_same) (sym right_same) (m.callable (view x) (view y) left_in right_in)

      says : {r : Bool} → post x y r → row_lt lt (view x) (view y) ≡ r
      says {r} a = sym (m.compares (view x) (view y) r left_in right_in (subst₂ (λ u v. post u v r) left_same right_same a))

      pub right : post x y true → (d' : S) → Merged (set out (i + (j - 1)) (get_or out (j - 1) d')) i (j - 1)
      right a d' =
          let room = m.room in
          let full = f.full in
          fall f (get_or out (j - 1) d') (i + (j - 1)) (j - 1) (i + (j - 1)) (omega arith) refl (omega arith) (omega arith) (omega arith)
          (ends_second (row_lt lt) order left_last right_last (sorted_take (row_lt lt) i m.ascend_new) (says a)) (get_or_default out (j - 1) d' d (omega arith) ∙ right_same)

      pub left : post x y false → Merged (set out (i - 1 + j) x) (i - 1) j
      left a =
          let room = m.room in
          fall f x (i - 1 + j) j (i - 1 + j) (omega arith) refl (omega arith) (omega arith) (omega arith)
          (ends_first (row_lt lt) order left_last right_last (sorted_take (row_lt lt) j m.ascend) (λ z. m.disjoint (view x) left_in (subst (λ w. w ∈ seen view t) (sym z) right_in)) (says a)) left_same
