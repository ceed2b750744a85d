-- What is asked of two tables, or of a row and a table, before the rows of one are put among those of the other. Assumes nothing.
use mathlib.Core.Path.{◌≡◌, refl, sym, ap, ap₂, subst, ◌∙◌}
use mathlib.Core.Bool.{Bool}
use mathlib.Core.Option.{some, some-injective}
use mathlib.Core.List.Memᴰ
use mathlib.Core.List.{List, [], ◌∷◌, map}
use Prim.Native.Nat.{ℕ, ◌+◌, ◌≤◌, ◌<◌}
use native.Mathlib.Omega.{arith}
use lib.Dec.{T, ltb}
use lib.ListN.{length, take, length-map}
use lib.Seq.{take_at}
use Rattle.laws.specs.Slots.{All}
use Rattle.laws.specs.Sorted.{◌∈◌, StrictOrder, Sorted, nil, cons, Disjoint}
use Rattle.laws.proofs.Sorted.{move_back}
use Rattle.laws.proofs.Fill.{seen, is_fits, is_same}
use Rattle.path.specs.Address.{Address, valid, before, up, on}
use Rattle.path.specs.View.{path_of, key_of}
use Rattle.path.proofs.Laws.{up_order, on_order}
use Rattle.model.specs.Things.{Row}
use Rattle.model.specs.Moves.{carry}
use Rattle.moves.specs.Moved.{raised, below}
use Rattle.moves.specs.Room.{Shallow}
use Rattle.moves.proofs.Keys.{apart, keys_compare}
use Rattle.moves.proofs.Merged.{carried_sorted, carried_path, row_lt}
use Rattle.tables.specs.declared.Table.{Table}
use Rattle.tables.specs.View.{AtPath, Fits}
use Rattle.rows.specs.Tables as tables
use Rattle.rows.specs.Tables.{RowSound, table_of, TableSound, RowLaws, Merging}

pub all_in : {A : Type 0} (Q : A → Type 0) (x : A) (l : List A) → All Q l → x ∈ l → Q x
all_in Q x [] h m = absurd (Memᴰ.not-nil m)
all_in Q x (y ∷ l) h (Memᴰ.head e) = subst Q (sym e) h.0
all_in Q x (y ∷ l) h (Memᴰ.tail m) = all_in Q x l h.1 m

module _ {S P : Type 0} (n : ℕ) (b : S) {of : Row P → S} {view : S → Row P} {lt : P → P → Bool} {apart : Row P → Row P → Type 0} (laws : RowLaws of view lt apart) where
  pub table_seen : (l : List (Row P)) → tables.seen view (table_of n b of l) ≡ l
  table_seen l = seen of view laws.back n b l

  pub seen_fits : (t : Table S n) → TableSound n b of lt t → Fits (tables.row_lt lt) n (tables.seen view t)
  seen_fits = is_fits (table_of n b of) (tables.seen view) table_seen (Fits (tables.row_lt lt) n)

  pub stands : {t : Table S n} (l : List (Row P)) → t ≡ table_of n b of l → tables.seen view t ≡ l
  stands l e = ap (tables.seen view) e ∙ table_seen l

  -- two tables, by the lists that they stand for
  module _ {c t : Table S n} (k l : List (Row P)) (ec : c ≡ table_of n b of k) (et : t ≡ table_of n b of l) (pre : S → S → Type 0) (post : S → S → Bool → Type 0) (room : length k + length l ≤ n)
      (sk : Sorted (tables.row_lt lt) k) (sl : Sorted (tables.row_lt lt) l) (d : Disjoint k l)
      (callable : (x y : Row P) → x ∈ k → y ∈ l → pre (of x) (of y)) (compares : (x y : Row P) (r : Bool) → x ∈ k → y ∈ l → post (of x) (of y) r → r ≡ tables.row_lt lt x y) where
    pub two_tables : Merging n b of view lt pre post (take c.count c.rows) t
    two_tables =
        let front : take c.count c.rows ≡ map of k = ap (λ (x : Table S n). take x.count x.rows) ec ∙ take_at (map of k) _ (length k) (length-map k of) in
        let e = ap length front ∙ length-map k of in
        let f = ap (λ (x : Table S n). x.count) et in
        let seen_c = stands k ec in
        let seen_t = stands l et in
        record {
          new = front ∙ ap (map of) (sym seen_c);
          table = et ∙ ap (table_of n b of) (sym seen_t);
          room = omega arith;
          ascend_new = subst (Sorted (tables.row_lt lt)) (sym seen_c) sk;
          ascend = subst (Sorted (tables.row_lt lt)) (sym seen_t) sl;
          disjoint = λ z h g. d z (subst (λ r. z ∈ r) seen_c h) (subst (λ r. z ∈ r) seen_t g);
          callable = λ x y h g. callable x y (subst (λ r. x ∈ r) seen_c h) (subst (λ r. y ∈ r) seen_t g);
          compares = λ x y r h g. compares x y r (subst (λ q. x ∈ q) seen_c h) (subst (λ q. y ∈ q) seen_t g);
        }

  -- a row apart from those of a table
  module _ {a : S} {t : Table S n} (sa : RowSound of a) (st : TableSound n b of lt t) (free : t.count < n) (far : (r : Row P) → r ∈ tables.seen view t → apart (view a) r) (pre : S → S → Type 0) (post : S → S → Bool → Type 0)
      (callable : (x y : S) → RowSound of x → RowSound of y → apart (view x) (view y) → pre x y)
      (compares : (x y : S) (r : Bool) → post x y r → r ≡ tables.row_lt lt (view x) (view y)) where
    pub one_row : Merging n b of view lt pre post (a ∷ []) t
    one_row =
        let f = seen_fits t st in
        let same = is_same (table_of n b of) (tables.seen view) table_seen (Fits (tables.row_lt lt) n) t st in
        record {
          new = ap (λ z. z ∷ []) (is_same of view laws.back AtPath a sa);
          table = same;
          room = omega arith;
          ascend_new = cons (λ y m. absurd (Memᴰ.not-nil m)) nil;
          ascend = f.ascend;
          disjoint = λ z h g. laws.itself (view a) (far (view a) (subst (λ r. r ∈ tables.seen view t) (Memᴰ.eq_of_singleton h) g));
          callable = λ x y h g.
              callable (of x) (of y) (record { model = x; same = refl; fits = subst AtPath (sym (Memᴰ.eq_of_singleton h)) (is_fits of view laws.back AtPath a sa) })
              (record { model = y; same = refl; fits = all_in AtPath y (tables.seen view t) f.each g })
              (subst (λ z. apart z (view (of y))) (sym (laws.back x ∙ Memᴰ.eq_of_singleton h)) (subst (apart (view a)) (sym (laws.back y)) (far y g)));
          compares = λ x y r h g p. compares (of x) (of y) r p ∙ ap₂ (tables.row_lt lt) (laws.back x) (laws.back y);
        }

-- ---- a branch k put in at q among the rows l
module _ {P : Type 0} (n : ℕ) {lt : P → P → Bool} (order : StrictOrder lt) (q : Address) (k l : List (Row P)) (fk : Fits (tables.row_lt lt) n k) (fl : Fits (tables.row_lt lt) n l) where
  pub branch_sorted : Sorted (tables.row_lt lt) (below q k)
  branch_sorted = carried_sorted lt order (λ p. some (on q p)) (on_order q) fk.ascend

  pub rest_sorted : Sorted (tables.row_lt lt) (raised q l)
  rest_sorted = carried_sorted lt order (λ p. some (up q p)) (up_order q) fl.ascend

  module _ (vq : T (valid q)) (deep : 0 < length q) (short : Shallow q k) where
    pub branch_apart : Disjoint (below q k) (raised q l)
    branch_apart z f g = let x = carried_path (on q) z k f in let y = carried_path (up q) z l g in apart q x.0 y.0 deep (sym x.1 ∙ y.1)

    pub branch_compares : (x y : Row P) → x ∈ below q k → y ∈ raised q l → ltb (key_of (path_of x.0)) (key_of (path_of y.0)) ≡ tables.row_lt lt x y
    branch_compares x y f g =
        let w = move_back (carry (λ p. some (on q p))) x k f in
        let u = move_back (carry (λ p. some (up q p))) y l g in
        let i : on q w.0.0 ≡ x.0 = ap (λ (r : Row P). r.0) (some-injective _ _ w.2) in
        let j : up q u.0.0 ≡ y.0 = ap (λ (r : Row P). r.0) (some-injective _ _ u.2) in
        ap₂ (λ p r. ltb (key_of (path_of p)) (key_of (path_of r))) (sym i) (sym j)
        ∙ keys_compare q w.0.0 u.0.0 vq (all_in AtPath w.0 k fk.each w.1) (all_in AtPath u.0 l fl.each u.1) (short w.0 w.1)
        ∙ ap₂ before i j ∙ sym (row_lt lt order x y (λ e. apart q w.0.0 u.0.0 deep (i ∙ e ∙ sym j)))
