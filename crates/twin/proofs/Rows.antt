-- The table of a tree, for any payload and any kind of row: which rows it has, and what add, delete, copy and paste do to it. Assumes nothing.
use mathlib.Core.Path.{◌≡◌, refl, sym, ap, ap₂, subst, subst₂, ◌∙◌}
use mathlib.Core.Logic.{◌⊎◌, inl, inr, ⊎_elim}
use mathlib.Core.Bool.{Bool}
use mathlib.Core.Option
use mathlib.Core.Option.{Option, none, some, some-injective, none-ne-some}
use mathlib.Core.List.Memᴰ
use mathlib.Core.List.{List, [], ◌∷◌, map, nil≢cons, head-eq_of_cons-eq, tail-eq_of_cons-eq}
use Prim.Native.Nat.{ℕ, zero, suc, ◌+◌}
use native.Mathlib.Omega.{arith}
use lib.Dec.{T}
use Rattle.laws.specs.Sorted.{◌∈◌, StrictOrder, Sorted, merge, Monotone}
use Rattle.laws.proofs.Sorted.{same, merge_sorted, merge_old, merge_new, merge_back, sort_sorted, sort_back, move_in, move_back, move_sorted}
use Rattle.laws.proofs.Order.{lex2_cases, lex2_left, lex2_right}
use Rattle.path.specs.Address.{Address, before, up, down, off, on}
use Rattle.path.proofs.Moves.{step_up, step_down, map_some, up_at, down_at}
use Rattle.path.proofs.Laws.{address_order, up_order, down_order, on_off, off_on, off_order, down_onto, up_or_new}
use Rattle.model.specs.Things.{Row}
use Rattle.model.specs.Moves.{carry, carried}
use Rattle.roundtrip.proofs.Orders.{lt_row, row_order}
use Rattle.twin.specs.Tree.{Tree, node, Forest, fnil, fcons, then, payload, kids, child, kid, branch, look, put, drop, paste_at, delete_at, here, below, rows, rows_f, table}
use Rattle.twin.proofs.Trees.{Last, put_law, drop_law, edit_old, Place, place_last, paste_new, look_in}

-- ---- the rows in the order of the walk: at each position, the items of what is there
module _ {P X : Type 0} (items : P → List X) where
  forest_in : (f : Forest P) (i j : ℕ) (t : Tree P) (q : Address) (x : X) → child j f ≡ some t → (q, x) ∈ rows items t → ((i + j) ∷ q, x) ∈ rows_f items f i
  forest_in fnil i j t q x e h = absurd (none-ne-some t e)
  forest_in (fcons s f) i zero t q x e h =
      Memᴰ.append_left (rows_f items f (suc i)) (Memᴰ.cast (ap {B = Row X} (λ (n : ℕ). (n ∷ q, x)) (omega arith))
      (Memᴰ.map (λ r. below i r) (subst (λ (u : Tree P). (q, x) ∈ rows items u) (sym (some-injective s t e)) h)))
  forest_in (fcons s f) i (suc j) t q x e h =
      Memᴰ.append_right (map (λ r. below i r) (rows items s)) (Memᴰ.cast (ap {B = Row X} (λ (n : ℕ). (n ∷ q, x)) (omega arith)) (forest_in f (suc i) j t q x e h))

  -- where a row of the children from the i-th on comes from
  abbrev pub From : Forest P → ℕ → Address → X → Type 0
  From f i p x = (j : ℕ) × (t : Tree P) × (q : Address) × (child j f ≡ some t) × (p ≡ (i + j) ∷ q) × ((q, x) ∈ rows items t)

  pub forest_back : (f : Forest P) (i : ℕ) (p : Address) (x : X) → (p, x) ∈ rows_f items f i → From f i p x
  forest_back fnil i p x h = absurd (Memᴰ.not-nil h)
  forest_back (fcons s f) i p x h = go (Memᴰ.append_cases (map (λ r. below i r) (rows items s)) h) (λ k. forest_back f (suc i) p x k)
    where
      go : ((p, x) ∈ map (λ r. below i r) (rows items s)) ⊎ ((p, x) ∈ rows_f items f (suc i)) → ((p, x) ∈ rows_f items f (suc i) → From f (suc i) p x) → From (fcons s f) i p x
      go (inl m) ih =
          let w = Memᴰ.of_map (λ (r : Row X). below i r) (rows items s) m in
          let d : below i w.0 ≡ (p, x) = w.2 in (
            0,
            s,
            w.0.0,
            refl,
            sym (ap (λ (r : Row X). r.0) d) ∙ ap (λ (n : ℕ). n ∷ w.0.0) (omega arith),
            Memᴰ.cast (ap₂ {C = Row X} (λ (a : Address) (b : X). (a, b)) refl (sym (ap (λ (r : Row X). r.1) d))) w.1,
          )
      go (inr m) ih = let w = ih m in (suc w.0, w.1, w.2, w.3, w.4 ∙ ap (λ (n : ℕ). n ∷ w.2) (omega arith), w.5)

  -- the tree has the item x at the position q
  abbrev pub Held : Tree P → Address → X → Type 0
  Held t q x = (p : P) × (look q t ≡ some p) × (x ∈ items p)

  kid_rows : (i : ℕ) (t s : Tree P) (q : Address) (x : X) → kid i (kids t) ≡ some s → (q, x) ∈ rows items s → (i ∷ q, x) ∈ rows items t
  kid_rows zero t s q x e h = absurd (none-ne-some s e)
  kid_rows (suc i) (node p f) s q x e h =
      Memᴰ.append_right (map (λ y. here y) (items p)) (Memᴰ.cast (ap {B = Row X} (λ (n : ℕ). (n ∷ q, x)) (omega arith)) (forest_in f 1 i s q x e h))

  kid_rows_back : (i : ℕ) (t : Tree P) (q : Address) (x : X) → (i ∷ q, x) ∈ rows items t → (s : Tree P) × (kid i (kids t) ≡ some s) × ((q, x) ∈ rows items s)
  kid_rows_back i (node p f) q x h = go (Memᴰ.append_cases (map (λ y. here y) (items p)) h)
    where
      go : ((i ∷ q, x) ∈ map (λ y. here y) (items p)) ⊎ ((i ∷ q, x) ∈ rows_f items f 1) → (s : Tree P) × (kid i f ≡ some s) × ((q, x) ∈ rows items s)
      go (inl m) = let w = Memᴰ.of_map (λ (y : X). here y) (items p) m in absurd (nil≢cons (ap (λ (r : Row X). r.0) w.2))
      go (inr m) =
          let w = forest_back f 1 (i ∷ q) x m in
          let e : i ≡ suc w.0 = head-eq_of_cons-eq w.4 ∙ omega arith in
          (w.1, ap (λ (n : ℕ). kid n f) e ∙ w.3, Memᴰ.cast (ap {B = Row X} (λ (a : Address). (a, x)) (tail-eq_of_cons-eq w.4)) w.5)

  rows_in : (q : Address) (x : X) (t : Tree P) → Held t q x → (q, x) ∈ rows items t
  rows_in [] x (node p f) h =
      Memᴰ.append_left (rows_f items f 1) (Memᴰ.map (λ y. here y) (subst (λ (u : P). x ∈ items u) (sym (some-injective p h.0 h.1)) h.2))
  rows_in (i ∷ q) x t h = go (kid i (kids t)) refl h.1 (λ s k. rows_in q x s (h.0, k, h.2))
    where
      go : (o : Option (Tree P)) → kid i (kids t) ≡ o → then o (λ s. look q s) ≡ some h.0 → ((s : Tree P) → look q s ≡ some h.0 → (q, x) ∈ rows items s)
          → (i ∷ q, x) ∈ rows items t
      go none e d ih = absurd (none-ne-some h.0 d)
      go (some s) e d ih = kid_rows i t s q x e (ih s d)

  root_back : (x : X) (t : Tree P) → ([], x) ∈ rows items t → x ∈ items (payload t)
  root_back x (node p f) h = go (Memᴰ.append_cases (map (λ y. here y) (items p)) h)
    where
      go : (([], x) ∈ map (λ y. here y) (items p)) ⊎ (([], x) ∈ rows_f items f 1) → x ∈ items p
      go (inl m) = let w = Memᴰ.of_map (λ (y : X). here y) (items p) m in Memᴰ.cast (sym (ap (λ (r : Row X). r.1) w.2)) w.1
      go (inr m) = let w = forest_back f 1 [] x m in absurd (nil≢cons w.4)

  rows_back : (q : Address) (x : X) (t : Tree P) → (q, x) ∈ rows items t → Held t q x
  rows_back [] x t h = (payload t, refl, root_back x t h)
  rows_back (i ∷ q) x t h =
      let w = kid_rows_back i t q x h in
      let v = rows_back q x w.0 w.2 in
      (v.0, ap (λ (o : Option (Tree P)). then o (λ s. look q s)) w.1 ∙ v.1, v.2)

-- ---- the table: the rows in order
carry_mono : {X : Type 0} (lt_x : X → X → Bool) (f : Address → Option Address) → Monotone before before f → Monotone (lt_row lt_x) (lt_row lt_x) (carry f)
unfolding Monotone
carry_mono {X} lt_x f m a a' b b' e e' t =
    let w = map_some (λ (p : Address). (p, a.1)) (f a.0) b e in
    let w' = map_some (λ (p : Address). (p, a'.1)) (f a'.0) b' e' in
    subst₂ (λ (u v : Row X). T (lt_row lt_x u v)) w.2 w'.2
    (go w.0 w'.0 w.1 w'.1 (lex2_cases before address_order a.0 a'.0 (lt_x a.1 a'.1) t))
  where
    go : (p p' : Address) → f a.0 ≡ some p → f a'.0 ≡ some p' → T (before a.0 a'.0) ⊎ ((a.0 ≡ a'.0) × T (lt_x a.1 a'.1))
        → T (lt_row lt_x (p, a.1) (p', a'.1))
    go p p' d d' (inl h) = lex2_left before address_order p p' (lt_x a.1 a'.1) (m a.0 a'.0 p p' d d' h)
    go p p' d d' (inr h) = lex2_right before address_order p p' (lt_x a.1 a'.1) (some-injective p p' (sym d ∙ ap f h.0 ∙ d')) h.1

module _ {X : Type 0} (f : Address → Option Address) where
  carried_in : (p r : Address) (x : X) (l : List (Row X)) → f p ≡ some r → (p, x) ∈ l → (r, x) ∈ carried f l
  carried_in p r x l e h = move_in (carry f) h (ap (Option.map (λ (a : Address). (a, x))) e)

  -- where a row of a moved table comes from
  carried_back : (q : Address) (x : X) (l : List (Row X)) → (q, x) ∈ carried f l → (p : Address) × (f p ≡ some q) × ((p, x) ∈ l)
  carried_back q x l h =
      let w = move_back (carry f) (q, x) l h in
      let v = map_some (λ (p : Address). (p, w.0.1)) (f w.0.0) (q, x) w.2 in (
        w.0.0,
        v.1 ∙ ap some (ap (λ (r : Row X). r.0) v.2),
        Memᴰ.cast (ap₂ {C = Row X} (λ (a : Address) (b : X). (a, b)) refl (sym (ap (λ (r : Row X). r.1) v.2))) w.1,
      )

module _ {P X : Type 0} (items : P → List X) (lt_x : X → X → Bool) (oX : StrictOrder lt_x) where
  pub table_sorted : (t : Tree P) → Sorted (lt_row lt_x) (table items (lt_row lt_x) t)
  unfolding table
  table_sorted t = sort_sorted (lt_row lt_x) (row_order lt_x oX) (rows items t)

  pub table_in : (q : Address) (x : X) (t : Tree P) → Held items t q x → (q, x) ∈ table items (lt_row lt_x) t
  unfolding table
  table_in q x t h = merge_new (lt_row lt_x) (row_order lt_x oX) (rows items t) (q, x) [] (rows_in items q x t h)

  pub table_back : (q : Address) (x : X) (t : Tree P) → (q, x) ∈ table items (lt_row lt_x) t → Held items t q x
  unfolding table
  table_back q x t h = rows_back items q x t (sort_back (lt_row lt_x) (row_order lt_x oX) (rows items t) (q, x) h)

  -- a sorted list with the tree's rows is its table
  pub table_is : (t : Tree P) {l : List (Row X)} → Sorted (lt_row lt_x) l → ((q : Address) (x : X) → Held items t q x → (q, x) ∈ l) → ((q : Address) (x : X) → (q, x) ∈ l → Held items t q x)
      → table items (lt_row lt_x) t ≡ l
  table_is t s a b =
      same (lt_row lt_x) (row_order lt_x oX) (table_sorted t) s
      (λ r h. a r.0 r.1 (table_back r.0 r.1 t h), λ r h. table_in r.0 r.1 t (b r.0 r.1 h))

  -- ---- a table carried by f, where f takes each position of t to where u has the same
  carried_sorted : (f : Address → Option Address) → Monotone before before f → (t : Tree P) → Sorted (lt_row lt_x) (carried f (table items (lt_row lt_x) t))
  carried_sorted f m t = move_sorted (lt_row lt_x) (lt_row lt_x) (carry f) (carry_mono lt_x f m) (table_sorted t)

  held_carried : (f : Address → Option Address) (t u : Tree P) (p r : Address) (x : X) → f p ≡ some r → look r u ≡ look p t → Held items u r x → (r, x) ∈ carried f (table items (lt_row lt_x) t)
  held_carried f t u p r x e d h = carried_in f p r x (table items (lt_row lt_x) t) e (table_in p x t (h.0, sym d ∙ h.1, h.2))

  carried_held : (f : Address → Option Address) (t u : Tree P) → ((p r : Address) → f p ≡ some r → look r u ≡ look p t)
      → (r : Address) (x : X) → (r, x) ∈ carried f (table items (lt_row lt_x) t) → Held items u r x
  carried_held f t u law r x m =
      let w = carried_back f r x (table items (lt_row lt_x) t) m in
      let h = table_back w.0 x t w.2 in (h.0, law w.0 r w.1 ∙ h.1, h.2)

  -- and reaches each position of u
  carried_table : (f : Address → Option Address) → Monotone before before f → (t u : Tree P) → ((p r : Address) → f p ≡ some r → look r u ≡ look p t)
      → ((r : Address) → (p : Address) × (f p ≡ some r)) → table items (lt_row lt_x) u ≡ carried f (table items (lt_row lt_x) t)
  carried_table f m t u law onto =
      table_is u (carried_sorted f m t) (λ r x h. let w = onto r in held_carried f t u w.0 r x w.1 (law w.0 r w.1) h) (carried_held f t u law)

  pub delete_table : (k : ℕ) (q : Address) (t : Tree P) → Last k q → table items (lt_row lt_x) (delete_at k q t) ≡ carried (down (k ∷ q)) (table items (lt_row lt_x) t)
  delete_table k q t l = carried_table (down (k ∷ q)) (down_order (k ∷ q)) t (delete_at k q t) (λ p r e. edit_old step_down drop drop_law k q p r t l (down_at k q p ∙ e))
      (λ r. let w = down_onto k q r in (w.0, w.2))

  pub copy_table : (q : Address) (t s : Tree P) → branch q t ≡ some s → table items (lt_row lt_x) s ≡ carried (off q) (table items (lt_row lt_x) t)
  copy_table q t s e = carried_table (off q) (off_order q) t s
      (λ p r d. sym (look_in q r t s e) ∙ ap (λ (a : Address). look a t) (on_off q p r d)) (λ r. (on q r, off_on q r))

  pub paste_table : (s : Tree P) (k : ℕ) (q : Address) (t : Tree P) → Place k q t
      → table items (lt_row lt_x) (paste_at s k q t)
      ≡ merge (lt_row lt_x) (carried (λ p. some (on (k ∷ q) p)) (table items (lt_row lt_x) s)) (carried (λ p. some (up (k ∷ q) p)) (table items (lt_row lt_x) t))
  paste_table s k q t pl =
      table_is u (merge_sorted (lt_row lt_x) o new (carried_sorted (λ p. some (up (k ∷ q) p)) (up_order (k ∷ q)) t))
      (λ r x h. there r x (up_or_new k q r) h)
      (λ r x h. ⊎_elim (carried_held (λ p. some (on (k ∷ q) p)) s u new_law r x) (carried_held (λ p. some (up (k ∷ q) p)) t u old_law r x) (merge_back (lt_row lt_x) o new (r, x) old h))
    where
      o : StrictOrder (lt_row lt_x)
      o = row_order lt_x oX

      u : Tree P
      u = paste_at s k q t

      new : List (Row X)
      new = carried (λ p. some (on (k ∷ q) p)) (table items (lt_row lt_x) s)

      old : List (Row X)
      old = carried (λ p. some (up (k ∷ q) p)) (table items (lt_row lt_x) t)

      old_law : (p r : Address) → some (up (k ∷ q) p) ≡ some r → look r u ≡ look p t
      old_law p r e = edit_old step_up (put s) (put_law s) k q p r t (place_last k q t pl) (up_at k q p ∙ e)

      new_law : (p r : Address) → some (on (k ∷ q) p) ≡ some r → look r u ≡ look p s
      new_law p r e = ap (λ (a : Address). look a u) (sym (some-injective (on (k ∷ q) p) r e)) ∙ paste_new s k q p t pl

      there : (r : Address) (x : X) → ((p : Address) × (up (k ∷ q) p ≡ r)) ⊎ ((y : Address) × (r ≡ on (k ∷ q) y)) → Held items u r x → (r, x) ∈ merge (lt_row lt_x) new old
      there r x (inl w) h = let e = ap some w.1 in
          merge_old (lt_row lt_x) o new (r, x) old (held_carried (λ p. some (up (k ∷ q) p)) t u w.0 r x e (old_law w.0 r e) h)
      there r x (inr w) h = let e = ap some (sym w.1) in
          merge_new (lt_row lt_x) o new (r, x) old (held_carried (λ p. some (on (k ∷ q) p)) s u w.0 r x e (new_law w.0 r e) h)
