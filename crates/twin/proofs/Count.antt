-- How many rows a table has: as many as the tree counts. Assumes nothing.
use mathlib.Core.Path.{◌≡◌, refl, sym, ap, ap₂, ◌∙◌}
use mathlib.Core.Logic.{⊎_elim}
use mathlib.Core.Bool.{Bool, true, false, not}
use mathlib.Core.List.Memᴰ
use mathlib.Core.List.{List, [], ◌∷◌, ◌++◌, map, nil≢cons, head-eq_of_cons-eq, tail-eq_of_cons-eq}
use Prim.Native.Nat.{ℕ, suc, ◌+◌}
use native.Mathlib.Omega.{arith}
use lib.Dec.{T}
use lib.ListN.{length, length-append, length-map}
use Rattle.laws.specs.Sorted.{◌∈◌, StrictOrder, insert_by, insert, merge}
use Rattle.laws.proofs.Sorted.{sort_back}
use Rattle.path.specs.Address.{Address}
use Rattle.model.specs.Things.{Row}
use Rattle.roundtrip.proofs.Orders.{lt_row, row_order}
use Rattle.twin.specs.Tree.{Tree, node, Forest, fnil, fcons, payload, here, below, rows, rows_f, weigh, weigh_f, table}
use Rattle.twin.specs.Good.{Each, EachF, Distinct}
use Rattle.twin.proofs.Rows.{forest_back}

-- ---- lists in which nothing occurs twice
module _ {A : Type 0} where
  pub append_once : (l m : List A) → Distinct l → Distinct m → ((x : A) → x ∈ l → x ∈ m → ⊥) → Distinct (l ++ m)
  append_once [] m u v n = v
  append_once (x ∷ l) m u v n =
      (λ h. ⊎_elim (λ k. u.0 k) (λ k. n x (Memᴰ.head refl) k) (Memᴰ.append_cases l h), append_once l m u.1 v (λ y h k. n y (Memᴰ.tail h) k))

  insert_by_length : (b c : Bool) (x y : A) (l r : List A) → (T (not b) → T (not c) → ⊥) → length r ≡ suc (length l) → length (insert_by b c x y l r) ≡ suc (suc (length l))
  insert_by_length true c x y l r n e = refl
  insert_by_length false true x y l r n e = ap suc e
  insert_by_length false false x y l r n e = absurd (n tt tt)

pub map_once : {A B : Type 0} (f : A → B) → ((a b : A) → f a ≡ f b → a ≡ b) → (l : List A) → Distinct l → Distinct (map f l)
map_once f inj [] u = tt
map_once f inj (x ∷ l) u = (λ h. let w = Memᴰ.of_map f l h in u.0 (Memᴰ.cast (sym (inj w.0 x w.2)) w.1), map_once f inj l u.1)

module _ {A : Type 0} (lt : A → A → Bool) (o : StrictOrder lt) where
  insert_length : (x : A) (l : List A) → (x ∈ l → ⊥) → length (insert lt x l) ≡ suc (length l)
  insert_length x [] n = refl
  insert_length x (y ∷ l) n =
      insert_by_length (lt x y) (lt y x) x y l (insert lt x l) (λ s t. n (Memᴰ.head (o.conn x y s t))) (insert_length x l (λ k. n (Memᴰ.tail k)))

  -- in order there are as many
  pub sort_length : (l : List A) → Distinct l → length (merge lt l []) ≡ length l
  sort_length [] u = refl
  sort_length (x ∷ l) u = insert_length x (merge lt l []) (λ h. u.0 (sort_back lt o l x h)) ∙ ap suc (sort_length l u.1)

-- ---- the rows of a tree whose nodes have no item twice
module _ {P X : Type 0} (items : P → List X) where
  mutual
    unfolding weigh

    rows_length : (t : Tree P) → length (rows items t) ≡ weigh items t
    rows_length (node p k) = length-append (map (λ x. here x) (items p)) (rows_f items k 1) ∙ ap₂ (λ (a b : ℕ). a + b) (length-map (items p) (λ x. here x)) (rows_f_length k 1)

    rows_f_length : (k : Forest P) (i : ℕ) → length (rows_f items k i) ≡ weigh_f items k
    rows_f_length fnil i = refl
    rows_f_length (fcons t k) i =
        length-append (map (λ r. below i r) (rows items t)) (rows_f items k (suc i))
        ∙ ap₂ (λ (a b : ℕ). a + b) (length-map (rows items t) (λ r. below i r) ∙ rows_length t) (rows_f_length k (suc i))

  abbrev Once : Tree P → Type 0
  Once s = Distinct (items (payload s))

  mutual
    rows_once : (t : Tree P) → Each Once t → Distinct (rows items t)
    rows_once (node p k) u =
        append_once (map (λ x. here x) (items p)) (rows_f items k 1) (map_once (λ x. here x) (λ a b e. ap (λ (r : Row X). r.1) e) (items p) u.0) (rows_f_once k 1 u.1)
        (λ r h m.
        let w = Memᴰ.of_map (λ (y : X). here y) (items p) h in
        let v = forest_back items k 1 r.0 r.1 m in
        nil≢cons (ap (λ (s : Row X). s.0) w.2 ∙ v.4))

    rows_f_once : (k : Forest P) (i : ℕ) → EachF Once k → Distinct (rows_f items k i)
    rows_f_once fnil i u = tt
    rows_f_once (fcons t k) i u =
        append_once (map (λ r. below i r) (rows items t)) (rows_f items k (suc i))
        (map_once (λ r. below i r) (λ a b e. ap₂ {C = Row X} (λ (q : Address) (x : X). (q, x)) (tail-eq_of_cons-eq (ap (λ (r : Row X). r.0) e)) (ap (λ (r : Row X). r.1) e)) (rows items t) (rows_once t u.0))
        (rows_f_once k (suc i) u.1)
        (λ r h m.
        let w = Memᴰ.of_map (λ (y : Row X). below i y) (rows items t) h in
        let v = forest_back items k (suc i) r.0 r.1 m in
        let d : i ≡ suc i + v.0 = head-eq_of_cons-eq (ap (λ (s : Row X). s.0) w.2 ∙ v.4) in omega arith)

  pub table_weigh : (lt_x : X → X → Bool) → StrictOrder lt_x → (t : Tree P) → Each (λ s. Distinct (items (payload s))) t → length (table items (lt_row lt_x) t) ≡ weigh items t
  unfolding table
  table_weigh lt_x oX t u = sort_length (lt_row lt_x) (row_order lt_x oX) (rows items t) (rows_once t u) ∙ rows_length t
