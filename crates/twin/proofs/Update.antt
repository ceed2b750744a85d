-- What one node carries, changed: what that does to the table of each kind; and what the table says of one node. Assumes nothing.
use mathlib.Core.Path.{◌≡◌, refl, sym, ap, subst, subst₂, ◌∙◌}
use mathlib.Core.Logic.{◌⊎◌, inl, inr, ⊎_elim, ◌≢◌}
use mathlib.Core.Bool.{Bool, true, false}
use mathlib.Core.Option
use mathlib.Core.Option.{Option, none, some, some-injective, none-ne-some}
use mathlib.Core.List.Memᴰ
use mathlib.Core.List.{List, [], ◌∷◌, map}
use lib.Dec.{T}
use Rattle.laws.specs.Sorted.{◌∈◌, StrictOrder, Sorted, nil, insert, merge, move, Monotone}
use Rattle.laws.proofs.Sorted.{same as same-list, merge_sorted, merge_old, merge_new, merge_back, sort_sorted, sort_back, move_in, move_back, move_sorted}
use Rattle.path.specs.Address.{Address, same, before}
use Rattle.path.proofs.Moves.{Test, holds, fails, test, pick_yes}
use Rattle.path.proofs.Laws.{address_order, same_eq, same_refl}
use Rattle.model.specs.Things.{Row}
use Rattle.model.specs.Moves.{keep, at}
use Rattle.roundtrip.proofs.Checks.{let_in}
use Rattle.roundtrip.proofs.Orders.{lt_row, row_order}
use Rattle.roundtrip.proofs.Prefix.{move_id}
use Rattle.roundtrip.proofs.Found.{second_mono, at_in, at_back}
use Rattle.twin.specs.Tree.{Tree, look, set_at, table}
use Rattle.twin.proofs.Trees.{set_same, set_other, set_none}
use Rattle.twin.proofs.Rows.{Held, table_sorted, table_in, table_back, table_is}

-- ---- rows for which a test holds
module _ {A : Type 0} where
  pub keep_in : (good : A → Bool) (x : A) (l : List A) → x ∈ l → T (good x) → x ∈ move (keep good) l
  keep_in good x l h t = move_in (keep good) h (pick_yes (good x) (some x) none t)

  pub keep_back : (good : A → Bool) (x : A) (l : List A) → x ∈ move (keep good) l → (x ∈ l) × T (good x)
  keep_back good x l h =
      let w = move_back (keep good) x l h in
      let v = let_in (good w.0) w.0 x w.2 in
      (Memᴰ.cast (sym v.1) w.1, subst (λ (y : A). T (good y)) v.1 v.0)

  keep_mono : (lt : A → A → Bool) (good : A → Bool) → Monotone lt lt (keep good)
  unfolding Monotone
  keep_mono lt good a a' b b' e e' t =
      subst₂ (λ (u v : A). T (lt u v)) (let_in (good a) a b e).1 (let_in (good a') a' b' e').1 t

  keep_sorted : (lt : A → A → Bool) (good : A → Bool) {l : List A} → Sorted lt l → Sorted lt (move (keep good) l)
  keep_sorted lt good s = move_sorted lt lt (keep good) (keep_mono lt good) s

  keep_all : (l : List A) → move (keep (λ x. true)) l ≡ l
  keep_all l = move_id (keep (λ x. true)) l (λ a h. refl)

-- a test of rows that asks `good` of the rows at q, and is true of the others
abbrev pub Tests : {X : Type 0} → Address → (X → Bool) → (Row X → Bool) → Type 0
Tests {X} q good row_good = (r : Row X) → (T (same r.0 q) → row_good r ≡ good r.1) × ((T (same r.0 q) → ⊥) → T (row_good r))

-- so is any test that is told whether the row is at q, and says true if not
pub tests : {X : Type 0} (q : Address) (w : Bool → X → Bool) → ((x : X) → T (w false x)) → Tests q (w true) (λ r. w (same r.0 q) r.1)
tests {X} q w h r = go (same r.0 q)
  where
    go : (b : Bool) → (T b → w b r.1 ≡ w true r.1) × ((T b → ⊥) → T (w b r.1))
    go true = (λ t. refl, λ n. absurd (n tt))
    go false = (λ t. absurd t, λ n. h r.1)

-- what stands at q, where p is what the node at q carries
pub own : {P X : Type 0} (items : P → List X) (q : Address) (t : Tree P) (p : P) → look q t ≡ some p → (r : Address) (x : X) → r ≡ q → Held items t r x → x ∈ items p
own {P} items q t p e r x d h = subst (λ (y : P). x ∈ items y) (some-injective h.0 p (sym h.1 ∙ ap (λ (a : Address). look a t) d ∙ e)) h.2

module _ {P X : Type 0} (items : P → List X) (lt_x : X → X → Bool) (oX : StrictOrder lt_x) (g : P → P) (q : Address) (t : Tree P) (p : P) (e : look q t ≡ some p) where
  set_look : look q (set_at g q t) ≡ some (g p)
  set_look = set_same g q t ∙ ap (Option.map g) e

  -- one law for every change: the node comes to have the items of l, and of its own those for which `good` holds
  set_table : (l : List X) (good : X → Bool) (row_good : Row X → Bool) → Tests q good row_good
      → ((x : X) → x ∈ l → x ∈ items (g p)) → ((x : X) → x ∈ items p → T (good x) → x ∈ items (g p)) → ((x : X) → x ∈ items (g p) → (x ∈ l) ⊎ ((x ∈ items p) × T (good x)))
      → table items (lt_row lt_x) (set_at g q t) ≡ merge (lt_row lt_x) (map (λ x. (q, x)) l) (move (keep row_good) (table items (lt_row lt_x) t))
  set_table l good row_good fit new old all =
      table_is items lt_x oX u (merge_sorted (lt_row lt_x) o put (keep_sorted (lt_row lt_x) row_good (table_sorted items lt_x oX t)))
      (λ r x h. there r x (test (same r q)) h)
      (λ r x h. ⊎_elim (λ m. added r x (Memᴰ.of_map (λ (y : X). at_q y) l m)) (λ m. let w = keep_back row_good (r, x) before_it m in stayed r x (test (same r q)) (table_back items lt_x oX r x t w.0) w.1)
      (merge_back (lt_row lt_x) o put (r, x) left h))
    where
      o : StrictOrder (lt_row lt_x)
      o = row_order lt_x oX

      u : Tree P
      u = set_at g q t

      at_q : X → Row X
      at_q x = (q, x)

      put : List (Row X)
      put = map (λ x. (q, x)) l

      before_it : List (Row X)
      before_it = table items (lt_row lt_x) t

      left : List (Row X)
      left = move (keep row_good) before_it

      kept : (r : Address) (x : X) → Held items t r x → T (row_good (r, x)) → (r, x) ∈ merge (lt_row lt_x) put left
      kept r x h b = merge_old (lt_row lt_x) o put (r, x) left (keep_in row_good (r, x) before_it (table_in items lt_x oX r x t h) b)

      there : (r : Address) (x : X) → Test (same r q) → Held items u r x → (r, x) ∈ merge (lt_row lt_x) put left
      there r x (holds b) h =
          let d : r ≡ q = same_eq r q b in
          Memᴰ.cast (ap {B = Row X} (λ (a : Address). (a, x)) d)
          (⊎_elim (λ m. merge_new (lt_row lt_x) o put (q, x) left (Memᴰ.map (λ (y : X). at_q y) m))
          (λ m. kept q x (p, e, m.0) (subst T (sym ((fit (q, x)).0 (same_refl q))) m.1))
          (all x (own items q u (g p) set_look r x d h)))
      there r x (fails n) h =
          let d : r ≢ q = λ z. n (subst (λ (a : Address). T (same r a)) z (same_refl r)) in
          kept r x (h.0, sym (set_other g r q t d) ∙ h.1, h.2) ((fit (r, x)).1 n)

      added : (r : Address) (x : X) → (y : X) × (y ∈ l) × (◌≡◌ {A = Row X} (q, y) (r, x)) → Held items u r x
      added r x w = (g p, ap (λ (a : Row X). look a.0 u) (sym w.2) ∙ set_look, new x (Memᴰ.cast (ap (λ (a : Row X). a.1) (sym w.2)) w.1))

      stayed : (r : Address) (x : X) → Test (same r q) → Held items t r x → T (row_good (r, x)) → Held items u r x
      stayed r x (holds b) h c =
          let d : r ≡ q = same_eq r q b in
          (g p, ap (λ (a : Address). look a u) d ∙ set_look, old x (own items q t p e r x d h) (subst T ((fit (r, x)).0 b) c))
      stayed r x (fails n) h c = (h.0, set_other g r q t (λ z. n (subst (λ (a : Address). T (same r a)) z (same_refl r))) ∙ h.1, h.2)

  -- items more
  pub set_merge : (l : List X) → ((x : X) → x ∈ l → x ∈ items (g p)) → ((x : X) → x ∈ items p → x ∈ items (g p)) → ((x : X) → x ∈ items (g p) → (x ∈ l) ⊎ (x ∈ items p))
      → table items (lt_row lt_x) (set_at g q t) ≡ merge (lt_row lt_x) (map (λ x. (q, x)) l) (table items (lt_row lt_x) t)
  set_merge l new old all =
      set_table l (λ x. true) (λ r. true) (tests q (λ b x. true) (λ x. tt)) new (λ x h b. old x h) (λ x h. ⊎_elim (λ m. inl m) (λ m. inr (m, tt)) (all x h))
      ∙ ap (merge (lt_row lt_x) (map (λ x. (q, x)) l)) (keep_all (table items (lt_row lt_x) t))

  -- one item more
  pub set_insert : (x₀ : X) → x₀ ∈ items (g p) → ((x : X) → x ∈ items p → x ∈ items (g p)) → ((x : X) → x ∈ items (g p) → (x ≡ x₀) ⊎ (x ∈ items p))
      → table items (lt_row lt_x) (set_at g q t) ≡ insert (lt_row lt_x) (q, x₀) (table items (lt_row lt_x) t)
  set_insert x₀ new old all = set_merge (x₀ ∷ []) (λ x h. Memᴰ.cast (Memᴰ.eq_of_singleton h) new) old (λ x h. ⊎_elim (λ d. inl (Memᴰ.head d)) (λ m. inr m) (all x h))

  -- only the items for which `good` holds
  pub set_sift : (good : X → Bool) (row_good : Row X → Bool) → Tests q good row_good
      → ((x : X) → x ∈ items p → T (good x) → x ∈ items (g p)) → ((x : X) → x ∈ items (g p) → (x ∈ items p) × T (good x))
      → table items (lt_row lt_x) (set_at g q t) ≡ move (keep row_good) (table items (lt_row lt_x) t)
  set_sift good row_good fit old all = set_table [] good row_good fit (λ x h. absurd (Memᴰ.not-nil h)) old (λ x h. inr (all x h))

  -- one item in the place of those for which `good` does not hold
  pub set_replace : (x₁ : X) (good : X → Bool) (row_good : Row X → Bool) → Tests q good row_good
      → x₁ ∈ items (g p) → ((x : X) → x ∈ items p → T (good x) → x ∈ items (g p)) → ((x : X) → x ∈ items (g p) → (x ≡ x₁) ⊎ ((x ∈ items p) × T (good x)))
      → table items (lt_row lt_x) (set_at g q t) ≡ insert (lt_row lt_x) (q, x₁) (move (keep row_good) (table items (lt_row lt_x) t))
  set_replace x₁ good row_good fit new old all =
      set_table (x₁ ∷ []) good row_good fit (λ x h. Memᴰ.cast (Memᴰ.eq_of_singleton h) new) old (λ x h. ⊎_elim (λ d. inl (Memᴰ.head d)) (λ m. inr m) (all x h))

  -- a kind that the change does not touch
  set_kept_on : ((x : X) → x ∈ items p → x ∈ items (g p)) → ((x : X) → x ∈ items (g p) → x ∈ items p) → table items (lt_row lt_x) (set_at g q t) ≡ table items (lt_row lt_x) t
  set_kept_on old all = set_merge [] (λ x h. absurd (Memᴰ.not-nil h)) old (λ x h. inr (all x h))

  set_kept : items (g p) ≡ items p → table items (lt_row lt_x) (set_at g q t) ≡ table items (lt_row lt_x) t
  set_kept d = set_kept_on (λ x h. subst (λ (l : List X). x ∈ l) (sym d) h) (λ x h. subst (λ (l : List X). x ∈ l) d h)

-- the same where the change leaves the items of every node
pub set_keeps : {P X : Type 0} (items : P → List X) (lt_x : X → X → Bool) → StrictOrder lt_x → (g : P → P) → ((p : P) → items (g p) ≡ items p) → (q : Address) (t : Tree P)
    → table items (lt_row lt_x) (set_at g q t) ≡ table items (lt_row lt_x) t
set_keeps {P} items lt_x oX g d q t = go (look q t) refl
  where
    go : (o : Option P) → look q t ≡ o → table items (lt_row lt_x) (set_at g q t) ≡ table items (lt_row lt_x) t
    go none e = ap (table items (lt_row lt_x)) (set_none g q t e)
    go (some p) e = set_kept items lt_x oX g q t p e (d p)

-- ---- what the table says of one node
module _ {P X : Type 0} (items : P → List X) (lt_x : X → X → Bool) (oX : StrictOrder lt_x) (q : Address) (t : Tree P) where
  pick_back : (x : X) → x ∈ move (at q) (table items (lt_row lt_x) t) → Held items t q x
  pick_back x h = table_back items lt_x oX q x t (at_back q x (table items (lt_row lt_x) t) h)

  pick_in : (x : X) → Held items t q x → x ∈ move (at q) (table items (lt_row lt_x) t)
  pick_in x h = at_in q x (table items (lt_row lt_x) t) (table_in items lt_x oX q x t h)

  pick_sorted : Sorted lt_x (move (at q) (table items (lt_row lt_x) t))
  pick_sorted = move_sorted (lt_row lt_x) lt_x (at q) (second_mono (λ a. same a q) q (λ a. same_eq a q) before address_order lt_x) (table_sorted items lt_x oX t)

  -- the rows at q are what the node at q has, in order
  pub pick_table : (p : P) → look q t ≡ some p → move (at q) (table items (lt_row lt_x) t) ≡ merge lt_x (items p) []
  pick_table p e = same-list lt_x oX pick_sorted (sort_sorted lt_x oX (items p)) (
    λ x h. merge_new lt_x oX (items p) x [] (own items q t p e q x refl (pick_back x h)),
    λ x h. pick_in x (p, e, sort_back lt_x oX (items p) x h),
  )

  pub pick_none : look q t ≡ none → move (at q) (table items (lt_row lt_x) t) ≡ []
  pick_none e = same-list lt_x oX pick_sorted nil (λ x h. let v = pick_back x h in absurd (none-ne-some v.0 (sym e ∙ v.1)), λ x h. absurd (Memᴰ.not-nil h))
