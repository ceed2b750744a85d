-- Laws of what is asked of a table, row by row, for any row type: a first hit, a count, the deepest path. Assumes nothing.
use mathlib.Core.Path.{◌≡◌, refl, sym, ap, subst, ◌∙◌}
use mathlib.Core.Logic.{◌⊎◌, inl, inr, ⊎_elim}
use mathlib.Core.Bool.{Bool, true, false, ◌&&◌}
use mathlib.Core.Option.{Option, none, some}
use mathlib.Core.List.Memᴰ
use mathlib.Core.List.{List, [], ◌∷◌, ◌++◌}
use Prim.Native.Nat.{ℕ, ◌+◌, ◌-◌, ◌≤◌, max}
use native.Mathlib.Omega.{arith}
use lib.Dec.{T, eqb, ltb, ltb→lt}
use lib.ListN.{length, drop, length-drop}
use Rattle.laws.specs.Slots.{pick}
use Rattle.laws.specs.Order.{lt_list, lt_pair}
use Rattle.laws.specs.Sorted.{Sorted, cons, push, move}
use Rattle.laws.proofs.Order.{nat_order, lex2_cases}
use Rattle.laws.proofs.Last.{Ends}
use Rattle.path.specs.Address.{Address, before, same, under, off}
use Rattle.path.proofs.Laws.{address_order}
use Rattle.path.proofs.Structs.{no, off_under, off_not}
use Rattle.model.specs.Things.{Row, Attribute, Permission}
use Rattle.model.specs.Moves.{carry, carried, at, head, one_step, attribute_in, permissions_in, deepest}
use Rattle.model.specs.Image.{there}

-- ---- whether a row gives anything
pub off_there : {P : Type 0} (q : Address) (r : Row P) → under q r.0 ≡ there (carry (off q) r)
off_there q r = go (under q r.0) refl
  where
    go : (b : Bool) → under q r.0 ≡ b → b ≡ there (carry (off q) r)
    go true e = rw (off_under q r.0 e).0
    go false e = rw (off_not q r.0 e)

-- ---- a count: of the rows before i there are k that give something
pub record Counts {A B : Type 0} (f : A → Option B) (l : List A) (i k : ℕ) : Type 0 where
  pub few : k ≤ i
  pub rest : k + length (move f (drop i l)) ≡ length (move f l)

module _ {A B : Type 0} (f : A → Option B) (l : List A) where
  pub count_begin : Counts f l 0 0
  count_begin = record { few = omega arith; rest = omega arith }

  module _ (i k : ℕ) (c : Counts f l i k) where
    module _ (x : A) (e : drop i l ≡ x ∷ drop (i + 1) l) where
      seen : k + length (push (f x) (move f (drop (i + 1) l))) ≡ length (move f l)
      seen = ap (λ m. k + length (move f m)) (sym e) ∙ c.rest

      pub count_hit : there (f x) ≡ true → Counts f l (i + 1) (k + 1)
      count_hit t = go (f x) t seen
        where
          go : (o : Option B) → there o ≡ true → k + length (push o (move f (drop (i + 1) l))) ≡ length (move f l) → Counts f l (i + 1) (k + 1)
          go none t s = no (sym t)
          go (some b) t s = let h = c.few in record { few = omega arith; rest = omega arith }

      pub count_miss : there (f x) ≡ false → Counts f l (i + 1) k
      count_miss t = go (f x) t seen
        where
          go : (o : Option B) → there o ≡ false → k + length (push o (move f (drop (i + 1) l))) ≡ length (move f l) → Counts f l (i + 1) k
          go none t s = let h = c.few in record { few = omega arith; rest = s }
          go (some b) t s = no t

-- ---- what is at a path, of the rows for which a second test holds
module _ {P C : Type 0} (p : Address) (t : P → Bool) (h : P → C) where
  abbrev held : P → Option C
  held b = pick (t b) (some (h b)) none

  abbrev here : List (Row P) → List C
  here l = move held (move (at p) l)

  here_row : (r : Row P) (l : List (Row P)) → here (r ∷ l) ≡ push (pick (t r.1 && same r.0 p) (some (h r.1)) none) (here l)
  here_row r l = go (t r.1) (same r.0 p) refl
    where
      go : (a b : Bool) → t r.1 ≡ a → move held (push (pick b (some r.1) none) (move (at p) l)) ≡ push (pick (a && b) (some (h r.1)) none) (here l)
      go true true e = rw e
      go true false e = refl
      go false true e = rw e
      go false false e = refl

module _ (p : Address) (n : ℕ) where
  module _ (r : Row Attribute) (l : List (Row Attribute)) where
    attribute_row : attribute_in p n (r ∷ l) ≡ head (push (pick (eqb r.1.name n && same r.0 p) (some r.1) none) (move (λ a. pick (eqb a.name n) (some a) none) (move (at p) l)))
    attribute_row = ap head (here_row p (λ a. eqb a.name n) (λ a. a) r l)

    pub attribute_hit : (eqb r.1.name n && same r.0 p) ≡ true → attribute_in p n (r ∷ l) ≡ some r.1
    attribute_hit e = attribute_row ∙ rw e

    pub attribute_miss : (eqb r.1.name n && same r.0 p) ≡ false → attribute_in p n (r ∷ l) ≡ attribute_in p n l
    attribute_miss e = attribute_row ∙ rw e

  module _ (r : Row (ℕ × Permission)) (l : List (Row (ℕ × Permission))) where
    -- one row gives its permission, or nothing
    pub permissions_row : permissions_in p n (r ∷ l) ≡ push (pick (eqb r.1.0 n && same r.0 p) (some r.1.1) none) (permissions_in p n l)
    permissions_row = here_row p (λ m. eqb m.0 n) (λ m. m.1) r l

    pub permissions_miss : (eqb r.1.0 n && same r.0 p) ≡ false → permissions_in p n (r ∷ l) ≡ permissions_in p n l
    permissions_miss e = permissions_row ∙ rw e

-- ---- children
pub child_not : (q p : Address) → (length p ≡ length q + 1 → ⊥) → there (one_step (off q p)) ≡ false
child_not [] [] n = refl
child_not [] (x ∷ []) n = absurd (n (omega arith))
child_not [] (x ∷ y ∷ p) n = refl
child_not (x ∷ q) [] n = refl
child_not (x ∷ q) (y ∷ p) n = go (eqb x y) (child_not q p (λ e. n (omega arith)))
  where
    go : (b : Bool) → there (one_step (off q p)) ≡ false → there (one_step (pick b (off q p) none)) ≡ false
    go true h = h
    go false h = refl

pub child_under : (q p : Address) → length p ≡ length q + 1 → under q p ≡ there (one_step (off q p))
child_under [] [] e = absurd (omega arith)
child_under [] (x ∷ []) e = refl
child_under [] (x ∷ y ∷ p) e = absurd (omega arith)
child_under (x ∷ q) [] e = refl
child_under (x ∷ q) (y ∷ p) e = go (eqb x y) (child_under q p (omega arith))
  where
    go : (b : Bool) → under q p ≡ there (one_step (off q p)) → pick b (under q p) false ≡ there (one_step (pick b (off q p) none))
    go true h = h
    go false h = refl

-- ---- the deepest path
-- the steps below q, from the two lengths
pub below_size : (q p : Address) → under q p ≡ true → {j k : ℕ} → j ≡ length p → k ≡ length q → (k ≤ j) × (j - k ≡ length (drop (length q) p))
below_size q p u e f =
    let le = (off_under q p u).1 in
    let d = length-drop (length q) p in
    (omega arith, omega arith)

module _ {P : Type 0} (q : Address) {whole : ℕ} (most : ℕ) {l : List (Row P)} (r : Row P) (l' : List (Row P)) (inv : max most (deepest (carried (off q) l)) ≡ whole) (e : l ≡ r ∷ l') where
  deep : max most (deepest (carried (off q) (r ∷ l'))) ≡ whole
  deep = ap (λ m. max most (deepest (carried (off q) m))) (sym e) ∙ inv

  pub deep_hit : under q r.0 ≡ true → (n : ℕ) → n ≡ max most (length (drop (length q) r.0)) → max n (deepest (carried (off q) l')) ≡ whole
  deep_hit u n m =
      let h : max most (max (length (drop (length q) r.0)) (deepest (carried (off q) l'))) ≡ whole = rw (off_under q r.0 u).0 at deep in
      omega arith

  pub deep_miss : under q r.0 ≡ false → max most (deepest (carried (off q) l')) ≡ whole
  deep_miss u = rw (off_not q r.0 u) at deep

-- rows are in order of the length of their paths first: the last path is a longest one
module _ {P : Type 0} (lt : P → P → Bool) where
  longer : (r s : Row P) → T (lt_pair before lt r s) → length r.0 ≤ length s.0
  longer r s t = ⊎_elim (λ u. first (lex2_cases ltb nat_order (length r.0) (length s.0) (lt_list ltb r.0 s.0) u)) (λ w. let e = ap length w.0 in omega arith) (lex2_cases before address_order r.0 s.0 (lt r.1 s.1) t)
    where
      first : T (ltb (length r.0) (length s.0)) ⊎ ((length r.0 ≡ length s.0) × T (lt_list ltb r.0 s.0)) → length r.0 ≤ length s.0
      first (inl u) = let h = ltb→lt (length r.0) (length s.0) u in omega arith
      first (inr w) = let e = w.0 in omega arith

  last_deepest : (k : List (Row P)) (r : Row P) → Sorted (lt_pair before lt) (k ++ (r ∷ [])) → deepest (k ++ (r ∷ [])) ≡ length r.0
  last_deepest [] r s = omega arith
  last_deepest (x ∷ k) r (cons h s) =
      let e = last_deepest k r s in
      let m = longer x r (h r (Memᴰ.append_right k (Memᴰ.head refl))) in
      omega arith

  pub deepest_last : {l k : List (Row P)} {r : Row P} → Sorted (lt_pair before lt) l → Ends l k r → deepest l ≡ length r.0
  deepest_last {k = k} {r} s e = ap deepest e.ends ∙ last_deepest k r (subst (Sorted (lt_pair before lt)) e.ends s)
