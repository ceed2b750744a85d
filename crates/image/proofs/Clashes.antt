-- A walk back over an object's permissions, which are the last rows: none comes after them, and the first row of another object ends them. Assumes nothing.
use mathlib.Core.Path.{◌≡◌, refl, sym, ap, ap₂, subst, ◌∙◌}
use mathlib.Core.Bool.{Bool, true, false, cond, ◌&&◌, ◌||◌, true≢false}
use mathlib.Core.Option.{none, some}
use mathlib.Core.List.{List, [], ◌∷◌, reverse}
use Prim.Native.Nat.{ℕ, zero, suc, ◌+◌, ◌≤◌, ◌<◌}
use native.Mathlib.Omega.{arith}
use lib.Dec.{T, eqb, not_T}
use lib.ListN.{drop, get_or, take}
use lib.Seq.{take-suc}
use borrow.Author.Tests.{ltb-true}
use borrow.Table.Steps.{cases}
use Rattle.std.specs.List.{list_any, take_while}
use Rattle.std.proofs.lemmas.List.{reverse-append}
use Rattle.std.proofs.lemmas.List.Sums.{take_while-cons}
use Rattle.laws.specs.Slots.{pick}
use Rattle.laws.specs.Sorted.{◌∈◌, push}
use Rattle.laws.specs.Search.{place}
use Rattle.laws.proofs.Fill.{held_full, held_each, held_next, row_end}
use Rattle.laws.proofs.Last.{in_rest}
use Rattle.laws.proofs.Search.{row_side}
use Rattle.path.specs.Address.{Address, same}
use Rattle.path.specs.declared.Path.{Path}
use Rattle.path.specs.View.{steps, PathSound, key_of}
use Rattle.path.proofs.Number.{key_same}
use Rattle.path.proofs.Moves.{Test, holds, fails, test, is_true}
use Rattle.model.specs.Things as things
use Rattle.model.specs.Things.{Row}
use Rattle.model.specs.Decide.{clash, clash_any}
use Rattle.model.specs.Moves.{permissions_in}
use Rattle.tables.specs.declared.Permission.{Permission}
use Rattle.tables.specs.View.{Permissions}
use Rattle.tables.specs.View.{view_grant, view_permission, view_permissions, PermissionsSound, no_permission}
use Rattle.tables.specs.Places.{before_object, of_permission, permission_place}
use Rattle.tables.proofs.Asked.{permissions_row}
use Rattle.tables.proofs.Rows.{permission_path, permissions_held}
use Rattle.tables.proofs.Places.{permissions_searched, of_permission_lem}
use Rattle.image.specs.Rows.{NoObjectAfter}

-- what does not look at elements of which the test holds begins at any of those, or behind them
from_below : {A C : Type 0} (b : A → Bool) (G : List A → C) → ((x : A) (l : List A) → b x ≡ true → G (x ∷ l) ≡ G l) → (j : ℕ) (l : List A) → j ≤ place b l → G l ≡ G (drop j l)
from_below b G skip zero l h = refl
from_below b G skip (suc j) [] h = refl
from_below b G skip (suc j) (x ∷ l) h = go (b x) refl (from_below b G skip j l) h
  where
    go : (c : Bool) → b x ≡ c → (j ≤ place b l → G l ≡ G (drop j l)) → suc j ≤ pick c (suc (place b l)) 0 → G (x ∷ l) ≡ G (drop j l)
    go true e f k = skip x l e ∙ f (omega arith)
    go false e f k = absurd (omega arith)

either : (x r : Bool) → (x || r) ≡ pick r true x
either true true = refl
either true false = refl
either false true = refl
either false false = refl

-- whether a permission of the object, from row j on, clashes with g
abbrev pub clash_from : Permissions → Address → ℕ → things.Permission → ℕ → Bool
clash_from t p n g j = clash_any g (permissions_in p n (drop j (view_permissions t)))

module _ (t : Permissions) (h : PermissionsSound t) (p : Address) (n : ℕ) (g : things.Permission) where
  -- no row is seen yet
  pub walk_begins : (j : ℕ) → t.count ≤ j → false ≡ clash_from t p n g j
  walk_begins j c = sym (ap (λ l. clash_any g (permissions_in p n l)) (row_end view_permission t.rows t.count j c))

  -- row i is there: q says whether its path is p
  module _ (i : ℕ) (c : i < t.count) {q : Bool} (e : q ≡ same (steps (get_or t.rows i no_permission).path) p) where
    abbrev row : Permission
    row = get_or t.rows i no_permission

    next : drop i (view_permissions t) ≡ view_permission row ∷ drop (i + 1) (view_permissions t)
    next = held_next _ _ _ _ _ _ (permissions_held t h) view_permission i no_permission c

    -- it is the object's, and r says whether it clashes
    pub walk_on : (eqb row.name n && q) ≡ true → {x r : Bool} → x ≡ clash_from t p n g (i + 1) → r ≡ clash g (view_grant row.grant) → (x || r) ≡ clash_from t p n g i
    walk_on f {x} {r} a m = either x r ∙ ap₂ (λ (y z : Bool). pick y true z) m a ∙ sym one
      where
        one : clash_from t p n g i ≡ pick (clash g (view_grant row.grant)) true (clash_from t p n g (i + 1))
        one =
            ap (λ l. clash_any g (permissions_in p n l)) next ∙ ap (clash_any g) (permissions_row p n (view_permission row) (drop (i + 1) (view_permissions t)))
            ∙ ap (λ (b : Bool). clash_any g (push (pick b (some (view_grant row.grant)) none) (permissions_in p n (drop (i + 1) (view_permissions t))))) (ap (λ b. eqb row.name n && b) (sym e) ∙ f)

    -- it is another object's, and no row's object comes after this one: no row before it is the object's
    module _ (f : (eqb row.name n && q) ≡ false) (none_after : (x : Row (ℕ × things.Permission)) → x ∈ view_permissions t → T (before_object (p, n) (of_permission x)) → ⊥) where
      other : of_permission (view_permission row) ≡ (p, n) → ⊥
      other o = true≢false (sym ((of_permission_lem p n (clash_any g)).from (view_permission row) o) ∙ ap (λ b. eqb row.name n && b) (sym e) ∙ f)

      earlier : Test (before_object (of_permission (view_permission row)) (p, n)) → i + 1 ≤ permission_place (p, n) (view_permissions t)
      earlier (holds y) =
          let w = ltb-true i (permission_place (p, n) (view_permissions t)) (row_side (permissions_searched h) (p, n) i no_permission c ∙ is_true (before_object (of_permission (view_permission row)) (p, n)) y) in omega arith
      earlier (fails z) =
          let o = (permissions_searched h).keyed.order in
          absurd (other (o.conn (of_permission (view_permission row)) (p, n) (not_T (before_object (of_permission (view_permission row)) (p, n)) z) (not_T (before_object (p, n) (of_permission (view_permission row))) (none_after (view_permission row) (in_rest (view_permission row) i (view_permissions t) next)))))

      skip : (x : Row (ℕ × things.Permission)) (l : List (Row (ℕ × things.Permission))) → before_object (of_permission x) (p, n) ≡ true → clash_any g (permissions_in p n (x ∷ l)) ≡ clash_any g (permissions_in p n l)
      skip x l y =
          let w = of_permission_lem p n (clash_any g) in
          cases (eqb x.1.0 n && same x.0 p)
          (λ z. absurd ((permissions_searched h).keyed.order.irr (p, n) (subst (λ o. T (before_object o (p, n))) (w.to x z) (subst T (sym y) tt))))
          (λ z. w.miss x l z)

      pub walk_ends : {x : Bool} → x ≡ clash_from t p n g (i + 1) → x ≡ clash_from t p n g 0
      walk_ends a =
          a ∙ sym (from_below (λ r. before_object (of_permission r) (p, n)) (λ l. clash_any g (permissions_in p n l)) skip (i + 1) (view_permissions t)
          (earlier (test (before_object (of_permission (view_permission row)) (p, n)))))

-- ---- the walk as the code has it: back over the first j rows, while they are the object's
-- whether a row is the object's, by its name and its path's key, and whether it clashes
abbrev pub is_own : Path → ℕ → Permission → Bool
is_own q n a = eqb a.name n && eqb (key_of a.path) (key_of q)

abbrev pub clashes_with : things.Permission → Permission → Bool
clashes_with g a = clash g (view_grant a.grant)

or_false : (x : Bool) → (x || false) ≡ x
or_false true = refl
or_false false = refl

or_assoc : (x y z : Bool) → (x || (y || z)) ≡ ((x || y) || z)
or_assoc true y z = refl
or_assoc false y z = refl

module _ (t : Permissions) (h : PermissionsSound t) (q : Path) (sound : PathSound q) (n : ℕ) (g : things.Permission) (none_after : NoObjectAfter (steps q, n) (view_permissions t)) where
  abbrev walk : ℕ → Bool
  walk j = list_any (clashes_with g) (take_while (is_own q n) (reverse (take j t.rows)))

  abbrev from : ℕ → Bool
  from j = clash_from t (steps q) n g j

  walked : (j : ℕ) → j ≤ t.count → (x : Bool) → x ≡ from j → (x || walk j) ≡ from 0
  walked zero c x e = or_false x ∙ e
  walked (suc j) c x e = go (is_own q n row) refl (λ y. walked j (omega arith) y)
    where
      less : j < t.count
      less = omega arith

      row : Permission
      row = get_or t.rows j no_permission

      rest : List Permission
      rest = reverse (take j t.rows)

      turned : reverse (take (suc j) t.rows) ≡ row ∷ rest
      turned = let f = held_full _ _ _ _ _ _ (permissions_held t h) in ap reverse (take-suc t.rows j no_permission (omega arith)) ∙ reverse-append (take j t.rows) (row ∷ [])

      first : walk (suc j) ≡ list_any (clashes_with g) (cond (is_own q n row) (row ∷ take_while (is_own q n) rest) [])
      first = ap (λ l. list_any (clashes_with g) (take_while (is_own q n) l)) turned ∙ ap (list_any (clashes_with g)) (take_while-cons (is_own q n) row rest)

      same_path : eqb (key_of row.path) (key_of q) ≡ same (steps row.path) (steps q)
      same_path = key_same _ _ (permission_path (held_each _ _ _ _ _ _ (permissions_held t h) j no_permission less)) sound

      seen : x ≡ from (j + 1)
      seen = let s : suc j ≡ j + 1 = omega arith in e ∙ ap (λ i. from i) s

      go : (b : Bool) → is_own q n row ≡ b → ((y : Bool) → y ≡ from j → (y || walk j) ≡ from 0) → (x || walk (suc j)) ≡ from 0
      go true f r =
          ap (λ w. x || w) (first ∙ ap (λ b. list_any (clashes_with g) (cond b (row ∷ take_while (is_own q n) rest) [])) f)
          ∙ or_assoc x (clashes_with g row) (walk j)
          ∙ r (x || clashes_with g row) (walk_on t h (steps q) n g j less same_path f seen refl)
      go false f r =
          ap (λ w. x || w) (first ∙ ap (λ b. list_any (clashes_with g) (cond b (row ∷ take_while (is_own q n) rest) [])) f)
          ∙ or_false x ∙ walk_ends t h (steps q) n g j less same_path f none_after seen

  pub walk_back : walk t.count ≡ from 0
  walk_back = walked t.count (omega arith) false (walk_begins t h (steps q) n g t.count (omega arith))
