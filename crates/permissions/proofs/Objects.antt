-- Permissions for one object: what the next row tells of those to be stored, and those under another name merged in. Assumes nothing.
use mathlib.Core.Path.{◌≡◌, refl, sym, ap, subst}
use mathlib.Core.Logic.{⊎_elim}
use mathlib.Core.Bool.{Bool, true, false, ◌&&◌}
use mathlib.Core.List.Memᴰ
use mathlib.Core.Option.{some}
use mathlib.Core.List.{List, [], ◌∷◌, map}
use Prim.Native.Nat.{ℕ}
use lib.Dec.{T, ltb, eqb, eqb_refl}
use mir.Facts.{yes_and}
use Rattle.laws.specs.Sorted.{◌∈◌, StrictOrder, Sorted, Disjoint, move}
use Rattle.laws.specs.Order.{lt_pair}
use Rattle.laws.proofs.Order.{nat_order, lex2_cases, lex2_right}
use Rattle.path.specs.Address.{Address, before, same}
use Rattle.path.proofs.Laws.{address_order, same_refl}
use Rattle.model.specs.Things.{Permission, Row, lt_permission, before_permission}
use Rattle.model.specs.Moves.{permissions_in, grant_row}
use Rattle.roundtrip.proofs.Orders.{lt_named}
use Rattle.roundtrip.proofs.Prefix.{map_sorted_on}
use Rattle.moves.specs.Room.{OneObject, NoObject, renamed, held_grant}

-- ---- the permissions for one object, and all under another name, as lists
pub held_list : (p : Address) (n : ℕ) (l : List (Row (ℕ × Permission))) → move (held_grant p n) l ≡ map (grant_row [] n) (permissions_in p n l)
held_list p n [] = refl
held_list p n (x ∷ l) = go (same x.0 p) refl (eqb x.1.0 n) refl (held_list p n l)
  where
    go : (b : Bool) → same x.0 p ≡ b → (c : Bool) → eqb x.1.0 n ≡ c → move (held_grant p n) l ≡ map (grant_row [] n) (permissions_in p n l)
        → move (held_grant p n) (x ∷ l) ≡ map (grant_row [] n) (permissions_in p n (x ∷ l))
    go true f true g e = rw (f, g) (ap (λ r. grant_row [] n x.1.1 ∷ r) e)
    go true f false g e = rw (f, g) e
    go false f c g e = rw f e

pub all_move : {A B : Type 0} (f : A → B) (l : List A) → move (λ x. some (f x)) l ≡ map f l
all_move f [] = refl
all_move f (x ∷ l) = ap (λ r. f x ∷ r) (all_move f l)

-- ---- pairs whose first parts are equal compare as their second parts
second_less : {A B : Type 0} (lt_a : A → A → Bool) → StrictOrder lt_a → (lt_b : B → B → Bool) (a a' : A × B) → a.0 ≡ a'.0 → T (lt_pair lt_a lt_b a a') → T (lt_b a.1 a'.1)
second_less {A} lt_a o lt_b a a' e t =
    ⊎_elim (λ s. absurd (o.irr a.0 (subst (λ (z : A). T (lt_a a.0 z)) (sym e) s))) (λ s. s.1) (lex2_cases lt_a o a.0 a'.0 (lt_b a.1 a'.1) t)

-- the permissions of one object
pub object_less : (p : Address) (n : ℕ) (g h : Permission) → T (lt_permission g h) → T (before_permission (grant_row p n g) (grant_row p n h))
object_less p n g h t = lex2_right before address_order p p (lt_named (n, g) (n, h)) refl (lex2_right ltb nat_order n n (lt_permission g h) refl t)

-- ---- the permissions of one object under another name, merged in
module _ (p : Address) (n : ℕ) {k l : List (Row (ℕ × Permission))} (sk : Sorted before_permission k) (one : OneObject k) (none : NoObject p n l) where
  keeps : (a a' : Row (ℕ × Permission)) → a ∈ k → a' ∈ k → T (before_permission a a') → T (before_permission (renamed p n a) (renamed p n a'))
  keeps a a' h h' t =
      let w = one a a' h h' in
      object_less p n a.1.1 a'.1.1 (second_less ltb nat_order lt_permission a.1 a'.1 w.1 (second_less before address_order lt_named a a' w.0 t))

  pub renamed_sorted : Sorted before_permission (map (renamed p n) k)
  renamed_sorted = map_sorted_on (renamed p n) keeps sk

  pub renamed_apart : Disjoint (map (renamed p n) k) l
  renamed_apart z m h =
      let w = Memᴰ.of_map (renamed p n) k m in
      none z h (subst (λ (y : Row (ℕ × Permission)). T (same y.0 p && eqb y.1.0 n)) w.2 (yes_and (same p p) (eqb n n) (same_refl p) (eqb_refl n)))

pub renamed_path : (p : Address) (n : ℕ) (k : List (Row (ℕ × Permission))) {z : Row (ℕ × Permission)} → z ∈ map (renamed p n) k → p ≡ z.0
renamed_path p n k m = ap (λ (y : Row (ℕ × Permission)). y.0) (Memᴰ.of_map (renamed p n) k m).2
