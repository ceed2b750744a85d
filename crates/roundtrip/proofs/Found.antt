-- What is found in a dossier, as membership of its tables: nodes, attributes, objects and their permissions; and when a record fits. Assumes nothing.
use mathlib.Core.Path.{◌≡◌, refl, sym, ap, subst, subst₂, ◌∙◌}
use mathlib.Core.Logic.{⊎_elim}
use mathlib.Core.Bool.{Bool, true, false, not}
use mathlib.Core.Option.{Option, none, some, map}
use mathlib.Core.List.Memᴰ
use mathlib.Core.List.{List, [], ◌∷◌}
use Prim.Native.Nat.{ℕ}
use lib.Dec.{T, eqb, ltb, eqb→eq, eqb_refl}
use lib.ListN.{length}
use mir.Facts.{and_yes, yes_and, yes_eqb}
use Rattle.laws.specs.Slots.{pick}
use Rattle.laws.specs.Sorted.{◌∈◌, StrictOrder, insert, move, Monotone}
use Rattle.laws.specs.Order.{lt_pair}
use Rattle.laws.proofs.Sorted.{move_in, move_back}
use Rattle.laws.proofs.Order.{lex2_cases}
use Rattle.path.specs.Address.{Address, same, parent}
use Rattle.path.proofs.Moves.{pick_yes}
use Rattle.path.proofs.Laws.{same_eq, same_refl}
use Rattle.model.specs.Things.{Attribute, Permission, Row, Dossier, before_node}
use Rattle.model.specs.Decide.{Object, clash_any}
use Rattle.model.specs.Moves.{at, head, called, permissions_for, node_at, attribute_at, attribute_object, object_at, names_on, with_attribute, grant_row, add_permission}
use Rattle.model.specs.Refusals.{permissions_of}
use Rattle.model.specs.Image.{Record, node_record, attribute_record, permission_record, node_fits, attribute_fits, permission_fits, left, there, accept}
use Rattle.roundtrip.proofs.Checks.{let_in, there_map}

-- ---- the first of what a table has
module _ {A : Type 0} where
  head_there : (l : List A) → T (there (head l)) → (x : A) × (x ∈ l)
  head_there [] t = absurd t
  head_there (x ∷ l) t = (x, Memᴰ.head refl)

  pub there_head : {x : A} {l : List A} → x ∈ l → T (there (head l))
  there_head (Memᴰ.head e) = tt
  there_head (Memᴰ.tail h) = tt

-- ---- of pairs, the second parts of those whose first part is k
module _ {A B : Type 0} (is_it : A → Bool) (k : A) (only : (a : A) → T (is_it a) → a ≡ k) where
  abbrev pub second : A × B → Option B
  second r = pick (is_it r.0) (some r.1) none

  pub second_in : T (is_it k) → (x : B) (l : List (A × B)) → (k, x) ∈ l → x ∈ move second l
  second_in t x l h = move_in second h (pick_yes (is_it k) (some x) none t)

  pub second_back : (x : B) (l : List (A × B)) → x ∈ move second l → (k, x) ∈ l
  second_back x l h =
      let w = move_back second x l h in
      let v = let_in (is_it w.0.0) w.0.1 x w.2 in Memᴰ.cast (λ i. (sym (only w.0.0 v.0) i, sym v.1 i)) w.1

  pub second_mono : (lt_a : A → A → Bool) → StrictOrder lt_a → (lt_b : B → B → Bool) → Monotone (lt_pair lt_a lt_b) lt_b second
  unfolding Monotone
  second_mono lt_a oA lt_b a a' b b' d d' s =
      let w = let_in (is_it a.0) a.1 b d in
      let w' = let_in (is_it a'.0) a'.1 b' d' in
      let z : a.0 ≡ a'.0 = only a.0 w.0 ∙ sym (only a'.0 w'.0) in
      subst₂ (λ (u v : B). T (lt_b u v)) w.1 w'.1
      (⊎_elim (λ h. absurd (oA.irr a.0 (subst (λ (y : A). T (lt_a a.0 y)) (sym z) h))) (λ h. h.1) (lex2_cases lt_a oA a.0 a'.0 (lt_b a.1 a'.1) s))

-- ---- what stands at a path
module _ {P : Type 0} where
  pub at_self : (p : Address) (x : P) → at p (p, x) ≡ some x
  at_self p x = pick_yes (same p p) (some x) none (same_refl p)

  pub at_in : (p : Address) (x : P) (l : List (Row P)) → (p, x) ∈ l → x ∈ move (at p) l
  at_in p x l h = second_in (λ a. same a p) p (λ a. same_eq a p) (same_refl p) x l h

  pub at_back : (p : Address) (x : P) (l : List (Row P)) → x ∈ move (at p) l → (p, x) ∈ l
  at_back p x l h = second_back (λ a. same a p) p (λ a. same_eq a p) x l h

pub node_in_lem : (p : Address) (d : Dossier) → T (there (node_at p d)) → (o : ℕ) × ((p, o) ∈ d.nodes)
node_in_lem p d t =
    let w = head_there (move (at p) d.nodes) (subst T (there_map _ (head (move (at p) d.nodes))) t) in
    (w.0, at_back p w.0 d.nodes w.1)

pub node_there : (p : Address) (o : ℕ) (d : Dossier) → (p, o) ∈ d.nodes → T (there (node_at p d))
node_there p o d h = subst T (sym (there_map _ (head (move (at p) d.nodes)))) (there_head (at_in p o d.nodes h))

-- more nodes, more found
pub node_kept : (p : Address) (d e : Dossier) → ((o : ℕ) → (p, o) ∈ d.nodes → (p, o) ∈ e.nodes) → T (there (node_at p d)) → T (there (node_at p e))
node_kept p d e f t = let w = node_in_lem p d t in node_there p w.0 e (f w.0 w.1)

pub attribute_in_lem : (p : Address) (n : ℕ) (d : Dossier) → T (there (attribute_at p n d)) → (a : Attribute) × ((p, a) ∈ d.attributes) × (a.name ≡ n)
attribute_in_lem p n d t =
    let w = head_there (move (called n) (move (at p) d.attributes)) t in
    let v = move_back (called n) w.0 (move (at p) d.attributes) w.1 in
    (v.0, at_back p v.0 d.attributes v.1, eqb→eq v.0.name n (let_in (eqb v.0.name n) v.0 w.0 v.2).0)

pub attribute_there : (p : Address) (n : ℕ) (a : Attribute) (d : Dossier) → (p, a) ∈ d.attributes → a.name ≡ n → T (there (attribute_at p n d))
attribute_there p n a d h e =
    there_head (move_in (called n) (at_in p a d.attributes h) (pick_yes (eqb a.name n) (some a) none (yes_eqb e)))

pub grant_in_lem : (p : Address) (n : ℕ) (g : Permission) (d : Dossier) → g ∈ permissions_for p n d → grant_row p n g ∈ d.permissions
grant_in_lem p n g d h = at_back p (n, g) d.permissions (second_back (λ a. eqb a n) n (λ a. eqb→eq a n) g (move (at p) d.permissions) h)

pub grant_there : (p : Address) (n : ℕ) (g : Permission) (d : Dossier) → grant_row p n g ∈ d.permissions → g ∈ permissions_for p n d
grant_there p n g d h = second_in (λ a. eqb a n) n (λ a. eqb→eq a n) (eqb_refl n) g (move (at p) d.permissions) (at_in p (n, g) d.permissions h)

-- ---- objects
-- one that is there has the permissions that the table has for it
pub object_permissions : (p : Address) (n : ℕ) (d : Dossier) → T (there (object_at p n d)) → permissions_of (object_at p n d) ≡ permissions_for p n d
object_permissions p n d = go (eqb n 0) (eqb→eq n 0)
  where
    of : {A : Type 0} (f : A → Object) (o : Option A) → ((a : A) → (f a).permissions ≡ permissions_for p n d) → T (there (map f o)) → permissions_of (map f o) ≡ permissions_for p n d
    of f none e t = absurd t
    of f (some a) e t = e a

    go : (b : Bool) → (T b → n ≡ 0) → T (there (pick b (node_at p d) (attribute_object p n d))) → permissions_of (pick b (node_at p d) (attribute_object p n d)) ≡ permissions_for p n d
    go true y t = of _ (head (move (at p) d.nodes)) (λ o. ap (λ (k : ℕ). permissions_for p k d) (sym (y tt))) t
    go false y t = of _ (attribute_at p n d) (λ a. refl) t

-- more nodes and attributes, more objects
pub object_kept : (p : Address) (n : ℕ) (d e : Dossier) → ((o : ℕ) → (p, o) ∈ d.nodes → (p, o) ∈ e.nodes)
    → ((a : Attribute) → (p, a) ∈ d.attributes → (p, a) ∈ e.attributes)
    → T (there (object_at p n d)) → T (there (object_at p n e))
object_kept p n d e f g = go (eqb n 0)
  where
    go : (b : Bool) → T (there (pick b (node_at p d) (attribute_object p n d))) → T (there (pick b (node_at p e) (attribute_object p n e)))
    go true t = node_kept p d e f t
    go false t =
        let w = attribute_in_lem p n d (subst T (there_map _ (attribute_at p n d)) t) in
        subst T (sym (there_map _ (attribute_at p n e))) (attribute_there p n w.0 e (g w.0 w.1) w.2)

-- "a permission its object", "no clash", "no bound passed"
module _ (g : Permission) (k : ℕ) where
  pub fits_parts : (o : Option Object) → T (permission_fits g o k) → T (there o) × T (not (clash_any g (permissions_of o))) × T (ltb k 128)
  fits_parts none t = absurd t
  fits_parts (some o) t = let w = and_yes (not (clash_any g o.permissions)) (ltb k 128) t in (tt, w.0, w.1)

  parts_fit : (o : Option Object) → T (there o) → T (not (clash_any g (permissions_of o))) → T (ltb k 128) → T (permission_fits g o k)
  parts_fit none t c s = absurd t
  parts_fit (some o) t c s = yes_and (not (clash_any g o.permissions)) (ltb k 128) c s

  module _ (p : Address) (n : ℕ) (d : Dossier) where
    pub fits_in : T (there (object_at p n d)) → T (not (clash_any g (permissions_for p n d))) → T (ltb k 128) → T (permission_fits g (object_at p n d) k)
    fits_in t c s = parts_fit (object_at p n d) t (subst (λ (l : List Permission). T (not (clash_any g l))) (sym (object_permissions p n d t)) c) s

    pub fits_out : T (permission_fits g (object_at p n d) k) → T (there (object_at p n d)) × T (not (clash_any g (permissions_for p n d))) × T (ltb k 128)
    fits_out t =
        let w = fits_parts (object_at p n d) t in (w.0, subst (λ (l : List Permission). T (not (clash_any g l))) (object_permissions p n d w.0) w.1, w.2)

-- ---- a record "taken with those before it": whether it fits, and the dossier with it
abbrev pub fits : Dossier → Record → Bool
fits d (node_record r) = node_fits r.0 (there (node_at r.0 d)) (there (node_at (parent r.0) d)) (there (node_at (left r.0) d)) (length d.nodes)
fits d (attribute_record r) = attribute_fits (there (node_at r.0 d)) (there (attribute_at r.0 r.1.name d)) (length d.attributes) (length (names_on r.0 d))
fits d (permission_record r) = permission_fits r.1.1 (object_at r.0 r.1.0 d) (length d.permissions)

abbrev pub added : Dossier → Record → Dossier
added d (node_record r) = record { nodes = insert before_node r d.nodes; attributes = d.attributes; permissions = d.permissions }
added d (attribute_record r) = with_attribute r.0 r.1 d
added d (permission_record r) = add_permission r.0 r.1.0 r.1.1 d

accept_is : (d : Dossier) (r : Record) → accept d r ≡ pick (fits d r) (some (added d r)) none
accept_is d (node_record r) = refl
accept_is d (attribute_record r) = refl
accept_is d (permission_record r) = refl

pub accept_yes : (d : Dossier) (r : Record) → T (fits d r) → accept d r ≡ some (added d r)
accept_yes d r t = accept_is d r ∙ pick_yes (fits d r) (some (added d r)) none t

pub accepted : (d : Dossier) (r : Record) (e : Dossier) → accept d r ≡ some e → T (fits d r) × (added d r ≡ e)
accepted d r e p = let_in (fits d r) (added d r) e (sym (accept_is d r) ∙ p)
