-- What is done to a tree is done to its tables: to branches, to attributes and to permissions. Assumes nothing.
use mathlib.Core.Path.{◌≡◌, refl, sym, ap, ap₂, subst, ◌∙◌}
use mathlib.Core.Logic.{◌⊎◌, inl, inr}
use mathlib.Core.Bool.{Bool, true, false, not, ◌&&◌}
use mathlib.Core.Option.{Option, some}
use mathlib.Core.List.Memᴰ
use mathlib.Core.List.{List, [], ◌∷◌, ◌++◌, map}
use Prim.Native.Nat.{ℕ}
use lib.Dec.{T, eqb, ltb, eqb→eq, T_not}
use mir.Facts.{yes_eqb, no_eqb}
use Rattle.laws.specs.Slots.{pick}
use Rattle.laws.specs.Sorted.{◌∈◌, merge, move}
use Rattle.laws.proofs.Sorted.{merge_new, sort_back}
use Rattle.laws.proofs.Order.{nat_order}
use Rattle.path.specs.Address.{Address}
use Rattle.path.proofs.Moves.{Test, holds, fails, test, pick_yes, pick_no}
use Rattle.model.specs.Things.{Value, Attribute, Permission, Row, bare, lt_attribute, lt_permission, before_permission}
use Rattle.model.specs.Moves.{keep, attribute_at, delete_branch, copy_branch, paste_branch, other_attribute, other_object, delete_attribute, changed_row, change_value, grant_row, paste_attribute, same_permission, other_permission, add_permission, delete_permission}
use Rattle.roundtrip.proofs.Orders.{permission_order, attribute_order, lt_named, named_order}
use Rattle.twin.specs.Tree.{Tree, branch, look, paste_tree, delete_tree, set_at, table}
use Rattle.twin.specs.Twin.{Holding, Node, leaf, in_order, plain, called_so, holding, node_items, attribute_items, named, holding_items, permission_items, with_holding, without_holding, on_holding, with_value, on_permissions, with_permission, without_permission}
use Rattle.twin.specs.Good.{dossier_of, GoodNode}
use Rattle.twin.proofs.Trees.{Last, Place}
use Rattle.twin.proofs.Rows.{delete_table, copy_table, paste_table}
use Rattle.twin.proofs.Update.{keep_in, keep_back, tests, set_merge, set_insert, set_sift, set_replace, set_keeps}
use Rattle.twin.proofs.KeepNode.{holding_in, on, map_on}
use Rattle.twin.proofs.SameNode.{Grant, grant_in_lem, grant_back, not_zero, one_holding}

-- ---- branches
pub paste_same : (c : Tree Node) (k : ℕ) (q : Address) (t : Tree Node) → Place k q t → paste_branch (k ∷ q) (dossier_of c) (dossier_of t) ≡ dossier_of (paste_tree c (k ∷ q) t)
paste_same c k q t h = λ i. record {
  nodes = sym (paste_table node_items ltb nat_order c k q t h) i;
  attributes = sym (paste_table attribute_items lt_attribute attribute_order c k q t h) i;
  permissions = sym (paste_table permission_items lt_named named_order c k q t h) i;
}

pub bare_same : (u : ℕ) → bare u ≡ dossier_of (leaf u)
unfolding table
bare_same u = refl

pub delete_same : (k : ℕ) (q : Address) (t : Tree Node) → Last k q → delete_branch (k ∷ q) (dossier_of t) ≡ dossier_of (delete_tree (k ∷ q) t)
delete_same k q t h = λ i. record {
  nodes = sym (delete_table node_items ltb nat_order k q t h) i;
  attributes = sym (delete_table attribute_items lt_attribute attribute_order k q t h) i;
  permissions = sym (delete_table permission_items lt_named named_order k q t h) i;
}

pub copy_same : (q : Address) (t s : Tree Node) → branch q t ≡ some s → copy_branch q (dossier_of t) ≡ dossier_of s
copy_same q t s e = λ i. record {
  nodes = sym (copy_table node_items ltb nat_order q t s e) i;
  attributes = sym (copy_table attribute_items lt_attribute attribute_order q t s e) i;
  permissions = sym (copy_table permission_items lt_named named_order q t s e) i;
}

-- ---- attributes
grant_rows : (p : Address) (k : ℕ) (l : List Permission) → map (grant_row p k) l ≡ map (λ x. (p, x)) (map (named k) l)
grant_rows p k [] = refl
grant_rows p k (g ∷ l) = ap (λ (r : List (Row (ℕ × Permission))). grant_row p k g ∷ r) (grant_rows p k l)

-- an attribute with its permissions put on the node that is there
pub hold_same : (a : Holding) (p : Address) (t : Tree Node) (n : Node) → look p t ≡ some n
    → paste_attribute p a.name (plain a) (in_order a.permissions) (dossier_of t) ≡ dossier_of (set_at (with_holding a) p t)
hold_same a p t n e = λ i. record {
  nodes = sym (set_keeps node_items ltb nat_order (with_holding a) (λ m. refl) p t) i;
  attributes = sym (set_insert attribute_items lt_attribute attribute_order (with_holding a) p t n e (plain a) (Memᴰ.head refl) (λ x h. Memᴰ.tail h) (λ x h. Memᴰ.cases_cons h)) i;
  permissions = (ap (λ (l : List (Row (ℕ × Permission))). merge before_permission l (dossier_of t).permissions) (grant_rows p a.name (in_order a.permissions))
      ∙ sym (set_merge permission_items lt_named named_order (with_holding a) p t n e (map (named a.name) (in_order a.permissions)) new
      (λ x h. grant_in_lem (with_holding a n) x (old x (grant_back n x h))) (λ x h. all x (grant_back (with_holding a n) x h)))) i;
}
  where
    new : (x : ℕ × Permission) → x ∈ map (named a.name) (in_order a.permissions) → x ∈ permission_items (with_holding a n)
    new x h =
        let w = Memᴰ.of_map (named a.name) (in_order a.permissions) h in
        Memᴰ.cast (sym w.2) (grant_in_lem (with_holding a n) (named a.name w.0) (inr (a, Memᴰ.head refl, refl, sort_back lt_permission permission_order a.permissions w.0 w.1)))

    old : (x : ℕ × Permission) → Grant n x → Grant (with_holding a n) x
    old x (inl w) = inl w
    old x (inr w) = inr (w.0, Memᴰ.tail w.1, w.2, w.3)

    of : (x : ℕ × Permission) (b : Holding) → b ∈ a ∷ n.attributes → b.name ≡ x.0 → x.1 ∈ b.permissions → (x ∈ map (named a.name) (in_order a.permissions)) ⊎ (x ∈ permission_items n)
    of x b (Memᴰ.head d) c h =
        inl (Memᴰ.cast (λ i. named ((sym c ∙ ap (λ (y : Holding). y.name) d) i) x.1)
        (Memᴰ.map (named a.name) (merge_new lt_permission permission_order a.permissions x.1 [] (subst (λ (y : Holding). x.1 ∈ y.permissions) d h))))
    of x b (Memᴰ.tail m) c h = inr (grant_in_lem n x (inr (b, m, c, h)))

    all : (x : ℕ × Permission) → Grant (with_holding a n) x → (x ∈ map (named a.name) (in_order a.permissions)) ⊎ (x ∈ permission_items n)
    all x (inl w) = inr (grant_in_lem n x (inl w))
    all x (inr w) = of x w.0 w.1 w.2 w.3

-- an attribute goes with its permissions
pub without_same : (k : ℕ) (p : Address) (t : Tree Node) (n : Node) → look p t ≡ some n → (k ≡ 0 → ⊥) → delete_attribute p k (dossier_of t) ≡ dossier_of (set_at (without_holding k) p t)
without_same k p t n e z = λ i. record {
  nodes = sym (set_keeps node_items ltb nat_order (without_holding k) (λ m. refl) p t) i;
  attributes = sym (set_sift attribute_items lt_attribute attribute_order (without_holding k) p t n e (λ a. not (eqb a.name k)) (other_attribute p k) (tests p (λ b a. not (b && eqb a.name k)) (λ x. tt))
      (λ x h c. let w = Memᴰ.of_map plain n.attributes h in
      Memᴰ.cast (sym w.2) (Memᴰ.map plain (keep_in other w.0 n.attributes w.1 (subst (λ (y : Attribute). T (not (eqb y.name k))) (sym w.2) c))))
      (λ x h. let w = Memᴰ.of_map plain (move (keep other) n.attributes) h in
      let v = keep_back other w.0 n.attributes w.1 in
      (Memᴰ.cast (sym w.2) (Memᴰ.map plain v.0), subst (λ (y : Attribute). T (not (eqb y.name k))) w.2 v.1))) i;
  permissions = sym (set_sift permission_items lt_named named_order (without_holding k) p t n e (λ x. not (eqb x.0 k)) (other_object p k) (tests p (λ b x. not (b && eqb x.0 k)) (λ x. tt))
      (λ x h c. grant_in_lem (without_holding k n) x (old x c (grant_back n x h))) (λ x h. all x (grant_back (without_holding k n) x h))) i;
}
  where
    other : Holding → Bool
    other a = not (called_so k a)

    old : (x : ℕ × Permission) → T (not (eqb x.0 k)) → Grant n x → Grant (without_holding k n) x
    old x c (inl w) = inl w
    old x c (inr w) = inr (w.0, keep_in other w.0 n.attributes w.1 (subst (λ (m : ℕ). T (not (eqb m k))) (sym w.2) c), w.2, w.3)

    all : (x : ℕ × Permission) → Grant (without_holding k n) x → (x ∈ permission_items n) × T (not (eqb x.0 k))
    all x (inl w) = (grant_in_lem n x (inl w), no_eqb (λ d. z (sym d ∙ w.0)))
    all x (inr w) =
        let v = keep_back other w.0 n.attributes w.1 in (grant_in_lem n x (inr (w.0, v.0, w.2, w.3)), subst (λ (m : ℕ). T (not (eqb m k))) w.2 v.1)

-- ---- one attribute changed
items_on : (k : ℕ) (v : Value) (l : List Holding) → holding_items (map (on k (with_value v)) l) ≡ holding_items l
items_on k v [] = refl
items_on k v (a ∷ l) = ap₂ (λ (x r : List (ℕ × Permission)). x ++ r) (go (called_so k a)) (items_on k v l)
  where
    go : (b : Bool) → map (named (pick b (with_value v a) a).name) (pick b (with_value v a) a).permissions ≡ map (named a.name) a.permissions
    go true = refl
    go false = refl

-- "Changing a value keeps owner and permissions"
pub value_same : (k : ℕ) (v : Value) (p : Address) (t : Tree Node) (n : Node) (a : Holding) → look p t ≡ some n → GoodNode n → holding k n ≡ some a
    → attribute_at p k (dossier_of t) ≡ some (plain a) → change_value p k v (dossier_of t) ≡ dossier_of (set_at (on_holding k (with_value v)) p t)
value_same k v p t n a e g d found = λ i. record {
  nodes = sym (set_keeps node_items ltb nat_order (on_holding k (with_value v)) (λ m. refl) p t) i;
  attributes = (ap (λ (o : Option Attribute). changed_row p v o (dossier_of t).attributes) found
      ∙ sym (set_replace attribute_items lt_attribute attribute_order (on_holding k (with_value v)) p t n e (plain (with_value v a))
      (λ b. not (eqb b.name a.name)) (other_attribute p a.name) (tests p (λ b c. not (b && eqb c.name a.name)) (λ x. tt)) new old all)) i;
  permissions = sym (set_keeps permission_items lt_named named_order (on_holding k (with_value v)) (λ m. ap (λ (r : List (ℕ × Permission)). map (named 0) m.permissions ++ r) (items_on k v m.attributes)) p t) i;
}
  where
    f : Holding → Holding
    f = on k (with_value v)

    there : (a ∈ n.attributes) × (a.name ≡ k)
    there = holding_in k n a d

    new : plain (with_value v a) ∈ map plain (map f n.attributes)
    new = Memᴰ.map plain (Memᴰ.cast (sym (pick_yes (called_so k a) (with_value v a) a (yes_eqb there.1))) (Memᴰ.map f there.0))

    stays : (b : Holding) → (T (called_so k b) → ⊥) → f b ≡ b
    stays b c = pick_no (called_so k b) (with_value v b) b c

    old : (x : Attribute) → x ∈ map plain n.attributes → T (not (eqb x.name a.name)) → x ∈ map plain (map f n.attributes)
    old x h c =
        let w = Memᴰ.of_map plain n.attributes h in
        let u : f w.0 ≡ w.0 = stays w.0 (λ s. T_not (eqb x.name a.name) c
        (yes_eqb (sym (ap (λ (y : Attribute). y.name) w.2) ∙ eqb→eq w.0.name k s ∙ sym there.1))) in
        Memᴰ.cast (sym (ap plain u ∙ w.2)) (Memᴰ.map plain (Memᴰ.map f w.1))

    one : (x : Attribute) (b : Holding) → b ∈ n.attributes → plain (f b) ≡ x → Test (called_so k b) → (x ≡ plain (with_value v a)) ⊎ ((x ∈ map plain n.attributes) × T (not (eqb x.name a.name)))
    one x b m c (holds s) =
        inl (sym c ∙ ap plain (pick_yes (called_so k b) (with_value v b) b s) ∙ ap (λ (y : Holding). plain (with_value v y)) (one_holding n g b a m there.0 (eqb→eq b.name k s ∙ sym there.1)))
    one x b m c (fails s) =
        let u : plain b ≡ x = sym (ap plain (stays b s)) ∙ c in
        inr (Memᴰ.cast (sym u) (Memᴰ.map plain m), no_eqb (λ z. s (yes_eqb (ap (λ (y : Attribute). y.name) u ∙ z ∙ there.1))))

    all : (x : Attribute) → x ∈ map plain (map f n.attributes) → (x ≡ plain (with_value v a)) ⊎ ((x ∈ map plain n.attributes) × T (not (eqb x.name a.name)))
    all x h =
        let w = Memᴰ.of_map plain (map f n.attributes) h in
        let u = Memᴰ.of_map f n.attributes w.1 in
        one x u.0 u.1 (ap plain u.2 ∙ w.2) (test (called_so k u.0))

-- ---- permissions
abbrev regrant : (List Permission → List Permission) → Holding → Holding
regrant f a = record { name = a.name; owner = a.owner; value = a.value; permissions = f a.permissions }

-- the permissions of the node or of the attribute changed: b says which
abbrev on_either : Bool → ℕ → (List Permission → List Permission) → Node → Node
on_either b k f n = pick b (record { owner = n.owner; permissions = f n.permissions; attributes = n.attributes }) (on_holding k (regrant f) n)

-- l are the permissions of the object of that name
abbrev pub Its : ℕ → Node → List Permission → Type 0
Its k n l = ((k ≡ 0) × (l ≡ n.permissions)) ⊎ ((a : Holding) × (a ∈ n.attributes) × (a.name ≡ k) × (l ≡ a.permissions))

its_grant : (k : ℕ) (n : Node) (l : List Permission) (h : Permission) → Its k n l → h ∈ l → Grant n (named k h)
its_grant k n l h (inl w) m = inl (w.0, subst (λ (r : List Permission). h ∈ r) w.1 m)
its_grant k n l h (inr w) m = inr (w.0, w.1, w.2, subst (λ (r : List Permission). h ∈ r) w.3 m)

grant_its : (k : ℕ) (n : Node) (h : Permission) → Grant n (named k h) → (l : List Permission) × Its k n l × (h ∈ l)
grant_its k n h (inl w) = (n.permissions, inl (w.0, refl), w.1)
grant_its k n h (inr w) = (w.0.permissions, inr (w.0, w.1, w.2, refl), w.3)

module _ (k : ℕ) (f : List Permission → List Permission) where
  on_nodes : (n : Node) → node_items (on_permissions k f n) ≡ node_items n
  on_nodes n = go (eqb k 0)
    where
      go : (b : Bool) → node_items (on_either b k f n) ≡ node_items n
      go true = refl
      go false = refl

  on_attributes : (n : Node) → attribute_items (on_permissions k f n) ≡ attribute_items n
  on_attributes n = go (eqb k 0)
    where
      go : (b : Bool) → attribute_items (on_either b k f n) ≡ attribute_items n
      go true = refl
      go false = map_on k (regrant f) plain (λ a. refl) n.attributes

  module _ (n : Node) (g : GoodNode n) where
    -- a permission afterwards is one of the object's new ones, or an old one of another object
    abbrev Afterwards : ℕ × Permission → Type 0
    Afterwards x = ((x.0 ≡ k) × ((l : List Permission) × Its k n l × (x.1 ∈ f l))) ⊎ ((x.0 ≡ k → ⊥) × Grant n x)

    held_back : (x : ℕ × Permission) (a : Holding) → a ∈ n.attributes → (on k (regrant f) a).name ≡ x.0 → x.1 ∈ (on k (regrant f) a).permissions → Test (called_so k a) → Afterwards x
    held_back x a m c h (holds s) =
        let e : on k (regrant f) a ≡ regrant f a = pick_yes (called_so k a) (regrant f a) a s in
        let d : a.name ≡ k = eqb→eq a.name k s in
        inl (sym c ∙ ap (λ (y : Holding). y.name) e ∙ d, (a.permissions, inr (a, m, d, refl), subst (λ (y : Holding). x.1 ∈ y.permissions) e h))
    held_back x a m c h (fails s) =
        let e : on k (regrant f) a ≡ a = pick_no (called_so k a) (regrant f a) a s in
        let d : a.name ≡ x.0 = sym (ap (λ (y : Holding). y.name) e) ∙ c in
        inr (λ z. s (yes_eqb (d ∙ z)), inr (a, m, d, subst (λ (y : Holding). x.1 ∈ y.permissions) e h))

    on_back : (x : ℕ × Permission) → Grant (on_permissions k f n) x → Afterwards x
    on_back x = go (eqb k 0) (eqb→eq k 0) (λ c d. c (yes_eqb d))
      where
        go : (b : Bool) → (T b → k ≡ 0) → ((T b → ⊥) → k ≡ 0 → ⊥) → Grant (on_either b k f n) x → Afterwards x
        go true y z (inl w) = inl (w.0 ∙ sym (y tt), (n.permissions, inl (y tt, refl), w.1))
        go true y z (inr w) = inr (λ d. not_zero w.0.name (g.attributes w.0 w.1).name (w.2 ∙ d ∙ y tt), inr w)
        go false y z (inl w) = inr (λ d. z (λ t. t) (sym d ∙ w.0), inl w)
        go false y z (inr w) =
            let u = Memᴰ.of_map (on k (regrant f)) n.attributes w.1 in
            held_back x u.0 u.1 (ap (λ (y : Holding). y.name) u.2 ∙ w.2) (subst (λ (y : Holding). x.1 ∈ y.permissions) (sym u.2) w.3) (test (called_so k u.0))

    on_other : (x : ℕ × Permission) → (x.0 ≡ k → ⊥) → Grant n x → Grant (on_permissions k f n) x
    on_other x c = go (eqb k 0) (eqb→eq k 0)
      where
        go : (b : Bool) → (T b → k ≡ 0) → Grant n x → Grant (on_either b k f n) x
        go true y (inl w) = absurd (c (w.0 ∙ sym (y tt)))
        go true y (inr w) = inr w
        go false y (inl w) = inl w
        go false y (inr w) =
            inr (w.0, Memᴰ.cast (sym (pick_no (called_so k w.0) (regrant f w.0) w.0 (λ s. c (sym w.2 ∙ eqb→eq w.0.name k s)))) (Memᴰ.map (on k (regrant f)) w.1), w.2, w.3)

    on_in : (l : List Permission) (h : Permission) → Its k n l → h ∈ f l → Grant (on_permissions k f n) (named k h)
    on_in l h = go (eqb k 0) (eqb→eq k 0) (λ c d. c (yes_eqb d))
      where
        go : (b : Bool) → (T b → k ≡ 0) → ((T b → ⊥) → k ≡ 0 → ⊥) → Its k n l → h ∈ f l → Grant (on_either b k f n) (named k h)
        go true y z (inl w) m = inl (w.0, subst (λ (r : List Permission). h ∈ f r) w.1 m)
        go true y z (inr w) m = absurd (not_zero w.0.name (g.attributes w.0 w.1).name (w.2 ∙ y tt))
        go false y z (inl w) m = absurd (z (λ t. t) w.0)
        go false y z (inr w) m =
            let e : on k (regrant f) w.0 ≡ regrant f w.0 = pick_yes (called_so k w.0) (regrant f w.0) w.0 (yes_eqb w.2) in
            inr (
              on k (regrant f) w.0,
              Memᴰ.map (on k (regrant f)) w.1,
              ap (λ (y : Holding). y.name) e ∙ w.2,
              subst (λ (y : Holding). h ∈ y.permissions) (sym e) (subst (λ (r : List Permission). h ∈ f r) w.3 m),
            )

    -- an old permission of the object that is among its new ones
    on_kept : (x : ℕ × Permission) → ((l : List Permission) → x.1 ∈ l → x.0 ≡ k → x.1 ∈ f l) → Grant n x → Grant (on_permissions k f n) x
    on_kept x s h = go (test (eqb x.0 k))
      where
        go : Test (eqb x.0 k) → Grant (on_permissions k f n) x
        go (holds t) =
            let d : x.0 ≡ k = eqb→eq x.0 k t in
            let w = grant_its k n x.1 (subst (λ (m : ℕ). Grant n (named m x.1)) d h) in
            subst (λ (m : ℕ). Grant (on_permissions k f n) (named m x.1)) (sym d) (on_in w.0 x.1 w.1 (s w.0 w.2 d))
        go (fails t) = on_other x (λ d. t (yes_eqb d)) h

module _ (k : ℕ) (h : Permission) (p : Address) (t : Tree Node) (n : Node) (e : look p t ≡ some n) (g : GoodNode n) where
  -- a permission for an object that is there
  pub grant_same : (l : List Permission) → Its k n l → add_permission p k h (dossier_of t) ≡ dossier_of (set_at (with_permission k h) p t)
  grant_same l s = λ i. record {
    nodes = sym (set_keeps node_items ltb nat_order (with_permission k h) (on_nodes k f) p t) i;
    attributes = sym (set_keeps attribute_items lt_attribute attribute_order (with_permission k h) (on_attributes k f) p t) i;
    permissions = sym (set_insert permission_items lt_named named_order (with_permission k h) p t n e (named k h) (grant_in_lem (with_permission k h n) (named k h) (on_in k f n g l h s (Memᴰ.head refl)))
        (λ x m. grant_in_lem (with_permission k h n) x (on_kept k f n g x (λ r c d. Memᴰ.tail c) (grant_back n x m))) (λ x m. all x (on_back k f n g x (grant_back (with_permission k h n) x m)))) i;
  }
    where
      f : List Permission → List Permission
      f r = h ∷ r

      its : (x : ℕ × Permission) (r : List Permission) → x.0 ≡ k → Its k n r → x.1 ∈ h ∷ r → (x ≡ named k h) ⊎ (x ∈ permission_items n)
      its x r d w (Memᴰ.head c) = inl (λ i. named (d i) (c i))
      its x r d w (Memᴰ.tail m) = inr (grant_in_lem n x (subst (λ (j : ℕ). Grant n (named j x.1)) (sym d) (its_grant k n r x.1 w m)))

      all : (x : ℕ × Permission) → Afterwards k f n g x → (x ≡ named k h) ⊎ (x ∈ permission_items n)
      all x (inl w) = its x w.1.0 w.0 w.1.1 w.1.2
      all x (inr w) = inr (grant_in_lem n x w.1)

  pub revoke_same : delete_permission p k h (dossier_of t) ≡ dossier_of (set_at (without_permission k h) p t)
  revoke_same = λ i. record {
    nodes = sym (set_keeps node_items ltb nat_order (without_permission k h) (on_nodes k f) p t) i;
    attributes = sym (set_keeps attribute_items lt_attribute attribute_order (without_permission k h) (on_attributes k f) p t) i;
    permissions = sym (set_sift permission_items lt_named named_order (without_permission k h) p t n e (λ x. not (eqb x.0 k && same_permission h x.1)) (other_permission p k h)
        (tests p (λ b x. not ((b && eqb x.0 k) && same_permission h x.1)) (λ x. tt))
        (λ x m c. grant_in_lem (without_permission k h n) x
        (on_kept k f n g x (λ r d z. keep_in other x.1 r d (second (eqb x.0 k) (same_permission h x.1) c (yes_eqb z))) (grant_back n x m)))
        (λ x m. all x (on_back k f n g x (grant_back (without_permission k h n) x m)))) i;
  }
    where
      other : Permission → Bool
      other y = not (same_permission h y)

      f : List Permission → List Permission
      f r = move (keep other) r

      second : (b c : Bool) → T (not (b && c)) → T b → T (not c)
      second true c s z = s
      second false c s z = absurd z

      either : (b c : Bool) → T (not c) → T (not (b && c))
      either true c s = s
      either false c s = tt

      neither : (b c : Bool) → (T b → ⊥) → T (not (b && c))
      neither true c s = absurd (s tt)
      neither false c s = tt

      all : (x : ℕ × Permission) → Afterwards k f n g x → (x ∈ permission_items n) × T (not (eqb x.0 k && same_permission h x.1))
      all x (inl w) =
          let v = keep_back other x.1 w.1.0 w.1.2 in
          (grant_in_lem n x (subst (λ (j : ℕ). Grant n (named j x.1)) (sym w.0) (its_grant k n w.1.0 x.1 w.1.1 v.0)), either (eqb x.0 k) (same_permission h x.1) v.1)
      all x (inr w) = (grant_in_lem n x w.1, neither (eqb x.0 k) (same_permission h x.1) (λ s. w.0 (eqb→eq x.0 k s)))
