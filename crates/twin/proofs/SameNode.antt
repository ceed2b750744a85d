-- What a node's rows, in order, say of it is what the node says of itself: its permissions, its attributes and theirs, and none of them twice. Assumes nothing.
use mathlib.Core.Path.{◌≡◌, refl, sym, ap, subst, ◌∙◌}
use mathlib.Core.Logic.{◌⊎◌, inl, inr}
use mathlib.Core.Bool.{Bool, ◌&&◌}
use mathlib.Core.Option
use mathlib.Core.Option.{Option, none, some}
use mathlib.Core.List.Memᴰ
use mathlib.Core.List.{List, [], ◌∷◌, map}
use Prim.Native.Nat.{ℕ, ◌≤◌}
use native.Mathlib.Omega.{arith}
use lib.Signed.{le_z}
use lib.Dec.{T, eqb, leb, ltb, leb→le, eqb→eq, eqb_refl}
use mir.Facts.{and_yes, yes_and, yes_eqb}
use Rattle.laws.specs.Sorted.{◌∈◌, StrictOrder, Sorted, merge, move}
use Rattle.laws.proofs.Sorted.{same, merge_new, sort_sorted, sort_back, move_in, move_back, move_sorted}
use Rattle.laws.proofs.Order.{nat_order}
use Rattle.path.proofs.Moves.{pick_yes}
use Rattle.model.specs.Things.{Attribute, Permission, lt_attribute, lt_permission}
use Rattle.model.specs.Decide.{meet, overlap, clash}
use Rattle.model.specs.Moves as moves
use Rattle.model.specs.Moves.{head, called}
use Rattle.model.specs.Refusals.{name_good, permission_good}
use Rattle.roundtrip.proofs.Checks.{or_right, let_in}
use Rattle.roundtrip.proofs.Orders.{permission_order, attribute_order, lt_named, named_order}
use Rattle.roundtrip.proofs.Clash.{clash_in}
use Rattle.roundtrip.proofs.Records.{times_good}
use Rattle.roundtrip.proofs.Found.{second_in, second_back, second_mono}
use Rattle.twin.specs.Twin.{Holding, Node, in_order, plain, attributes_of, holding, attribute_items, named, holding_items, permission_items}
use Rattle.twin.specs.Good.{NoClash, Distinct, GoodPermissions, GoodNode}
use Rattle.twin.proofs.Count.{append_once, map_once}
use Rattle.twin.proofs.KeepNode.{names, not_taken, holding_in, one_called, head_one, plain_once}

-- a list in order with the members of another is the other in order
pub in_order_is : {A : Type 0} (lt : A → A → Bool) → StrictOrder lt → {l : List A} (m : List A) → Sorted lt l → ((x : A) → x ∈ l → x ∈ m) → ((x : A) → x ∈ m → x ∈ l) → l ≡ merge lt m []
in_order_is lt o m s f g = same lt o s (sort_sorted lt o m) (λ x h. merge_new lt o m x [] (f x h), λ x h. g x (sort_back lt o m x h))

-- ---- which permissions a node gives, with the names of their objects
-- the permission is that of an attribute of the list
abbrev pub Of : List Holding → ℕ × Permission → Type 0
Of l x = (a : Holding) × (a ∈ l) × (a.name ≡ x.0) × (x.1 ∈ a.permissions)

of_in : (l : List Holding) (a : Holding) (g : Permission) → a ∈ l → g ∈ a.permissions → named a.name g ∈ holding_items l
of_in [] a g h m = absurd (Memᴰ.not-nil h)
of_in (x ∷ l) a g h m = go (λ k. of_in l a g k m) (Memᴰ.cases_cons h)
  where
    go : (a ∈ l → named a.name g ∈ holding_items l) → (a ≡ x) ⊎ (a ∈ l) → named a.name g ∈ holding_items (x ∷ l)
    go f (inl e) =
        Memᴰ.append_left (holding_items l)
        (subst (λ (y : Holding). named y.name g ∈ map (named x.name) x.permissions) (sym e) (Memᴰ.map (named x.name) (subst (λ (y : Holding). g ∈ y.permissions) e m)))
    go f (inr k) = Memᴰ.append_right (map (named x.name) x.permissions) (f k)

of_back : (l : List Holding) (x : ℕ × Permission) → x ∈ holding_items l → Of l x
of_back [] x h = absurd (Memᴰ.not-nil h)
of_back (a ∷ l) x h = go (Memᴰ.append_cases (map (named a.name) a.permissions) h) (of_back l x)
  where
    go : (x ∈ map (named a.name) a.permissions) ⊎ (x ∈ holding_items l) → (x ∈ holding_items l → Of l x) → Of (a ∷ l) x
    go (inl m) ih =
        let w = Memᴰ.of_map (named a.name) a.permissions m in
        (a, Memᴰ.head refl, ap (λ (y : ℕ × Permission). y.0) w.2, Memᴰ.cast (sym (ap (λ (y : ℕ × Permission). y.1) w.2)) w.1)
    go (inr m) ih = let w = ih m in (w.0, Memᴰ.tail w.1, w.2, w.3)

-- it is the node's own, under name 0, or that of an attribute
abbrev pub Grant : Node → ℕ × Permission → Type 0
Grant n x = ((x.0 ≡ 0) × (x.1 ∈ n.permissions)) ⊎ Of n.attributes x

pub grant_in_lem : (n : Node) (x : ℕ × Permission) → Grant n x → x ∈ permission_items n
grant_in_lem n x (inl w) = Memᴰ.append_left (holding_items n.attributes) (Memᴰ.cast (ap (λ (k : ℕ). named k x.1) w.0) (Memᴰ.map (named 0) w.1))
grant_in_lem n x (inr w) =
    Memᴰ.append_right (map (named 0) n.permissions) (Memᴰ.cast (ap (λ (k : ℕ). named k x.1) (sym w.2)) (of_in n.attributes w.0 x.1 w.1 w.3))

pub grant_back : (n : Node) (x : ℕ × Permission) → x ∈ permission_items n → Grant n x
grant_back n x h = go (Memᴰ.append_cases (map (named 0) n.permissions) h)
  where
    go : (x ∈ map (named 0) n.permissions) ⊎ (x ∈ holding_items n.attributes) → Grant n x
    go (inl m) =
        let w = Memᴰ.of_map (named 0) n.permissions m in
        inl (sym (ap (λ (y : ℕ × Permission). y.0) w.2), Memᴰ.cast (sym (ap (λ (y : ℕ × Permission). y.1) w.2)) w.1)
    go (inr m) = inr (of_back n.attributes x m)

-- ---- the permissions of one object
-- those under a name are the permissions l, in order, if l are those under it
named_are : (k : ℕ) (n : Node) (l : List Permission) → ((g : Permission) → g ∈ l → Grant n (named k g)) → ((g : Permission) → Grant n (named k g) → g ∈ l)
    → move (moves.named k) (merge lt_named (permission_items n) []) ≡ in_order l
named_are k n l f g =
    in_order_is lt_permission permission_order l (move_sorted lt_named lt_permission (moves.named k) (second_mono (λ a. eqb a k) k (λ a. eqb→eq a k) ltb nat_order lt_permission) (sort_sorted lt_named named_order all))
    (λ x h. g x (grant_back n (named k x) (sort_back lt_named named_order all (named k x) (second_back (λ a. eqb a k) k (λ a. eqb→eq a k) x (merge lt_named all []) h))))
    (λ x h. second_in (λ a. eqb a k) k (λ a. eqb→eq a k) (eqb_refl k) x (merge lt_named all []) (merge_new lt_named named_order all (named k x) [] (grant_in_lem n (named k x) (f x h))))
  where
    all : List (ℕ × Permission)
    all = permission_items n

-- "name (0 for a node)"
pub not_zero : (k : ℕ) → T (name_good k) → k ≡ 0 → ⊥
not_zero k t e = let h : 1 ≤ k = leb→le 1 k (and_yes (leb 1 k) (leb k 65535) t).0 in omega arith

pub one_holding : (n : Node) → GoodNode n → (a b : Holding) → a ∈ n.attributes → b ∈ n.attributes → a.name ≡ b.name → a ≡ b
one_holding n g a b h k e = one_called n.attributes g.distinct a b h k e

pub own_permissions : (n : Node) → GoodNode n → move (moves.named 0) (merge lt_named (permission_items n) []) ≡ in_order n.permissions
own_permissions n g = named_are 0 n n.permissions (λ x h. inl (refl, h)) (λ x w. go x w)
  where
    go : (x : Permission) → Grant n (named 0 x) → x ∈ n.permissions
    go x (inl w) = w.1
    go x (inr w) = absurd (not_zero w.0.name (g.attributes w.0 w.1).name w.2)

pub held_permissions : (n : Node) → GoodNode n → (a : Holding) → a ∈ n.attributes
    → move (moves.named a.name) (merge lt_named (permission_items n) []) ≡ in_order a.permissions
held_permissions n g a m = named_are a.name n a.permissions (λ x h. inr (a, m, refl, h)) (λ x w. go x w)
  where
    go : (x : Permission) → Grant n (named a.name x) → x ∈ a.permissions
    go x (inl w) = absurd (not_zero a.name (g.attributes a m).name w.0)
    go x (inr w) = subst (λ (b : Holding). x ∈ b.permissions) (one_holding n g w.0 a w.1 m w.2) w.3

-- ---- the attribute of a name
head_no : {A : Type 0} (l : List A) → ((y : A) → y ∈ l → ⊥) → head l ≡ none
head_no [] f = refl
head_no (y ∷ l) f = absurd (f y (Memᴰ.head refl))

called_back : (k : ℕ) (n : Node) (x : Attribute) → x ∈ move (called k) (attributes_of n) → (a : Holding) × (a ∈ n.attributes) × (plain a ≡ x) × (a.name ≡ k)
called_back k n x h =
    let w = move_back (called k) x (attributes_of n) h in
    let v = let_in (eqb w.0.name k) w.0 x w.2 in
    let u = Memᴰ.of_map plain n.attributes (sort_back lt_attribute attribute_order (attribute_items n) w.0 w.1) in
    (u.0, u.1, u.2 ∙ v.1, ap (λ (a : Attribute). a.name) u.2 ∙ eqb→eq w.0.name k v.0)

pub called_one : (k : ℕ) (n : Node) → GoodNode n → head (move (called k) (attributes_of n)) ≡ Option.map plain (holding k n)
called_one k n g = go (holding k n) refl
  where
    go : (o : Option Holding) → holding k n ≡ o → head (move (called k) (attributes_of n)) ≡ Option.map plain o
    go none e =
        head_no (move (called k) (attributes_of n))
        (λ x h. let w = called_back k n x h in not_taken k n e (Memᴰ.cast (sym w.3) (Memᴰ.map (λ (a : Holding). a.name) w.1)))
    go (some a) e =
        let u = holding_in k n a e in
        head_one (move (called k) (attributes_of n)) (plain a)
        (move_in (called k) (merge_new lt_attribute attribute_order (attribute_items n) (plain a) [] (Memᴰ.map plain u.0))
        (pick_yes (eqb a.name k) (some (plain a)) none (yes_eqb u.1)))
        (λ x h. let w = called_back k n x h in sym w.2 ∙ ap plain (one_holding n g w.0 a w.1 u.0 (w.3 ∙ sym u.1)))

-- ---- no attribute and no permission twice
-- a good permission has a time and a user, which it shares with itself
pub self_clash : (k : ℕ) (g : Permission) → T (permission_good k g) → T (clash g g)
self_clash k g t =
    let z = (times_good k g t).2 in
    yes_and (eqb g.role g.role && (eqb g.action g.action && meet g.user g.user)) (overlap g g)
    (yes_and (eqb g.role g.role) _ (eqb_refl g.role)
    (yes_and (eqb g.action g.action) _ (eqb_refl g.action)
    (or_right (eqb g.user 0) _ (or_right (eqb g.user 0) _ (eqb_refl g.user)))))
    (yes_and (le_z g.first g.last) _ z z)

once : (l : List Permission) → ((g : Permission) → g ∈ l → T (clash g g)) → NoClash l → Distinct l
once [] f n = tt
once (g ∷ l) f n = (λ m. n.0 (clash_in g g l m (f g (Memᴰ.head refl))), once l (λ h m. f h (Memᴰ.tail m)) n.1)

pub permissions_once : (k : ℕ) (l : List Permission) → GoodPermissions k l → Distinct l
permissions_once k l p = once l (λ g m. self_clash k g (p.each g m)) p.no_clash

pub attributes_once : (n : Node) → GoodNode n → Distinct (attribute_items n)
attributes_once n g = plain_once n.attributes g.distinct

named_once : (k : ℕ) (l : List Permission) → Distinct l → Distinct (map (named k) l)
named_once k l u = map_once (named k) (λ a b e. ap (λ (y : ℕ × Permission). y.1) e) l u

holdings_once : (l : List Holding) → Distinct (names l) → ((a : Holding) → a ∈ l → Distinct a.permissions) → Distinct (holding_items l)
holdings_once [] d f = tt
holdings_once (a ∷ l) d f =
    append_once (map (named a.name) a.permissions) (holding_items l) (named_once a.name a.permissions (f a (Memᴰ.head refl)))
    (holdings_once l d.1 (λ b m. f b (Memᴰ.tail m)))
    (λ x h m.
    let w = Memᴰ.of_map (named a.name) a.permissions h in
    let v = of_back l x m in
    d.0 (Memᴰ.cast (ap (λ (y : ℕ × Permission). y.0) w.2 ∙ sym v.2) (Memᴰ.map (λ (b : Holding). b.name) v.1)))

pub grants_once : (n : Node) → GoodNode n → Distinct (permission_items n)
grants_once n g =
    append_once (map (named 0) n.permissions) (holding_items n.attributes) (named_once 0 n.permissions (permissions_once 0 n.permissions g.permissions))
    (holdings_once n.attributes g.distinct (λ a m. permissions_once a.name a.permissions (g.attributes a m).permissions))
    (λ x h m.
    let w = Memᴰ.of_map (named 0) n.permissions h in
    let v = of_back n.attributes x m in
    not_zero v.0.name (g.attributes v.0 v.1).name (v.2 ∙ sym (ap (λ (y : ℕ × Permission). y.0) w.2)))
