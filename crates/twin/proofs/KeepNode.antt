-- What is done to a good node leaves a good node, with at most so many attributes and permissions more. Assumes nothing.
use mathlib.Core.Path.{◌≡◌, refl, sym, ap, ap₂, subst, ◌∙◌}
use mathlib.Core.Logic.{◌⊎◌, inl, inr}
use mathlib.Core.Bool.{Bool, true, false, not}
use mathlib.Core.Option.{Option, none, some, some-injective, none-ne-some}
use mathlib.Core.List.Memᴰ
use mathlib.Core.List.{List, [], ◌∷◌, map}
use Prim.Native.Nat.{ℕ, suc, ◌+◌, ◌≤◌}
use native.Mathlib.Omega.{arith}
use lib.Dec.{T, eqb, eqb→eq}
use lib.ListN.{length, length-append, length-map}
use mir.Facts.{yes_eqb}
use Rattle.laws.specs.Slots.{pick}
use Rattle.laws.specs.Sorted.{◌∈◌, push, move}
use Rattle.laws.proofs.Sorted.{merge_new}
use Rattle.path.proofs.Moves.{Test, holds, fails, test, pick_yes, pick_no}
use Rattle.model.specs.Things.{Value, Attribute, Permission, lt_attribute, lt_permission}
use Rattle.model.specs.Decide.{clash, clash_any}
use Rattle.model.specs.Moves.{keep, head}
use Rattle.model.specs.Refusals.{value_good, permission_good}
use Rattle.model.specs.Image.{there}
use Rattle.roundtrip.proofs.Orders.{permission_order, attribute_order}
use Rattle.roundtrip.proofs.Clash.{clash_back, clash_in, clash_sym}
use Rattle.roundtrip.proofs.Found.{there_head}
use Rattle.twin.specs.Twin.{Holding, Node, in_order, plain, attributes_of, called_so, holding, named, holding_items, permission_items, with_holding, without_holding, on_holding, with_value, on_permissions}
use Rattle.twin.specs.Good.{NoClash, Distinct, GoodPermissions, GoodHolding, GoodNode}
use Rattle.twin.proofs.Update.{keep_in, keep_back}
use Rattle.twin.proofs.Count.{sort_length}

-- ---- part of a list
module _ {A : Type 0} (test : A → Bool) where
  push_length : (b : Bool) (x : A) (l r : List A) → length r ≤ length l → length (push (pick b (some x) none) r) ≤ suc (length l)
  push_length true x l r h = omega arith
  push_length false x l r h = omega arith

  pub kept_length : (l : List A) → length (move (keep test) l) ≤ length l
  kept_length [] = omega arith
  kept_length (x ∷ l) = push_length (test x) x l (move (keep test) l) (kept_length l)

-- ---- permissions that do not clash
pub one_clashes : (l : List Permission) → NoClash l → (g h : Permission) → g ∈ l → h ∈ l → T (clash g h) → g ≡ h
one_clashes [] n g h m k t = absurd (Memᴰ.not-nil m)
one_clashes (x ∷ l) n g h m k t = go (λ a b. one_clashes l n.1 g h a b t) (Memᴰ.cases_cons m) (Memᴰ.cases_cons k)
  where
    go : (g ∈ l → h ∈ l → g ≡ h) → (g ≡ x) ⊎ (g ∈ l) → (h ≡ x) ⊎ (h ∈ l) → g ≡ h
    go f (inl e) (inl d) = e ∙ sym d
    go f (inl e) (inr b) = absurd (n.0 (clash_in x h l b (subst (λ (y : Permission). T (clash y h)) e t)))
    go f (inr a) (inl d) = absurd (n.0 (clash_in x g l a (subst (λ (y : Permission). T (clash y g)) d (clash_sym g h t))))
    go f (inr a) (inr b) = f a b

-- order does not matter
in_order_lem : (g : Permission) (l : List Permission) → (T (clash_any g (in_order l)) → ⊥) → T (clash_any g l) → ⊥
in_order_lem g l n t = let w = clash_back g l t in n (clash_in g w.0 (in_order l) (merge_new lt_permission permission_order l w.0 [] w.1) w.2)

no_clash_kept : (test : Permission → Bool) (l : List Permission) → NoClash l → NoClash (move (keep test) l)
no_clash_kept test [] n = n
no_clash_kept test (x ∷ l) n = go (test x) (no_clash_kept test l n.1)
  where
    go : (b : Bool) → NoClash (move (keep test) l) → NoClash (push (pick b (some x) none) (move (keep test) l))
    go true k = (λ t. let w = clash_back x (move (keep test) l) t in n.0 (clash_in x w.0 l (keep_back test w.0 l w.1).0 w.2), k)
    go false k = k

pub granted_good : (name : ℕ) (g : Permission) (l : List Permission) → T (permission_good name g) → (T (clash_any g (in_order l)) → ⊥) → GoodPermissions name l → GoodPermissions name (g ∷ l)
granted_good name g l t n p = record { each = λ h m. go h m; no_clash = (in_order_lem g l n, p.no_clash) }
  where
    go : (h : Permission) → h ∈ g ∷ l → T (permission_good name h)
    go h (Memᴰ.head e) = subst (λ (z : Permission). T (permission_good name z)) (sym e) t
    go h (Memᴰ.tail m) = p.each h m

pub revoked_good : (name : ℕ) (test : Permission → Bool) (l : List Permission) → GoodPermissions name l → GoodPermissions name (move (keep test) l)
revoked_good name test l p = record { each = λ h m. p.each h (keep_back test h l m).0; no_clash = no_clash_kept test l p.no_clash }

-- ---- names
abbrev pub names : List Holding → List ℕ
names l = map (λ a. a.name) l

distinct_kept : (test : Holding → Bool) (l : List Holding) → Distinct (names l) → Distinct (names (move (keep test) l))
distinct_kept test [] d = d
distinct_kept test (x ∷ l) d = go (test x) (distinct_kept test l d.1)
  where
    go : (b : Bool) → Distinct (names (move (keep test) l)) → Distinct (names (push (pick b (some x) none) (move (keep test) l)))
    go true k = (
      λ m.
          let w = Memᴰ.of_map (λ a. a.name) (move (keep test) l) m in
          d.0 (Memᴰ.cast (sym w.2) (Memᴰ.map (λ a. a.name) (keep_back test w.0 l w.1).0)),
      k,
    )
    go false k = k

-- a name that is not taken
pub not_taken : (name : ℕ) (n : Node) → holding name n ≡ none → name ∈ names n.attributes → ⊥
not_taken name n e m =
    let w = Memᴰ.of_map (λ a. a.name) n.attributes m in
    subst (λ (o : Option Holding). T (there o)) e (there_head (keep_in (called_so name) w.0 n.attributes w.1 (yes_eqb w.2)))

-- the attribute that is found is on the node and has the name
head_in : {A : Type 0} (l : List A) (a : A) → head l ≡ some a → a ∈ l
head_in [] a e = absurd (none-ne-some a e)
head_in (x ∷ l) a e = Memᴰ.head (sym (some-injective x a e))

pub holding_in : (name : ℕ) (n : Node) (a : Holding) → holding name n ≡ some a → (a ∈ n.attributes) × (a.name ≡ name)
holding_in name n a e =
    let w = keep_back (called_so name) a n.attributes (head_in (move (keep (called_so name)) n.attributes) a e) in (w.0, eqb→eq a.name name w.1)

-- and it is the only one of that name
pub one_called : (l : List Holding) → Distinct (names l) → (a b : Holding) → a ∈ l → b ∈ l → a.name ≡ b.name → a ≡ b
one_called [] d a b h k n = absurd (Memᴰ.not-nil h)
one_called (x ∷ l) d a b h k n = go (λ i j. one_called l d.1 a b i j n) (Memᴰ.cases_cons h) (Memᴰ.cases_cons k)
  where
    go : (a ∈ l → b ∈ l → a ≡ b) → (a ≡ x) ⊎ (a ∈ l) → (b ≡ x) ⊎ (b ∈ l) → a ≡ b
    go f (inl e) (inl c) = e ∙ sym c
    go f (inl e) (inr j) = absurd (d.0 (Memᴰ.cast (sym (ap (λ (y : Holding). y.name) e) ∙ n) (Memᴰ.map (λ y. y.name) j)))
    go f (inr i) (inl c) = absurd (d.0 (Memᴰ.cast (sym (ap (λ (y : Holding). y.name) c) ∙ sym n) (Memᴰ.map (λ y. y.name) i)))
    go f (inr i) (inr j) = f i j

pub head_one : {A : Type 0} (l : List A) (x : A) → x ∈ l → ((y : A) → y ∈ l → y ≡ x) → head l ≡ some x
head_one [] x h f = absurd (Memᴰ.not-nil h)
head_one (y ∷ l) x h f = ap some (f y (Memᴰ.head refl))

pub holding_one : (name : ℕ) (n : Node) (a : Holding) → Distinct (names n.attributes) → a ∈ n.attributes → T (called_so name a) → holding name n ≡ some a
holding_one name n a d m t =
    head_one (move (keep (called_so name)) n.attributes) a (keep_in (called_so name) a n.attributes m t)
    (λ y h. let w = keep_back (called_so name) y n.attributes h in one_called n.attributes d y a w.0 m (eqb→eq y.name name w.1 ∙ sym (eqb→eq a.name name t)))

-- ---- as many attributes in order as there are: no two share a name
pub plain_once : (l : List Holding) → Distinct (names l) → Distinct (map plain l)
plain_once [] d = tt
plain_once (a ∷ l) d = (
  λ h.
      let w = Memᴰ.of_map plain l h in
      d.0 (Memᴰ.cast (sym (ap (λ (x : Attribute). x.name) w.2)) (Memᴰ.map (λ (b : Holding). b.name) w.1)),
  plain_once l d.1,
)

pub attributes_length : (n : Node) → Distinct (names n.attributes) → length (map (λ (a : Attribute). a.name) (attributes_of n)) ≡ length n.attributes
attributes_length n d =
    length-map (attributes_of n) (λ a. a.name) ∙ sort_length lt_attribute attribute_order (map plain n.attributes) (plain_once n.attributes d)
    ∙ length-map n.attributes plain

-- ---- how many permissions
holding_length : (a : Holding) (l : List Holding) → length (holding_items (a ∷ l)) ≡ length a.permissions + length (holding_items l)
holding_length a l =
    length-append (map (named a.name) a.permissions) (holding_items l) ∙ ap (λ (k : ℕ). k + length (holding_items l)) (length-map a.permissions (named a.name))

pub permissions_length : (n : Node) → length (permission_items n) ≡ length n.permissions + length (holding_items n.attributes)
permissions_length n =
    length-append (map (named 0) n.permissions) (holding_items n.attributes)
    ∙ ap (λ (k : ℕ). k + length (holding_items n.attributes)) (length-map n.permissions (named 0))

kept_items : (test : Holding → Bool) (l : List Holding) → length (holding_items (move (keep test) l)) ≤ length (holding_items l)
kept_items test [] = omega arith
kept_items test (x ∷ l) = go (test x) (kept_items test l)
  where
    go : (b : Bool) → length (holding_items (move (keep test) l)) ≤ length (holding_items l) → length (holding_items (push (pick b (some x) none) (move (keep test) l))) ≤ length (holding_items (x ∷ l))
    go true h = omega (arith, holding_length x l, holding_length x (move (keep test) l))
    go false h = omega (arith, holding_length x l)

pub one_of_items : (l : List Holding) (a : Holding) → a ∈ l → length a.permissions ≤ length (holding_items l)
one_of_items [] a h = absurd (Memᴰ.not-nil h)
one_of_items (x ∷ l) a h = go (one_of_items l a) (Memᴰ.cases_cons h)
  where
    go : (a ∈ l → length a.permissions ≤ length (holding_items l)) → (a ≡ x) ⊎ (a ∈ l) → length a.permissions ≤ length (holding_items (x ∷ l))
    go f (inl e) = let d : length a.permissions ≡ length x.permissions = ap (λ (z : Holding). length z.permissions) e in omega (arith, holding_length x l)
    go f (inr m) = let d : length a.permissions ≤ length (holding_items l) = f m in omega (arith, holding_length x l)

-- ---- one attribute changed
module _ (name : ℕ) (f : Holding → Holding) where
  abbrev pub on : Holding → Holding
  on a = pick (called_so name a) (f a) a

  on_elsewhere : (l : List Holding) → (name ∈ names l → ⊥) → map on l ≡ l
  on_elsewhere [] n = refl
  on_elsewhere (x ∷ l) n =
      ap₂ (λ (y : Holding) (r : List Holding). y ∷ r) (pick_no (called_so name x) (f x) x (λ t. n (Memᴰ.head (sym (eqb→eq x.name name t)))))
      (on_elsewhere l (λ m. n (Memᴰ.tail m)))

  on_items : (b : ℕ) → ((a : Holding) → length (f a).permissions ≤ b + length a.permissions) → (l : List Holding) → Distinct (names l) → length (holding_items (map on l)) ≤ b + length (holding_items l)
  on_items b h [] d = omega arith
  on_items b h (x ∷ l) d = go (test (called_so name x)) (on_items b h l d.1)
    where
      go : Test (called_so name x) → length (holding_items (map on l)) ≤ b + length (holding_items l) → length (holding_items (map on (x ∷ l))) ≤ b + length (holding_items (x ∷ l))
      go (holds t) k =
          let e : length (holding_items (map on l)) ≡ length (holding_items l)
          = ap (λ (r : List Holding). length (holding_items r)) (on_elsewhere l (λ m. d.0 (Memᴰ.cast (eqb→eq x.name name t) m))) in
          let c : length (on x).permissions ≡ length (f x).permissions = ap (λ (a : Holding). length a.permissions) (pick_yes (called_so name x) (f x) x t) in
          omega (arith, holding_length x l, holding_length (on x) (map on l), h x)
      go (fails n) k =
          let c : length (on x).permissions ≡ length x.permissions = ap (λ (a : Holding). length a.permissions) (pick_no (called_so name x) (f x) x n) in
          omega (arith, holding_length x l, holding_length (on x) (map on l))

  -- what the change keeps of an attribute, it keeps of the list
  pub map_on : {X : Type 0} (h : Holding → X) → ((a : Holding) → h (f a) ≡ h a) → (l : List Holding) → map h (map on l) ≡ map h l
  map_on h e [] = refl
  map_on {X} h e (a ∷ l) = ap₂ (λ (x : X) (r : List X). x ∷ r) (go (called_so name a)) (map_on h e l)
    where
      go : (b : Bool) → h (pick b (f a) a) ≡ h a
      go true = e a
      go false = refl

-- ---- what is done to a node: n is good, m is what it becomes, with at most a attributes and p permissions more
pub record Grows (a p : ℕ) (n m : Node) : Type 0 where
  pub good : GoodNode m
  pub attributes : length m.attributes ≤ a + length n.attributes
  pub permissions : length (permission_items m) ≤ p + length (permission_items n)

pub hold_grows : (a : Holding) (n : Node) → GoodHolding a → holding a.name n ≡ none → length n.attributes + 1 ≤ 16 → GoodNode n → Grows 1 (length a.permissions) n (with_holding a n)
hold_grows a n h e b g = record {
  good = record { owner = g.owner; permissions = g.permissions; attributes = go; distinct = (not_taken a.name n e, g.distinct); few = omega arith };
  attributes = omega arith;
  permissions = omega (arith, permissions_length n, permissions_length (with_holding a n), holding_length a n.attributes);
}
  where
    go : (x : Holding) → x ∈ a ∷ n.attributes → GoodHolding x
    go x (Memᴰ.head d) = subst GoodHolding (sym d) h
    go x (Memᴰ.tail m) = g.attributes x m

pub without_grows : (name : ℕ) (n : Node) → GoodNode n → Grows 0 0 n (without_holding name n)
without_grows name n g =
    let k : length (without_holding name n).attributes ≤ length n.attributes = kept_length (λ a. not (called_so name a)) n.attributes in
    record {
      good = record {
        owner = g.owner;
        permissions = g.permissions;
        attributes = λ x m. g.attributes x (keep_back (λ a. not (called_so name a)) x n.attributes m).0;
        distinct = distinct_kept (λ a. not (called_so name a)) n.attributes g.distinct;
        few = let c : length n.attributes ≤ 16 = g.few in omega arith;
      };
      attributes = omega arith;
      permissions = omega (arith, permissions_length n, permissions_length (without_holding name n), kept_items (λ a. not (called_so name a)) n.attributes);
    }

-- the attribute that is found, changed: it keeps its name
on_grows : (name b : ℕ) (f : Holding → Holding) (n : Node) → ((a : Holding) → (f a).name ≡ a.name) → ((a : Holding) → length (f a).permissions ≤ b + length a.permissions)
    → ((a : Holding) → holding name n ≡ some a → GoodHolding a → GoodHolding (f a)) → GoodNode n → Grows 0 b n (on_holding name f n)
on_grows name b f n k c h g = record {
  good = record {
    owner = g.owner;
    permissions = g.permissions;
    attributes = λ x m. let w = Memᴰ.of_map (on name f) n.attributes m in subst GoodHolding w.2 (go w.0 w.1 (test (called_so name w.0)));
    distinct = subst Distinct (sym (map_on name f (λ a. a.name) k n.attributes)) g.distinct;
    few = let z : length n.attributes ≤ 16 = g.few in omega (arith, length-map n.attributes (on name f));
  };
  attributes = omega (arith, length-map n.attributes (on name f));
  permissions = omega (arith, permissions_length n, permissions_length (on_holding name f n), on_items name f b c n.attributes g.distinct);
}
  where
    go : (a : Holding) → a ∈ n.attributes → Test (called_so name a) → GoodHolding (on name f a)
    go a m (holds t) = subst GoodHolding (sym (pick_yes (called_so name a) (f a) a t)) (h a (holding_one name n a g.distinct m t) (g.attributes a m))
    go a m (fails z) = subst GoodHolding (sym (pick_no (called_so name a) (f a) a z)) (g.attributes a m)

pub value_grows : (name : ℕ) (v : Value) (n : Node) → T (value_good v) → GoodNode n → Grows 0 0 n (on_holding name (with_value v) n)
value_grows name v n t g =
    on_grows name 0 (with_value v) n (λ a. refl) (λ a. omega arith) (λ a e h. record { name = h.name; owner = h.owner; value = t; permissions = h.permissions }) g

-- the permissions of the object changed
pub permissions_grow : (name b : ℕ) (f : List Permission → List Permission) (n : Node) → ((l : List Permission) → length (f l) ≤ b + length l)
    → (T (eqb name 0) → GoodPermissions 0 (f n.permissions)) → ((a : Holding) → (T (eqb name 0) → ⊥) → holding name n ≡ some a → GoodPermissions a.name (f a.permissions))
    → GoodNode n → Grows 0 b n (on_permissions name f n)
permissions_grow name b f n c own other g = go (test (eqb name 0))
  where
    go : Test (eqb name 0) → Grows 0 b n (on_permissions name f n)
    go (holds t) = subst (Grows 0 b n) (sym (pick_yes (eqb name 0) _ _ t)) (record {
      good = record { owner = g.owner; permissions = own t; attributes = g.attributes; distinct = g.distinct; few = g.few };
      attributes = omega arith;
      permissions = omega (arith, permissions_length n, permissions_length (record { owner = n.owner; permissions = f n.permissions; attributes = n.attributes }), c n.permissions);
    })
    go (fails z) = subst (Grows 0 b n) (sym (pick_no (eqb name 0) _ _ z))
        (on_grows name b (λ a. record { name = a.name; owner = a.owner; value = a.value; permissions = f a.permissions }) n (λ a. refl) (λ a. c a.permissions)
        (λ a e h. record { name = h.name; owner = h.owner; value = h.value; permissions = other a z e }) g)
