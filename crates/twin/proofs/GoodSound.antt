-- The tables of a good tree are sound, and so is the state of a good session. Assumes nothing.
use mathlib.Core.Path.{◌≡◌, refl, sym, ap, subst, ◌∙◌}
use mathlib.Core.Logic.{inl, inr}
use mathlib.Core.Bool.{◌&&◌, ◌||◌}
use mathlib.Core.Option.{Option, none, some, map, some-injective, none-ne-some}
use mathlib.Core.List.Memᴰ
use mathlib.Core.List.{[], ◌∷◌}
use Prim.Native.Nat.{ℕ, zero, suc, ◌-◌, ◌≤◌, ◌<◌}
use native.Mathlib.Omega.{arith}
use lib.Dec.{T, eqb, leb, ltb, le→leb, eqb→eq}
use lib.ListN.{length}
use mir.Facts.{and_yes, yes_and, yes_eqb}
use Rattle.laws.specs.Sorted.{◌∈◌}
use Rattle.laws.proofs.Sorted.{sort_sorted, sort_back}
use Rattle.laws.proofs.Order.{nat_order}
use Rattle.path.specs.Address.{Address, steps_good, valid, parent, last}
use Rattle.path.proofs.Moves.{Test, holds, fails, test, pick_yes, pick_no}
use Rattle.model.specs.Things.{Attribute, Permission, lt_attribute, lt_permission}
use Rattle.model.specs.Decide.{clash}
use Rattle.model.specs.Moves as moves
use Rattle.model.specs.Moves.{names_on, grant_row}
use Rattle.model.specs.Refusals.{Sizes, user_good, name_good, value_good, permission_good, is_root}
use Rattle.model.specs.Image.{node_record, attribute_record, permission_record, in_range, left, there}
use Rattle.model.specs.Sound.{Sound, SoundSingle, SoundClipboard, SoundState}
use Rattle.roundtrip.proofs.Checks.{or_left, or_right}
use Rattle.roundtrip.proofs.Orders.{permission_order, attribute_order, lt_named, named_order}
use Rattle.twin.specs.Tree.{Tree, then, payload, kids, count, kid, look, height}
use Rattle.twin.specs.Twin.{Holding, Node, Clip, empty, branched, single, Session, in_order, plain, node_object, holding_object, holding, node_at, attribute_object, names_of, node_items, attribute_items, permission_items}
use Rattle.twin.specs.Good.{dossier_of, clipboard_of, state_of, Each, GoodHolding, GoodNode, GoodTop, GoodTree, GoodSingle, GoodClip, GoodSession}
use Rattle.twin.proofs.Trees.{then_some, child_below, count_child}
use Rattle.twin.proofs.Rows.{table_sorted, table_back}
use Rattle.twin.proofs.Count.{sort_length}
use Rattle.twin.proofs.KeepTree.{each_top, each_kids, each_kid}
use Rattle.twin.proofs.Depth.{look_height}
use Rattle.twin.proofs.KeepNode.{one_clashes, holding_one, attributes_length}
use Rattle.twin.proofs.KeepEdits.{look_good}
use Rattle.twin.proofs.SameNode.{Grant, grant_back, not_zero, one_holding, permissions_once}
use Rattle.twin.proofs.Same.{node_same, object_same, names_same, sizes_same}

-- ---- places
-- a step to a child is 1..32, where there are at most 32 children
step_good_lem : (i : ℕ) (t s : Tree Node) → kid i (kids t) ≡ some s → count (kids t) ≤ 32 → T (leb 1 i && leb i 32)
step_good_lem zero t s e h = absurd (none-ne-some s e)
step_good_lem (suc i) t s e h = let b : i < count (kids t) = child_below (kids t) i s e in yes_and (leb 1 (suc i)) (leb (suc i) 32) (le→leb 1 (suc i) (omega arith)) (le→leb (suc i) 32 (omega arith))

steps_good_lem : (q : Address) (t : Tree Node) (n : Node) → look q t ≡ some n → Each GoodTop t → T (steps_good q)
steps_good_lem [] t n e g = tt
steps_good_lem (i ∷ q) t n e g =
    let w = then_some (kid i (kids t)) (λ s. look q s) n e in
    yes_and (leb 1 i && leb i 32) (steps_good q) (step_good_lem i t w.0 w.1 (each_top GoodTop t g).narrow)
    (steps_good_lem q w.0 n w.2 (each_kid GoodTop i (kids t) w.0 w.1 (each_kids GoodTop t g)))

place_good : (q : Address) (t : Tree Node) (n : Node) → look q t ≡ some n → GoodTree t → T (valid q)
place_good q t n e g =
    let l : length q ≤ height t = look_height q t n e in
    yes_and (leb (length q) 6) (steps_good q) (le→leb (length q) 6 (omega (arith, g.low))) (steps_good_lem q t n e g.each)

abbrev Stands : Address → Tree Node → Type 0
Stands q t = (n : Node) × (look q t ≡ some n)

parent_stands : (k : ℕ) (q : Address) (t : Tree Node) (n : Node) → look (k ∷ q) t ≡ some n → Stands (parent (k ∷ q)) t
parent_stands k [] t n e = (payload t, refl)
parent_stands k (j ∷ q) t n e =
    let w = then_some (kid k (kids t)) (λ s. look (j ∷ q) s) n e in
    let v = parent_stands j q w.0 n w.2 in (v.0, ap (λ (o : Option (Tree Node)). then o (λ s. look (parent (j ∷ q)) s)) w.1 ∙ v.1)

left_kid : (k : ℕ) (t s : Tree Node) → kid k (kids t) ≡ some s → (T (eqb k 1) → ⊥) → Stands ((k - 1) ∷ []) t
left_kid zero t s e n = absurd (none-ne-some s e)
left_kid (suc zero) t s e n = absurd (n tt)
left_kid (suc (suc i)) t s e n =
    let b : suc i < count (kids t) = child_below (kids t) (suc i) s e in
    let w = count_child (kids t) i (omega arith) in
    let d : suc (suc i) - 1 ≡ suc i = omega arith in
    (payload w.0, ap (λ (j : ℕ). then (kid j (kids t)) (λ u. look [] u)) d ∙ ap (λ (o : Option (Tree Node)). then o (λ u. look [] u)) w.1)

left_stands : (k : ℕ) (q : Address) (t : Tree Node) (n : Node) → look (k ∷ q) t ≡ some n → (T (eqb (last (k ∷ q)) 1) → ⊥) → Stands (left (k ∷ q)) t
left_stands k [] t n e h = let w = then_some (kid k (kids t)) (λ s. look [] s) n e in left_kid k t w.0 w.1 h
left_stands k (j ∷ q) t n e h =
    let w = then_some (kid k (kids t)) (λ s. look (j ∷ q) s) n e in
    let v = left_stands j q w.0 n w.2 h in (v.0, ap (λ (o : Option (Tree Node)). then o (λ s. look (left (j ∷ q)) s)) w.1 ∙ v.1)

-- ---- what an attribute and a permission of a good node are
name_small : (name : ℕ) → T (name_good name) → T (leb name 65535)
name_small name t = (and_yes (leb 1 name) (leb name 65535) t).1

holding_fits : (a : Holding) → GoodHolding a → T (name_good a.name && (user_good a.owner && value_good a.value))
holding_fits a h =
    yes_and (name_good a.name) (user_good a.owner && value_good a.value) h.name (yes_and (user_good a.owner) (value_good a.value) h.owner h.value)

grant_fits : (n : Node) → GoodNode n → (x : ℕ × Permission) → Grant n x → T (leb x.0 65535 && permission_good x.0 x.1)
grant_fits n g x (inl w) = subst (λ (k : ℕ). T (leb k 65535 && permission_good k x.1)) (sym w.0) (g.permissions.each x.1 w.1)
grant_fits n g x (inr w) =
    let h = g.attributes w.0 w.1 in
    subst (λ (k : ℕ). T (leb k 65535 && permission_good k x.1)) w.2
    (yes_and (leb w.0.name 65535) (permission_good w.0.name x.1) (name_small w.0.name h.name) (h.permissions.each x.1 w.3))

grants_apart : (n : Node) → GoodNode n → (k : ℕ) (x y : Permission) → Grant n (k, x) → Grant n (k, y) → T (clash x y) → x ≡ y
grants_apart n g k x y (inl v) (inl w) t = one_clashes n.permissions g.permissions.no_clash x y v.1 w.1 t
grants_apart n g k x y (inl v) (inr w) t = absurd (not_zero w.0.name (g.attributes w.0 w.1).name (w.2 ∙ v.0))
grants_apart n g k x y (inr v) (inl w) t = absurd (not_zero v.0.name (g.attributes v.0 v.1).name (v.2 ∙ w.0))
grants_apart n g k x y (inr v) (inr w) t =
    let e : w.0 ≡ v.0 = one_holding n g w.0 v.0 w.1 v.1 (w.2 ∙ sym v.2) in
    one_clashes v.0.permissions (g.attributes v.0 v.1).permissions.no_clash x y v.3 (subst (λ (a : Holding). y ∈ a.permissions) e w.3) t

there_some : {A : Type 0} (o : Option A) (a : A) → o ≡ some a → T (there o)
there_some none a e = absurd (none-ne-some a e)
there_some (some b) a e = tt

-- ---- the tables of a good tree
module _ (t : Tree Node) (g : GoodTree t) where
  node_there : (p : Address) (n : Node) → look p t ≡ some n → T (there (moves.node_at p (dossier_of t)))
  node_there p n e = there_some (moves.node_at p (dossier_of t)) (node_object n) (node_same p t g ∙ ap (map node_object) e)

  object_there : (p : Address) (x : ℕ × Permission) (n : Node) → look p t ≡ some n → Grant n x → T (there (moves.object_at p x.0 (dossier_of t)))
  object_there p x n e (inl w) =
      there_some (moves.object_at p x.0 (dossier_of t)) (node_object n)
      (object_same p x.0 t g ∙ pick_yes (eqb x.0 0) (node_at p t) (attribute_object p x.0 t) (subst (λ (k : ℕ). T (eqb k 0)) (sym w.0) tt) ∙ ap (map node_object) e)
  object_there p x n e (inr w) =
      let h = look_good p t n e g in
      let z : T (eqb x.0 0) → ⊥ = λ s. not_zero w.0.name (h.attributes w.0 w.1).name (w.2 ∙ eqb→eq x.0 0 s) in
      let f : holding x.0 n ≡ some w.0 = holding_one x.0 n w.0 h.distinct w.1 (yes_eqb w.2) in
      there_some (moves.object_at p x.0 (dossier_of t)) (holding_object w.0)
      (object_same p x.0 t g ∙ pick_no (eqb x.0 0) (node_at p t) (attribute_object p x.0 t) z
      ∙ ap (λ (o : Option Node). map holding_object (then o (holding x.0))) e ∙ ap (map holding_object) f)

  above : (p : Address) (n : Node) → look p t ≡ some n → T (is_root p || there (moves.node_at (parent p) (dossier_of t)))
  above [] n e = tt
  above (k ∷ q) n e = let w = parent_stands k q t n e in node_there (parent (k ∷ q)) w.0 w.1

  left_there : (p : Address) (n : Node) → look p t ≡ some n → T (is_root p || (eqb (last p) 1 || there (moves.node_at (left p) (dossier_of t))))
  left_there [] n e = tt
  left_there (k ∷ q) n e = go (test (eqb (last (k ∷ q)) 1))
    where
      go : Test (eqb (last (k ∷ q)) 1) → T (eqb (last (k ∷ q)) 1 || there (moves.node_at (left (k ∷ q)) (dossier_of t)))
      go (holds s) = or_left (eqb (last (k ∷ q)) 1) (there (moves.node_at (left (k ∷ q)) (dossier_of t))) s
      go (fails h) = let w = left_stands k q t n e h in or_right (eqb (last (k ∷ q)) 1) (there (moves.node_at (left (k ∷ q)) (dossier_of t))) (node_there (left (k ∷ q)) w.0 w.1)

  few_names : (p : Address) → length (names_of (look p t)) ≤ 16
  few_names p = go (look p t) (λ n e. look_good p t n e g)
    where
      go : (o : Option Node) → ((n : Node) → o ≡ some n → GoodNode n) → length (names_of o) ≤ 16
      go none f = omega arith
      go (some n) f = omega (arith, attributes_length n (f n refl).distinct, (f n refl).few)

  -- what stands behind a row of each table
  node_row_lem : (p : Address) (o : ℕ) → (p, o) ∈ (dossier_of t).nodes → (n : Node) × (look p t ≡ some n) × (o ≡ n.owner)
  node_row_lem p o h = let w = table_back node_items ltb nat_order p o t h in (w.0, w.1, Memᴰ.eq_of_singleton w.2)

  attribute_row : (p : Address) (a : Attribute) → (p, a) ∈ (dossier_of t).attributes → (n : Node) × (look p t ≡ some n) × (b : Holding) × (b ∈ n.attributes) × (plain b ≡ a)
  attribute_row p a h =
      let w = table_back attribute_items lt_attribute attribute_order p a t h in
      let v = Memᴰ.of_map plain w.0.attributes w.2 in (w.0, w.1, v.0, v.1, v.2)

  permission_row : (p : Address) (x : ℕ × Permission) → (p, x) ∈ (dossier_of t).permissions → (n : Node) × (look p t ≡ some n) × Grant n x
  permission_row p x h = let w = table_back permission_items lt_named named_order p x t h in (w.0, w.1, grant_back w.0 x w.2)

  one_look : (p : Address) (m n : Node) → look p t ≡ some m → look p t ≡ some n → m ≡ n
  one_look p m n d e = some-injective m n (sym d ∙ e)

  node_good_lem : (p : Address) (o : ℕ) → (p, o) ∈ (dossier_of t).nodes → T (in_range (node_record (p, o)))
  node_good_lem p o h =
      let w = node_row_lem p o h in
      yes_and (valid p) (user_good o) (place_good p t w.0 w.1 g) (subst (λ (k : ℕ). T (user_good k)) (sym w.2) (look_good p t w.0 w.1 g).owner)

  attribute_good : (p : Address) (a : Attribute) → (p, a) ∈ (dossier_of t).attributes → T (in_range (attribute_record (p, a)))
  attribute_good p a h =
      let w = attribute_row p a h in
      yes_and (valid p) _ (place_good p t w.0 w.1 g)
      (subst (λ (b : Attribute). T (name_good b.name && (user_good b.owner && value_good b.value))) w.4 (holding_fits w.2 ((look_good p t w.0 w.1 g).attributes w.2 w.3)))

  permission_good_lem : (p : Address) (x : ℕ × Permission) → (p, x) ∈ (dossier_of t).permissions → T (in_range (permission_record (p, x)))
  permission_good_lem p x h =
      let w = permission_row p x h in
      yes_and (valid p) (leb x.0 65535 && permission_good x.0 x.1) (place_good p t w.0 w.1 g) (grant_fits w.0 (look_good p t w.0 w.1 g) x w.2)

  one_node : (p : Address) (o o' : ℕ) → (p, o) ∈ (dossier_of t).nodes → (p, o') ∈ (dossier_of t).nodes → o ≡ o'
  one_node p o o' h k =
      let v = node_row_lem p o h in let w = node_row_lem p o' k in v.2 ∙ ap (λ (n : Node). n.owner) (one_look p v.0 w.0 v.1 w.1) ∙ sym w.2

  one_attribute : (p : Address) (a b : Attribute) → (p, a) ∈ (dossier_of t).attributes → (p, b) ∈ (dossier_of t).attributes → a.name ≡ b.name → a ≡ b
  one_attribute p a b h k e =
      let v = attribute_row p a h in
      let w = attribute_row p b k in
      let m : v.2 ∈ w.0.attributes = subst (λ (n : Node). v.2 ∈ n.attributes) (one_look p v.0 w.0 v.1 w.1) v.3 in
      let d : v.2.name ≡ w.2.name = ap (λ (x : Attribute). x.name) v.4 ∙ e ∙ sym (ap (λ (x : Attribute). x.name) w.4) in
      sym v.4 ∙ ap plain (one_holding w.0 (look_good p t w.0 w.1 g) v.2 w.2 m w.3 d) ∙ w.4

  no_clash : (p : Address) (n : ℕ) (x y : Permission) → grant_row p n x ∈ (dossier_of t).permissions → grant_row p n y ∈ (dossier_of t).permissions → T (clash x y) → x ≡ y
  no_clash p k x y h i c =
      let v = permission_row p (k, x) h in
      let w = permission_row p (k, y) i in
      grants_apart w.0 (look_good p t w.0 w.1 g) k x y (subst (λ (n : Node). Grant n (k, x)) (one_look p v.0 w.0 v.1 w.1) v.2) w.2 c

  pub good_sound : Sound (dossier_of t)
  good_sound = record {
    nodes_ascend = table_sorted node_items ltb nat_order t;
    attributes_ascend = table_sorted attribute_items lt_attribute attribute_order t;
    permissions_ascend = table_sorted permission_items lt_named named_order t;
    nodes_good = λ r h. node_good_lem r.0 r.1 h;
    attributes_good = λ r h. attribute_good r.0 r.1 h;
    permissions_good = λ r h. permission_good_lem r.0 r.1 h;
    root = node_there [] (payload t) refl;
    above = λ r h. let w = node_row_lem r.0 r.1 h in above r.0 w.0 w.1;
    left_there = λ r h. let w = node_row_lem r.0 r.1 h in left_there r.0 w.0 w.1;
    on_node = λ r h. let w = attribute_row r.0 r.1 h in node_there r.0 w.0 w.1;
    on_object = λ r h. let w = permission_row r.0 r.1 h in object_there r.0 r.1 w.0 w.1 w.2;
    one_node = one_node;
    one_attribute = one_attribute;
    no_clash = no_clash;
    few_nodes = omega (arith, ap (λ (s : Sizes). s.nodes) (sizes_same t g), g.few_nodes);
    few_attributes = omega (arith, ap (λ (s : Sizes). s.attributes) (sizes_same t g), g.few_attributes);
    few_on_node = λ p. let e : length (names_on p (dossier_of t)) ≡ length (names_of (look p t)) = ap length (names_same p t) in omega (arith, few_names p);
    few_permissions = omega (arith, ap (λ (s : Sizes). s.permissions) (sizes_same t g), g.few_permissions);
  }

-- ---- the clipboard, the session
single_sound : (a : Holding) → GoodSingle a → SoundSingle (plain a) (in_order a.permissions)
single_sound a g = record {
  attribute_good = holding_fits a g.holding;
  ascend = sort_sorted lt_permission permission_order a.permissions;
  permissions_good = λ x m.
      yes_and (leb a.name 65535) (permission_good a.name x) (name_small a.name g.holding.name)
      (g.holding.permissions.each x (sort_back lt_permission permission_order a.permissions x m));
  no_clash = λ x y m k. one_clashes a.permissions g.holding.permissions.no_clash x y
      (sort_back lt_permission permission_order a.permissions x m) (sort_back lt_permission permission_order a.permissions y k);
  few = omega (arith, sort_length lt_permission permission_order a.permissions (permissions_once a.name a.permissions g.holding.permissions), g.few);
}

clip_sound : (c : Clip) → GoodClip c → SoundClipboard (clipboard_of c)
clip_sound empty g = tt
clip_sound (branched t) g = good_sound t g
clip_sound (single a) g = single_sound a g

pub session_sound : (s : Session) → GoodSession s → SoundState (state_of s)
session_sound s g = record {
  one = good_sound s.one g.one;
  two = good_sound s.two g.two;
  clipboard = clip_sound s.clipboard g.clipboard;
  rows = g.rows;
  agreements = g.agreements;
  entries = g.entries;
  log = g.log;
}
