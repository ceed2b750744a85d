-- Each edit leaves a good tree where there is room for it, and what is copied is good. Assumes nothing.
use mathlib.Core.Path.{◌≡◌, sym, ap, subst, ◌∙◌}
use mathlib.Core.Bool.{Bool, true, false, not}
use mathlib.Core.Option.{Option, none, some, map}
use mathlib.Core.List.Memᴰ
use mathlib.Core.List.{[], ◌∷◌}
use Prim.Native.Nat.{ℕ, suc, ◌+◌, ◌-◌, ◌≤◌}
use native.Mathlib.Omega.{arith}
use lib.Dec.{T, eqb, eqb→eq}
use lib.ListN.{length, length-map}
use Rattle.laws.specs.Slots.{pick}
use Rattle.path.specs.Address.{Address, parent}
use Rattle.path.proofs.Moves.{pick_yes, pick_no}
use Rattle.model.specs.Things.{Value, Permission}
use Rattle.model.specs.Decide.{Object, clash_any}
use Rattle.model.specs.Moves.{same_permission}
use Rattle.model.specs.Refusals.{user_good, value_good, permission_good, permissions_of}
use Rattle.twin.specs.Tree.{Tree, then, payload, kids, count, branch, look, put, drop, paste_tree, delete_tree, set_at, height, weigh}
use Rattle.twin.specs.Twin.{Holding, Node, Session, leaf, plain, node_object, holding_object, holding, holding_at, node_at, attribute_object, object_at, names_of, node_items, attribute_items, permission_items, with_holding, without_holding, on_holding, with_value, with_permission, without_permission, dossier}
use Rattle.twin.specs.Good.{GoodHolding, GoodNode, GoodTop, GoodTree, GoodSingle, GoodSession}
use Rattle.twin.proofs.Trees.{then_some, branch_look, look_branch}
use Rattle.twin.proofs.KeepTree.{count_put, count_drop, each_top, each_branch, each_put, each_drop, Narrow, each_edit, each_set, branch_height, put_height, drop_height, edit_height, set_height, branch_weigh, look_weigh, put_weigh, drop_weigh, edit_weigh, set_weigh}
use Rattle.twin.proofs.KeepNode.{kept_length, granted_good, revoked_good, holding_in, attributes_length, permissions_length, one_of_items, Grows, hold_grows, without_grows, value_grows, permissions_grow}

-- ---- parts of good trees
pub leaf_good : (u : ℕ) → T (user_good u) → GoodTree (leaf u)
unfolding height weigh
leaf_good u t = record {
  each = (
    record {
      node = record {
        owner = t;
        permissions = record { each = λ g m. absurd (Memᴰ.not-nil m); no_clash = tt };
        attributes = λ a m. absurd (Memᴰ.not-nil m);
        distinct = tt;
        few = omega arith;
      };
      narrow = omega arith;
    },
    tt,
  );
  low = omega arith;
  few_nodes = omega arith;
  few_attributes = omega arith;
  few_permissions = omega arith;
}

pub branch_good : (q : Address) (t s : Tree Node) → branch q t ≡ some s → GoodTree t → GoodTree s
branch_good q t s e g = record {
  each = each_branch GoodTop q t s e g.each;
  low = omega (arith, branch_height q t s e, g.low);
  few_nodes = omega (arith, branch_weigh node_items q t s e, g.few_nodes);
  few_attributes = omega (arith, branch_weigh attribute_items q t s e, g.few_attributes);
  few_permissions = omega (arith, branch_weigh permission_items q t s e, g.few_permissions);
}

pub look_good : (q : Address) (t : Tree Node) (n : Node) → look q t ≡ some n → GoodTree t → GoodNode n
look_good q t n e g =
    let w = look_branch q t n e in subst GoodNode w.2 (each_top GoodTop w.0 (each_branch GoodTop q t w.0 w.1 g.each)).node

pub single_good : (q : Address) (name : ℕ) (t : Tree Node) (a : Holding) → holding_at q name t ≡ some a → GoodTree t → GoodSingle a
single_good q name t a e g =
    let w = then_some (look q t) (holding name) a e in
    let m = holding_in name w.0 a w.2 in
    let b : length (permission_items w.0) ≤ weigh permission_items t = look_weigh permission_items q t w.0 w.1 in
    let c : length a.permissions ≤ _ = one_of_items w.0.attributes a m.0 in
    record { holding = (look_good q t w.0 w.1 g).attributes a m.0; few = omega (arith, permissions_length w.0, g.few_permissions) }

pub dossier_good_lem : (n : ℕ) (s : Session) → GoodSession s → GoodTree (dossier n s)
dossier_good_lem n s g = go (eqb n 1)
  where
    go : (b : Bool) → GoodTree (pick b s.one s.two)
    go true = g.one
    go false = g.two

-- ---- branches
narrow : Narrow GoodTop
narrow t f h q = record { node = q.node; narrow = omega (arith, q.narrow) }

-- room for the tree s at the place p of t
pub record Room (s : Tree Node) (p : Address) (t : Tree Node) : Type 0 where
  pub children : (u : Tree Node) → branch (parent p) t ≡ some u → count (kids u) + 1 ≤ 32
  pub depth : length p + height s ≤ 6
  pub nodes : weigh node_items t + weigh node_items s ≤ 64
  pub attributes : weigh attribute_items t + weigh attribute_items s ≤ 256
  pub permissions : weigh permission_items t + weigh permission_items s ≤ 128

pub paste_good : (s : Tree Node) (p : Address) (t : Tree Node) → GoodTree s → Room s p t → GoodTree t → GoodTree (paste_tree s p t)
paste_good s [] t h r g = g
paste_good s (k ∷ q) t h r g =
    let d : suc (length q) + height s ≤ 6 = r.depth in
    record {
      each = each_edit GoodTop narrow (put s) 1 (λ i f. omega (arith, count_put s i f)) (each_put GoodTop s h.each) k q t
          (λ u f e v l. record { node = v.node; narrow = omega (arith, r.children u e) }) g.each;
      low = omega (arith, edit_height (put s) (6 - length q) (put_height (6 - length q) s (omega arith)) k q t (omega (arith, g.low)));
      few_nodes = omega (arith, edit_weigh node_items (put s) (weigh node_items s) (put_weigh node_items s) k q t, r.nodes);
      few_attributes = omega (arith, edit_weigh attribute_items (put s) (weigh attribute_items s) (put_weigh attribute_items s) k q t, r.attributes);
      few_permissions = omega (arith, edit_weigh permission_items (put s) (weigh permission_items s) (put_weigh permission_items s) k q t, r.permissions);
    }

-- a node without anything is one row
pub leaf_room : (u : ℕ) (p : Address) (t : Tree Node) → ((v : Tree Node) → branch (parent p) t ≡ some v → count (kids v) + 1 ≤ 32) → length p ≤ 6 → weigh node_items t + 1 ≤ 64 → GoodTree t → Room (leaf u) p t
unfolding height weigh
leaf_room u p t c d l g = record { children = c; depth = omega arith; nodes = omega arith; attributes = omega (arith, g.few_attributes); permissions = omega (arith, g.few_permissions) }

pub delete_good : (p : Address) (t : Tree Node) → length p ≤ 6 → GoodTree t → GoodTree (delete_tree p t)
delete_good [] t l g = g
delete_good (k ∷ q) t l g = record {
  each = each_edit GoodTop narrow drop 0 (λ i f. omega (arith, count_drop i f)) (each_drop GoodTop) k q t
      (λ u f e v b. record { node = v.node; narrow = omega (arith, v.narrow) }) g.each;
  low = omega (arith, edit_height drop (6 - length q) (drop_height (6 - length q)) k q t (omega (arith, g.low)));
  few_nodes = omega (arith, edit_weigh node_items drop 0 (λ i f. omega (arith, drop_weigh node_items i f)) k q t, g.few_nodes);
  few_attributes = omega (arith, edit_weigh attribute_items drop 0 (λ i f. omega (arith, drop_weigh attribute_items i f)) k q t, g.few_attributes);
  few_permissions = omega (arith, edit_weigh permission_items drop 0 (λ i f. omega (arith, drop_weigh permission_items i f)) k q t, g.few_permissions);
}

-- ---- what a node carries
set_good : (f : Node → Node) (a b : ℕ) (p : Address) (t : Tree Node) → ((n : Node) → look p t ≡ some n → GoodNode n → Grows a b n (f n))
    → weigh attribute_items t + a ≤ 256 → weigh permission_items t + b ≤ 128 → GoodTree t → GoodTree (set_at f p t)
set_good f a b p t h la lb g = record {
  each = each_set GoodTop narrow f p t (λ u e q. record { node = (h (payload u) (branch_look p t u e) q.node).good; narrow = q.narrow }) g.each;
  low = set_height f p t 6 g.low;
  few_nodes = omega (arith, set_weigh node_items f 0 p t (λ n e. omega arith), g.few_nodes);
  few_attributes = omega (
    arith,
    set_weigh attribute_items f a p t
        (λ n e. omega (arith, (h n e (look_good p t n e g)).attributes, length-map n.attributes plain, length-map (f n).attributes plain)),
  );
  few_permissions = omega (arith, set_weigh permission_items f b p t (λ n e. (h n e (look_good p t n e g)).permissions));
}

pub hold_good : (a : Holding) (p : Address) (t : Tree Node) → GoodHolding a → holding_at p a.name t ≡ none → length (names_of (look p t)) + 1 ≤ 16
    → weigh attribute_items t + 1 ≤ 256 → weigh permission_items t + length a.permissions ≤ 128 → GoodTree t → GoodTree (set_at (with_holding a) p t)
hold_good a p t h e l la lb g =
    set_good (with_holding a) 1 (length a.permissions) p t
    (λ n d v.
    hold_grows a n h (ap (λ (o : Option Node). then o (holding a.name)) (sym d) ∙ e)
    (let z : length (names_of (look p t)) ≡ length (names_of (some n)) = ap (λ (o : Option Node). length (names_of o)) d in omega (arith, attributes_length n v.distinct)) v)
    la lb g

pub without_good : (name : ℕ) (p : Address) (t : Tree Node) → GoodTree t → GoodTree (set_at (without_holding name) p t)
without_good name p t g = set_good (without_holding name) 0 0 p t (λ n d. without_grows name n) (omega (arith, g.few_attributes)) (omega (arith, g.few_permissions)) g

pub value_good_lem : (name : ℕ) (v : Value) (p : Address) (t : Tree Node) → T (value_good v) → GoodTree t → GoodTree (set_at (on_holding name (with_value v)) p t)
value_good_lem name v p t h g =
    set_good (on_holding name (with_value v)) 0 0 p t (λ n d. value_grows name v n h) (omega (arith, g.few_attributes)) (omega (arith, g.few_permissions)) g

pub revoke_good : (name : ℕ) (x : Permission) (p : Address) (t : Tree Node) → GoodTree t → GoodTree (set_at (without_permission name x) p t)
revoke_good name x p t g =
    set_good (without_permission name x) 0 0 p t
    (λ n d v.
    permissions_grow name 0 _ n (λ l. omega (arith, kept_length (λ h. not (same_permission x h)) l))
    (λ z. revoked_good 0 (λ h. not (same_permission x h)) n.permissions v.permissions)
    (λ a z e. revoked_good a.name (λ h. not (same_permission x h)) a.permissions (v.attributes a (holding_in name n a e).0).permissions) v)
    (omega (arith, g.few_attributes)) (omega (arith, g.few_permissions)) g

-- no clash with the permissions of the object there
pub grant_good_lem : (name : ℕ) (x : Permission) (p : Address) (t : Tree Node) → T (permission_good name x) → (T (clash_any x (permissions_of (object_at p name t))) → ⊥)
    → weigh permission_items t + 1 ≤ 128 → GoodTree t → GoodTree (set_at (with_permission name x) p t)
grant_good_lem name x p t h c l g =
    set_good (with_permission name x) 0 1 p t
    (λ n d v.
    permissions_grow name 1 (λ k. x ∷ k) n (λ k. omega arith)
    (λ z. granted_good 0 x n.permissions (subst (λ (m : ℕ). T (permission_good m x)) (eqb→eq name 0 z) h)
    (λ s. c (subst (λ (o : Option Object). T (clash_any x (permissions_of o))) (sym (pick_yes (eqb name 0) (node_at p t) (attribute_object p name t) z ∙ ap (map node_object) d)) s))
    v.permissions)
    (λ a z e. let w = holding_in name n a e in
    granted_good a.name x a.permissions (subst (λ (m : ℕ). T (permission_good m x)) (sym w.1) h)
    (λ s. c (subst (λ (o : Option Object). T (clash_any x (permissions_of o)))
    (sym (pick_no (eqb name 0) (node_at p t) (attribute_object p name t) z ∙ ap (λ (o : Option Node). map holding_object (then o (holding name))) d ∙ ap (map holding_object) e)) s))
    (v.attributes a w.0).permissions) v)
    (omega (arith, g.few_attributes)) l g
