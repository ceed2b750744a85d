-- What a request finds in the tables of a good tree is what it finds in the tree, and so on the clipboard. Assumes nothing.
use mathlib.Core.Path.{◌≡◌, refl, sym, ap, ap₂, ◌∙◌}
use mathlib.Core.Bool.{true, false}
use mathlib.Core.Option
use mathlib.Core.Option.{Option, none, some}
use mathlib.Core.List.Memᴰ
use mathlib.Core.List.{List, [], map}
use Prim.Native.Nat.{ℕ}
use lib.Dec.{eqb, ltb}
use Rattle.laws.specs.Slots.{pick}
use Rattle.laws.specs.Sorted.{merge, move}
use Rattle.laws.proofs.Order.{nat_order}
use Rattle.path.specs.Address.{Address, parent}
use Rattle.model.specs.Things.{Attribute, Permission, lt_attribute, lt_permission}
use Rattle.model.specs.Decide.{Object}
use Rattle.model.specs.Moves as moves
use Rattle.model.specs.Moves.{head, called, permissions_for, attribute_at, names_on, child_count}
use Rattle.model.specs.Refusals.{Request}
use Rattle.model.specs.Run as run
use Rattle.roundtrip.proofs.Orders.{permission_order, attribute_order, lt_named, named_order}
use Rattle.twin.specs.Tree.{Tree, node, Forest, fnil, fcons, then, payload, branch, look}
use Rattle.twin.specs.Twin.{Holding, Node, Clip, empty, branched, single, in_order, plain, holding, holding_at, node_at, attribute_object, object_at, children_of, names_of, node_items, attribute_items, permission_items, sizes_of, found, cached}
use Rattle.twin.specs.Good.{dossier_of, clipboard_of, Each, EachF, Distinct, GoodTop, GoodTree, GoodClip}
use Rattle.twin.proofs.Trees.{then_some}
use Rattle.twin.proofs.Update.{pick_table, pick_none}
use Rattle.twin.proofs.Count.{sort_length, table_weigh}
use Rattle.twin.proofs.Children.{child_count_lem, child_count_none}
use Rattle.twin.proofs.Depth.{longest_height}
use Rattle.twin.proofs.KeepNode.{holding_in}
use Rattle.twin.proofs.KeepEdits.{look_good}
use Rattle.twin.proofs.SameNode.{own_permissions, held_permissions, called_one, permissions_once, attributes_once, grants_once}

-- what follows from Q holds of every branch of which Q holds
module _ {P : Type 0} (Q R : Tree P → Type 0) (h : (t : Tree P) → Q t → R t) where
  mutual
    each_map : (t : Tree P) → Each Q t → Each R t
    each_map (node p f) e = (h (node p f) e.0, each_map_f f e.1)

    each_map_f : (f : Forest P) → EachF Q f → EachF R f
    each_map_f fnil e = tt
    each_map_f (fcons t f) e = (each_map t e.0, each_map_f f e.1)

-- ---- one object
permissions_at : (p : Address) (k : ℕ) (t : Tree Node) (n : Node) → look p t ≡ some n → permissions_for p k (dossier_of t) ≡ move (moves.named k) (merge lt_named (permission_items n) [])
permissions_at p k t n e = ap (move (moves.named k)) (pick_table permission_items lt_named named_order p t n e)

pub node_same : (p : Address) (t : Tree Node) → GoodTree t → moves.node_at p (dossier_of t) ≡ node_at p t
node_same p t g = go (look p t) refl
  where
    object : List ℕ → List Permission → Option Object
    object l m = Option.map (λ o. record { owner = o; permissions = m }) (head l)

    go : (o : Option Node) → look p t ≡ o → moves.node_at p (dossier_of t) ≡ node_at p t
    go none e = ap (λ (l : List ℕ). object l (permissions_for p 0 (dossier_of t))) (pick_none node_items ltb nat_order p t e) ∙ sym (ap (Option.map _) e)
    go (some n) e =
        ap₂ object (pick_table node_items ltb nat_order p t n e) (permissions_at p 0 t n e ∙ own_permissions n (look_good p t n e g)) ∙ sym (ap (Option.map _) e)

pub attribute_at_same : (p : Address) (k : ℕ) (t : Tree Node) → GoodTree t → attribute_at p k (dossier_of t) ≡ Option.map plain (holding_at p k t)
attribute_at_same p k t g = go (look p t) refl
  where
    go : (o : Option Node) → look p t ≡ o → attribute_at p k (dossier_of t) ≡ Option.map plain (then o (holding k))
    go none e = ap (λ (l : List Attribute). head (move (called k) l)) (pick_none attribute_items lt_attribute attribute_order p t e)
    go (some n) e = ap (λ (l : List Attribute). head (move (called k) l)) (pick_table attribute_items lt_attribute attribute_order p t n e) ∙ called_one k n (look_good p t n e g)

-- the permissions of an attribute that is there
pub held_same : (p : Address) (k : ℕ) (t : Tree Node) (a : Holding) → GoodTree t → holding_at p k t ≡ some a → permissions_for p k (dossier_of t) ≡ in_order a.permissions
held_same p k t a g e =
    let w = then_some (look p t) (holding k) a e in
    let v = holding_in k w.0 a w.2 in
    permissions_at p k t w.0 w.1 ∙ ap (λ (m : ℕ). move (moves.named m) (merge lt_named (permission_items w.0) [])) (sym v.1)
    ∙ held_permissions w.0 (look_good p t w.0 w.1 g) a v.0

attribute_same : (p : Address) (k : ℕ) (t : Tree Node) → GoodTree t → moves.attribute_object p k (dossier_of t) ≡ attribute_object p k t
attribute_same p k t g = go (holding_at p k t) refl
  where
    object : Option Attribute → List Permission → Option Object
    object a m = Option.map (λ x. record { owner = x.owner; permissions = m }) a

    go : (o : Option Holding) → holding_at p k t ≡ o → moves.attribute_object p k (dossier_of t) ≡ attribute_object p k t
    go none e =
        ap (λ (a : Option Attribute). object a (permissions_for p k (dossier_of t))) (attribute_at_same p k t g ∙ ap (Option.map plain) e) ∙ sym (ap (Option.map _) e)
    go (some a) e = ap₂ object (attribute_at_same p k t g ∙ ap (Option.map plain) e) (held_same p k t a g e) ∙ sym (ap (Option.map _) e)

pub object_same : (p : Address) (k : ℕ) (t : Tree Node) → GoodTree t → moves.object_at p k (dossier_of t) ≡ object_at p k t
object_same p k t g = ap₂ (λ (a b : Option Object). pick (eqb k 0) a b) (node_same p t g) (attribute_same p k t g)

-- ---- names, children, sizes
pub names_same : (p : Address) (t : Tree Node) → names_on p (dossier_of t) ≡ names_of (look p t)
names_same p t = go (look p t) refl
  where
    go : (o : Option Node) → look p t ≡ o → names_on p (dossier_of t) ≡ names_of o
    go none e = ap (map (λ (a : Attribute). a.name)) (pick_none attribute_items lt_attribute attribute_order p t e)
    go (some n) e = ap (map (λ (a : Attribute). a.name)) (pick_table attribute_items lt_attribute attribute_order p t n e)

pub children_same : (p : Address) (t : Tree Node) → child_count p (dossier_of t) ≡ children_of (branch p t)
children_same p t = go (branch p t) refl
  where
    go : (o : Option (Tree Node)) → branch p t ≡ o → child_count p (dossier_of t) ≡ children_of o
    go none e = child_count_none (λ (n : Node). n.owner) ltb nat_order p t e
    go (some s) e = child_count_lem (λ (n : Node). n.owner) ltb nat_order p t s e

pub sizes_same : (t : Tree Node) → GoodTree t → run.sizes (dossier_of t) ≡ sizes_of t
sizes_same t g = λ i. record {
  nodes = table_weigh node_items ltb nat_order t (each_map GoodTop (λ s. Distinct (node_items (payload s))) (λ s q. (λ m. Memᴰ.not-nil m, tt)) t g.each) i;
  attributes = table_weigh attribute_items lt_attribute attribute_order t (each_map GoodTop (λ s. Distinct (attribute_items (payload s))) (λ s q. attributes_once (payload s) q.node) t g.each) i;
  permissions = table_weigh permission_items lt_named named_order t (each_map GoodTop (λ s. Distinct (permission_items (payload s))) (λ s q. grants_once (payload s) q.node) t g.each) i;
}

-- ---- all that a request finds
pub found_same : (r : Request) (t : Tree Node) → GoodTree t → run.found r (dossier_of t) ≡ found r t
found_same r t g = λ i. record {
  node = node_same r.path t g i;
  parent = node_same (parent r.path) t g i;
  attribute = attribute_same r.path r.name t g i;
  names = names_same r.path t i;
  children = children_same r.path t i;
  siblings = children_same (parent r.path) t i;
  sizes = sizes_same t g i;
}

pub cached_same : (c : Clip) → GoodClip c → run.cached (clipboard_of c) ≡ cached c
cached_same empty g = refl
cached_same (branched t) g =
    λ i. record { branch = true; attribute = false; sizes = sizes_same t g i; height = longest_height (λ (n : Node). n.owner) ltb nat_order t i }
cached_same (single a) g = λ i. record {
  branch = false;
  attribute = true;
  sizes = record { nodes = 0; attributes = 1; permissions = sort_length lt_permission permission_order a.permissions (permissions_once a.name a.permissions g.holding.permissions) i };
  height = 0;
}
