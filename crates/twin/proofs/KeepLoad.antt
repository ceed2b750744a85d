-- Every accepted record leaves a good tree, and so does load. Assumes nothing.
use mathlib.Core.Path.{◌≡◌, subst}
use mathlib.Core.Bool.{not, ◌&&◌, ◌||◌}
use mathlib.Core.Option.{Option, none, some, none-ne-some, map-eq-none_iff}
use mathlib.Core.List.Memᴰ
use mathlib.Core.List.{List, [], ◌∷◌}
use Prim.Native.Nat.{ℕ, ◌≤◌, ◌<◌}
use native.Mathlib.Omega.{arith}
use lib.Dec.{T, eqb, leb, ltb, leb→le, ltb→lt, T_not}
use lib.ListN.{length}
use mir.Facts.{and_yes}
use Rattle.path.specs.Address.{Address, steps_good, valid, parent, last}
use Rattle.model.specs.Things.{Attribute, Permission}
use Rattle.model.specs.Decide.{clash_any}
use Rattle.model.specs.Refusals.{user_good, name_good, value_good, permission_good, is_root, permissions_of}
use Rattle.model.specs.Image.{Record, node_record, attribute_record, permission_record, in_range, left, there, Loaded, good, load_from}
use Rattle.roundtrip.proofs.Checks.{let_in, absent_none}
use Rattle.roundtrip.proofs.Images.{load_holds}
use Rattle.roundtrip.proofs.Found.{fits_parts}
use Rattle.roundtrip.proofs.Load.{last_good}
use Rattle.twin.specs.Tree.{Tree, kids, count, look, set_at, weigh}
use Rattle.twin.specs.Twin.{Node, leaf, node_object, holding_at, node_at, object_at, names_of, node_items, attribute_items, permission_items, with_holding, with_permission, with_node, accept, load_tree}
use Rattle.twin.specs.Good.{GoodTree}
use Rattle.twin.proofs.KeepTree.{nothing_there}
use Rattle.twin.proofs.KeepEdits.{leaf_good, paste_good, leaf_room, hold_good, grant_good_lem}
use Rattle.twin.proofs.SameRecord.{SoFar, node_in, attribute_in, permission_in, bare_holding}

-- a good tree: after a record there is one
abbrev pub Whole : Option (Tree Node) → Type 0
Whole none = ⊥
Whole (some t) = GoodTree t

pub so_far : (t : Option (Tree Node)) → Whole t → SoFar t
so_far none w = tt
so_far (some t) w = w

node_kept : (u : ℕ) (p : Address) (t : Tree Node) → T (valid p && user_good u) → T (not (there (node_at p t))) → weigh node_items t < 64 → GoodTree t → GoodTree (with_node u p (some t))
node_kept u [] t h n l g = g
node_kept u (k ∷ q) t h n l g =
    let w = and_yes (valid (k ∷ q)) (user_good u) h in
    let v = and_yes (leb (length (k ∷ q)) 6) (steps_good (k ∷ q)) w.0 in
    let s = last_good k q v.1 in
    let e : look (k ∷ q) t ≡ none = (map-eq-none_iff node_object (look (k ∷ q) t)).0 (absent_none (node_at (k ∷ q) t) n) in
    paste_good (leaf u) (k ∷ q) t (leaf_good u w.1)
    (leaf_room u (k ∷ q) t (λ v d. let c : count (kids v) < last (k ∷ q) = nothing_there k q t v d e s.0 in let b : last (k ∷ q) ≤ 32 = s.1 in omega arith) (leb→le (length (k ∷ q)) 6 v.0) (omega arith) g) g

attribute_kept : (p : Address) (a : Attribute) (t : Tree Node) → T (in_range (attribute_record (p, a))) → T (attribute_in p a.name t)
    → GoodTree t → GoodTree (set_at (with_holding (bare_holding a)) p t)
attribute_kept p a t h f g =
    let w = and_yes (valid p) (name_good a.name && (user_good a.owner && value_good a.value)) h in
    let v = and_yes (name_good a.name) (user_good a.owner && value_good a.value) w.1 in
    let x = and_yes (user_good a.owner) (value_good a.value) v.1 in
    let i = and_yes (there (node_at p t)) (not (there (holding_at p a.name t)) && (ltb (weigh attribute_items t) 256 && ltb (length (names_of (look p t))) 16)) f in
    let j = and_yes (not (there (holding_at p a.name t))) (ltb (weigh attribute_items t) 256 && ltb (length (names_of (look p t))) 16) i.1 in
    let k = and_yes (ltb (weigh attribute_items t) 256) (ltb (length (names_of (look p t))) 16) j.1 in
    let b : weigh attribute_items t < 256 = ltb→lt (weigh attribute_items t) 256 k.0 in
    let c : length (names_of (look p t)) < 16 = ltb→lt (length (names_of (look p t))) 16 k.1 in
    hold_good (bare_holding a) p t
    (record { name = v.0; owner = x.0; value = x.1; permissions = record { each = λ y m. absurd (Memᴰ.not-nil m); no_clash = tt } })
    (absent_none (holding_at p a.name t) j.0) (omega arith) (omega arith) (omega (arith, g.few_permissions)) g

permission_kept : (p : Address) (name : ℕ) (x : Permission) (t : Tree Node) → T (valid p && (leb name 65535 && permission_good name x)) → T (permission_in p name x t)
    → GoodTree t → GoodTree (set_at (with_permission name x) p t)
permission_kept p name x t h f g =
    let w = and_yes (leb name 65535) (permission_good name x) (and_yes (valid p) (leb name 65535 && permission_good name x) h).1 in
    let v = fits_parts x (weigh permission_items t) (object_at p name t) f in
    let b : weigh permission_items t < 128 = ltb→lt (weigh permission_items t) 128 v.2 in grant_good_lem name x p t w.1 (T_not (clash_any x (permissions_of (object_at p name t))) v.1) (omega arith) g

pub accept_keeps : (t : Option (Tree Node)) (r : Record) (u : Option (Tree Node)) → T (in_range r) → accept t r ≡ some u → SoFar t → Whole u
accept_keeps none (node_record r) u h e g =
    subst Whole (let_in (node_in r.0 none) (some (leaf r.1)) u e).1 (leaf_good r.1 (and_yes (valid r.0) (user_good r.1) h).1)
accept_keeps (some t) (node_record r) u h e g =
    let w = let_in (node_in r.0 (some t)) (some (with_node r.1 r.0 (some t))) u e in
    let v = and_yes (not (there (node_at r.0 t))) _ w.0 in
    let x = and_yes (is_root r.0 || (there (node_at (parent r.0) t) && (eqb (last r.0) 1 || there (node_at (left r.0) t)))) (ltb (weigh node_items t) 64) v.1 in
    subst Whole w.1 (node_kept r.1 r.0 t h v.0 (ltb→lt (weigh node_items t) 64 x.1) g)
accept_keeps none (attribute_record r) u h e g = absurd (none-ne-some u e)
accept_keeps (some t) (attribute_record r) u h e g =
    let w = let_in (attribute_in r.0 r.1.name t) (some (set_at (with_holding (bare_holding r.1)) r.0 t)) u e in
    subst Whole w.1 (attribute_kept r.0 r.1 t h w.0 g)
accept_keeps none (permission_record r) u h e g = absurd (none-ne-some u e)
accept_keeps (some t) (permission_record r) u h e g =
    let w = let_in (permission_in r.0 r.1.0 r.1.1 t) (some (set_at (with_permission r.1.0 r.1.1) r.0 t)) u e in
    subst Whole w.1 (permission_kept r.0 r.1.0 r.1.1 t h w.0 g)

-- what is loaded is a good tree
abbrev pub Loads : Loaded (Option (Tree Node)) → Type 0
Loads l = (t : Option (Tree Node)) → l ≡ good t → Whole t

-- by any way of taking a record that keeps trees good
pub loads_good : (grow : Option (Tree Node) → Record → Option (Option (Tree Node)))
    → ((t : Option (Tree Node)) (r : Record) (u : Option (Tree Node)) → T (in_range r) → grow t r ≡ some u → SoFar t → Whole u) → (b : List ℕ) → Loads (load_from grow none b)
loads_good grow keeps b = load_holds grow Whole none (λ r u h e. keeps none r u h e tt) (λ t r u h e w. keeps t r u h e (so_far t w)) b

pub load_good : (b : List ℕ) → Loads (load_tree b)
load_good = loads_good accept accept_keeps
