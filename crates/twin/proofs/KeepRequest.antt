-- A request that is not refused leaves a good tree and a good clipboard. Assumes nothing.
use mathlib.Core.Path.{◌≡◌, refl, ap}
use mathlib.Core.Bool.{Bool, true, false, not, ◌&&◌, ◌||◌}
use mathlib.Core.Option.{Option, none, some, map, map-eq-none_iff}
use mathlib.Core.List.Memᴰ
use mathlib.Core.List.{[]}
use Prim.Native.Nat.{ℕ, ◌+◌, ◌≤◌}
use native.Mathlib.Omega.{arith}
use lib.Signed.{le_z}
use lib.Dec.{T, eqb, leb, leb→le, eqb→eq, not_T}
use mir.Facts.{and_yes}
use Rattle.path.specs.Address.{Address, parent}
use Rattle.model.specs.Things.{Permission}
use Rattle.model.specs.Decide.{clash_any}
use Rattle.model.specs.Refusals.{Request, missing, between, role_good, name_good, time_good, value_good, permission_good, grant_good, own_good, permissions_of, totals, Standing}
use Rattle.model.specs.Image.{there}
use Rattle.roundtrip.proofs.Checks.{absent_none}
use Rattle.twin.specs.Tree.{Tree, kids, count, branch, weigh}
use Rattle.twin.specs.Twin.{Holding, Node, Clip, empty, branched, single, leaf, holding_object, holding_at, object_at, children_of, permission_items, found, cached, pasted_branch, renamed, pasted_attribute, edited, copied_branch, copied, clipped}
use Rattle.twin.specs.Good.{GoodHolding, GoodTree, GoodSingle, GoodClip}
use Rattle.twin.proofs.KeepEdits.{leaf_good, branch_good, single_good, paste_good, leaf_room, delete_good, hold_good, without_good, value_good_lem, revoke_good, grant_good_lem}
use Rattle.twin.proofs.Requests.{Within, Passed, operands_good, Common, request_common, numbered, every_number}

-- ---- what the tests say
pub map_missing : {A B : Type 0} (f : A → B) (o : Option A) → (T (not (missing (map f o))) → ⊥) → o ≡ none
map_missing f o n = (map-eq-none_iff f o).0 (absent_none (map f o) (not_T (there (map f o)) n))

siblings_few : (p : Address) (t : Tree Node) → children_of (branch p t) + 1 ≤ 32 → (u : Tree Node) → branch p t ≡ some u → count (kids u) + 1 ≤ 32
siblings_few p t h u e = let d : children_of (branch p t) ≡ count (kids u) = ap children_of e in omega arith

-- ---- an attribute under a new name: its permissions are good for any name
and_map : (b c d : Bool) → (T c → T d) → T (b && c) → T (b && d)
and_map true c d f t = f t
and_map false c d f t = absurd t

or_map : (b c d : Bool) → (T b → ⊥) → T (b || d) → T (c || d)
or_map true c d n t = absurd (n tt)
or_map false true d n t = tt
or_map false false d n t = t

rename_permission : (a b : ℕ) (p : Permission) → T (name_good a) → T (permission_good a p) → T (permission_good b p)
rename_permission a b p h t =
    and_map (role_good p.role) _ _ (λ t1.
    and_map (between 1 4 p.action) _ _ (λ t2.
    and_map (leb p.user 64) _ _ (λ t3.
    and_map (time_good p.first) _ _ (λ t4.
    and_map (time_good p.last) _ _ (λ t5.
    and_map (le_z p.first p.last) _ _ (λ t6.
    and_map (leb p.messages 4294967295) _ _ (λ t7.
    and_map (leb p.agreements 4294967295) _ _ (λ t8. or_map (eqb a 0) (eqb b 0) (not (eqb p.action 2)) no t8) t7) t6) t5) t4) t3) t2) t1) t
  where
    no : T (eqb a 0) → ⊥
    no s = let e : a ≡ 0 = eqb→eq a 0 s in let l : 1 ≤ a = leb→le 1 a (and_yes (leb 1 a) (leb a 65535) h).0 in omega arith

rename_good : (name : ℕ) (a : Holding) → T (name_good name) → GoodHolding a → GoodHolding (renamed name a)
rename_good name a t g = record {
  name = t;
  owner = g.owner;
  value = g.value;
  permissions = record { each = λ p m. rename_permission a.name name p g.name (g.permissions.each p m); no_clash = g.permissions.no_clash };
}

-- ---- what is copied
branch_kept : (c : Clip) (o : Option (Tree Node)) → ((s : Tree Node) → o ≡ some s → GoodTree s) → GoodClip c → GoodClip (copied_branch c o)
branch_kept c none f g = g
branch_kept c (some s) f g = f s refl

single_kept : (c : Clip) (o : Option Holding) → ((a : Holding) → o ≡ some a → GoodSingle a) → GoodClip c → GoodClip (copied c o)
single_kept c none f g = g
single_kept c (some a) f g = f a refl

-- ---- every request
module _ (r : Request) (t : Tree Node) (gt : GoodTree t) where
  -- requests 7 and 17
  pasted_branch_lem : (n : ℕ) (c : Clip) → GoodClip c → Within (totals (numbered 7 r) (found r t) (cached c)) → GoodTree (pasted_branch (numbered n r) t c)
  pasted_branch_lem n empty g w = gt
  pasted_branch_lem n (branched s) g w =
      paste_good s r.path t g (record { children = siblings_few (parent r.path) t w.children; depth = w.depth; nodes = w.nodes; attributes = w.attributes; permissions = w.permissions }) gt
  pasted_branch_lem n (single a) g w = gt

  pasted_attribute_lem : (c : Clip) → GoodClip c → T (name_good r.name) → holding_at r.path r.name t ≡ none → Within (totals (numbered 13 r) (found r t) (cached c)) → GoodTree (pasted_attribute (numbered 13 r) t c)
  pasted_attribute_lem empty g n e w = gt
  pasted_attribute_lem (branched s) g n e w = gt
  pasted_attribute_lem (single a) g n e w =
      hold_good (renamed r.name a) r.path t (rename_good r.name a n g.holding) e w.on_node w.attributes w.permissions gt

  -- c is what there is to paste, and k the clipboard
  module _ (c k : Clip) (st : Standing) (gc : GoodClip c) (gk : GoodClip k) where
    abbrev Kept : ℕ → Type 0
    Kept n = Passed (numbered n r) (found r t) (cached c) st → GoodTree (edited (numbered n r) t c) × GoodClip (clipped (numbered n r) t k)

    facts : (n : ℕ) → Passed (numbered n r) (found r t) (cached c) st → Common (numbered n r) × T (own_good (numbered n r)) × Within (totals (numbered n r) (found r t) (cached c))
    facts n p =
        let w = operands_good (numbered n r) p.operands in
        (request_common (numbered n r) p.operands, w.1, p.bounds)

    add_node_lem : Kept 3
    add_node_lem p =
        let w = facts 3 p in (
          paste_good (leaf r.user) r.path t (leaf_good r.user w.0.user)
              (leaf_room r.user r.path t (siblings_few (parent r.path) t w.2.children) w.0.short w.2.nodes gt) gt,
          gk,
        )

    branch_copied : GoodClip (clipped (numbered 5 r) t k)
    branch_copied = branch_kept k (branch r.path t) (λ s e. branch_good r.path t s e gt) gk

    attribute_copied : GoodClip (clipped (numbered 11 r) t k)
    attribute_copied = single_kept k (holding_at r.path r.name t) (λ a e. single_good r.path r.name t a e gt) gk

    add_attribute : Kept 8
    add_attribute p =
        let w = facts 8 p in
        let v = and_yes (name_good r.name) (value_good r.value) w.1 in (
          hold_good (record { name = r.name; owner = r.user; value = r.value; permissions = [] }) r.path t
              (record { name = v.0; owner = w.0.user; value = v.1; permissions = record { each = λ g m. absurd (Memᴰ.not-nil m); no_clash = tt } })
              (map_missing holding_object (holding_at r.path r.name t) p.free) w.2.on_node w.2.attributes w.2.permissions gt,
          gk,
        )

    paste_attribute_lem : Kept 13
    paste_attribute_lem p =
        let w = facts 13 p in
        (pasted_attribute_lem c gc w.1 (map_missing holding_object (holding_at r.path r.name t) p.free) w.2, gk)

    granted_now : T (grant_good r) → (T (clash_any r.permission (permissions_of (object_at r.path r.name t))) → ⊥) → weigh permission_items t + 1 ≤ 128 → GoodTree (edited (numbered 14 r) t c)
    granted_now g n l = grant_good_lem r.name r.permission r.path t (and_yes (leb r.name 65535) (permission_good r.name r.permission) g).1 n l gt

    change_value_lem : Kept 10
    change_value_lem p = (value_good_lem r.name r.value r.path t (and_yes (name_good r.name) (value_good r.value) (facts 10 p).1).1 gt, gk)

    delegate : Kept 16
    delegate p =
        let w = facts 16 p in (granted_now (and_yes (grant_good r) (leb r.permission.action 2) w.1).0 p.clash w.2.permissions, gk)

    deleted : {n : ℕ} → Passed (numbered n r) (found r t) (cached c) st → GoodTree (edited (numbered 4 r) t c)
    deleted {n} p = delete_good r.path t (facts n p).0.short gt

    kept_each : T (own_good r) → Kept r.number
    kept_each own =
        every_number Kept r (
          (λ p. (gt, gk), (add_node_lem, (λ p. (deleted p, gk), (λ p. (gt, branch_copied), (λ p. (deleted p, branch_copied), (λ p. (pasted_branch_lem 7 c gc (facts 7 p).2, gk), (λ p. (pasted_branch_lem 17 c gc (facts 17 p).2, gk), tt))))))),
          (
            (
              λ p. (gt, gk),
              (
                λ p. (without_good r.name r.path t gt, gk),
                (λ p. (gt, attribute_copied), (λ p. (without_good r.name r.path t gt, attribute_copied), (paste_attribute_lem, tt))),
              ),
            ),
            (
              (add_attribute, (change_value_lem, tt)),
              (
                (λ p. (granted_now (facts 14 p).1 p.clash (facts 14 p).2.permissions, gk), (λ p. (revoke_good r.name r.permission r.path t gt, gk), tt)),
                ((delegate, tt), tt),
              ),
            ),
          ),
        )
        own

    pub request_good : Passed r (found r t) (cached c) st → GoodTree (edited r t c) × GoodClip (clipped r t k)
    request_good p = kept_each (operands_good r p.operands).1 p
