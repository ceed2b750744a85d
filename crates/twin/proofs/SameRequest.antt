-- A request does the same to a good tree and to its tables: it is refused alike, answers alike, and leaves the tables of what it leaves. Assumes nothing.
use mathlib.Core.Path.{◌≡◌, refl, sym, ap, ap₂, ◌∙◌}
use mathlib.Core.Logic.{inl, inr}
use mathlib.Core.Bool.{Bool, true, false, not, ◌||◌}
use mathlib.Core.Option.{Option, none, some, map}
use mathlib.Core.List.{List, [], ◌∷◌}
use Prim.Native.Nat.{ℕ, ◌+◌, ◌≤◌}
use native.Mathlib.Omega.{arith}
use lib.Dec.{T, eqb, ltb, nltb→le, eqb→eq, not_T}
use Rattle.laws.specs.Slots.{pick}
use Rattle.path.specs.Address.{Address, steps_good, parent, last}
use Rattle.model.specs.Things as things
use Rattle.model.specs.Things.{Permission, Dossier, State}
use Rattle.model.specs.Decide.{Object}
use Rattle.model.specs.Moves as moves
use Rattle.model.specs.Moves.{attribute_at, delete_branch, paste_branch}
use Rattle.model.specs.Refusals.{Request, Found, Cached, missing, name_good, own_good, is_root, held, Standing, refusal}
use Rattle.model.specs.Run as run
use Rattle.model.specs.Run.{Answer, refused, standing}
use Rattle.roundtrip.proofs.Checks.{neither}
use Rattle.roundtrip.proofs.Load.{last_good}
use Rattle.twin.specs.Tree.{Tree, kids, count, branch, look, paste_tree, delete_tree}
use Rattle.twin.specs.Twin.{Holding, Node, Clip, empty, branched, single, Session, leaf, plain, node_object, holding_object, holding, holding_at, node_at, attribute_object, object_at, children_of, found, cached, pasted_branch, renamed, pasted_attribute, edited, copied_branch, copied, clipped, answered, dossier, with_dossier, carried_out, requested_from}
use Rattle.twin.specs.Good.{dossier_of, clipboard_of, state_of, GoodTree, GoodClip, GoodSession}
use Rattle.twin.proofs.Trees.{last_of, then_some, Place, place_of, look_branch}
use Rattle.twin.proofs.KeepNode.{holding_in}
use Rattle.twin.proofs.KeepEdits.{look_good, dossier_good_lem}
use Rattle.twin.proofs.Requests.{Passed, passed, operands_good, request_common, numbered, every_number}
use Rattle.twin.proofs.SameNode.{not_zero}
use Rattle.twin.proofs.Same.{attribute_at_same, held_same, found_same, cached_same}
use Rattle.twin.proofs.SameEdit.{paste_same, bare_same, delete_same, copy_same, hold_same, without_same, value_same, Its, grant_same, revoke_same}

-- ---- what is there
pub not_missing : {A B : Type 0} (f : A → B) (o : Option A) → (T (missing (map f o)) → ⊥) → (a : A) × (o ≡ some a)
not_missing f none n = absurd (n tt)
not_missing f (some a) n = (a, refl)

-- the object of a name that is there is on a node that is there
pub its_there : (p : Address) (k : ℕ) (t : Tree Node) → (T (missing (object_at p k t)) → ⊥) → (n : Node) × (look p t ≡ some n) × ((l : List Permission) × Its k n l)
its_there p k t h = go (eqb k 0) (eqb→eq k 0) h
  where
    go : (b : Bool) → (T b → k ≡ 0) → (T (missing (pick b (node_at p t) (attribute_object p k t))) → ⊥) → (n : Node) × (look p t ≡ some n) × ((l : List Permission) × Its k n l)
    go true y c = let w = not_missing node_object (look p t) c in (w.0, w.1, (w.0.permissions, inl (y tt, refl)))
    go false y c =
        let w = not_missing holding_object (holding_at p k t) c in
        let v = then_some (look p t) (holding k) w.0 w.1 in
        let u = holding_in k v.0 w.0 v.2 in
        (v.0, v.1, (w.0.permissions, inr (w.0, u.0, u.1, refl)))

place_there : (k : ℕ) (q : Address) (t : Tree Node) → T (steps_good (k ∷ q)) → (T (missing (node_at (parent (k ∷ q)) t)) → ⊥) → last (k ∷ q) ≤ children_of (branch (parent (k ∷ q)) t) + 1 → Place k q t
place_there k q t g h l =
    let w = not_missing node_object (look (parent (k ∷ q)) t) h in
    let v = look_branch (parent (k ∷ q)) t w.0 w.1 in
    let e : children_of (branch (parent (k ∷ q)) t) ≡ count (kids v.0) = ap children_of v.1 in
    place_of k q t v.0 v.1 (last_good k q g).0 (omega arith)

-- ---- branches, at a path that is not the root's
pasted_at : (s : Tree Node) (p : Address) (t : Tree Node) → (T (is_root p) → ⊥) → T (steps_good p) → (T (missing (node_at (parent p) t) || ltb (children_of (branch (parent p) t) + 1) (last p)) → ⊥)
    → paste_branch p (dossier_of s) (dossier_of t) ≡ dossier_of (paste_tree s p t)
pasted_at s [] t r g h = absurd (r tt)
pasted_at s (k ∷ q) t r g h =
    let w = neither (missing (node_at (parent (k ∷ q)) t)) (ltb (children_of (branch (parent (k ∷ q)) t) + 1) (last (k ∷ q))) h in
    paste_same s k q t
    (place_there k q t g w.0 (nltb→le (children_of (branch (parent (k ∷ q)) t) + 1) (last (k ∷ q)) (not_T (ltb (children_of (branch (parent (k ∷ q)) t) + 1) (last (k ∷ q))) w.1)))

deleted_at : (p : Address) (t : Tree Node) → (T (is_root p) → ⊥) → T (steps_good p) → delete_branch p (dossier_of t) ≡ dossier_of (delete_tree p t)
deleted_at [] t r g = absurd (r tt)
deleted_at (k ∷ q) t r g = delete_same k q t (last_of k q (last_good k q g).0)

-- ---- every request that is not refused
held_there : (g : Permission) (o : Option Object) → (T (not (held g o)) → ⊥) → T (missing o) → ⊥
held_there g none n t = n tt
held_there g (some o) n t = t

-- c is what there is to paste, and k the clipboard
module _ (r : Request) (t : Tree Node) (c k : Clip) (st : Standing) (gt : GoodTree t) where
  abbrev Alike : ℕ → Type 0
  Alike n =
      Passed (numbered n r) (found r t) (cached c) st
      → (run.edited (numbered n r) (dossier_of t) (clipboard_of c) ≡ dossier_of (edited (numbered n r) t c))
      × (run.clipped (numbered n r) (dossier_of t) (clipboard_of k) ≡ clipboard_of (clipped (numbered n r) t k))

  good : (n : ℕ) → Passed (numbered n r) (found r t) (cached c) st → T (own_good (numbered n r))
  good n p = (operands_good (numbered n r) p.operands).1

  steps : (n : ℕ) → Passed (numbered n r) (found r t) (cached c) st → T (steps_good r.path)
  steps n p = (request_common (numbered n r) p.operands).steps

  on_node : (T (missing (node_at r.path t)) → ⊥) → (n : Node) × (look r.path t ≡ some n)
  on_node h = not_missing node_object (look r.path t) h

  -- the attribute, and the node it is on
  on_attribute : (T (missing (attribute_object r.path r.name t)) → ⊥) → (a : Holding) × (holding_at r.path r.name t ≡ some a) × ((n : Node) × (look r.path t ≡ some n) × (holding r.name n ≡ some a))
  on_attribute h =
      let w = not_missing holding_object (holding_at r.path r.name t) h in
      let v = then_some (look r.path t) (holding r.name) w.0 w.1 in
      (w.0, w.1, (v.0, v.1, v.2))

  copied_branch_lem : (T (missing (node_at r.path t)) → ⊥) → run.clipped (numbered 5 r) (dossier_of t) (clipboard_of k) ≡ clipboard_of (clipped (numbered 5 r) t k)
  copied_branch_lem h =
      let w = on_node h in
      let v = look_branch r.path t w.0 w.1 in
      ap things.branch (copy_same r.path t v.0 v.1) ∙ sym (ap (λ (o : Option (Tree Node)). clipboard_of (copied_branch k o)) v.1)

  copied_attribute : moves.copied r.path r.name (dossier_of t) (clipboard_of k) (attribute_at r.path r.name (dossier_of t)) ≡ clipboard_of (copied k (holding_at r.path r.name t))
  copied_attribute =
      ap (moves.copied r.path r.name (dossier_of t) (clipboard_of k)) (attribute_at_same r.path r.name t gt) ∙ go (holding_at r.path r.name t) refl
    where
      go : (o : Option Holding) → holding_at r.path r.name t ≡ o → moves.copied r.path r.name (dossier_of t) (clipboard_of k) (map plain o) ≡ clipboard_of (copied k o)
      go none e = refl
      go (some a) e = ap (things.single (plain a)) (held_same r.path r.name t a gt e)

  add_node_lem : Alike 3
  add_node_lem p = (ap (λ (d : Dossier). paste_branch r.path d (dossier_of t)) (bare_same r.user) ∙ pasted_at (leaf r.user) r.path t p.root (steps 3 p) p.there, refl)

  -- requests 7 and 17
  paste_branch_lem : (n : ℕ) → (T (is_root r.path) → ⊥) → T (steps_good r.path)
      → (T (missing (node_at (parent r.path) t) || ltb (children_of (branch (parent r.path) t) + 1) (last r.path)) → ⊥)
      → moves.pasted_branch r.path (dossier_of t) (clipboard_of c) ≡ dossier_of (pasted_branch (numbered n r) t c)
  paste_branch_lem n root good there = go c
    where
      go : (b : Clip) → moves.pasted_branch r.path (dossier_of t) (clipboard_of b) ≡ dossier_of (pasted_branch (numbered n r) t b)
      go empty = refl
      go (branched s) = pasted_at s r.path t root good there
      go (single a) = refl

  add_attribute : Alike 8
  add_attribute p =
      let w = on_node p.there in
      (hold_same (record { name = r.name; owner = r.user; value = r.value; permissions = [] }) r.path t w.0 w.1, refl)

  delete_attribute_lem : T (name_good r.name) → (T (missing (attribute_object r.path r.name t)) → ⊥) → run.edited (numbered 9 r) (dossier_of t) (clipboard_of c) ≡ dossier_of (edited (numbered 9 r) t c)
  delete_attribute_lem g h = let w = on_attribute h in without_same r.name r.path t w.2.0 w.2.1 (not_zero r.name g)

  change_value_lem : Alike 10
  change_value_lem p =
      let w = on_attribute p.there in (
        value_same r.name r.value r.path t w.2.0 w.0 w.2.1 (look_good r.path t w.2.0 w.2.1 gt) w.2.2
            (attribute_at_same r.path r.name t gt ∙ ap (map plain) w.1),
        refl,
      )

  paste_attribute_lem : Alike 13
  paste_attribute_lem p = (go c, refl)
    where
      go : (b : Clip) → moves.pasted_attribute r.path r.name (dossier_of t) (clipboard_of b) ≡ dossier_of (pasted_attribute (numbered 13 r) t b)
      go empty = refl
      go (branched s) = refl
      go (single a) = let w = on_node p.there in hold_same (renamed r.name a) r.path t w.0 w.1

  add_permission_lem : (T (missing (object_at r.path r.name t)) → ⊥) → run.edited (numbered 14 r) (dossier_of t) (clipboard_of c) ≡ dossier_of (edited (numbered 14 r) t c)
  add_permission_lem h =
      let w = its_there r.path r.name t h in
      grant_same r.name r.permission r.path t w.0 w.1 (look_good r.path t w.0 w.1 gt) w.2.0 w.2.1

  delete_permission_lem : Alike 15
  delete_permission_lem p =
      let w = its_there r.path r.name t (held_there r.permission (object_at r.path r.name t) p.there) in
      (revoke_same r.name r.permission r.path t w.0 w.1 (look_good r.path t w.0 w.1 gt), refl)

  alike : T (own_good r) → Alike r.number
  alike own =
      every_number Alike r (
        (
          λ p. (refl, refl),
          (
            add_node_lem,
            (
              λ p. (deleted_at r.path t p.root (steps 4 p), refl),
              (
                λ p. (refl, copied_branch_lem p.there),
                (
                  λ p. (deleted_at r.path t p.root (steps 6 p), copied_branch_lem p.there),
                  (λ p. (paste_branch_lem 7 p.root (steps 7 p) p.there, refl), (λ p. (paste_branch_lem 17 p.root (steps 17 p) p.there, refl), tt)),
                ),
              ),
            ),
          ),
        ),
        (
          (
            λ p. (refl, refl),
            (
              λ p. (delete_attribute_lem (good 9 p) p.there, refl),
              (λ p. (refl, copied_attribute), (λ p. (delete_attribute_lem (good 12 p) p.there, copied_attribute), (paste_attribute_lem, tt))),
            ),
          ),
          (
            (add_attribute, (change_value_lem, tt)),
            ((λ p. (add_permission_lem p.there, refl), (delete_permission_lem, tt)), ((λ p. (add_permission_lem p.there, refl), tt), tt)),
          ),
        ),
      )
      own

  done_same : refusal r (found r t) (cached c) st ≡ none
      → (run.edited r (dossier_of t) (clipboard_of c) ≡ dossier_of (edited r t c)) × (run.clipped r (dossier_of t) (clipboard_of k) ≡ clipboard_of (clipped r t k))
  done_same e = let p = passed r (found r t) (cached c) st e in alike (operands_good r p.operands).1 p

  edited_same : refusal r (found r t) (cached c) st ≡ none → run.edited r (dossier_of t) (clipboard_of c) ≡ dossier_of (edited r t c)
  edited_same e = (done_same e).0

  clipped_same : refusal r (found r t) (cached c) st ≡ none → run.clipped r (dossier_of t) (clipboard_of k) ≡ clipboard_of (clipped r t k)
  clipped_same e = (done_same e).1

answered_same : (r : Request) (f : Found) (t : Tree Node) → GoodTree t → run.answered r f (attribute_at r.path r.name (dossier_of t)) ≡ answered r f (holding_at r.path r.name t)
answered_same r f t g = ap (run.answered r f) (attribute_at_same r.path r.name t g)

-- ---- the session
-- what the table's editor has where the tree's has this
abbrev pub seen : {A : Type 0} → Session × A → State × A
seen x = (state_of x.0, x.1)

pub dossier_same : (n : ℕ) (s : Session) → run.dossier n (state_of s) ≡ dossier_of (dossier n s)
dossier_same n s = go (eqb n 1)
  where
    go : (b : Bool) → pick b (dossier_of s.one) (dossier_of s.two) ≡ dossier_of (pick b s.one s.two)
    go true = refl
    go false = refl

pub with_same : (n : ℕ) (t : Tree Node) (s : Session) → run.with_dossier n (dossier_of t) (state_of s) ≡ state_of (with_dossier n t s)
with_same n t s = go (eqb n 1)
  where
    first : Session
    first = record { one = t; two = s.two; clipboard = s.clipboard; signatures = s.signatures; log = s.log }

    second : Session
    second = record { one = s.one; two = t; clipboard = s.clipboard; signatures = s.signatures; log = s.log }

    go : (b : Bool) → pick b (state_of first) (state_of second) ≡ state_of (pick b first second)
    go true = refl
    go false = refl

carried_same : (s : Session) (r : Request) (t : Tree Node) (c : Clip) → GoodTree t
    → refusal r (found r t) (cached c) (standing r s.signatures s.log) ≡ none
    → run.carried_out (state_of s) r (found r t) (dossier_of t) (clipboard_of c) ≡ seen (carried_out s r (found r t) t c)
carried_same s r t c g e =
    let k = s.clipboard in
    let b : run.clipped r (dossier_of t) (clipboard_of k) ≡ clipboard_of (clipped r t k) = clipped_same r t c k (standing r s.signatures s.log) g e in
    let d : run.with_dossier r.dossier (run.edited r (dossier_of t) (clipboard_of c)) (state_of s) ≡ state_of (with_dossier r.dossier (edited r t c) s)
    = ap (λ (x : Dossier). run.with_dossier r.dossier x (state_of s)) (edited_same r t c k (standing r s.signatures s.log) g e) ∙ with_same r.dossier (edited r t c) s in
    λ i. (
      run.with_log (seen (carried_out s r (found r t) t c)).0.log (run.with_clipboard (b i) (d i)),
      answered_same r (found r t) t g i,
    )

pub from_same : (s : Session) (r : Request) (c : Clip) → GoodSession s → GoodClip c → run.requested_from (state_of s) r (clipboard_of c) ≡ seen (requested_from s r c)
from_same s r c g gc =
    ap (λ (d : Dossier). model (run.found r d) (run.cached (clipboard_of c)) d) (dossier_same r.dossier s)
    ∙ ap₂ (λ (f : Found) (b : Cached). model f b (dossier_of t)) (found_same r t gt) (cached_same c gc)
    ∙ go (refusal r (found r t) (cached c) st) refl
  where
    t : Tree Node
    t = dossier r.dossier s

    gt : GoodTree t
    gt = dossier_good_lem r.dossier s g

    st : Standing
    st = standing r s.signatures s.log

    model : Found → Cached → Dossier → State × Answer
    model f b d = elim (refusal r f b st) [ none ↦ run.carried_out (state_of s) r f d (clipboard_of c) | some n ↦ (state_of s, refused n) ]

    go : (o : Option ℕ) → refusal r (found r t) (cached c) st ≡ o
        → elim o [ none ↦ run.carried_out (state_of s) r (found r t) (dossier_of t) (clipboard_of c) | some n ↦ (state_of s, refused n) ]
        ≡ seen {A = Answer} (elim o [ none ↦ carried_out s r (found r t) t c | some n ↦ (s, refused n) ])
    go none e = carried_same s r t c gt e
    go (some n) e = refl
