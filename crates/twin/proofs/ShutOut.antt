-- What documents 01 and 02 shut out: a build that refuses owners, says 9 for a full shelf, gives a fixed answer, does nothing, stops after one request, or invents a child count. Assumes nothing.
use mathlib.Core.Path.{◌≡◌, refl, sym, ap, ap₂, subst, ◌∙◌}
use mathlib.Core.Logic.{◌⊎◌, inl, inr, ◌↔◌, ◌≢◌}
use mathlib.Core.Bool.{Bool, false, not, ◌&&◌}
use mathlib.Core.Option.{Option, none, some}
use mathlib.Core.List.Memᴰ
use mathlib.Core.List.{List, [], ◌∷◌, ◌++◌, map}
use Prim.Native.Nat.{ℕ, zero, suc, ◌+◌, ◌≤◌, ◌<◌}
use native.Mathlib.Nat.{eq-or-lt_of_le, add-zero}
use native.Mathlib.Omega.{arith}
use lib.IntN.{ℤ, pos, negsuc}
use lib.Dec.{T, eqb, leb, ltb, leb→le, eqb→eq}
use lib.ListN.{length, replicate}
use mir.Facts.{and_yes, yes_eqb}
use Rattle.laws.specs.Slots.{pick, All}
use Rattle.laws.specs.Sorted.{◌∈◌, move}
use Rattle.laws.proofs.Sorted.{move_in, move_back}
use Rattle.path.specs.Address.{Address, child, off}
use Rattle.path.proofs.Moves.{is_false, pick_yes}
use Rattle.path.proofs.Laws.{on_off, off_on}
use Rattle.model.specs.Things.{whole, Row, Dossier, Clipboard, State}
use Rattle.model.specs.Decide.{Subject, Object, Provisions, nothing, joined, matched, owned, read_by, change_by, own_by, given, cover_any}
use Rattle.model.specs.Moves.{one_step, child_step, attribute_at, names_on, child_count}
use Rattle.model.specs.Refusals.{Request, subject, choose, Found, Cached, object, between, bad_operand, at_root, absent, taken, wrong_clipboard, granted, permissions_of, uncovered, clashing, totals, shelves, first_that}
use Rattle.model.specs.Run.{Call, request, Answer, done, contents, refused, Reply, dossier, found, cached, standing, answered, requested_with, requested, step, run_from, run}
use Rattle.model.specs.Image.{Loaded}
use Rattle.model.specs.Starred.{permit, asks, no_permission, plain, numbers, two_children}
use Rattle.twin.proofs.Children.{upto, one_step_some}
use Rattle.twin.proofs.Refusal.{Rows, only_then, judged, outcome, refused_is, unread}
use Rattle.twin.proofs.Requests.{tests, numbered}

-- ---- a build that refuses all: "owners must be granted"
-- the objects that a request needs, by the column "Needs"; request 16 is not an owner's
abbrev pub needed : Request → Found → List (Option Object)
needed r f =
    choose r.number []
    ((1 ∷ 5 ∷ [], f.node ∷ [])
    ∷ (2 ∷ 11 ∷ [], f.attribute ∷ [])
    ∷ (3 ∷ 4 ∷ 7 ∷ 17 ∷ [], f.parent ∷ [])
    ∷ (6 ∷ [], f.node ∷ f.parent ∷ [])
    ∷ (8 ∷ 9 ∷ 13 ∷ [], f.node ∷ [])
    ∷ (10 ∷ 12 ∷ [], f.attribute ∷ f.node ∷ [])
    ∷ (14 ∷ 15 ∷ [], object r f ∷ [])
    ∷ [])

-- it is there, and the user owns it
abbrev pub OwnedBy : ℕ → Option Object → Type 0
OwnedBy u none = ⊥
OwnedBy u (some o) = u ≡ o.owner

-- what an owner's request is still tested for: its operands, its place, the clipboard, a clash and the bounds; and a log beyond its bound, which no session has
abbrev pub otherwise : Request → Found → Cached → ℕ → Rows
otherwise r f c entries =
    (1, bad_operand r)
    ∷ (2, at_root r)
    ∷ (3, absent r f)
    ∷ (4, taken r f)
    ∷ (5, wrong_clipboard r c)
    ∷ (8, clashing r f)
    ∷ (shelves (totals r f c) ++ ((11, ltb 256 entries) ∷ []))

-- one after another, without brackets
infixr 5 ◌also◌
abbrev ◌also◌ : {A B : Type 0} → A → B → A × B
a also b = (a, b)

-- what holds of each of them holds of every number between
each_between : (P : ℕ → Type 0) (k a : ℕ) → All P (upto a k) → (n : ℕ) → a ≤ n → n + 1 ≤ a + k → P n
each_between P zero a h n l u = absurd (omega arith)
each_between P (suc k) a h n l u = go (eq-or-lt_of_le l) (each_between P k (suc a) h.1 n)
  where
    go : (a ≡ n) ⊎ (a < n) → (suc a ≤ n → n + 1 ≤ suc a + k → P n) → P n
    go (inl e) above = subst P e h.0
    go (inr m) above = above m (omega arith)

owned_granted : (s : Subject) (rest : Object → Option Provisions) (o : Option Object)
    → OwnedBy s.user o → given (λ x. pick (owned s x) (some nothing) (rest x)) o ≡ some nothing
owned_granted s rest none h = absurd h
owned_granted s rest (some o) h = pick_yes (owned s o) (some nothing) (rest o) (yes_eqb h)

-- the owner of what a request needs is granted it, with no provisions
pub owners_granted : (r : Request) (f : Found) → T (between 1 17 r.number) → r.number ≢ 16 → All (OwnedBy r.user) (needed r f) → granted r f ≡ some nothing
owners_granted r f t =
    let w = and_yes (leb 1 r.number) (leb r.number 17) t in
    let l : r.number ≤ 17 = leb→le r.number 17 w.1 in
    each_between (λ n. n ≢ 16 → All (OwnedBy r.user) (needed (numbered n r) f) → granted (numbered n r) f ≡ some nothing) 17 1
    ((λ m h. read f.node h.0)
    also (λ m h. read f.attribute h.0)
    also (λ m h. change f.parent h.0)
    also (λ m h. change f.parent h.0)
    also (λ m h. read f.node h.0)
    also (λ m h. ap₂ joined (read f.node h.0) (change f.parent h.1.0))
    also (λ m h. change f.parent h.0)
    also (λ m h. change f.node h.0)
    also (λ m h. change f.node h.0)
    also (λ m h. ap₂ joined (read f.attribute h.0) (change f.node h.1.0))
    also (λ m h. read f.attribute h.0)
    also (λ m h. ap₂ joined (read f.attribute h.0) (change f.node h.1.0))
    also (λ m h. change f.node h.0)
    also (λ m h. own (object r f) h.0)
    also (λ m h. own (object r f) h.0)
    also (λ m h. absurd (m refl))
    also (λ m h. change f.parent h.0)
    also tt) r.number (leb→le 1 r.number w.0) (omega arith)
  where
    s : Subject
    s = subject r

    read : (o : Option Object) → OwnedBy r.user o → given (read_by s) o ≡ some nothing
    read = owned_granted s (λ x. matched s 1 x.permissions)

    change : (o : Option Object) → OwnedBy r.user o → given (change_by s) o ≡ some nothing
    change = owned_granted s (λ x. joined (matched s 1 x.permissions) (matched s 2 x.permissions))

    own : (o : Option Object) → OwnedBy r.user o → given (own_by s) o ≡ some nothing
    own = owned_granted s (λ x. none)

-- so his request is refused for nothing else
pub owners_judged : (s : State) (r : Request) (k : Clipboard) → T (between 1 17 r.number) → r.number ≢ 16 → All (OwnedBy r.user) (needed r (found r (dossier r.dossier s)))
    → judged s r k ≡ first_that (otherwise r (found r (dossier r.dossier s)) (cached k) (length s.log))
owners_judged s r k t m h =
    (λ i. first_that (tests r f c (standing r s.signatures s.log) (g i) (covered i))) ∙ ap (λ (n : ℕ). first_that (otherwise r f c n)) (add-zero (length s.log))
  where
    f : Found
    f = found r (dossier r.dossier s)

    c : Cached
    c = cached k

    g : granted r f ≡ some nothing
    g = owners_granted r f t m h

    covered : uncovered r f ≡ false
    covered = ap (λ (b : Bool). b && not (cover_any (subject r) r.permission (permissions_of (object r f))))
        (is_false (eqb r.number 16) (λ e. m (eqb→eq r.number 16 e)))

-- and never 6: not granted
pub owners_not_refused : (s : State) (r : Request) (image : List ℕ) → T (between 1 17 r.number) → r.number ≢ 16 → All (OwnedBy r.user) (needed r (found r (dossier r.dossier s)))
    → (requested s r image).1 ≢ refused 6
owners_not_refused s r image t m h e =
    let w = refused_is s r image 6 e in
    only_then 6 (otherwise r (found r (dossier r.dossier s)) (cached w.0) (length s.log)) (sym (owners_judged s r w.0 t m h) ∙ w.2)

-- user 1 owns the root that start gives: he adds a node, reads, adds a permission, copies, pastes and deletes
pub owners_run : numbers
    (run (plain 3 1 (1 ∷ []) ∷ plain 1 1 [] ∷ asks 14 1 1 [] (permit 2 1 0 (pos 0) (pos 10)) ∷ plain 5 1 (1 ∷ []) ∷ plain 7 1 (2 ∷ []) ∷ plain 4 1 (1 ∷ []) ∷ []))
    ≡ replicate 6 0
unfolding step
owners_run = refl

-- ---- a build that says 9 where a shelf is full: "Refusal 9 stays only for a lent buffer that is too short", and a request is lent none
pub never_nine : (s : State) (r : Request) (image : List ℕ) → (requested s r image).1 ≢ refused 9
never_nine s r image e =
    let f = found r (dossier r.dossier s) in
    let w = refused_is s r image 9 e in
    only_then 9 (tests r f (cached w.0) (standing r s.signatures s.log) (granted r f) (uncovered r f)) w.2

-- ---- a build that gives a fixed answer: example 6
-- a read of the root at a time, by user 5 in role 2
abbrev reads_at : ℤ → Call
reads_at t =
    request (record { number = 1; dossier = 1; role = 2; user = 5; time = t; path = []; name = 0; value = whole 0; permission = no_permission }) []

-- "Permission 0..10: time −1 no match, 0 and 10 match, 11 none"
pub example6_three_answers : numbers
    (run (asks 14 1 1 [] (permit 2 1 0 (pos 0) (pos 10)) ∷ reads_at (negsuc 0) ∷ reads_at (pos 0) ∷ reads_at (pos 10) ∷ reads_at (pos 11) ∷ []))
    ≡ 0 ∷ 6 ∷ 0 ∷ 0 ∷ 6 ∷ []
unfolding step
example6_three_answers = refl

-- ---- a build that does nothing: "example 9 needs three children afterwards"
abbrev answers_of : List Reply → List Answer
answers_of l = map (λ r. r.answer) l

pub example9_three_children : answers_of (run (two_children ++ (plain 3 1 (3 ∷ []) ∷ plain 1 1 [] ∷ []))) ≡ done ∷ done ∷ done ∷ contents [] 3 ∷ []
unfolding step
example9_three_children = refl

-- ---- a build that "carries out only the first request of a run and then merely says granted"
pub second_like_first : (s : State) (c : Call) (l : List Call) → run_from s (c ∷ l) ≡ (step s c).1 ∷ run_from (step s c).0 l
second_like_first s c l = refl

pub two_adds_two_children : answers_of (run (plain 3 1 (1 ∷ []) ∷ plain 1 1 [] ∷ plain 3 1 (2 ∷ []) ∷ plain 1 1 [] ∷ [])) ≡ done ∷ contents [] 1 ∷ done ∷ contents [] 2 ∷ []
unfolding step
two_adds_two_children = refl

-- ---- a build "with an invented child count"
-- a node's row: its path and its owner
abbrev pub node_row : Address → ℕ → Row ℕ
node_row p o = (p, o)

-- a row counts as a child of p exactly if its path is one step below p
pub child_step_exactly : {P : Type 0} (p : Address) (r : Row P) (i : ℕ) → (child_step p r ≡ some i) ↔ (r.0 ≡ child p i)
child_step_exactly p r i =
    (λ e. sym (on_off p r.0 (i ∷ []) (one_step_some (off p r.0) i e)), λ e. ap (λ (q : Address). one_step (off p q)) e ∙ ap one_step (off_on p (i ∷ [])))

-- the child count is the number of these rows
pub child_count_is : (p : Address) (d : Dossier) → (child_count p d ≡ length (move (child_step p) d.nodes))
    × ((i : ℕ) → (i ∈ move (child_step p) d.nodes) ↔ ((o : ℕ) × (node_row (child p i) o ∈ d.nodes)))
child_count_is p d = (refl, λ i. (there i, back i))
  where
    there : (i : ℕ) → i ∈ move (child_step p) d.nodes → (o : ℕ) × (node_row (child p i) o ∈ d.nodes)
    there i m = let w = move_back (child_step p) i d.nodes m in
        (w.0.1, Memᴰ.cast (λ k. (sym ((child_step_exactly p w.0 i).0 w.2) k, w.0.1)) w.1)

    back : (i : ℕ) → ((o : ℕ) × (node_row (child p i) o ∈ d.nodes)) → i ∈ move (child_step p) d.nodes
    back i w = move_in (child_step p) w.1 ((child_step_exactly p (node_row (child p i) w.0) i).1 refl)

-- and a read of a node that is not refused answers it, with the names on the node
pub read_answers : (s : State) (r : Request) (image : List ℕ) → r.number ≡ 1 → judged s r s.clipboard ≡ none
    → (requested s r image).1 ≡ contents (names_on r.path (dossier r.dossier s)) (child_count r.path (dossier r.dossier s))
read_answers s r image e n =
    ap (λ (l : Loaded Clipboard). (requested_with s r l).1) (unread s r image (λ t. let d : r.number ≡ 17 = eqb→eq r.number 17 (and_yes (eqb r.number 17) _ t).0 in omega arith))
    ∙ ap (λ (o : Option ℕ). (outcome s r s.clipboard o).1) n
    ∙ ap (λ (k : ℕ). answered (numbered k r) (found r (dossier r.dossier s)) (attribute_at r.path r.name (dossier r.dossier s))) e
