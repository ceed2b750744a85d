-- The model refuses with numbers of the table alone, each the number of its refusal: what is answered has the model's number. Assumes nothing.
use mathlib.Core.Path.{◌≡◌, refl, sym, ap, subst, ◌∙◌}
use mathlib.Core.Bool.{Bool, true, false, ◌||◌, ◌&&◌, not}
use mathlib.Core.Option.{Option, none, some}
use mathlib.Core.List.{List, [], ◌∷◌, ◌++◌, map}
use Prim.Native.Nat.{ℕ}
use lib.Dec.{T, eqb, leb, ltb}
use lib.ListN.{length}
use borrow.Author.Tests.{eqb-true}
use Rattle.laws.specs.Slots.{pick}
use Rattle.model.specs.Things.{State, Attribute, Dossier, Clipboard, bare}
use Rattle.model.specs.Moves.{attribute_at, object_at}
use Rattle.model.specs.Refusals.{Request, Found, user_good, among, first_that, bad_operand, at_root, absent, taken, wrong_clipboard, missing, granted, uncovered, clashing, shelves, totals, provided, provisions, refusal}
use Rattle.model.specs.Image as images
use Rattle.model.specs.Image.{Loaded, bad, good}
use Rattle.model.specs.Run as run
use Rattle.model.specs.Run.{Call, start, new, load, save, save_clipboard, sign, take_log, request, ask, step}
use Rattle.state.specs.declared.refusal.Refusal.{Refusal}
use Rattle.state.specs.declared.refusal.Refusal.TheVariants.{BadOperand, AtRoot, Absent, NameTaken, WrongClipboard, NotGranted, NotCovered, Clashes, ShortBuffer, Unsigned, LogFull, BadImage, BadRecord, NodesFull, TooDeep, ChildrenFull, AttributesFull, PermissionsFull}
use Rattle.state.specs.Refusals.{number_of, table, numbered, first_with, refusal_of}
use Rattle.state.specs.View.{answer_of, number_in}

-- ---- a number of the table is the number of its refusal
first_by : (n : ℕ) (r : Refusal) (l : List Refusal) → (T (among n (map number_of l)) → number_of (first_with n l) ≡ n)
    → (b : Bool) → eqb n (number_of r) ≡ b → T (b || among n (map number_of l)) → number_of (pick b r (first_with n l)) ≡ n
first_by n r l more true e h = sym (eqb-true _ _ e)
first_by n r l more false e h = more h

first_back : (n : ℕ) (l : List Refusal) → T (among n (map number_of l)) → number_of (first_with n l) ≡ n
first_back n [] h = elim h [ ]
first_back n (r ∷ l) h = first_by n r l (first_back n l) (eqb n (number_of r)) refl h

pub number_back : (n : ℕ) → T (numbered n) → number_of (refusal_of n) ≡ n
unfolding refusal_of
number_back n h = first_back n table h

-- a refusal is that of its number, but for 12's record
pub refusal_back : (e : Refusal) → (number_of e ≡ 12 → ⊥) → refusal_of (number_of e) ≡ e
unfolding refusal_of
refusal_back BadOperand h = refl
refusal_back AtRoot h = refl
refusal_back Absent h = refl
refusal_back NameTaken h = refl
refusal_back WrongClipboard h = refl
refusal_back NotGranted h = refl
refusal_back NotCovered h = refl
refusal_back Clashes h = refl
refusal_back ShortBuffer h = refl
refusal_back Unsigned h = refl
refusal_back LogFull h = refl
refusal_back BadImage h = refl
refusal_back (BadRecord k) h = absurd (h refl)
refusal_back NodesFull h = refl
refusal_back TooDeep h = refl
refusal_back ChildrenFull h = refl
refusal_back AttributesFull h = refl
refusal_back PermissionsFull h = refl

-- the table has no record
twelve : (k : ℕ) → refusal_of 12 ≡ BadRecord k → ⊥
unfolding refusal_of
twelve k e = cc

pub no_record : (n k : ℕ) → T (numbered n) → refusal_of n ≡ BadRecord k → ⊥
no_record n k h e = let f : n ≡ 12 = sym (number_back n h) ∙ ap number_of e in twelve k (subst (λ (m : ℕ). refusal_of m ≡ BadRecord k) f e)

-- ---- the numbers that the model refuses with
abbrev pub Numbered : run.Answer → Type 0
Numbered run.done = Unit {0}
Numbered (run.contents names children) = Unit {0}
Numbered (run.value_read v) = Unit {0}
Numbered (run.wrote n) = Unit {0}
Numbered (run.refused n) = T (numbered n)
Numbered (run.bad_record n) = Unit {0}

abbrev InTable : Option ℕ → Type 0
InTable none = Unit {0}
InTable (some n) = T (numbered n)

abbrev rows : List (ℕ × Bool) → Bool
rows [] = true
rows (row ∷ l) = numbered row.0 && rows l

left : (a b : Bool) → T (a && b) → T a
left true b h = tt
left false b h = h

right : (a b : Bool) → T (a && b) → T b
right true b h = h
right false b h = elim h [ ]

first_numbered : (l : List (ℕ × Bool)) → T (rows l) → InTable (first_that l)
first_numbered [] h = tt
first_numbered ((k, true) ∷ l) h = left _ _ h
first_numbered ((k, false) ∷ l) h = first_numbered l (right (numbered k) _ h)

-- ---- by what applies of the table
or_numbered : (o : Option ℕ) → InTable o → (old s : State) → Numbered (run.or_refused o old s run.done).1.answer
or_numbered none h old s = tt
or_numbered (some n) h old s = h

writes_numbered : (o : Option ℕ) → InTable o → (old s : State) (bytes buffer : List ℕ) → Numbered (run.writes o old s bytes buffer).1.answer
writes_numbered none h old s bytes buffer = tt
writes_numbered (some n) h old s bytes buffer = h

from_numbered : (o : Option ℕ) → InTable o → (s : State) (out : State × run.Answer) → Numbered out.1
    → let either : State × run.Answer = elim o [ none ↦ out | some n ↦ (s, run.refused n) ] in Numbered either.1
from_numbered none h s out k = k
from_numbered (some n) h s out k = h

pick_numbered : (b : Bool) (x y : run.Answer) → Numbered x → Numbered y → Numbered (pick b x y)
pick_numbered true x y h k = h
pick_numbered false x y h k = k

value_numbered : (a : Option Attribute) → Numbered (run.value_of a)
value_numbered none = tt
value_numbered (some a) = tt

answered_numbered : (r : Request) (f : Found) (a : Option Attribute) → Numbered (run.answered r f a)
answered_numbered r f a =
    pick_numbered (among r.number (1 ∷ [])) (run.contents f.names f.children) (pick (among r.number (2 ∷ [])) (run.value_of a) run.done) tt
    (pick_numbered (among r.number (2 ∷ [])) (run.value_of a) run.done (value_numbered a) tt)

with_numbered : (s : State) (r : Request) (l : Loaded Clipboard) → Numbered (run.requested_with s r l).1
with_numbered s r (bad k) = tt
with_numbered s r (good c) =
    let d = run.dossier r.dossier s in
    let f = run.found r d in
    let t = run.standing r s.signatures s.log in
    let from = from_numbered (refusal r f (run.cached c) t) in
    from (first_numbered ((1, bad_operand r) ∷ (2, at_root r) ∷ (3, absent r f) ∷ (4, taken r f) ∷ (5, wrong_clipboard r (run.cached c)) ∷ (6, missing (granted r f)) ∷ (7, uncovered r f) ∷ (8, clashing r f) ∷ (shelves (totals r f (run.cached c)) ++ provided (provisions (granted r f)) t)) tt)
    s (run.carried_out s r f d c) (answered_numbered r f (attribute_at r.path r.name d))

loaded_numbered : (s : State) (n : ℕ) (image : List ℕ) (o : Option ℕ) → InTable o → (l : Loaded Dossier)
    → let either : State × run.Reply = elim o [ none ↦ run.loaded s n image l | some k ↦ (s, run.reply (run.refused k) (image ∷ [])) ] in Numbered either.1.answer
loaded_numbered s n image none h (bad k) = tt
loaded_numbered s n image none h (good d) = tt
loaded_numbered s n image (some k) h l = h

asked_numbered : (o : Option ℕ) → InTable o → (a : run.Reply) → Numbered a.answer → (lent : List (List ℕ))
    → let either : run.Reply = elim o [ none ↦ a | some n ↦ run.reply (run.refused n) lent ] in Numbered either.answer
asked_numbered none h a k lent = k
asked_numbered (some n) h a k lent = h

-- a list of one test, and of two
one : (n : ℕ) → T (numbered n) → (b : Bool) → InTable (first_that ((n, b) ∷ []))
one n h true = h
one n h false = tt

two : (n m : ℕ) → T (numbered n) → T (numbered m) → (b c : Bool) → InTable (first_that ((n, b) ∷ (m, c) ∷ []))
two n m h k true c = h
two n m h k false c = one m k c

pub step_numbered : (s : State) (c : Call) → Numbered (step s c).1.answer
unfolding step
step_numbered s start = tt
step_numbered s (new n owner) =
    let bad = not (run.dossier_good n && user_good owner) in or_numbered (first_that ((1, bad) ∷ [])) (one 1 tt bad) s (run.with_dossier n (bare owner) s)
step_numbered s (load n image) = let bad = not (run.dossier_good n) in loaded_numbered s n image (first_that ((1, bad) ∷ [])) (one 1 tt bad) (images.load image)
step_numbered s (save n buffer) =
    let bytes = images.save (run.dossier n s) in
    let bad = not (run.dossier_good n) in
    writes_numbered (first_that ((1, bad) ∷ (9, run.short bytes buffer) ∷ [])) (two 1 9 tt tt bad (run.short bytes buffer)) s s bytes buffer
step_numbered s (save_clipboard buffer) =
    let bytes = images.save_clipboard s.clipboard in writes_numbered (first_that ((9, run.short bytes buffer) ∷ [])) (one 9 tt (run.short bytes buffer)) s s bytes buffer
step_numbered s (sign user agreement) =
    let bad = not (user_good user && leb agreement 31) in or_numbered (first_that ((1, bad) ∷ [])) (one 1 tt bad) s (run.with_signatures (run.signed user agreement s.signatures) s)
step_numbered s (take_log buffer) =
    let bytes = run.log_bytes s.log in writes_numbered (first_that ((9, run.short bytes buffer) ∷ [])) (one 9 tt (run.short bytes buffer)) s (run.with_log [] s) bytes buffer
step_numbered s (request r image) = with_numbered s r (run.source s r image)
step_numbered s (ask image q buffer) =
    let d = run.image_of (images.load image) in
    let o = object_at q.path q.name (run.or_none d) in
    let may = run.may_ask_in q (run.or_none d) in
    let l : List (ℕ × Bool) = (1, run.bad_question q) ∷ (12, missing d) ∷ (3, missing o) ∷ (6, missing may) ∷ (9, ltb (length buffer) 8) ∷ [] in
    asked_numbered (first_that l) (first_numbered l tt) (run.reply run.done (image ∷ run.written (run.ask_bytes (provisions may)) buffer ∷ [])) tt (image ∷ buffer ∷ [])

-- ---- what a call answers has the number of the model's answer
number_same : (a : run.Answer) → Numbered a → number_in (answer_of a) ≡ run.number_of a
number_same run.done h = refl
number_same (run.contents names children) h = refl
number_same (run.value_read v) h = refl
number_same (run.wrote n) h = refl
number_same (run.refused n) h = number_back n h
number_same (run.bad_record n) h = refl

pub answer_number : (s : State) (c : Call) → number_in (answer_of (step s c).1.answer) ≡ run.number_of (step s c).1.answer
answer_number s c = number_same (step s c).1.answer (step_numbered s c)
