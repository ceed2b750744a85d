-- A refused call leaves the session and the lent buffers as they were; the number is that of the first row of the table that applies. Assumes nothing.
use mathlib.Core.Path.{◌≡◌, refl, sym, ap, subst, ◌∙◌}
use mathlib.Core.Logic.{◌↔◌}
use mathlib.Core.Bool.{Bool, true, false, not, ◌&&◌, ◌||◌}
use mathlib.Core.Option.{Option, none, some, some-injective, none-ne-some}
use mathlib.Core.List.{List, [], ◌∷◌, ◌++◌}
use Prim.Native.Nat.{ℕ}
use lib.Dec.{T, eqb, leb, ltb, eqb_refl}
use lib.ListN.{length}
use mir.Facts.{yes_and}
use Rattle.laws.specs.Slots.{pick, All}
use Rattle.model.specs.Things.{Attribute, Dossier, Clipboard, State, bare}
use Rattle.model.specs.Moves.{attribute_at, object_at}
use Rattle.model.specs.Refusals.{Request, Found, missing, user_good, provisions, first_that, refusal}
use Rattle.model.specs.Image as images
use Rattle.model.specs.Image.{Loaded, bad, good}
use Rattle.model.specs.Run.{Question, Call, start, new, load, save, save_clipboard, sign, take_log, request, ask, Answer, done, contents, value_read, wrote, refused, bad_record, number_of, record_of, Reply, reply, short, written, writes, dossier_good, dossier, with_dossier, with_log, with_signatures, signed, log_bytes, found, cached, standing, value_of, answered, carried_out, requested_from, places, as_branch, source, requested_with, requested, bad_question, image_of, or_none, may_ask_in, ask_bytes, loaded, or_refused, step}
use Rattle.path.proofs.Moves.{pick_no}
use Rattle.roundtrip.proofs.Checks.{or_left, or_right}

-- ---- "Tested in this order; the first that applies is given, and only then"
abbrev pub Rows : Type 0
Rows = List (ℕ × Bool)

abbrev pub Untrue : ℕ × Bool → Type 0
Untrue row = row.1 ≡ false

abbrev pub FirstRow : ℕ → Rows → Type 0
FirstRow n l = (a : Rows) × (b : Rows) × (l ≡ a ++ ((n, true) ∷ b)) × All Untrue a

first_there : (n : ℕ) (l : Rows) → first_that l ≡ some n → FirstRow n l
first_there n [] e = absurd (none-ne-some n e)
first_there n (row ∷ l) e = go row.1 refl e (first_there n l)
  where
    go : (b : Bool) → row.1 ≡ b → pick b (some row.0) (first_that l) ≡ some n → (first_that l ≡ some n → FirstRow n l) → FirstRow n (row ∷ l)
    go true d h below = ([], l, λ i. (some-injective row.0 n h i, d i) ∷ l, tt)
    go false d h below = let w = below h in (row ∷ w.0, w.1, ap (λ (m : Rows). row ∷ m) w.2, (d, w.3))

first_back : (n : ℕ) (a b : Rows) → All Untrue a → first_that (a ++ ((n, true) ∷ b)) ≡ some n
first_back n [] b h = refl
first_back n (row ∷ a) b h = ap (λ (c : Bool). pick c (some row.0) (first_that (a ++ ((n, true) ∷ b)))) h.0 ∙ first_back n a b h.1

pub refusal_number : (n : ℕ) (l : Rows) → (first_that l ≡ some n) ↔ FirstRow n l
refusal_number n l = (first_there n l, λ w. ap first_that w.2 ∙ first_back n w.0 w.1 w.3)

-- no refusal exactly where no row applies
pub no_refusal : (l : Rows) → (first_that l ≡ none) ↔ All Untrue l
no_refusal l = (there l, back l)
  where
    there : (l : Rows) → first_that l ≡ none → All Untrue l
    there [] e = tt
    there (row ∷ l) e = go row.1 refl e (there l)
      where
        go : (b : Bool) → row.1 ≡ b → pick b (some row.0) (first_that l) ≡ none → (first_that l ≡ none → All Untrue l) → All Untrue (row ∷ l)
        go true d h below = absurd (none-ne-some row.0 (sym h))
        go false d h below = (d, below h)

    back : (l : Rows) → All Untrue l → first_that l ≡ none
    back [] h = refl
    back (row ∷ l) h = ap (λ (c : Bool). pick c (some row.0) (first_that l)) h.0 ∙ back l h.1

-- whether a row of this number applies
abbrev pub applies : ℕ → Rows → Bool
applies n [] = false
applies n (row ∷ l) = (eqb n row.0 && row.1) || applies n l

-- "and only then": a number that is given has a row that applies
pub only_then : (n : ℕ) (l : Rows) → first_that l ≡ some n → T (applies n l)
only_then n l e = let w = first_there n l e in subst (λ (m : Rows). T (applies n m)) (sym w.2) (at_row w.0 w.1)
  where
    at_row : (a b : Rows) → T (applies n (a ++ ((n, true) ∷ b)))
    at_row [] b = or_left (eqb n n && true) (applies n b) (yes_and (eqb n n) true (eqb_refl n) tt)
    at_row (row ∷ a) b = or_right (eqb n row.0 && row.1) (applies n (a ++ ((n, true) ∷ b))) (at_row a b)

-- ---- a guarded request that pastes from c, by what the table says
abbrev pub judged : State → Request → Clipboard → Option ℕ
judged s r c = refusal r (found r (dossier r.dossier s)) (cached c) (standing r s.signatures s.log)

abbrev pub outcome : State → Request → Clipboard → Option ℕ → State × Answer
outcome s r c o =
    elim o [
      | none ↦ carried_out s r (found r (dossier r.dossier s)) (dossier r.dossier s) c
      | some n ↦ (s, refused n)
    ]

pub refused_by : (s : State) (r : Request) (c : Clipboard) (n : ℕ) → judged s r c ≡ some n → requested_from s r c ≡ (s, refused n)
refused_by s r c n e = ap (outcome s r c) e

-- ---- ask, by what its own table says: "tested 1, 12 (here without a record number), 3, 6, 9"
abbrev pub asking : Question → List ℕ → Option Dossier → Option ℕ
asking q buffer d =
    first_that
    ((1, bad_question q)
    ∷ (12, missing d)
    ∷ (3, missing (object_at q.path q.name (or_none d)))
    ∷ (6, missing (may_ask_in q (or_none d)))
    ∷ (9, ltb (length buffer) 8)
    ∷ [])

abbrev pub replied : List ℕ → List ℕ → List ℕ → Option ℕ → Reply
replied image buffer bytes o =
    elim o [
      | none ↦ reply done (image ∷ bytes ∷ [])
      | some n ↦ reply (refused n) (image ∷ buffer ∷ [])
    ]

pub ask_refused_by : (s : State) (image : List ℕ) (q : Question) (buffer : List ℕ) (n : ℕ)
    → asking q buffer (image_of (images.load image)) ≡ some n
    → step s (ask image q buffer) ≡ (s, reply (refused n) (image ∷ buffer ∷ []))
unfolding step
ask_refused_by s image q buffer n e = let d = image_of (images.load image) in
    ap {B = State × Reply} (λ (o : Option ℕ). (s, replied image buffer (written (ask_bytes (provisions (may_ask_in q (or_none d)))) buffer) o)) e

-- ---- "The session and lent buffers keep what they held"
abbrev pub is_refused : Answer → Bool
is_refused done = false
is_refused (contents names children) = false
is_refused (value_read v) = false
is_refused (wrote n) = false
is_refused (refused n) = true
is_refused (bad_record n) = true

-- each image and lent buffer of a call, as it is handed in
abbrev pub lent_by : Call → List (List ℕ)
lent_by start = []
lent_by (new n owner) = []
lent_by (load n image) = image ∷ []
lent_by (save n buffer) = buffer ∷ []
lent_by (save_clipboard buffer) = buffer ∷ []
lent_by (sign user agreement) = []
lent_by (take_log buffer) = buffer ∷ []
lent_by (request r image) = image ∷ []
lent_by (ask image q buffer) = image ∷ buffer ∷ []

-- a reply that keeps everything if it refuses
abbrev pub Keeps : State → List (List ℕ) → State × Reply → Type 0
Keeps s lent out = T (is_refused out.1.answer) → (out.0 ≡ s) × (out.1.lent ≡ lent)

-- what is carried out is not refused
answered_so : (r : Request) (f : Found) (a : Option Attribute) → T (is_refused (answered r f a)) → ⊥
answered_so r f a t = go (eqb r.number 1 || false) (eqb r.number 2 || false) a t
  where
    go : (b c : Bool) (a : Option Attribute) → T (is_refused (pick b (contents f.names f.children) (pick c (value_of a) done))) → ⊥
    go true c a t = t
    go false true none t = t
    go false true (some a) t = t
    go false false a t = t

or_keeps : (o : Option ℕ) (s after : State) → Keeps s [] (or_refused o s after done)
or_keeps none s after t = absurd t
or_keeps (some n) s after t = (refl, refl)

writes_keeps : (o : Option ℕ) (s after : State) (bytes buffer : List ℕ) → Keeps s (buffer ∷ []) (writes o s after bytes buffer)
writes_keeps none s after bytes buffer t = absurd t
writes_keeps (some n) s after bytes buffer t = (refl, refl)

load_keeps : (o : Option ℕ) (s : State) (n : ℕ) (image : List ℕ) (d : Loaded Dossier)
    → Keeps s (image ∷ []) (elim o [ none ↦ loaded s n image d | some k ↦ (s, reply (refused k) (image ∷ [])) ])
load_keeps none s n image (bad k) t = (refl, refl)
load_keeps none s n image (good d) t = absurd t
load_keeps (some k) s n image d t = (refl, refl)

-- the table's answer on what is pasted
from_keeps : (o : Option ℕ) (s : State) (r : Request) (c : Clipboard) → T (is_refused (outcome s r c o).1) → (outcome s r c o).0 ≡ s
from_keeps none s r c t =
    absurd (answered_so r (found r (dossier r.dossier s)) (attribute_at r.path r.name (dossier r.dossier s)) t)
from_keeps (some n) s r c t = refl

pub request_keeps : (l : Loaded Clipboard) (s : State) (r : Request) → T (is_refused (requested_with s r l).1) → (requested_with s r l).0 ≡ s
request_keeps (bad k) s r t = refl
request_keeps (good c) s r t = from_keeps (judged s r c) s r c t

-- a number that is answered is the table's
refused_at : (o : Option ℕ) (s : State) (r : Request) (c : Clipboard) (n : ℕ) → (outcome s r c o).1 ≡ refused n → o ≡ some n
refused_at none s r c n e =
    absurd (answered_so r (found r (dossier r.dossier s)) (attribute_at r.path r.name (dossier r.dossier s)) (subst (λ (a : Answer). T (is_refused a)) (sym e) tt))
refused_at (some k) s r c n e = ap some (ap number_of e)

-- so whatever is pasted from, also where nothing is read: "tested 1, 12"
abbrev pub JudgedSo : State → Request → List ℕ → ℕ → Type 0
JudgedSo s r image n = (c : Clipboard) × (source s r image ≡ good c) × (judged s r c ≡ some n)

not_bad : (k n : ℕ) → bad_record k ≡ refused n → ⊥
not_bad k n e = subst (λ (a : Answer). T (is_bad a)) e tt
  where
    is_bad : Answer → Bool
    is_bad done = false
    is_bad (contents names children) = false
    is_bad (value_read v) = false
    is_bad (wrote n) = false
    is_bad (refused n) = false
    is_bad (bad_record n) = true

pub refused_is : (s : State) (r : Request) (image : List ℕ) (n : ℕ) → (requested s r image).1 ≡ refused n → JudgedSo s r image n
refused_is s r image n e = go (source s r image) refl e
  where
    go : (l : Loaded Clipboard) → source s r image ≡ l → (requested_with s r l).1 ≡ refused n → JudgedSo s r image n
    go (bad k) q h = absurd (not_bad k n h)
    go (good c) q h = (c, q, refused_at (judged s r c) s r c n h)

pub refused_so : (s : State) (r : Request) (image : List ℕ) (n : ℕ) → JudgedSo s r image n → requested s r image ≡ (s, refused n)
refused_so s r image n w = ap (requested_with s r) w.1 ∙ refused_by s r w.0 n w.2

-- where no image is looked at, the clipboard is what there is to paste
pub unread : (s : State) (r : Request) (image : List ℕ) → (T (places r) → ⊥) → source s r image ≡ good s.clipboard
unread s r image n = pick_no (places r) (as_branch (images.load_added r.user image)) (good s.clipboard) n

-- a bad image's record is the first that is bad or a permission
pub bad_record_is : (s : State) (r : Request) (image : List ℕ) (k : ℕ) → ((requested s r image).1 ≡ bad_record k) ↔ (source s r image ≡ bad k)
bad_record_is s r image k = (go (source s r image) refl, λ q. ap (λ (l : Loaded Clipboard). (requested_with s r l).1) q)
  where
    taken : (o : Option ℕ) (c : Clipboard) → (outcome s r c o).1 ≡ bad_record k → ⊥
    taken none c h =
        answered_so r (found r (dossier r.dossier s)) (attribute_at r.path r.name (dossier r.dossier s)) (subst (λ (a : Answer). T (is_refused a)) (sym h) tt)
    taken (some n) c h = not_bad k n (sym h)

    go : (l : Loaded Clipboard) → source s r image ≡ l → (requested_with s r l).1 ≡ bad_record k → source s r image ≡ bad k
    go (bad j) q h = q ∙ ap bad (ap record_of h)
    go (good c) q h = absurd (taken (judged s r c) c h)

ask_keeps : (o : Option ℕ) (s : State) (image buffer bytes : List ℕ) → Keeps s (image ∷ buffer ∷ []) (s, replied image buffer bytes o)
ask_keeps none s image buffer bytes t = absurd t
ask_keeps (some n) s image buffer bytes t = (refl, refl)

pub refusal_keeps : (s : State) (c : Call) → T (is_refused (step s c).1.answer) → ((step s c).0 ≡ s) × ((step s c).1.lent ≡ lent_by c)
unfolding step
refusal_keeps s start t = absurd t
refusal_keeps s (new n owner) t = or_keeps (first_that ((1, not (dossier_good n && user_good owner)) ∷ [])) s (with_dossier n (bare owner) s) t
refusal_keeps s (load n image) t = load_keeps (first_that ((1, not (dossier_good n)) ∷ [])) s n image (images.load image) t
refusal_keeps s (save n buffer) t = let bytes = images.save (dossier n s) in
    writes_keeps (first_that ((1, not (dossier_good n)) ∷ (9, short bytes buffer) ∷ [])) s s bytes buffer t
refusal_keeps s (save_clipboard buffer) t = let bytes = images.save_clipboard s.clipboard in
    writes_keeps (first_that ((9, short bytes buffer) ∷ [])) s s bytes buffer t
refusal_keeps s (sign user agreement) t =
    or_keeps (first_that ((1, not (user_good user && leb agreement 31)) ∷ [])) s (with_signatures (signed user agreement s.signatures) s) t
refusal_keeps s (take_log buffer) t = let bytes = log_bytes s.log in writes_keeps (first_that ((9, short bytes buffer) ∷ [])) s (with_log [] s) bytes buffer t
refusal_keeps s (request r image) t = (request_keeps (source s r image) s r t, refl)
refusal_keeps s (ask image q buffer) t = let d = image_of (images.load image) in
    ask_keeps (asking q buffer d) s image buffer (written (ask_bytes (provisions (may_ask_in q (or_none d)))) buffer) t
