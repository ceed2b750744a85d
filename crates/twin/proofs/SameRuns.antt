-- Every call is answered alike by the tree's editor and by the table's, and so is any run of calls. Assumes nothing.
use mathlib.Core.Path.{◌≡◌, refl, ap, ap₂, ◌∙◌}
use mathlib.Core.Bool.{Bool, true, false, not, ◌&&◌}
use mathlib.Core.Option.{Option, none, some, map}
use mathlib.Core.List.{List, [], ◌∷◌}
use Prim.Native.Nat.{ℕ}
use lib.Dec.{eqb, leb}
use Rattle.laws.specs.Slots.{pick}
use Rattle.model.specs.Things.{Dossier, State, fresh}
use Rattle.model.specs.Decide.{Object}
use Rattle.model.specs.Refusals.{user_good, first_that}
use Rattle.model.specs.Image as images
use Rattle.model.specs.Image.{Loaded, bad, good}
use Rattle.model.specs.Run as run
use Rattle.model.specs.Run.{Question, Call, start, new, load, save, save_clipboard, sign, take_log, request, ask, Answer, done, refused, Reply, reply, short, writes, dossier_good, signed, may_ask}
use Rattle.twin.specs.Tree.{Tree}
use Rattle.twin.specs.Twin.{Node, Clip, empty, branched, single, Session, leaf, begun, saved, saved_clip, dossier, with_dossier, with_log, with_signatures, load_tree, image_of, asked, loaded, or_refused, step, run_from, run_twin}
use Rattle.twin.specs.Good.{dossier_of, clipboard_of, state_of, GoodSession}
use Rattle.twin.proofs.Same.{node_same, object_same}
use Rattle.twin.proofs.SameEdit.{bare_same}
use Rattle.twin.proofs.SameRequest.{seen, dossier_same, with_same}
use Rattle.twin.proofs.SameRecord.{SoFar}
use Rattle.twin.proofs.KeepLoad.{so_far, Loads, load_good}
use Rattle.twin.proofs.SameLoad.{loaded_of, load_same}
use Rattle.twin.proofs.Added.{request_same}
use Rattle.twin.proofs.Keep.{begun_good, good_step}

-- ---- images
clip_same : (c : Clip) → images.save_clipboard (clipboard_of c) ≡ saved_clip c
clip_same empty = refl
clip_same (branched t) = refl
clip_same (single a) = refl

writes_same : (o : Option ℕ) (old s : Session) (bytes buffer : List ℕ) → writes o (state_of old) (state_of s) bytes buffer ≡ seen {A = Reply} (writes o old s bytes buffer)
writes_same none old s bytes buffer = refl
writes_same (some n) old s bytes buffer = refl

refused_same : (o : Option ℕ) (old s : Session) (a : Answer) → run.or_refused o (state_of old) (state_of s) a ≡ seen (or_refused o old s a)
refused_same none old s a = refl
refused_same (some n) old s a = refl

loaded_same : (s : Session) (n : ℕ) (image : List ℕ) → run.loaded (state_of s) n image (images.load image) ≡ seen (loaded s n image (load_tree image))
loaded_same s n image = ap (run.loaded (state_of s) n image) (load_same image) ∙ go (load_tree image) (load_good image)
  where
    go : (l : Loaded (Option (Tree Node))) → Loads l → run.loaded (state_of s) n image (loaded_of l) ≡ seen (loaded s n image l)
    go (bad k) h = refl
    go (good none) h = absurd (h none refl)
    go (good (some t)) h = ap {B = State × Reply} (λ (x : State). (x, reply done (image ∷ []))) (with_same n t s)

-- ---- ask
image_same : (l : Loaded (Option (Tree Node))) → Loads l → run.image_of (loaded_of l) ≡ map dossier_of (image_of l)
image_same (bad k) h = refl
image_same (good none) h = absurd (h none refl)
image_same (good (some t)) h = refl

image_good : (l : Loaded (Option (Tree Node))) → Loads l → SoFar (image_of l)
image_good (bad k) h = tt
image_good (good t) h = so_far t (h t refl)

asked_same : (image : List ℕ) (q : Question) (buffer : List ℕ) (t : Option (Tree Node)) → SoFar t → run.asked image q buffer (map dossier_of t) ≡ asked image q buffer t
asked_same image q buffer none g = ap (λ (o : Option Object). run.answer_ask image q buffer true o (may_ask q o none)) (go (eqb q.name 0))
  where
    go : (b : Bool) → pick {A = Option Object} b none none ≡ none
    go true = refl
    go false = refl
asked_same image q buffer (some t) g =
    ap₂ (λ (o n : Option Object). run.answer_ask image q buffer false o (may_ask q o n)) (object_same q.path q.name t g) (node_same q.path t g)

ask_same : (image : List ℕ) (q : Question) (buffer : List ℕ) → run.asked image q buffer (run.image_of (images.load image)) ≡ asked image q buffer (image_of (load_tree image))
ask_same image q buffer =
    ap (run.asked image q buffer) (ap run.image_of (load_same image) ∙ image_same (load_tree image) (load_good image))
    ∙ asked_same image q buffer (image_of (load_tree image)) (image_good (load_tree image) (load_good image))

-- ---- every call
pub begun_same : fresh ≡ state_of begun
begun_same = λ i. record { one = bare_same 1 i; two = bare_same 1 i; clipboard = fresh.clipboard; signatures = fresh.signatures; log = [] }

pub step_same : (s : Session) (c : Call) → GoodSession s → run.step (state_of s) c ≡ seen (step s c)
unfolding run.step step
step_same s start g = ap {B = State × Reply} (λ (x : State). (x, reply done [])) begun_same
step_same s (new n owner) g =
    ap (λ (x : State). run.or_refused o (state_of s) x done) (ap (λ (d : Dossier). run.with_dossier n d (state_of s)) (bare_same owner) ∙ with_same n (leaf owner) s)
    ∙ refused_same o s (with_dossier n (leaf owner) s) done
  where
    o : Option ℕ
    o = first_that ((1, not (dossier_good n && user_good owner)) ∷ [])
step_same s (load n image) g = go (first_that ((1, not (dossier_good n)) ∷ []))
  where
    go : (o : Option ℕ) → elim o [ none ↦ run.loaded (state_of s) n image (images.load image) | some k ↦ (state_of s, reply (refused k) (image ∷ [])) ]
        ≡ seen {A = Reply} (elim o [ none ↦ loaded s n image (load_tree image) | some k ↦ (s, reply (refused k) (image ∷ [])) ])
    go none = loaded_same s n image
    go (some k) = refl
step_same s (save n buffer) g =
    ap (λ (d : Dossier). writes (first_that ((1, not (dossier_good n)) ∷ (9, short (images.save d) buffer) ∷ [])) (state_of s) (state_of s) (images.save d) buffer) (dossier_same n s)
    ∙ writes_same (first_that ((1, not (dossier_good n)) ∷ (9, short (saved (dossier n s)) buffer) ∷ [])) s s (saved (dossier n s)) buffer
step_same s (save_clipboard buffer) g =
    ap (λ (b : List ℕ). writes (first_that ((9, short b buffer) ∷ [])) (state_of s) (state_of s) b buffer) (clip_same s.clipboard)
    ∙ writes_same (first_that ((9, short (saved_clip s.clipboard) buffer) ∷ [])) s s (saved_clip s.clipboard) buffer
step_same s (sign user agreement) g = refused_same (first_that ((1, not (user_good user && leb agreement 31)) ∷ [])) s (with_signatures (signed user agreement s.signatures) s) done
step_same s (take_log buffer) g = writes_same (first_that ((9, short (run.log_bytes s.log) buffer) ∷ [])) s (with_log [] s) (run.log_bytes s.log) buffer
step_same s (request r image) g = ap {B = State × Reply} (λ (x : State × Answer). (x.0, reply x.1 (image ∷ []))) (request_same s r image g)
step_same s (ask image q buffer) g = ap {B = State × Reply} (λ (a : Reply). (state_of s, a)) (ask_same image q buffer)

-- ---- every run
pub same_from : (s : Session) → GoodSession s → (calls : List Call) → run.run_from (state_of s) calls ≡ run_from s calls
same_from s g [] = refl
same_from s g (c ∷ l) =
    ap (λ (x : State × Reply). x.1 ∷ run.run_from x.0 l) (step_same s c g)
    ∙ ap (λ (r : List Reply). (step s c).1 ∷ r) (same_from (step s c).0 (good_step s c g) l)

pub same_runs : (calls : List Call) → run.run calls ≡ run_twin calls
same_runs calls = ap (λ (s : State). run.run_from s calls) begun_same ∙ same_from begun begun_good calls
