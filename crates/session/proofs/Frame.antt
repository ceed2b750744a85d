-- A call that uses parts of a session: the model's step on a state that has these parts, and is fresh in all else, is its step on the whole session. The answer and the
-- buffer are the same, and the session with the parts stored is what the step leaves; all else stays. Assumes nothing.
use mathlib.Core.Path.{◌≡◌, refl, sym, ap, ◌∙◌}
use mathlib.Core.Bool.{Bool, true, false, ◌&&◌, not}
use mathlib.Core.Option.{Option, none, some}
use mathlib.Core.List.{List, [], ◌∷◌}
use Prim.Native.Nat.{ℕ}
use lib.Dec.{eqb, leb}
use Rattle.laws.specs.Slots.{pick}
use Rattle.model.specs.Things as things
use Rattle.model.specs.Things.{State, bare}
use Rattle.model.specs.Refusals.{user_good, first_that}
use Rattle.model.specs.Image as images
use Rattle.model.specs.Image.{Loaded, bad, good}
use Rattle.model.specs.Run as run
use Rattle.model.specs.Run.{Answer, Reply, reply, refused, done, short, writes, or_refused, loaded, dossier_good, dossier, with_dossier, with_signatures, with_log, signed, log_bytes, step}
use Rattle.tables.specs.View.{dossier_of}
use Rattle.state.specs.declared.Session.{Session}
use Rattle.state.specs.View.{signatures_of, log_of, view_session, session_of, answer_of, SessionSound}
use Rattle.state.specs.Calls.{only_buffer, answer_to, session_after, buffer_after, answer_in, buffer_in, having, having_clipboard, having_signatures, having_log, dossiers_after, signed_of, taken_of}
use Rattle.state.proofs.Sessions.{session_back}
use Rattle.session.specs.Parts.{store_one, store_two, store_signatures, store_log}

-- ---- the reply does not depend on the states
or_alike : (o : Option ℕ) (w x y z : State) (a : Answer) → (or_refused o w x a).1 ≡ (or_refused o y z a).1
or_alike none w x y z a = refl
or_alike (some n) w x y z a = refl

writes_alike : (o : Option ℕ) (w x y z : State) (bytes buffer : List ℕ) → (writes o w x bytes buffer).1 ≡ (writes o y z bytes buffer).1
writes_alike none w x y z bytes buffer = refl
writes_alike (some n) w x y z bytes buffer = refl

abbrev pub loads : Option ℕ → ℕ → List ℕ → Loaded things.Dossier → State → State × Reply
loads o n image l x = elim o [ none ↦ loaded x n image l | some k ↦ (x, reply (refused k) (image ∷ [])) ]

loads_alike : (o : Option ℕ) (n : ℕ) (image : List ℕ) (l : Loaded things.Dossier) (x y : State) → (loads o n image l x).1 ≡ (loads o n image l y).1
loads_alike none n image (bad k) x y = refl
loads_alike none n image (good d) x y = refl
loads_alike (some k) n image l x y = refl

-- the state with another first or second dossier
abbrev placed : Bool → things.Dossier → State → State
placed b d s =
    pick b (record { one = d; two = s.two; clipboard = s.clipboard; signatures = s.signatures; log = s.log })
    (record { one = s.one; two = d; clipboard = s.clipboard; signatures = s.signatures; log = s.log })

module _ {s : Session} (h : SessionSound s) where
  -- the state that the session stands for
  abbrev all : State
  all = view_session s

  back : session_of all ≡ s
  back = session_back s h

  -- ---- sign
  sign_leaves : (o : Option ℕ) (x : State) (l : List ℕ) → x.signatures ≡ all.signatures → store_signatures s (signatures_of (or_refused o x (with_signatures l x) done).0.signatures) ≡ session_of (or_refused o all (with_signatures l all) done).0
  sign_leaves none x l e = sym (ap (λ (z : Session). store_signatures z (signatures_of l)) back)
  sign_leaves (some n) x l e = ap (λ (r : List ℕ). store_signatures s (signatures_of r)) e ∙ sym (ap (λ (z : Session). store_signatures z (signatures_of all.signatures)) back)

  pub sign_means : (user agreement : ℕ)
      → ((signed_of s.signatures user agreement).answer ≡ answer_to s (run.sign user agreement)) × (store_signatures s (signed_of s.signatures user agreement).signatures ≡ session_after s (run.sign user agreement))
  unfolding step
  sign_means user agreement =
      let o = first_that ((1, not (user_good user && leb agreement 31)) ∷ []) in
      let x = having_signatures s.signatures in
      let l = signed user agreement all.signatures in
      (ap (λ (r : Reply). answer_of r.answer) (or_alike o x (with_signatures l x) all (with_signatures l all) done), sign_leaves o x l refl)

  -- ---- take the log
  take_leaves : (o : Option ℕ) (x : State) (bytes buffer : List ℕ) → x.log ≡ all.log → store_log s (log_of (writes o x (with_log [] x) bytes buffer).0.log) ≡ session_of (writes o all (with_log [] all) bytes buffer).0
  take_leaves none x bytes buffer e = sym (ap (λ (z : Session). store_log z (log_of [])) back)
  take_leaves (some n) x bytes buffer e = ap (λ (l : List (ℕ × ℕ)). store_log s (log_of l)) e ∙ sym (ap (λ (z : Session). store_log z (log_of all.log)) back)

  pub take_means : (buffer : List ℕ)
      → (((taken_of s.log buffer).answer ≡ answer_to s (run.take_log buffer)) × (store_log s (taken_of s.log buffer).log ≡ session_after s (run.take_log buffer)))
      × (buffer_in (having_log s.log) (run.take_log buffer) ≡ buffer_after s (run.take_log buffer))
  unfolding step
  take_means buffer =
      let bytes = log_bytes all.log in
      let o = first_that ((9, short bytes buffer) ∷ []) in
      let x = having_log s.log in
      let e = writes_alike o x (with_log [] x) all (with_log [] all) bytes buffer in
      ((ap (λ (r : Reply). answer_of r.answer) e, take_leaves o x bytes buffer refl), ap (λ (r : Reply). only_buffer r.lent) e)

  -- ---- make a dossier new, load one
  abbrev both : State → Session
  both x = store_two (store_one s (dossier_of x.one)) (dossier_of x.two)

  both_back : (d e : things.Dossier) → store_two (store_one s (dossier_of d)) (dossier_of e) ≡ session_of (record { one = d; two = e; clipboard = all.clipboard; signatures = all.signatures; log = all.log })
  both_back d e = sym (ap (λ (z : Session). store_two (store_one z (dossier_of d)) (dossier_of e)) back)

  -- a state with the session's dossiers
  abbrev parts : State
  parts = having s.one s.two

  placed_leaves : (b : Bool) (d : things.Dossier) → both (placed b d parts) ≡ session_of (placed b d all)
  placed_leaves true d = both_back d all.two
  placed_leaves false d = both_back all.one d

  new_leaves : (o : Option ℕ) (b : Bool) (d : things.Dossier) → both (or_refused o parts (placed b d parts) done).0 ≡ session_of (or_refused o all (placed b d all) done).0
  new_leaves none b d = placed_leaves b d
  new_leaves (some k) b d = both_back all.one all.two

  pub new_means : (n owner : ℕ)
      → ((dossiers_after s.one s.two (run.new n owner)).answer ≡ answer_to s (run.new n owner))
      × (store_two (store_one s (dossiers_after s.one s.two (run.new n owner)).one) (dossiers_after s.one s.two (run.new n owner)).two ≡ session_after s (run.new n owner))
  unfolding step
  new_means n owner =
      let o = first_that ((1, not (dossier_good n && user_good owner)) ∷ []) in
      (ap (λ (r : Reply). answer_of r.answer) (or_alike o parts (with_dossier n (bare owner) parts) all (with_dossier n (bare owner) all) done), new_leaves o (eqb n 1) (bare owner))

  load_leaves : (o : Option ℕ) (n : ℕ) (image : List ℕ) (l : Loaded things.Dossier) → both (loads o n image l parts).0 ≡ session_of (loads o n image l all).0
  load_leaves none n image (bad k) = both_back all.one all.two
  load_leaves none n image (good d) = placed_leaves (eqb n 1) d
  load_leaves (some k) n image l = both_back all.one all.two

  pub load_means : (n : ℕ) (image : List ℕ)
      → ((dossiers_after s.one s.two (run.load n image)).answer ≡ answer_to s (run.load n image))
      × (store_two (store_one s (dossiers_after s.one s.two (run.load n image)).one) (dossiers_after s.one s.two (run.load n image)).two ≡ session_after s (run.load n image))
  unfolding step
  load_means n image =
      let o = first_that ((1, not (dossier_good n)) ∷ []) in
      (ap (λ (r : Reply). answer_of r.answer) (loads_alike o n image (images.load image) parts all), load_leaves o n image (images.load image))

-- ---- save a dossier, and the clipboard: nothing is stored
pub save_means : (s : Session) (n : ℕ) (buffer : List ℕ)
    → (answer_in (having s.one s.two) (run.save n buffer) ≡ answer_to s (run.save n buffer)) × (buffer_in (having s.one s.two) (run.save n buffer) ≡ buffer_after s (run.save n buffer))
unfolding step
save_means s n buffer =
    let x = having s.one s.two in
    let v = view_session s in
    let bytes = images.save (dossier n v) in
    let e = writes_alike (first_that ((1, not (dossier_good n)) ∷ (9, short bytes buffer) ∷ [])) x x v v bytes buffer in
    (ap (λ (r : Reply). answer_of r.answer) e, ap (λ (r : Reply). only_buffer r.lent) e)

pub clipboard_means : (s : Session) (buffer : List ℕ)
    → (answer_in (having_clipboard s.clipboard) (run.save_clipboard buffer) ≡ answer_to s (run.save_clipboard buffer))
    × (buffer_in (having_clipboard s.clipboard) (run.save_clipboard buffer) ≡ buffer_after s (run.save_clipboard buffer))
unfolding step
clipboard_means s buffer =
    let x = having_clipboard s.clipboard in
    let v = view_session s in
    let bytes = images.save_clipboard v.clipboard in
    let e = writes_alike (first_that ((9, short bytes buffer) ∷ [])) x x v v bytes buffer in
    (ap (λ (r : Reply). answer_of r.answer) e, ap (λ (r : Reply). only_buffer r.lent) e)
