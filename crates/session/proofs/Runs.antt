-- Runs of calls by their promises: what they give is what the model's run replies, so it is what the second dossier replies. Assumes nothing.
use mathlib.Core.Path.{◌≡◌, refl, sym, ap, ap₂, subst, ◌∙◌}
use mathlib.Core.Bool.{◌&&◌, not}
use mathlib.Core.Option.{Option, none, some}
use mathlib.Core.List.{List, [], ◌∷◌, map}
use Prim.Native.Nat.{ℕ}
use lib.Dec.{leb}
use Rattle.model.specs.Things as things
use Rattle.model.specs.Things.{State, bare, fresh}
use Rattle.model.specs.Refusals.{user_good, first_that}
use Rattle.model.specs.Image as images
use Rattle.model.specs.Image.{Loaded, bad, good}
use Rattle.model.specs.Run as run
use Rattle.model.specs.Run.{Call, start, new, load, save, save_clipboard, sign, take_log, request, ask, Answer, Reply, done, short, writes, or_refused, dossier_good, dossier, with_dossier, with_signatures, signed, log_bytes, step, run_from}
use Rattle.twin.specs.Twin.{run_twin}
use Rattle.enforce.proofs.Kept.{start_sound, call_sound}
use Rattle.twin.proofs.SameRuns.{same_runs}
use Rattle.state.specs.declared.Session.{Session}
use Rattle.state.specs.View.{view_session, session_of, answer_of, SessionSound}
use Rattle.state.specs.Calls.{only_buffer, session_after}
use Rattle.state.proofs.Sessions.{view_session_lem, session_back}
use Rattle.session.specs.Promises.{Gave, gave_of, Promised, Ran}
use Rattle.session.proofs.Frame.{loads}

-- ---- what the model's step lends back
or_lent : (o : Option ℕ) (x y : State) (a : Answer) → (or_refused o x y a).1.lent ≡ []
or_lent none x y a = refl
or_lent (some n) x y a = refl

loads_lent : (o : Option ℕ) (n : ℕ) (image : List ℕ) (l : Loaded things.Dossier) (x : State) → (loads o n image l x).1.lent ≡ image ∷ []
loads_lent none n image (bad k) x = refl
loads_lent none n image (good d) x = refl
loads_lent (some k) n image l x = refl

writes_lent : (o : Option ℕ) (x y : State) (bytes buffer : List ℕ) → only_buffer (writes o x y bytes buffer).1.lent ∷ [] ≡ (writes o x y bytes buffer).1.lent
writes_lent none x y bytes buffer = refl
writes_lent (some n) x y bytes buffer = refl

writes_stays : (o : Option ℕ) (x : State) (bytes buffer : List ℕ) → (writes o x x bytes buffer).0 ≡ x
writes_stays none x bytes buffer = refl
writes_stays (some n) x bytes buffer = refl

gave : (g : Gave) (r : Reply) → g.answer ≡ answer_of r.answer → g.lent ≡ r.lent → g ≡ gave_of r
gave g r e f i = record { answer = e i; lent = f i }

-- ---- one call
module _ (s : Session) (h : SessionSound s) (g : Gave) (t : Session) where
  abbrev all : State
  all = view_session s

  -- a call that writes into a buffer and leaves the session
  wrote : (o : Option ℕ) (bytes buffer b : List ℕ) → g.answer ≡ answer_of (writes o all all bytes buffer).1.answer → b ≡ only_buffer (writes o all all bytes buffer).1.lent → g.lent ≡ b ∷ [] → t ≡ s
      → (g ≡ gave_of (writes o all all bytes buffer).1) × (t ≡ session_of (writes o all all bytes buffer).0)
  wrote o bytes buffer b e f l k = (
    gave g (writes o all all bytes buffer).1 e (l ∙ ap (λ (z : List ℕ). z ∷ []) f ∙ writes_lent o all all bytes buffer),
    k ∙ sym (session_back s h) ∙ ap session_of (sym (writes_stays o all bytes buffer)),
  )

  pub as_promised : (c : Call) → Promised s c g t → (g ≡ gave_of (step all c).1) × (t ≡ session_after s c)
  unfolding step
  as_promised start p = p
  as_promised (new n owner) p =
      let o = first_that ((1, not (dossier_good n && user_good owner)) ∷ []) in
      let y = with_dossier n (bare owner) all in
      (gave g (or_refused o all y done).1 p.0.0 (p.1 ∙ sym (or_lent o all y done)), p.0.1)
  as_promised (load n image) p =
      let o = first_that ((1, not (dossier_good n)) ∷ []) in
      (gave g (loads o n image (images.load image) all).1 p.0.0 (p.1 ∙ sym (loads_lent o n image (images.load image) all)), p.0.1)
  as_promised (save n buffer) p =
      let bytes = images.save (dossier n all) in
      wrote (first_that ((1, not (dossier_good n)) ∷ (9, short bytes buffer) ∷ [])) bytes buffer p.0 p.1.0 p.1.1 p.2 p.3
  as_promised (save_clipboard buffer) p =
      let bytes = images.save_clipboard all.clipboard in
      wrote (first_that ((9, short bytes buffer) ∷ [])) bytes buffer p.0 p.1.0 p.1.1 p.2 p.3
  as_promised (sign user agreement) p =
      let o = first_that ((1, not (user_good user && leb agreement 31)) ∷ []) in
      let y = with_signatures (signed user agreement all.signatures) all in
      (gave g (or_refused o all y done).1 p.0.0 (p.1 ∙ sym (or_lent o all y done)), p.0.1)
  as_promised (take_log buffer) p =
      let bytes = log_bytes all.log in
      let o = first_that ((9, short bytes buffer) ∷ []) in
      let y = run.with_log [] all in
      (gave g (writes o all y bytes buffer).1 p.1.0 (p.3 ∙ ap (λ (z : List ℕ). z ∷ []) p.2 ∙ writes_lent o all y bytes buffer), p.1.1)
  as_promised (request r image) p = (gave g (step all (request r image)).1 p.0.0 p.1, p.0.1)
  as_promised (ask image q buffer) p = (p.0, p.1 ∙ sym (session_back s h))

-- ---- a run
ran_from : (s : Session) → SessionSound s → (calls : List Call) (gs : List Gave) → Ran s calls gs → gs ≡ map gave_of (run_from (view_session s) calls)
ran_from s h [] [] r = refl
ran_from s h [] (g ∷ gs) r = absurd r
ran_from s h (c ∷ l) [] r = absurd r
ran_from s h (c ∷ l) (g ∷ gs) r =
    let w = as_promised s h g r.0 c r.1 in
    let e : view_session r.0 ≡ (step (view_session s) c).0 = ap view_session w.1 ∙ view_session_lem (step (view_session s) c).0 in
    ap₂ (λ (x : Gave) (y : List Gave). x ∷ y) w.0
    (ran_from r.0 (subst SessionSound (sym w.1) (call_sound s c h)) l gs r.2 ∙ ap (λ (z : State). map gave_of (run_from z l)) e)

pub ran_alike : (calls : List Call) (gs : List Gave) → Ran (session_of fresh) calls gs → gs ≡ map gave_of (run_twin calls)
ran_alike calls gs r =
    ran_from (session_of fresh) start_sound calls gs r ∙ ap (λ (z : State). map gave_of (run_from z calls)) (view_session_lem fresh) ∙ ap (map gave_of) (same_runs calls)
