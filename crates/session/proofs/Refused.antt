-- A call that refuses, by its promise: it is the model's refusal, so session and buffer stay. Assumes nothing.
use mathlib.Core.Path.{◌≡◌, sym, ap, subst, ◌∙◌}
use mathlib.Core.Logic.{◌↔◌}
use mathlib.Core.Option.{none}
use mathlib.Core.List.{List}
use Prim.Native.Nat.{ℕ}
use lib.Dec.{T}
use Rattle.model.specs.Things.{Clipboard, State}
use Rattle.model.specs.Moves.{paste_branch}
use Rattle.model.specs.Refusals.{Request}
use Rattle.model.specs.Run as run
use Rattle.model.specs.Image.{bad, good, all_owned}
use Rattle.model.specs.Run.{Call, dossier, found, carried_out, source, requested_with, requested, step}
use Rattle.twin.proofs.Refusal.{judged, outcome, is_refused, lent_by, JudgedSo, refused_is, refused_so, bad_record_is, refusal_keeps}
use Rattle.twin.proofs.Placed.{pasted, IsPaste, added_is_pasted}
use Rattle.state.specs.declared.Session.{Session}
use Rattle.std.specs.Prelude.{Err}
use Rattle.state.specs.declared.refusal.Refusal.TheVariants.{BadRecord}
use Rattle.state.specs.Refusals.{number_of, numbered, refusal_of}
use Rattle.state.proofs.Numbers.{Numbered, number_back, no_record, step_numbered}
use Rattle.state.specs.View.{Answer, view_session, session_of, answer_of, SessionSound}
use Rattle.state.specs.Calls.{only_buffer, Steps, Writes}
use Rattle.state.proofs.Sessions.{session_back}
use Rattle.session.specs.Promises.{Refuses}

-- ---- an answer of the model, seen in the Result that is answered
is_refused_lem : (m : run.Answer) → Refuses (answer_of m) → T (is_refused m)
is_refused_lem run.done r = r
is_refused_lem (run.contents names children) r = r
is_refused_lem (run.value_read v) r = r
is_refused_lem (run.wrote n) r = r
is_refused_lem (run.refused n) r = tt
is_refused_lem (run.bad_record n) r = tt

refuses : (m : run.Answer) → T (is_refused m) → Refuses (answer_of m)
refuses run.done r = r
refuses (run.contents names children) r = r
refuses (run.value_read v) r = r
refuses (run.wrote n) r = r
refuses (run.refused n) r = tt
refuses (run.bad_record n) r = tt

refused_number : (m : run.Answer) → Numbered m → (n : ℕ) → T (numbered n) → answer_of m ≡ Err (refusal_of n) → m ≡ run.refused n
refused_number run.done h n t e = absurd (cc)
refused_number (run.contents names children) h n t e = absurd (cc)
refused_number (run.value_read v) h n t e = absurd (cc)
refused_number (run.wrote k) h n t e = absurd (cc)
refused_number (run.refused k) h n t e =
    let f : refusal_of k ≡ refusal_of n = cc in
    ap run.refused (sym (number_back k h) ∙ ap number_of f ∙ number_back n t)
refused_number (run.bad_record k) h n t e = let f : BadRecord k ≡ refusal_of n = cc in absurd (no_record n k t (sym f))

bad_number : (m : run.Answer) → Numbered m → (k : ℕ) → answer_of m ≡ Err (BadRecord k) → m ≡ run.bad_record k
bad_number run.done h k e = absurd (cc)
bad_number (run.contents names children) h k e = absurd (cc)
bad_number (run.value_read v) h k e = absurd (cc)
bad_number (run.wrote n) h k e = absurd (cc)
bad_number (run.refused n) h k e = let f : refusal_of n ≡ BadRecord k = cc in absurd (no_record n k h f)
bad_number (run.bad_record n) h k e = cc

-- ---- a refusal keeps
pub session_stays : (s : Session) (c : Call) (a : Answer) (t : Session) → SessionSound s → Steps s c a t → Refuses a → t ≡ s
session_stays s c a t h p r =
    let m = (step (view_session s) c).1.answer in
    p.1 ∙ ap session_of (refusal_keeps (view_session s) c (is_refused_lem m (subst Refuses p.0 r))).0 ∙ session_back s h

pub buffer_stays : (s : Session) (c : Call) (a : Answer) (b : List ℕ) → Writes s c a b → Refuses a → b ≡ only_buffer (lent_by c)
buffer_stays s c a b p r =
    let m = (step (view_session s) c).1.answer in
    p.1 ∙ ap only_buffer (refusal_keeps (view_session s) c (is_refused_lem m (subst Refuses p.0 r))).1

-- ---- a guarded request: refused as the table says, else carried out; c is what there is to paste
module _ (s : Session) (r : Request) (image : List ℕ) (a : Answer) (t : Session) (p : Steps s (run.request r image) a t) where
  pub request_refused : (n : ℕ) → (T (numbered n) × (a ≡ Err (refusal_of n))) ↔ JudgedSo (view_session s) r image n
  unfolding step
  request_refused n = (
    λ e. refused_is (view_session s) r image n (refused_number (requested (view_session s) r image).1 (step_numbered (view_session s) (run.request r image)) n e.0 (sym p.0 ∙ e.1)),
    λ e.
        let f = ap (λ (x : State × run.Answer). x.1) (refused_so (view_session s) r image n e) in
        (subst Numbered f (step_numbered (view_session s) (run.request r image)), p.0 ∙ ap answer_of f),
  )

  pub request_bad : (k : ℕ) → (a ≡ Err (BadRecord k)) ↔ (source (view_session s) r image ≡ bad k)
  unfolding step
  request_bad k =
      let w = bad_record_is (view_session s) r image k in (
        λ e. w.0 (bad_number (requested (view_session s) r image).1 (step_numbered (view_session s) (run.request r image)) k (sym p.0 ∙ e)),
        λ e. p.0 ∙ ap answer_of (w.1 e),
      )

  pub request_carried : (c : Clipboard) → source (view_session s) r image ≡ good c → judged (view_session s) r c ≡ none
      → let d = dossier r.dossier (view_session s) in
      (a ≡ answer_of (carried_out (view_session s) r (found r d) d c).1) × (t ≡ session_of (carried_out (view_session s) r (found r d) d c).0)
  unfolding step
  request_carried c q e =
      let w : requested (view_session s) r image ≡ outcome (view_session s) r c none = ap (requested_with (view_session s) r) q ∙ ap (outcome (view_session s) r c) e in
      (p.0 ∙ ap (λ (x : State × run.Answer). answer_of x.1) w, p.1 ∙ ap (λ (x : State × run.Answer). session_of x.0) w)

  -- request 17
  pub request_placed : r.number ≡ 17 → (Refuses a → ⊥)
      → (w : IsPaste (view_session s) r image) × (a ≡ answer_of run.done)
      × (t ≡ session_of (pasted (view_session s) r (paste_branch r.path (all_owned r.user w.held) (dossier r.dossier (view_session s)))))
  unfolding step
  request_placed e n =
      let w = added_is_pasted (view_session s) r image e (λ y. n (subst Refuses (sym p.0) (refuses (requested (view_session s) r image).1 y))) in
      (w, p.0 ∙ ap (λ (x : State × run.Answer). answer_of x.1) w.leaves, p.1 ∙ ap (λ (x : State × run.Answer). session_of x.0) w.leaves)
