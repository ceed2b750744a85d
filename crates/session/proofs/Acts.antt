-- A request by parts is the model's request: what was weighed is refused, or its deed with its log is what the request leaves. Assumes nothing.
use mathlib.Core.Path.{◌≡◌, refl, sym, ap, subst, ◌∙◌}
use mathlib.Core.Option.{none}
use Prim.Native.Nat.{ℕ, ◌+◌, ◌≤◌}
use lib.Dec.{T, eqb, eqb→eq}
use lib.ListN.{length}
use Rattle.model.specs.Decide.{members}
use Rattle.model.specs.Refusals.{Request, granted, refusal}
use Rattle.model.specs.Run as run
use Rattle.tables.specs.declared.Dossier.{Dossier}
use Rattle.tables.specs.View.{DossierFits, ClipboardSound, view_dossier, view_clipboard}
use Rattle.tables.proofs.Parts.{dossier_fits}
use Rattle.state.specs.declared.Log.{Log}
use Rattle.state.specs.declared.Session.{Session}
use Rattle.state.specs.declared.Request as structs
use Rattle.state.specs.declared.Stepped.{Stepped}
use Rattle.std.specs.Prelude.{Option, Some, None, Result, Ok, Err}
use Rattle.state.specs.declared.refusal.Refusal.{Refusal}
use Rattle.state.specs.View.{view_request, view_signatures, view_session, view_log, log_of, SessionSound}
use Rattle.state.specs.Calls.{LogSound}
use Rattle.state.specs.Parts.{clipped_in, numbered_in, replaced_in}
use Rattle.state.proofs.Logs as logs
use Rattle.state.proofs.Sessions.{clipboard_sound, log_sound}
use Rattle.judge.specs.View.{standing_of, Judged, judged_of}
use Rattle.twin.proofs.Refusal.{judged}
use Rattle.deeds.specs.declared.classes.Class.{Class}
use Rattle.deeds.specs.declared.classes.Verdict.{Verdict}
use Rattle.deeds.specs.Classes.{class_of, Allowed}
use Rattle.deeds.specs.Deeds.{Served}
use Rattle.deeds.proofs.Left.{numbered_sound, ready, log_room, log_quiet, leaves}
use Rattle.enforce.specs.Requests.{Pastes, from_of, classed, verdict_of, weighed_of}
use Rattle.enforce.proofs.Judging.{path_good, refused_so, not_refused, served, carried_step}
use Rattle.session.specs.Parts.{store_log}
use Rattle.session.specs.Requests.{copied_in, deed_of, edited_in, read_in, Granted, Laid, Stands, Weighs}
use Rattle.session.proofs.Deeds.{unclassed}

-- the whole step of a request that pastes from the clipboard
abbrev step : Session → structs.Request → Stepped
step s r = from_of s (view_request r) (view_clipboard s.clipboard)

-- ---- what was weighed
-- a verdict that there is: the class of the number, the dossier and the request as they came, the messages of the grant
record Told (r : structs.Request) (m : ℕ) (o : Option Class) (v : Verdict) : Type 0 where
  pub class : o ≡ Some v.class
  pub named : v.dossier ≡ r.dossier
  pub messages : v.messages ≡ m
  pub request : v.request ≡ r

told : (r : structs.Request) (m : ℕ) (o : Option Class) (v : Verdict) → Ok v ≡ classed r m o → Told r m o v
told r m None v e = absurd (cc)
told r m (Some k) v e =
    let f : v ≡ record { class = k; dossier = r.dossier; messages = m; request = r } = cc in
    record { class = ap (λ (x : Verdict). Some x.class) (sym f); named = ap (λ (x : Verdict). x.dossier) f; messages = ap (λ (x : Verdict). x.messages) f; request = ap (λ (x : Verdict). x.request) f }

pub record Serves (s : Session) (v : Verdict) : Type 0 where
  pub class : class_of v.request.number ≡ Some v.class
  pub named : v.dossier ≡ v.request.dossier
  pub free : judged (view_session s) (view_request v.request) (view_clipboard s.clipboard) ≡ none
  pub served : Served s (view_clipboard s.clipboard) (view_request v.request) v.messages

module _ {s : Session} {v : Verdict} (w : Weighs s v) where
  abbrev q : Request
  q = view_request v.request

  abbrev d : Dossier
  d = numbered_in v.request.dossier s

  abbrev told_of : Judged
  told_of = judged_of (refusal q (run.found q (view_dossier d)) (run.cached (view_clipboard s.clipboard)) (standing_of q (view_signatures s.signatures) s.log.count)) (granted q (run.found q (view_dossier d)))

  pub serves : Serves s v
  serves = go told_of refl w.same
    where
      go : (j : Judged) → j ≡ told_of → Ok v ≡ verdict_of v.request j → Serves s v
      go (Err n) e p = absurd (cc)
      go (Ok n) e p =
          let f = told v.request n (class_of v.request.number) v p in
          record {
            class = f.class;
            named = f.named;
            free = not_refused w.sound q refl (view_clipboard s.clipboard) refl e;
            served = subst (λ (k : ℕ). Served s (view_clipboard s.clipboard) q k) (sym f.messages) (served w.sound q refl (view_clipboard s.clipboard) refl w.pastes refl e);
          }

-- ---- what is served
module _ {s : Session} {v : Verdict} (h : SessionSound s) (u : Serves s v) where
  abbrev here : numbered_in v.dossier s ≡ numbered_in v.request.dossier s
  here = ap (λ (n : ℕ). numbered_in n s) u.named

  granted_laid : Granted s v × Laid s v
  granted_laid =
      let y = ready h u.served here in (
        record {
          valid = path_good (view_session s) (view_request v.request) (view_clipboard s.clipboard) u.free;
          named = u.named;
          class = u.class;
          sound = y.sound;
          free = record { clipboard = view_clipboard s.clipboard; allowed = y.allowed };
        },
        record { sound = clipboard_sound h; allowed = y.allowed; branch = u.served.branch },
      )

  -- whatever is in the log
  stands : (l : Log) → Stands (store_log s l) v
  stands l =
      let g = granted_laid in
      (record { valid = g.0.valid; named = g.0.named; class = g.0.class; sound = g.0.sound; free = g.0.free }, record { sound = g.1.sound; allowed = g.1.allowed; branch = g.1.branch })

  pub left : {l : Log} → l ≡ log_of (run.logged v.request.user v.messages (view_log s.log)) → deed_of (store_log s l) v ≡ step s v.request
  left {l} e =
      (λ i. record {
        session = replaced_in (u.named i) (edited_in (store_log s l) v (view_clipboard s.clipboard)) (clipped_in (copied_in (store_log s l) v (view_clipboard s.clipboard)) (store_log s l));
        answer = read_in (store_log s l) v;
      })
      ∙ leaves h u.served here e refl refl refl refl
      ∙ carried_step s (view_request v.request) (view_clipboard s.clipboard) u.free

-- ---- the steps of the law: a verdict without messages, and one with them
module _ (s : Session) (v : Verdict) (w : Weighs s v) where
  pub quiet_stands : Stands s v
  quiet_stands = stands w.sound (serves w) s.log

  pub quiet_left : T (eqb v.messages 0) → ((deed_of s v).answer ≡ (step s v.request).answer) × ((deed_of s v).session ≡ (step s v.request).session)
  quiet_left t =
      let e = left w.sound (serves w) (log_quiet v.request.user (log_sound w.sound) (eqb→eq v.messages 0 t)) in
      (ap (λ (o : Stepped). o.answer) e, ap (λ (o : Stepped). o.session) e)

  pub loud_room : LogSound s.log × (s.log.count + length (members v.messages) ≤ 256)
  loud_room = log_room w.sound (serves w).served

  abbrev logged : Log
  logged = log_of (run.logged v.request.user v.messages (view_log s.log))

  pub loud_stands : Stands (store_log s logged) v
  loud_stands = stands w.sound (serves w) logged

  pub loud_left : ((deed_of (store_log s logged) v).answer ≡ (step s v.request).answer) × ((deed_of (store_log s logged) v).session ≡ (step s v.request).session)
  loud_left = let e = left w.sound (serves w) refl in (ap (λ (o : Stepped). o.answer) e, ap (λ (o : Stepped). o.session) e)

-- ---- a request is weighed with what it names
request_kept : (r : structs.Request) (j : Judged) {v : Verdict} → Ok v ≡ verdict_of r j → v.request ≡ r
request_kept r (Err n) e = absurd (cc)
request_kept r (Ok n) {v} e = (told r n (class_of r.number) v e).request

module _ (s : Session) (r : structs.Request) (h : SessionSound s) (p : Pastes (view_request r) (view_clipboard s.clipboard)) where
  abbrev weighed : Result Verdict Refusal
  weighed = weighed_of (numbered_in r.dossier s) s.clipboard s.signatures s.log r

  abbrev judgement : Judged
  judgement =
      let q = view_request r in
      let f = run.found q (view_dossier (numbered_in r.dossier s)) in
      judged_of (refusal q f (run.cached (view_clipboard s.clipboard)) (standing_of q (view_signatures s.signatures) s.log.count)) (granted q f)

  pub fit : DossierFits (numbered_in r.dossier s) × ClipboardSound s.clipboard × (s.log.count ≤ 256)
  fit = (dossier_fits (numbered_sound h r.dossier refl), clipboard_sound h, logs.log_room s.log (log_sound h))

  module _ {v : Verdict} (e : Ok v ≡ weighed) where
    same_request : v.request ≡ r
    same_request = request_kept r judgement e

    pub weighs : Weighs s v
    weighs = record {
      sound = h;
      pastes = subst (λ (x : structs.Request). Pastes (view_request x) (view_clipboard s.clipboard)) (sym same_request) p;
      same = e ∙ ap (λ (x : structs.Request). weighed_of (numbered_in x.dossier s) s.clipboard s.signatures s.log x) (sym same_request);
    }

    pub weighed_left : ((step s v.request).answer ≡ (step s r).answer) × ((step s v.request).session ≡ (step s r).session)
    weighed_left = (ap (λ (x : structs.Request). (step s x).answer) same_request, ap (λ (x : structs.Request). (step s x).session) same_request)

  -- what is refused is refused by the step: what is not has a class
  pub weighed_refuses : {e : Refusal} → Err e ≡ weighed → (Err e ≡ (step s r).answer) × (s ≡ (step s r).session)
  weighed_refuses {e} k = let w = go judgement refl k in (ap (λ (o : Stepped). o.answer) w, ap (λ (o : Stepped). o.session) w)
    where
      free : {n : ℕ} → Ok n ≡ judgement → Allowed (view_request r) (run.dossier r.dossier (view_session s)) (view_clipboard s.clipboard)
      free t = record { standing = run.standing (view_request r) (view_session s).signatures (view_session s).log; free = not_refused h (view_request r) refl (view_clipboard s.clipboard) refl t }

      no_class : (n : ℕ) (o : Option Class) → Err e ≡ classed r n o → o ≡ None
      no_class n None x = refl
      no_class n (Some c) x = absurd (cc)

      go : (j : Judged) → j ≡ judgement → Err e ≡ verdict_of r j → record { session = s; answer = Err e } ≡ step s r
      go (Err n) t x =
          let y : e ≡ n = cc in
          ap (λ (z : Refusal). record { session = s; answer = Err z }) y ∙ refused_so h (view_request r) refl (view_clipboard s.clipboard) refl t
      go (Ok n) t x = absurd (unclassed (free t) (no_class n (class_of r.number) x))
