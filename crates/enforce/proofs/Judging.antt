-- What judging a request in parts says of the whole session: refused, or served with the messages of its grant. Assumes nothing.
use mathlib.Core.Path.{◌≡◌, refl, sym, ap, subst, ◌∙◌}
use mathlib.Core.Bool.{not}
use mathlib.Core.Option.{Option, none, some}
use Prim.Native.Nat.{ℕ}
use lib.Dec.{T, eqb, leb, le→leb, not_T}
use lib.ListN.{length}
use mir.Facts.{yes_and, yes_eqb}
use Rattle.path.specs.Address.{steps_good, valid}
use Rattle.model.specs.Things as things
use Rattle.model.specs.Decide.{Provisions}
use Rattle.model.specs.Refusals.{Request, bad_operand, provisions, granted, refusal}
use Rattle.model.specs.Run.{found, cached, standing, dossier}
use Rattle.tables.specs.declared.Dossier.{Dossier}
use Rattle.tables.specs.View.{view_dossier}
use Rattle.state.specs.declared.Session.{Session}
use Rattle.std.specs.Prelude.{Ok, Err}
use Rattle.state.specs.declared.refusal.Refusal.{Refusal}
use Rattle.state.specs.Refusals.{refusal_of}
use Rattle.state.specs.View.{view_signatures, view_session, SessionSound}
use Rattle.state.proofs.Logs.{log_count}
use Rattle.state.proofs.Sessions.{session_back, log_sound}
use Rattle.judge.specs.View.{standing_of, Judged, judged_of}
use Rattle.twin.proofs.Refusal.{judged, outcome, refused_by}
use Rattle.twin.proofs.Requests.{passed, request_common}
use Rattle.state.specs.Parts.{numbered_in}
use Rattle.deeds.specs.Deeds.{Served, carried_of}
use Rattle.deeds.proofs.Left.{numbered_view}
use Rattle.enforce.specs.Requests.{left_of, Pastes, from_of}

-- ---- what a verdict says
record Says (o : Option ℕ) (e : Refusal) : Type 0 where
  pub number : ℕ
  pub is : o ≡ some number
  pub same : e ≡ refusal_of number

says_refused : (o : Option ℕ) (may : Option Provisions) (e : Refusal) → Err e ≡ judged_of o may → Says o e
says_refused none may e h = absurd (cc)
says_refused (some k) may e h = record { number = k; is = refl; same = cc }

says_allowed : (o : Option ℕ) (may : Option Provisions) (n : ℕ) → Ok n ≡ judged_of o may → (o ≡ none) × (n ≡ (provisions may).messages)
says_allowed none may n e = (refl, cc)
says_allowed (some k) may n e = absurd (cc)

-- a request that is not refused has a path
pub path_good : (s : things.State) (r : Request) (m : things.Clipboard) → judged s r m ≡ none → T (valid r.path)
path_good s r m e =
    let w = request_common r (passed r (found r (dossier r.dossier s)) (cached m) (standing r s.signatures s.log) e).operands in
    yes_and (leb (length r.path) 6) (steps_good r.path) (le→leb (length r.path) 6 w.short) w.steps

-- m is what there is to paste
module _ {s : Session} (h : SessionSound s) (r : Request) {d : Dossier} (e : d ≡ numbered_in r.dossier s) (m : things.Clipboard)
    {j : Judged} (told-so : j ≡ judged_of (refusal r (found r (view_dossier d)) (cached m) (standing_of r (view_signatures s.signatures) s.log.count)) (granted r (found r (view_dossier d)))) where
  whole_session : j ≡ judged_of (judged (view_session s) r m) (granted r (found r (dossier r.dossier (view_session s))))
  whole_session =
      let f = numbered_view s r.dossier e in
      let n = log_count s.log (log_sound h) in
      told-so ∙ (λ i. judged_of (refusal r (found r (f i)) (cached m) (standing_of r (view_signatures s.signatures) (n i))) (granted r (found r (f i))))

  pub refused_so : {e : Refusal} → Err e ≡ j → record { session = s; answer = Err e } ≡ from_of s r m
  refused_so {e} t =
      let o = says_refused (judged (view_session s) r m) (granted r (found r (dossier r.dossier (view_session s)))) e (t ∙ whole_session) in
      (λ i. record { session = sym (session_back s h) i; answer = Err (o.same i) }) ∙ ap left_of (sym (refused_by (view_session s) r m o.number o.is))

  pub not_refused : {n : ℕ} → Ok n ≡ j → judged (view_session s) r m ≡ none
  not_refused {n} t = (says_allowed (judged (view_session s) r m) _ n (t ∙ whole_session)).0

  -- the operands of what is not refused are good, so that request 17 has its branch
  pastes : Pastes r m → judged (view_session s) r m ≡ none → r.number ≡ 17 → T (cached m).branch
  pastes p o n =
      let f = found r (dossier r.dossier (view_session s)) in
      let w = passed r f (cached m) (standing r (view_session s).signatures (view_session s).log) o in
      p (yes_and (eqb r.number 17) (not (bad_operand r)) (yes_eqb n) (not_T (bad_operand r) w.operands))

  -- also as the request with its path taken
  pub served : Pastes r m → {q : Request} → q ≡ r → {n : ℕ} → Ok n ≡ j → Served s m q n
  served p f {n} t =
      let w = says_allowed (judged (view_session s) r m) _ n (t ∙ whole_session) in
      subst (λ (x : Request). Served s m x n) (sym f) (record { free = w.0; asks = w.1; branch = pastes p w.0 })

-- what is carried out is the step
pub carried_step : (s : Session) (r : Request) (m : things.Clipboard) → judged (view_session s) r m ≡ none → carried_of s r m ≡ from_of s r m
carried_step s r m o = ap (λ (x : Option ℕ). left_of (outcome (view_session s) r m x)) (sym o)
