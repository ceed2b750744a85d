-- What is asked of a request that is carried out, and what it leaves.
use Rattle.std.specs.Prelude.{◌≡◌, ℕ, T}
use Rattle.std.proofs.Math.Option.{none}
use Rattle.model.specs.Things.{Clipboard}
use Rattle.model.specs.Refusals.{Request, provisions, granted, refusal}
use Rattle.model.specs.Run.{found, cached, standing, dossier, carried_out}
use Rattle.state.specs.declared.Session.{Session}
use Rattle.state.specs.declared.Stepped.{Stepped}
use Rattle.state.specs.View.{view_session, session_of, answer_of}

-- the request, which pastes from c, is not refused in this session, and these are the messages that its grant asks for; request 17 pastes a branch
pub record Served (s : Session) (c : Clipboard) (r : Request) (messages : ℕ) : Type 0 where
  pub free : refusal r (found r (dossier r.dossier (view_session s))) (cached c) (standing r (view_session s).signatures (view_session s).log) ≡ none
  pub asks : messages ≡ (provisions (granted r (found r (dossier r.dossier (view_session s))))).messages
  pub branch : r.number ≡ 17 → T (cached c).branch

abbrev pub carried_of : Session → Request → Clipboard → Stepped
carried_of s r c =
    let d = dossier r.dossier (view_session s) in
    let out = carried_out (view_session s) r (found r d) d c in record { session = session_of out.0; answer = answer_of out.1 }
