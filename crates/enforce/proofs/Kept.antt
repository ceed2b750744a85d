-- A session that is sound stays sound, whatever is called: what is asked of it is what start gives and every call leaves. Assumes nothing.
use mathlib.Core.Path.{refl}
use mathlib.Core.List.{List, [], ◌∷◌}
use Rattle.model.specs.Things.{fresh}
use Rattle.model.specs.Run.{Call, step}
use Rattle.twin.proofs.KeptSound.{sound_step, kept_sound}
use Rattle.state.specs.declared.Session.{Session}
use Rattle.state.specs.View.{view_session, session_of, SessionSound}
use Rattle.state.specs.Calls.{session_after}
use Rattle.state.proofs.Sessions.{state_sound}

-- `unguarded::start`
pub start_sound : SessionSound (session_of fresh)
start_sound = record { model = fresh; same = refl; fits = kept_sound [] }

pub call_sound : (s : Session) (c : Call) → SessionSound s → SessionSound (session_after s c)
call_sound s c h = record { model = (step (view_session s) c).0; same = refl; fits = sound_step (view_session s) c (state_sound s h) }

-- what a list of calls leaves of a session
abbrev pub after_calls : Session → List Call → Session
after_calls s [] = s
after_calls s (c ∷ l) = after_calls (session_after s c) l

pub calls_sound : (s : Session) (calls : List Call) → SessionSound s → SessionSound (after_calls s calls)
calls_sound s [] h = h
calls_sound s (c ∷ l) h = calls_sound (session_after s c) l (call_sound s c h)

-- "A session is what start gave and the calls left"
pub reached_sound : (calls : List Call) → SessionSound (after_calls (session_of fresh) calls)
reached_sound calls = calls_sound (session_of fresh) calls start_sound
