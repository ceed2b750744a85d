-- What a call leaves of a sound session is sound. Assumes nothing.
use mathlib.Core.Path.{◌≡◌, sym, ap, subst}
use Rattle.model.specs.Run.{Call}
use Rattle.state.specs.declared.Session.{Session}
use Rattle.state.specs.declared.Stepped.{Stepped}
use Rattle.state.specs.View.{SessionSound}
use Rattle.state.specs.Calls.{stepped_of}
use Rattle.enforce.proofs.Kept.{call_sound}

pub stepped_sound : (s : Session) (c : Call) (o : Stepped) → SessionSound s → o ≡ stepped_of s c → SessionSound o.session
stepped_sound s c o h e = subst (λ (t : Session). SessionSound t) (sym (ap (λ (p : Stepped). p.session) e)) (call_sound s c h)
