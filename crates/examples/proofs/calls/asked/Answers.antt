-- `examples::calls::asked` meets its contract: a request leaves a sound session. Assumes nothing.
use mathlib.Core.Path.{sym, subst}
use Rattle.state.specs.View.{SessionSound}
use Rattle.enforce.proofs.Kept.{call_sound}
use Rattle.examples.proofs.calls.asked.Goals as goal

pub returns : goal.returns
returns c =
    subst (λ o. SessionSound o.session) (sym c.via_request.ensures) (call_sound c.args.s _ c.requires)
