-- `examples::calls::renewed` meets its contract: a dossier made new leaves a sound session. Assumes nothing.
use mathlib.Core.Path.{sym, subst}
use Rattle.state.specs.View.{SessionSound}
use Rattle.enforce.proofs.Kept.{call_sound}
use Rattle.examples.proofs.calls.renewed.Goals as goal

pub returns : goal.returns
returns c = subst (λ o. SessionSound o.session) (sym c.via_renew.ensures) (call_sound c.args.s _ c.requires)
