-- `session::load` meets its contract: the step on the two dossiers alone is the step on the session. Assumes nothing.
use mathlib.Core.Path.{ap, ◌∙◌}
use Rattle.state.specs.declared.DossiersOut.{DossiersOut}
use Rattle.state.specs.declared.Session.{Session}
use Rattle.session.specs.Parts.{store_one, store_two}
use Rattle.session.proofs.Frame.{load_means}
use Rattle.session.proofs.Stored.{one_written}
use Rattle.session.proofs.load.Goals as goal

pub returns : goal.returns
returns c =
    let s = c.args.s.now in
    let e = c.loaded-o.ensures in
    let m = load_means c.requires c.args.n c.args.image.now in
    let o = c.loaded-o.result in (
      ap (λ (o : DossiersOut). o.answer) e ∙ m.0,
      ap (λ (t : Session). store_two t o.two) (one_written s o.one) ∙ ap (λ (o : DossiersOut). store_two (store_one s o.one) o.two) e ∙ m.1,
    )
