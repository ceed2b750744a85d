-- `session::parts::place` meets its contract: the image lies on the clipboard for the time of the paste. Assumes nothing.
use mathlib.Core.Path.{ap, ◌∙◌}
use Rattle.state.specs.declared.Session.{Session}
use Rattle.state.specs.Parts.{clipped_in}
use Rattle.session.proofs.Placed.{laid_out_lem, laden_left}
use Rattle.session.proofs.parts.place.Goals as goal

pub perform-a-requires : goal.perform-a-requires
perform-a-requires c = laid_out_lem c.args.s.now c.args.r c.args.c c.requires

pub returns : goal.returns
returns c =
    let s = c.args.s.now in
    let w = laden_left s c.args.r c.args.c c.requires in
    (c.perform-a.ensures.0 ∙ w.0, ap (λ (t : Session). clipped_in s.clipboard t) c.perform-a.ensures.1 ∙ w.1)
