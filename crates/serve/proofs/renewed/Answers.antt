-- `serve::renewed` meets its contract: what `session::via_renew` leaves is sound. Assumes nothing.
use Rattle.model.specs.Run as run
use Rattle.serve.proofs.Sound.{stepped_sound}
use Rattle.serve.proofs.renewed.Goals as goal

pub returns : goal.returns
returns c =
    stepped_sound c.args.s (run.new c.args.n c.args.owner) c.via_renew.result c.requires c.via_renew.ensures
