-- `serve::signed` meets its contract: what `session::via_sign` leaves is sound. Assumes nothing.
use Rattle.model.specs.Run as run
use Rattle.serve.proofs.Sound.{stepped_sound}
use Rattle.serve.proofs.signed.Goals as goal

pub returns : goal.returns
returns c =
    stepped_sound c.args.s (run.sign c.args.user c.args.agreement) c.via_sign.result c.requires c.via_sign.ensures
