-- `serve::log_taken` meets its contract: what `session::via_take_log` leaves is sound. Assumes nothing.
use Rattle.model.specs.Run as run
use Rattle.serve.proofs.Sound.{stepped_sound}
use Rattle.serve.proofs.log_taken.Goals as goal

pub returns : goal.returns
returns c =
    stepped_sound c.args.s (run.take_log c.args.out.now) c.via_take_log.result c.requires c.via_take_log.ensures.0
