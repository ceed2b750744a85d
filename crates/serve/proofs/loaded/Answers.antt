-- `serve::loaded` meets its contract: what `session::via_load` leaves is sound. Assumes nothing.
use Rattle.model.specs.Run as run
use Rattle.serve.proofs.Sound.{stepped_sound}
use Rattle.serve.proofs.loaded.Goals as goal

pub returns : goal.returns
returns c =
    stepped_sound c.args.s (run.load c.args.n c.args.image.now) c.via_load.result c.requires c.via_load.ensures
