-- `serve::requested` meets its contract: what `session::via_request` leaves is sound. Assumes nothing.
use Rattle.model.specs.Run as run
use Rattle.state.specs.View.{view_request}
use Rattle.serve.proofs.Sound.{stepped_sound}
use Rattle.serve.proofs.requested.Goals as goal

pub returns : goal.returns
returns c =
    stepped_sound c.args.s (run.request (view_request c.args.r) c.args.image.now) c.via_request.result c.requires c.via_request.ensures
