-- `images::saved::load`: what was loaded fits. Assumes nothing.
use Rattle.images.proofs.Fits.{loaded_fits}
use Rattle.images.proofs.saved.load.Goals as goal

pub returns : goal.returns
returns c = loaded_fits c.args.bytes.now c.load.result c.load.ensures
