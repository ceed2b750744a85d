-- `path::front` meets its contract: the high digits. Assumes nothing.
use Rattle.path.proofs.Number.{front_is}
use Rattle.path.proofs.front.Goals as goal

pub returns : goal.returns
returns c = front_is c.args.p c.requires.0 c.args.n c.requires.1
