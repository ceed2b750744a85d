-- `deeds::classes::noted` meets its contract: no messages add nothing to the log. Assumes nothing.
use Rattle.deeds.proofs.Left.{log_quiet}
use Rattle.deeds.proofs.classes.noted.Goals as goal

pub returns-then-v-eq0 : goal.returns-then-v-eq0
returns-then-v-eq0 c = log_quiet c.args.v.request.user c.requires.0 c.if-v-eq0.true
