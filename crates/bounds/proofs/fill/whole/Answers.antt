-- `bounds::fill::whole` meets its contract: three sound tables are a dossier whose tables fit. Assumes nothing.
use Rattle.bounds.proofs.Filled.{dossier}
use Rattle.bounds.proofs.fill.whole.Goals as goal

pub returns : goal.returns
returns c = dossier c.requires.0 c.requires.1 c.requires.2
