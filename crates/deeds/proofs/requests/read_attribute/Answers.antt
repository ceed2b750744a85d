-- `deeds::requests::read_attribute` meets its contract. Assumes nothing.
use Rattle.tables.proofs.Parts.{dossier_fits, attributes_sound}
use Rattle.deeds.proofs.requests.read_attribute.Goals as goal

pub attribute_in-requires : goal.attribute_in-requires
attribute_in-requires c = (attributes_sound (dossier_fits c.requires.0), c.requires.1)
