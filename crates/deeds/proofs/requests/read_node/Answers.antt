-- `deeds::requests::read_node` meets its contract: a node of a sound dossier has at most 16 names. Assumes nothing.
use Rattle.path.specs.View.{steps}
use Rattle.tables.proofs.Parts.{dossier_fits, nodes_sound, attributes_sound}
use Rattle.edits.proofs.Whole.{whole}
use Rattle.deeds.proofs.requests.read_node.Goals as goal

pub names_in-names-requires : goal.names_in-names-requires
names_in-names-requires c = (attributes_sound (dossier_fits c.requires.0), c.requires.1, (whole c.args.d c.requires.0).few_on_node (steps c.args.q.path))

pub children_in-requires : goal.children_in-requires
children_in-requires c = (nodes_sound (dossier_fits c.requires.0), c.requires.1)
