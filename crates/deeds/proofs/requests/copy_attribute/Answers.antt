-- `deeds::requests::copy_attribute` meets its contract: what was looked up has the name that it was looked up under. Assumes nothing.
use mathlib.Core.Path.{sym, ap, ◌∙◌}
use Rattle.path.specs.View.{steps}
use Rattle.tables.specs.View.{view_dossier, clipboard_of}
use Rattle.tables.proofs.Parts.{dossier_fits, attributes_sound}
use Rattle.deeds.proofs.Looked.{clip_found, clip_found_lem}
use Rattle.deeds.proofs.requests.copy_attribute.Goals as goal

pub attribute_in-requires : goal.attribute_in-requires
attribute_in-requires c = (attributes_sound (dossier_fits c.requires.0), c.requires.1)

pub copy_attribute-requires : goal.copy_attribute-requires
copy_attribute-requires c = (dossier_fits c.requires.0, c.requires.1)

pub returns-in-Some : goal.returns-in-Some
returns-in-Some c =
    let p = steps c.args.q.path in
    let n = c.args.q.name in
    let d = view_dossier c.args.d in
    c.copy_attribute.ensures ∙ ap (λ x. clipboard_of (clip_found p n d x)) (sym c.in-Some.is ∙ c.attribute_in.ensures) ∙ ap clipboard_of (clip_found_lem p n d)
