-- `decide::granted` meets its contract: the owners, and what the permissions give then. Assumes nothing.
use mathlib.Core.Path.{ap, ◌∙◌}
use Rattle.path.specs.Address.{parent}
use Rattle.path.specs.View.{steps}
use Rattle.model.specs.Refusals.{granted}
use Rattle.tables.specs.View.{view_dossier, view_permissions}
use Rattle.grants.specs.View.{decision_of}
use Rattle.decide.specs.View.{view_asked, needed, found_by}
use Rattle.decide.proofs.Objects.{node_owned, attribute_owned}
use Rattle.decide.proofs.granted.Goals as goal

pub returns : goal.returns
returns c =
    let a = c.args in
    let r = view_asked a.a in
    let p = steps a.a.path in
    let d = view_dossier a.d in
    c.rights.ensures
    ∙ ap (λ w. decision_of (granted r (found_by r w (view_permissions a.d.permissions)))) c.owners_in-o.ensures
    ∙ (λ i. decision_of (granted r (needed (node_owned p d i) (node_owned (parent p) d i) (attribute_owned p a.a.name d i))))
