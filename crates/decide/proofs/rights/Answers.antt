-- `decide::rights` meets its contract: each number has the needs of its row in the table of requests. Assumes nothing.
use mathlib.Core.Path.{refl}
use mathlib.Core.Logic.{⊎_elim}
use Rattle.path.specs.Address.{parent}
use Rattle.path.specs.View.{steps}
use Rattle.model.specs.Decide as model
use Rattle.model.specs.Moves.{permissions_in}
use Rattle.tables.specs.View.{view_permissions}
use Rattle.grants.specs.View.{view_subject}
use Rattle.decide.specs.View.{object_owned}
use Rattle.decide.proofs.Objects.{both_joined}
use Rattle.decide.proofs.Numbers.{one, reads, changes}
use Rattle.decide.proofs.rights.Goals as goal

-- reading the node and changing its parent
pub returns-in-6 : goal.returns-in-6
returns-in-6 c =
    let a = c.args in
    let rows = view_permissions a.t in
    let at = steps a.a.path in
    let asker = view_subject a.a.subject in
    let e = c.in-6.is in
    one a.a a.o rows e (both_joined (model.given (model.read_by asker) (object_owned a.o.node (permissions_in at 0 rows)))
    (model.given (model.change_by asker) (object_owned a.o.parent (permissions_in (parent at) 0 rows))) c.joined.ensures
    (reads a.a a.o rows c.object_walk-w.ensures e a.o.node 0 refl c.owned_or-in-6.ensures)
    (changes a.a a.o rows c.change_given-change.ensures e a.o.parent (permissions_in (parent at) 0 rows) refl c.owned_or-in-6-2.ensures))

-- reading the attribute and changing its node
pub returns-in-10 : goal.returns-in-10
returns-in-10 c =
    let a = c.args in
    let rows = view_permissions a.t in
    let at = steps a.a.path in
    let asker = view_subject a.a.subject in
    ⊎_elim (λ e. one a.a a.o rows e (both_joined (model.given (model.read_by asker) (object_owned a.o.attribute (permissions_in at a.a.name rows)))
    (model.given (model.change_by asker) (object_owned a.o.node (permissions_in at 0 rows))) c.joined-in-10.ensures
    (reads a.a a.o rows c.object_walk-w.ensures e a.o.attribute a.a.name refl c.owned_or-in-10.ensures)
    (changes a.a a.o rows c.change_given-change.ensures e a.o.node (permissions_in at 0 rows) refl c.owned_or-in-10-2.ensures)))
    (λ e. one a.a a.o rows e (both_joined (model.given (model.read_by asker) (object_owned a.o.attribute (permissions_in at a.a.name rows)))
    (model.given (model.change_by asker) (object_owned a.o.node (permissions_in at 0 rows))) c.joined-in-10.ensures
    (reads a.a a.o rows c.object_walk-w.ensures e a.o.attribute a.a.name refl c.owned_or-in-10.ensures)
    (changes a.a a.o rows c.change_given-change.ensures e a.o.node (permissions_in at 0 rows) refl c.owned_or-in-10-2.ensures))) c.in-10.is
