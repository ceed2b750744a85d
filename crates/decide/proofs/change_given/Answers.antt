-- `decide::change_given` meets its contract: the node above for the requests that change there. Assumes nothing.
use mathlib.Core.Path.{ap, ◌∙◌}
use native.Mathlib.Omega.{arith}
use Rattle.std.proofs.lemmas.Grind.{common_steps}
use Rattle.path.specs.Address.{Address, parent}
use Rattle.path.specs.View.{steps}
use Rattle.path.proofs.Structs.{parent_sound, view_path}
use Rattle.model.specs.Moves.{permissions_in}
use Rattle.tables.specs.View.{view_permissions}
use Rattle.grants.specs.View.{view_subject}
use Rattle.decide.specs.View.{change_for}
use Rattle.decide.proofs.change_given.Goals as goal

pub change_by-requires-in-3 : goal.change_by-requires-in-3
change_by-requires-in-3 c = (c.requires.0, parent_sound c.requires.1 c.parent_of.ensures)

pub returns-in-3 : goal.returns-in-3
returns-in-3 c =
    let s = view_subject c.args.a.subject in
    let e = c.change_by-in-3.ensures
    ∙ ap (λ (p : Address). change_for s (permissions_in p 0 (view_permissions c.args.t))) (ap steps c.parent_of.ensures ∙ view_path (parent (steps c.args.a.path))) in
    grind (arith, common_steps)
