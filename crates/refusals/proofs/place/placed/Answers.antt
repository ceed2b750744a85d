-- `refusals::place::placed` meets its contract: only the path is held in another way. Assumes nothing.
use mathlib.Core.Path.{ap, ◌∙◌}
use borrow.Author.Rules.{rules}
use mir.Syntax.{w64}
use mir.Val.{SFits}
use mir.ValLaws.{to_z-of_z}
use Rattle.path.specs.View.{steps, asked}
use Rattle.path.proofs.Structs.{view_path, valid_sound}
use Rattle.tables.specs.View.{view_value, view_grant}
use Rattle.refusals.proofs.place.placed.Goals as goal
use Rattle.refusals.proofs.place.placed.Goals.{Start}

time_fits : (s : Start) → SFits w64 s.args.r.time
time_fits s = search rules

pub returns : goal.returns
returns c =
    let r = c.args.r in
    let time = to_z-of_z w64 r.time (time_fits (goal.at.returns c).Start) in
    let path = ap steps c.path_of-p.ensures ∙ view_path (asked r.path) in (
      λ i. record {
        number = r.number;
        dossier = r.dossier;
        role = r.role;
        user = r.user;
        time = time i;
        path = path i;
        name = r.name;
        value = view_value r.value;
        permission = view_grant r.permission;
      },
      valid_sound r.path c.requires c.path_of-p.ensures,
    )
