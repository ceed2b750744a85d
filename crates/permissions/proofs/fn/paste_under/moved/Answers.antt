-- The same permission for the object of that name at p. Assumes nothing.
use Rattle.std.specs.Prelude.{Some}
use mathlib.Core.Path.{ap, ◌∙◌}
use Rattle.path.specs.View.{steps}
use Rattle.path.proofs.Structs.{facts}
use Rattle.permissions.proofs.Stored.{granted_at}
use Rattle.permissions.proofs.fn.paste_under.moved.Goals as goal

pub returns : goal.returns
returns c = ap Some (c.granted.ensures ∙ granted_at c.args.row c.captures.name (steps c.captures.p) (facts c.captures.p c.requires.1).is)
