-- `image::permissions::object_there` meets its contract: what is found in a table by halving says whether the object is there. Assumes nothing.
use mathlib.Core.Path.{◌≡◌, refl, sym, ap, ◌∙◌}
use mathlib.Core.Option as math
use Rattle.std.proofs.Common.{Option, Some, None, Bor}
use Rattle.std.specs.Option.{is_some, option_map}
use borrow.Author.Tests.{ne_eqb}
use Rattle.laws.specs.Slots.{pick}
use Rattle.path.specs.View.{steps, key_of}
use Rattle.model.specs.Things as things
use Rattle.model.specs.Image.{there}
use Rattle.model.specs.Moves.{attribute_in}
use Rattle.tables.specs.declared.Attribute.{Attribute}
use Rattle.tables.specs.View.{view_attributes, found_of}
use Rattle.lookups.specs.View.{found_at}
use Rattle.image.specs.Columns.{among, pair_among, objects_of}
use Rattle.image.proofs.Lent.{there_by_rows}
use Rattle.image.proofs.permissions.object_there.Goals as goal

-- a row is lent just where there is an attribute
lent : (r : Option (Bor Attribute)) (o : math.Option things.Attribute) → option_map (λ a. found_at a.now) r ≡ found_of o → is_some r ≡ there o
lent None math.none e = refl
lent None (math.some a) e = cc
lent (Some r) math.none e = cc
lent (Some r) (math.some a) e = refl

pub returns : goal.returns
returns c =
    let p = c.args.p in
    let n = c.args.name in
    let l = view_attributes c.args.t.now in
    c.is_some.ensures ∙ lent c.attribute_at.result (attribute_in (steps p) n l) c.attribute_at.ensures ∙ sym (there_by_rows c.args.t.now p c.requires.2 n)
    ∙ sym (ap (λ b. pick b (among (key_of p) c.args.keys.now) (pair_among (key_of p, n) (objects_of l))) (ne_eqb n 0 c.if-name-eq0.false))
