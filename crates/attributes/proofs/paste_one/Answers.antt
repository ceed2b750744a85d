-- `attributes::paste_one` meets its contract: the cached row under its new name, inserted. Assumes nothing.
use mathlib.Core.Path.{◌≡◌, sym, subst, ◌∙◌}
use mathlib.Core.Option.{none}
use lib.ListN.{get_or}
use Rattle.path.specs.View.{steps}
use Rattle.path.proofs.Structs.{facts, path_valid}
use Rattle.model.specs.Moves.{attribute_in}
use Rattle.tables.specs.declared.Attribute.{Attribute}
use Rattle.tables.specs.View.{view_attributes, view_value, no_attribute}
use Rattle.tables.proofs.Rows.{value_there}
use Rattle.attributes.proofs.paste_one.Goals as goal

pub insert-requires : goal.insert-requires
insert-requires c =
    let a = get_or c.args.c.rows 0 no_attribute in
    let e = (facts c.args.p c.requires.1).is in
    let w = sym (value_there a.value) in (
      record {
        model = (steps c.args.p, record { name = c.args.name; owner = a.owner; value = view_value a.value });
        same = c.renamed.ensures ∙ (λ i. record { path = e i; name = c.args.name; owner = a.owner; value = w i });
        fits = path_valid c.requires.1;
      },
      c.requires.0,
      c.requires.2,
      subst (λ (z : Attribute). attribute_in (steps z.path) z.name (view_attributes c.args.t) ≡ none) (sym c.renamed.ensures) c.requires.3,
    )
