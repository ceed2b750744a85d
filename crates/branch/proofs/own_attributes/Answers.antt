-- `branch::own_attributes` meets its contract: one pass in place: every row keeps its path, its name and its value, and is the owner's. Assumes nothing.
use borrow.Author.Rules.{rules}
use mathlib.Core.Path.{◌≡◌, refl, ap, sym, ◌∙◌}
use native.Mathlib.Omega.{arith}
use Rattle.laws.proofs.Fill.{held_room}
use Rattle.model.specs.Image.{owned_attribute}
use Rattle.tables.specs.View.{view_attribute, attribute_of, attributes_of, attributes_with, blank_attribute, no_attribute}
use Rattle.tables.proofs.Rows.{attributes_held, view_attribute_lem}
use Rattle.branch.proofs.Changes.{changes, change, changed}
use Rattle.branch.proofs.own_attributes.Goals as goal

pub loop-i-init : goal.loop-i-init
loop-i-init c =
    let h = attributes_held c.args.t c.requires in
    (held_room _ _ _ _ _ _ h, search rules, changes attributes_with attribute_of 256 blank_attribute view_attribute _ h)

pub loop-i-preserved : goal.loop-i-preserved
loop-i-preserved c =
    let l = c.loop-i in (
      search rules,
      search rules,
      change attributes_with attribute_of 256 blank_attribute view_attribute (owned_attribute c.args.owner) (attributes_held c.args.t c.requires) l.invariant.2 view_attribute_lem
          (λ a. record { path = a.path; name = a.name; owner = c.args.owner; value = a.value }) (λ m. refl) no_attribute c.loop-i-test.true,
    )

pub returns : goal.returns
unfolding attributes_of
returns c =
    let l = c.loop-i in
    let e : l.i ≡ c.args.t.count = omega arith in
    ap (attributes_with l.attributes.rows) (l.invariant.1 ∙ sym e)
    ∙ changed attributes_with attribute_of 256 blank_attribute view_attribute (owned_attribute c.args.owner) (attributes_held c.args.t c.requires) l.invariant.2 e
