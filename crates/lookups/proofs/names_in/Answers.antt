-- `lookups::names_in` meets its contract: each of the node's rows gave its name. Assumes nothing.
use mathlib.Core.Path.{◌≡◌, sym, ap, ◌∙◌}
use mathlib.Core.List.{map, map-map}
use native.Mathlib.Omega.{arith}
use lib.ListN.{length, length-map}
use Rattle.std.proofs.Common.{take_all}
use Rattle.laws.specs.Slots.{slots}
use Rattle.path.specs.View.{steps}
use Rattle.model.specs.Things as things
use Rattle.model.specs.Moves.{names_in}
use Rattle.tables.specs.declared.Attribute.{Attribute}
use Rattle.tables.specs.View.{view_attribute, view_attributes, names_of}
use Rattle.tables.specs.declared.Names.{Names}
use Rattle.lookups.proofs.names_in.Goals as goal

pub returns : goal.returns
returns c =
    let here = c.attributes_at-here.result.now in
    let long = length-map here (λ (a : Attribute). a.name) in
    let past = c.loop-k-test.false in
    let all = c.loop-k.invariant.0 ∙ ap (slots 16 0) (take_all c.loop-k.k (map (λ (a : Attribute). a.name) here) (omega arith)) in
    let told : map (λ (a : Attribute). a.name) here ≡ names_in (steps c.args.p) (view_attributes c.args.t) =
    sym (map-map (λ (a : things.Attribute). a.name) (λ (a : Attribute). (view_attribute a).1) here) ∙ ap (map (λ a. a.name)) c.attributes_at-here.ensures in
    let full : ◌≡◌ {A = Names} (record { names = c.loop-k.names; count = length here }) (names_of (map (λ (a : Attribute). a.name) here)) = λ i. record { names = all i; count = sym long i } in
    full ∙ ap names_of told
