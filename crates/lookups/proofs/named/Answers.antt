-- `lookups::named` meets its contract: what the first attribute of the name holds. Assumes nothing.
use mathlib.Core.Path.{◌≡◌, refl, ap, ◌∙◌}
use lib.Dec.{eqb}
use Rattle.std.proofs.Common.{rules, tests, Bor, Option, None, Some}
use Rattle.std.proofs.lemmas.Iterator.{YieldsList-from_slice}
use Rattle.std.proofs.lemmas.Iterator.Search.{find_from_yields_List}
use Rattle.tables.specs.declared.Attribute.{Attribute}
use Rattle.std.specs.List.{find}
use Rattle.std.specs.Option.{option_map}
use Rattle.lookups.specs.View.{found_at}
use Rattle.lookups.proofs.Told.{find_called}
use Rattle.lookups.proofs.named.Goals as goal

pub returns : goal.returns
returns c =
    let m : c.map.result ≡ option_map (λ b. found_at b.now) c.find.result = search rules in
    let e : option_map (λ b. b.now) c.find.result ≡ find (λ a. eqb a.name c.args.name) c.args.here.now =
    find_from_yields_List _ _ _ c.find.result c.find.ensures.ran (YieldsList-from_slice c.args.here.now cc) (λ x b q k. search (rules, tests)) in
    m ∙ twice c.find.result ∙ ap (option_map found_at) e ∙ find_called c.args.name c.args.here.now
  where
    twice : (o : Option (Bor Attribute)) → option_map (λ b. found_at b.now) o ≡ option_map found_at (option_map (λ b. b.now) o)
    twice None = refl
    twice (Some b) = refl
