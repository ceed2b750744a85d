-- `grants::given` meets its contract: the first of the permissions that matches. Assumes nothing.
use mathlib.Core.Path.{◌≡◌, sym, ap, ◌∙◌}
use mathlib.Core.List.{map}
use borrow.Author.Rules.{rules}
use borrow.Author.Tests.{tests}
use Rattle.std.specs.Prelude.{option_map}
use Rattle.std.proofs.lemmas.Iterator.{YieldsList-from_slice}
use Rattle.std.proofs.lemmas.Iterator.Search.{find_from_yields_List}
use Rattle.model.specs.Decide as model
use Rattle.tables.specs.View.{view_grant}
use Rattle.grants.specs.View.{view_subject, decision_of}
use Rattle.grants.proofs.Told.{asked, first_told}
use Rattle.grants.proofs.given.Goals as goal
use Rattle.grants.proofs.given.Goals.{After-find}

found : (c : After-find) → option_map asked (option_map (λ a. a.now) c.find.result)
    ≡ decision_of (model.matched (view_subject c.args.s) c.args.action (map (λ a. view_grant a.grant) c.args.rows.now))
found c =
    ap (option_map asked) (find_from_yields_List (λ a. model.matches (view_subject c.args.s) c.args.action (view_grant a.grant)) _ _ c.find.result c.find.ensures.ran
    (YieldsList-from_slice c.args.rows.now cc) (λ x b q k. search (rules, tests)))
    ∙ first_told (view_subject c.args.s) c.args.action c.args.rows.now

pub returns-in_err-g : goal.returns-in_err-g
returns-in_err-g c = c.from_residual.ensures ∙ ap (λ o. option_map asked (option_map (λ a. a.now) o)) (sym c.in_err-g.was) ∙ found (goal.at.returns-in_err-g c).After-find

pub returns : goal.returns
returns c = ap (λ o. option_map asked (option_map (λ a. a.now) o)) (sym c.in_ok-g.was) ∙ found (goal.at.returns c).After-find
