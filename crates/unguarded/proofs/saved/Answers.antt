-- `unguarded::saved` meets its contract: dossier 1 or dossier 2, or nothing is written. Assumes nothing.
use borrow.Author.Tests.{eq-eqb, ne_eqb}
use mathlib.Core.Path.{◌≡◌, sym, ap, ◌∙◌}
use mathlib.Core.Bool.{true}
use Rattle.laws.specs.Slots.{pick}
use Rattle.model.specs.Run.{dossier_good}
use Rattle.tables.specs.View.{view_dossier}
use Rattle.tables.proofs.Parts.{dossier_fits}
use Rattle.state.specs.Calls.{having}
use Rattle.unguarded.proofs.Renewing.{no_dossier}
use Rattle.unguarded.proofs.Saving.{save_done, save_refused}
use Rattle.unguarded.proofs.saved.Goals as goal

pub save-requires : goal.save-requires
save-requires c = dossier_fits c.requires.0

pub returns-then-n-eq1 : goal.returns-then-n-eq1
returns-then-n-eq1 c =
    let good : dossier_good c.args.n ≡ true = simp c.if-n-eq1.true in
    let e = ap (λ b. pick b (view_dossier c.args.one) (view_dossier c.args.two)) (sym (eq-eqb _ _ c.if-n-eq1.true)) in
    let w = save_done (having c.args.one c.args.two) c.args.n c.args.out.now good e c.save.ensures.0 c.save.ensures.1 in
    (c.written.ensures ∙ w.0, w.1)

pub save-requires-then-n-eq2 : goal.save-requires-then-n-eq2
save-requires-then-n-eq2 c = dossier_fits c.requires.1

pub returns-then-n-eq2 : goal.returns-then-n-eq2
returns-then-n-eq2 c =
    let good : dossier_good c.args.n ≡ true = simp c.if-n-eq2.true in
    let e = ap (λ b. pick b (view_dossier c.args.one) (view_dossier c.args.two)) (sym (ne_eqb _ _ c.if-n-eq1.false)) in
    let w = save_done (having c.args.one c.args.two) c.args.n c.args.out.now good e c.save-then-n-eq2.ensures.0 c.save-then-n-eq2.ensures.1 in
    (c.written-then-n-eq2.ensures ∙ w.0, w.1)

pub returns : goal.returns
returns c =
    let w = save_refused (having c.args.one c.args.two) c.args.n c.args.out.now (no_dossier c.args.n c.if-n-eq1.false c.if-n-eq2.false) in
    w
