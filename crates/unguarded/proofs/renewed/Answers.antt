-- `unguarded::renewed` meets its contract: one of the dossiers is a bare root, or nothing changes. Assumes nothing.
use borrow.Author.Tests.{eq-eqb, ne_eqb, lt-leb, le-leb}
use mathlib.Core.Path.{◌≡◌, ap, ◌∙◌}
use mathlib.Core.Bool.{true, ◌&&◌}
use Rattle.model.specs.Refusals.{user_good}
use Rattle.model.specs.Run.{dossier_good}
use Rattle.unguarded.proofs.Renewing.{new_refused, new_one, new_two, no_owner, no_dossier}
use Rattle.unguarded.proofs.renewed.Goals as goal

pub returns-then-owner-lt1 : goal.returns-then-owner-lt1
returns-then-owner-lt1 c =
    c.refused.ensures
    ∙ new_refused c.requires.0 c.requires.1 c.args.n c.args.owner (no_owner (dossier_good c.args.n) (simp (lt-leb 1 c.args.owner c.if-owner-lt1.true)))

pub returns-then-owner-gt64 : goal.returns-then-owner-gt64
returns-then-owner-gt64 c =
    c.refused-then-owner-gt64.ensures
    ∙ new_refused c.requires.0 c.requires.1 c.args.n c.args.owner
    (no_owner (dossier_good c.args.n) (simp (le-leb 1 c.args.owner c.if-owner-lt1.false, lt-leb c.args.owner 64 c.if-owner-gt64.true)))

pub returns-then-n-eq1 : goal.returns-then-n-eq1
returns-then-n-eq1 c =
    let one = c.bare.ensures in
    let good : (dossier_good c.args.n && user_good c.args.owner) ≡ true = simp (c.if-n-eq1.true, le-leb 1 c.args.owner c.if-owner-lt1.false, le-leb c.args.owner 64 c.if-owner-gt64.false) in
    new_one c.requires.0 c.requires.1 c.args.n c.args.owner one good (eq-eqb _ _ c.if-n-eq1.true)

pub returns-then-n-eq2 : goal.returns-then-n-eq2
returns-then-n-eq2 c =
    let two = c.bare-then-n-eq2.ensures in
    let good : (dossier_good c.args.n && user_good c.args.owner) ≡ true = simp (c.if-n-eq2.true, le-leb 1 c.args.owner c.if-owner-lt1.false, le-leb c.args.owner 64 c.if-owner-gt64.false) in
    new_two c.requires.0 c.requires.1 c.args.n c.args.owner two good (ne_eqb _ _ c.if-n-eq1.false)

pub returns : goal.returns
returns c =
    c.refused-2.ensures
    ∙ new_refused c.requires.0 c.requires.1 c.args.n c.args.owner (ap (λ b. b && user_good c.args.owner) (no_dossier c.args.n c.if-n-eq1.false c.if-n-eq2.false))
