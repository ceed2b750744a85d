-- `unguarded::loaded` meets its contract: the dossier of that number is the image's, or nothing changes. Assumes nothing.
use borrow.Author.Tests.{eq-eqb, ne_eqb, lt-leb, le-leb}
use mathlib.Core.Path.{◌≡◌, sym, ◌∙◌}
use mathlib.Core.Bool.{true}
use Rattle.model.specs.Image as images
use Rattle.model.specs.Run.{dossier_good}
use Rattle.unguarded.proofs.Loading.{found_bad, found_good, load_refused, load_bad, load_one, load_two}
use Rattle.unguarded.proofs.loaded.Goals as goal
use Rattle.unguarded.proofs.loaded.Goals.{After-load}

pub returns-then-n-lt1 : goal.returns-then-n-lt1
returns-then-n-lt1 c =
    c.refused.ensures ∙ load_refused c.requires.0 c.requires.1 c.args.n c.args.image.now (simp (lt-leb 1 c.args.n c.if-n-lt1.true))

pub returns-then-n-gt2 : goal.returns-then-n-gt2
returns-then-n-gt2 c =
    c.refused-then-n-gt2.ensures
    ∙ load_refused c.requires.0 c.requires.1 c.args.n c.args.image.now (simp (le-leb 1 c.args.n c.if-n-lt1.false, lt-leb c.args.n 2 c.if-n-gt2.true))

-- the number is 1 or 2
fair : (c : After-load) → dossier_good c.args.n ≡ true
fair c = simp (le-leb 1 c.args.n c.if-n-lt1.false, le-leb c.args.n 2 c.if-n-gt2.false)

pub returns-in-Err : goal.returns-in-Err
returns-in-Err c =
    load_bad c.requires.0 c.requires.1 c.args.n c.args.image.now _ (fair (goal.at.returns-in-Err c).After-load) (found_bad (images.load c.args.image.now) (sym c.in-Err.is ∙ c.load.ensures))

pub returns-then-n-eq1 : goal.returns-then-n-eq1
returns-then-n-eq1 c =
    let g = found_good (images.load c.args.image.now) (sym c.in-Ok.is ∙ c.load.ensures) in
    load_one c.requires.0 c.requires.1 c.args.n c.args.image.now g.same (fair (goal.at.returns-then-n-eq1 c).After-load) g.is (eq-eqb _ _ c.if-n-eq1.true)

pub returns : goal.returns
returns c =
    let g = found_good (images.load c.args.image.now) (sym c.in-Ok.is ∙ c.load.ensures) in
    load_two c.requires.0 c.requires.1 c.args.n c.args.image.now g.same (fair (goal.at.returns c).After-load) g.is (ne_eqb _ _ c.if-n-eq1.false)
