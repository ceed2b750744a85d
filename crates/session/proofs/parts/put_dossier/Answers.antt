-- `session::parts::put_dossier` meets its contract: a dossier is stored under the dossier's number. Assumes nothing.
use lib.Dec.{eqb, eqb→eq, not_T}
use mir.Facts.{yes_eqb}
use Rattle.session.proofs.Stored.{first_stored, second_stored}
use Rattle.session.proofs.parts.put_dossier.Goals as goal

pub returns-then-n-eq1 : goal.returns-then-n-eq1
returns-then-n-eq1 c =
    let o = c.args.o in (c.done.ensures, first_stored c.args.s.now (λ d. o.whole) o.dossier (yes_eqb c.if-n-eq1.true))

pub returns : goal.returns
returns c =
    let o = c.args.o in (c.done-2.ensures, second_stored c.args.s.now (λ d. o.whole) o.dossier (not_T (eqb o.dossier 1) (λ t. c.if-n-eq1.false (eqb→eq o.dossier 1 t))))
