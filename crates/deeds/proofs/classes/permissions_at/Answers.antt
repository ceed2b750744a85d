-- `deeds::classes::permissions_at` meets its contract: one table changes. Assumes nothing.
use mathlib.Core.Path.{sym, ap, subst, ◌∙◌}
use mathlib.Core.Logic.{⊎_elim}
use native.Mathlib.Omega.{arith}
use Rattle.model.specs.Things as things
use Rattle.model.specs.Refusals.{Request}
use Rattle.model.specs.Run as run
use Rattle.tables.specs.View.{Permissions}
use Rattle.tables.specs.View.{view_dossier, dossier_of}
use Rattle.tables.proofs.Parts.{dossier_fits, permissions_sound}
use Rattle.tables.proofs.Tables.{permissions_count}
use Rattle.deeds.specs.Classes.{Open, class_of}
use Rattle.deeds.proofs.Allowed.{permission_room, delegate_room}
use Rattle.deeds.proofs.Rows.{permission_row}
use Rattle.deeds.proofs.Numbers.{not_fifteen, told}
use Rattle.deeds.proofs.classes.permissions_at.Goals as goal
use Rattle.deeds.proofs.classes.permissions_at.Goals.{Start}

-- the permissions that a request leaves in this dossier
abbrev leaves : Start → Request → Permissions
leaves s r = (dossier_of (run.edited r (view_dossier s.args.d) things.empty)).permissions

pub except-requires : goal.except-requires
except-requires c =
    (permissions_sound (dossier_fits c.requires.0), c.placed-q.ensures.1)

pub returns-then-q-eq15 : goal.returns-then-q-eq15
returns-then-q-eq15 c =
    let a = told (leaves (goal.at.returns-then-q-eq15 c).Start) c.placed-q.ensures.0 c.if-q-eq15.true c.except.ensures in
    λ i. record { dossier = c.args.v.dossier; permissions = a i }

pub insert-requires : goal.insert-requires
insert-requires c =
    let e = c.placed-q.ensures.0 in
    let o = subst (λ x. Open x (view_dossier c.args.d)) (sym e) c.requires.2 in
    let n = not_fifteen (ap (λ (r : Request). class_of r.number) e ∙ c.requires.3) c.if-q-eq15.false in
    let a = ⊎_elim (λ h. permission_room o.allowed h) (λ h. delegate_room o.allowed h) n in
    let t = permissions_sound (dossier_fits c.requires.0) in
    let k = permissions_count _ t in
    let room = a.0 in
    (permission_row c.placed-q.ensures.1 _ _, t, omega arith, a.1)
