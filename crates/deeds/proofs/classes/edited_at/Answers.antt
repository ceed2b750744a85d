-- `deeds::classes::edited_at` meets its contract: each number's edit, of a request that is not refused. Assumes nothing.
use mathlib.Core.Path.{◌≡◌, sym, subst}
use mathlib.Core.Logic.{◌⊎◌, ⊎_elim}
use Rattle.model.specs.Things as things
use Rattle.model.specs.Refusals.{Request}
use Rattle.model.specs.Run as run
use Rattle.tables.specs.declared.Dossier.{Dossier}
use Rattle.tables.specs.View.{view_dossier, dossier_of}
use Rattle.tables.proofs.Parts.{dossier_fits}
use Rattle.std.specs.Prelude.{Some}
use Rattle.deeds.specs.declared.classes.Class.TheVariants.{Edit, Cut}
use Rattle.deeds.specs.Classes.{Open, class_of}
use Rattle.deeds.proofs.Allowed.{add_room}
use Rattle.deeds.proofs.Numbers.{no_branch, told}
use Rattle.deeds.proofs.classes.edited_at.Goals as goal
use Rattle.deeds.proofs.classes.edited_at.Goals.{Start}

-- what a request leaves of this dossier
abbrev leaves : Start → Request → Dossier
leaves s r = dossier_of (run.edited r (view_dossier s.args.d) things.empty)

pub add_node-requires : goal.add_node-requires
add_node-requires c =
    let o = subst (λ x. Open x (view_dossier c.args.d)) (sym c.placed-q.ensures.0) c.requires.2 in
    let a = add_room o.allowed c.in-3.is in
    (c.requires.0, c.placed-q.ensures.1, a.0, a.1)

pub delete_branch-requires : goal.delete_branch-requires
delete_branch-requires c = (dossier_fits c.requires.0, c.placed-q.ensures.1)

pub delete_attribute-requires : goal.delete_attribute-requires
delete_attribute-requires c = (dossier_fits c.requires.0, c.placed-q.ensures.1)

pub returns-in_default : goal.returns-in_default
returns-in_default c =
    let e = c.placed-q.ensures.0 in
    let r = c.in_default.in_default-own.rest in
    let class = subst (λ (x : Request). (class_of x.number ≡ Some Edit) ⊎ (class_of x.number ≡ Some Cut)) (sym e) c.requires.3 in
    let h = c.delete_attribute.ensures in
    let a = ⊎_elim (λ n. told (leaves (goal.at.returns-in_default c).Start) e n h) (λ n. told (leaves (goal.at.returns-in_default c).Start) e n h) (no_branch class r.0.1 r.1) in
    λ i. record { dossier = c.args.v.dossier; whole = a i }
