-- `deeds::classes::pasted_at` meets its contract: a branch or an attribute, of a request that is not refused. Assumes nothing.
use mathlib.Core.Path.{◌≡◌, sym, ap, subst, ◌∙◌}
use mathlib.Core.Logic.{⊎_elim}
use lib.Dec.{T}
use Rattle.path.specs.View.{steps}
use Rattle.model.specs.Refusals.{Request}
use Rattle.model.specs.Moves.{pasted_branch}
use Rattle.model.specs.Run as run
use Rattle.tables.specs.declared.Dossier.{Dossier}
use Rattle.tables.specs.View.{view_dossier, dossier_of, view_clipboard}
use Rattle.state.specs.View.{view_request}
use Rattle.std.specs.Prelude.{Some}
use Rattle.deeds.specs.declared.classes.Class.TheVariants.{Paste}
use Rattle.deeds.specs.Classes.{Allowed, class_of}
use Rattle.deeds.proofs.Pasting.{pasted_branch_lem, branch_room, attribute_room}
use Rattle.deeds.proofs.Numbers.{not_thirteen, told}
use Rattle.deeds.proofs.classes.pasted_at.Goals as goal
use Rattle.deeds.proofs.classes.pasted_at.Goals.{Start}

-- what a request leaves of this dossier
abbrev leaves : Start → Request → Dossier
leaves s r = dossier_of (run.edited r (view_dossier s.args.d) (view_clipboard s.args.c))

-- what is asked of a request, of the request with its path taken
record Pastes (s : Start) (r : Request) : Type 0 where
  pub allowed : Allowed r (view_dossier s.args.d) (view_clipboard s.args.c)
  pub class : class_of r.number ≡ Some Paste
  pub branch : r.number ≡ 17 → T (run.cached (view_clipboard s.args.c)).branch

pastes : (s : Start) {q : Request} → q ≡ view_request s.args.v.request → Pastes s q
pastes s e = subst (Pastes s) (sym e) (record { allowed = s.requires.3; class = s.requires.4; branch = s.requires.5 })

pub paste_attribute-requires : goal.paste_attribute-requires
paste_attribute-requires c =
    let w = pastes (goal.at.paste_attribute-requires c).Start c.placed-q.ensures.0 in
    let a = attribute_room c.requires.1 w.allowed c.if-q-eq13.true in
    (c.requires.1, a.0, c.requires.0, c.placed-q.ensures.1, a.1)

pub paste_branch-requires : goal.paste_branch-requires
paste_branch-requires c =
    let w = pastes (goal.at.paste_branch-requires c).Start c.placed-q.ensures.0 in
    let n = not_thirteen w.class c.if-q-eq13.false in
    let a = branch_room c.requires.1 w.allowed w.branch n in
    ((pasted_branch_lem c.requires.1 w.allowed w.branch n).sound, c.requires.0, c.placed-q.ensures.1, a.0, a.1)

pub returns : goal.returns
returns c =
    let e = c.placed-q.ensures.0 in
    let w = pastes (goal.at.returns c).Start e in
    let n = not_thirteen w.class c.if-q-eq13.false in
    let seen = (pasted_branch_lem c.requires.1 w.allowed w.branch n).seen in
    let h = c.paste_branch.ensures ∙ ap (λ k. dossier_of (pasted_branch (steps c.placed-q.result.path) (view_dossier c.args.d) k)) (sym seen) in
    let a = ⊎_elim (λ k. told (leaves (goal.at.returns c).Start) e k h) (λ k. told (leaves (goal.at.returns c).Start) e k h) n in
    λ i. record { dossier = c.args.v.dossier; whole = a i }
