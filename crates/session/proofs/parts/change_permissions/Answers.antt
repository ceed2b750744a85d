-- `session::parts::change_permissions` meets its contract: the dossier with its permissions stored is the dossier that the request leaves. Assumes nothing.
use mathlib.Core.Path.{sym, ap, ap₂, ◌∙◌}
use Rattle.std.specs.Prelude.{Some}
use Rattle.model.specs.Things as things
use Rattle.model.specs.Run as run
use Rattle.tables.specs.declared.Dossier.{Dossier}
use Rattle.tables.specs.View.{view_dossier, dossier_of}
use Rattle.state.specs.declared.Session.{Session}
use Rattle.state.specs.View.{view_request}
use Rattle.state.specs.Parts.{numbered_in, replaced_in}
use Rattle.deeds.specs.declared.classes.PermissionsOut.{PermissionsOut}
use Rattle.deeds.proofs.Parts.{permissions_only}
use Rattle.session.specs.Requests.{with_permissions}
use Rattle.session.proofs.parts.change_permissions.Goals as goal

pub permissions_at-o-requires : goal.permissions_at-o-requires
permissions_at-o-requires c = let ok = c.requires in rw c.dossier_in-d.ensures.0 (ok.0.sound, ok.0.valid, ok.0.free, ok.0.class ∙ ap Some ok.1)

pub returns : goal.returns
returns c =
    let ok = c.requires in
    let v = c.args.v in
    let s = c.args.s.now in
    let o = c.permissions_at-o.ensures
    ∙ ap (λ (d : Dossier). record { dossier = v.dossier; permissions = (dossier_of (run.edited (view_request v.request) (view_dossier d) things.empty)).permissions }) c.dossier_in-d.ensures.0 in
    let p = c.put_permissions.ensures in (
      p.0,
      p.1
          ∙ ap₂ (λ (x : PermissionsOut) (t : Session). replaced_in x.dossier (with_permissions (numbered_in x.dossier t) x.permissions) t) o c.dossier_in-d.ensures.1
          ∙ ap (λ (d : Dossier). replaced_in v.dossier d s) (sym (permissions_only (view_request v.request) ok.0.sound things.empty (ok.0.class ∙ ap Some ok.1))),
    )
