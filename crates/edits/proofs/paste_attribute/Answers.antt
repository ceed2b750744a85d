-- `edits::paste_attribute` meets its contract: the attribute inserted, its permissions merged in. Assumes nothing.
use mathlib.Core.Path.{◌≡◌, sym, ap, ◌∙◌}
use mathlib.Core.List.{map}
use native.Mathlib.Omega.{arith}
use Rattle.laws.specs.Sorted.{insert, merge}
use Rattle.path.specs.View.{steps}
use Rattle.model.specs.Things.{Attribute, Row, single, before_attribute, before_permission}
use Rattle.model.specs.Moves.{grant_row, paste_attribute, pasted_attribute}
use Rattle.tables.specs.declared.Clipboard.{Clipboard}
use Rattle.tables.specs.View.{attributes_of, permissions_of, view_dossier, dossier_of, view_clipboard}
use Rattle.tables.proofs.Parts.{dossier_fits, nodes_sound, attributes_sound, permissions_sound}
use Rattle.tables.proofs.Rows.{view_clipboard_lem}
use Rattle.tables.proofs.Tables.{nodes_same, attributes_count, permissions_count}
use Rattle.moves.specs.Room.{grant_in}
use Rattle.edits.proofs.Cached.{holds_single, cached_row, cached_sound, cached_seen, cached_grants, cached_one, no_object}
use Rattle.edits.proofs.Whole.{whole}
use Rattle.edits.proofs.paste_attribute.Goals as goal

pub paste_one-t-requires : goal.paste_one-t-requires
paste_one-t-requires c =
    let t = attributes_sound (dossier_fits c.requires.2) in
    let e = attributes_count _ t in
    let room = c.requires.4.attribute in
    (t, c.requires.3, omega arith, c.requires.4.fresh)

pub paste_under-g-requires : goal.paste_under-g-requires
paste_under-g-requires c =
    let w = holds_single c.requires.0 c.requires.1 in
    let h = ap (λ (x : Clipboard). x.held.permissions) w.same in
    let sound = cached_sound w.fits h in
    let k = permissions_count c.args.c.held.permissions sound in
    let t = permissions_sound (dossier_fits c.requires.2) in
    let l = permissions_count _ t in
    let room = c.requires.4.permissions in record {
      permissions_sound = (sound, t, c.requires.3, omega arith);
      one_object = (
        cached_one w.attribute.name w.permissions (cached_seen w.attribute.name w.permissions h),
        no_object (steps c.args.p) c.args.name (view_dossier c.args.d) (whole c.args.d c.requires.2) c.requires.4.named c.requires.4.fresh,
      );
    }

pub returns : goal.returns
returns c =
    let w = holds_single c.requires.0 c.requires.1 in
    let p = steps c.args.p in
    let d = view_dossier c.args.d in
    let n = nodes_same _ (nodes_sound (dossier_fits c.requires.2)) in
    let t = c.paste_one-t.ensures
    ∙ ap (λ (z : Row Attribute). attributes_of (insert before_attribute (p, record { name = c.args.name; owner = z.1.owner; value = z.1.value }) d.attributes))
    (cached_row w.attribute (ap (λ (x : Clipboard). x.held.attributes) w.same)) in
    let f = ap (map grant_in) (cached_seen w.attribute.name w.permissions (ap (λ (x : Clipboard). x.held.permissions) w.same)) ∙ cached_grants w.attribute.name w.permissions in
    let g = c.paste_under-g.ensures ∙ ap (λ z. permissions_of (merge before_permission (map (grant_row p c.args.name) z) d.permissions)) f in
    let e : _ ≡ dossier_of (paste_attribute p c.args.name w.attribute w.permissions d) = λ i. record { nodes = n i; attributes = t i; permissions = g i } in
    e ∙ ap (λ z. dossier_of (pasted_attribute p c.args.name d z)) (sym (ap view_clipboard w.same ∙ view_clipboard_lem (single w.attribute w.permissions)))
