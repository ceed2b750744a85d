-- `save::save` meets its contract: nothing where there is no room, else table after table. Assumes nothing.
use borrow.Author.Rules.{rules}
use mathlib.Core.Path.{◌≡◌, sym, ap, ◌∙◌}
use mathlib.Core.List.{List, map, map-map}
use Prim.Native.Nat.{ℕ, ◌+◌, ◌*◌, ◌≤◌}
use native.Mathlib.Omega.{arith}
use lib.ListN.{length, take}
use Rattle.model.specs.Image as images
use Rattle.model.specs.Image.{node_record, attribute_record, permission_record}
use Rattle.tables.specs.View.{view_node, view_attribute, view_permission, view_dossier}
use Rattle.tables.proofs.Rows.{nodes_held, attributes_held, permissions_held}
use Rattle.tables.proofs.Parts.{nodes_sound, attributes_sound, permissions_sound}
use Rattle.laws.specs.Slots.{put}
use Rattle.save.proofs.Saved.{too_short, all_written, need, saved, held_all}
use Rattle.save.proofs.save.Goals as goal

pub overflow_mul-past_nodes : goal.overflow_mul-past_nodes
overflow_mul-past_nodes c =
    let n = need c.args.d c.requires in
    search rules

pub overflow_mul-past_attributes : goal.overflow_mul-past_attributes
overflow_mul-past_attributes c =
    let n = need c.args.d c.requires in
    search rules

pub overflow_add-past_attributes : goal.overflow_add-past_attributes
overflow_add-past_attributes c =
    let n = need c.args.d c.requires in
    search rules

pub overflow_mul-need : goal.overflow_mul-need
overflow_mul-need c =
    let n = need c.args.d c.requires in
    search rules

pub overflow_add-need : goal.overflow_add-need
overflow_add-need c =
    let n = need c.args.d c.requires in
    search rules

pub returns-then-out-need : goal.returns-then-out-need
returns-then-out-need c =
    let n = need c.args.d c.requires in
    too_short (images.save (view_dossier c.args.d)) c.args.out.now (omega arith)

pub shared_ref_as_front-put_rows : goal.shared_ref_as_front-put_rows
shared_ref_as_front-put_rows c = (need c.args.d c.requires).nodes

pub put_rows-requires-clause-each : goal.put_rows-requires-clause-each
put_rows-requires-clause-each c = held_all _ _ _ _ _ _ (nodes_held c.args.d.nodes (nodes_sound c.requires))

pub shared_ref_as_front-put_rows-2 : goal.shared_ref_as_front-put_rows-2
shared_ref_as_front-put_rows-2 c = (need c.args.d c.requires).attributes

pub put_rows-requires-2-clause-each : goal.put_rows-requires-2-clause-each
put_rows-requires-2-clause-each c = held_all _ _ _ _ _ _ (attributes_held c.args.d.attributes (attributes_sound c.requires))

pub shared_ref_as_front-put_rows-3 : goal.shared_ref_as_front-put_rows-3
shared_ref_as_front-put_rows-3 c = (need c.args.d c.requires).permissions

pub put_rows-requires-3-clause-each : goal.put_rows-requires-3-clause-each
put_rows-requires-3-clause-each c = held_all _ _ _ _ _ _ (permissions_held c.args.d.permissions (permissions_sound c.requires))

-- the records of rows, and of what they are in the model
viewed : {S M : Type 0} (rec : M → images.Record) (view : S → M) (rows : List S) (at : ℕ) (l : List ℕ) {out : List ℕ}
    → out ≡ put l at (images.bytes_of (map (λ a. rec (view a)) rows)) → out ≡ put l at (images.bytes_of (map rec (map view rows)))
viewed rec view rows at l e = e ∙ ap (λ m. put l at (images.bytes_of m)) (sym (map-map rec view rows))

pub returns : goal.returns
returns c =
    let d = c.args.d in
    let l = c.args.out.now in
    let n = need d c.requires in
    let c1 = c.put_rows in
    let c2 = c.put_rows-2 in
    let c3 = c.put_rows-3 in
    let room : 40 * d.nodes.count + 40 * d.attributes.count + 40 * d.permissions.count ≤ length l = omega (arith, c.if-out-need.false) in
    all_written (images.save (view_dossier d)) l (sym n.bytes) room (saved d c.requires l c1.new.out c2.new.out c3.new.out room
    (viewed node_record view_node (take d.nodes.count d.nodes.rows) 0 l c1.ensures)
    (viewed attribute_record view_attribute (take d.attributes.count d.attributes.rows) (40 * d.nodes.count) c1.new.out c2.ensures)
    (viewed permission_record view_permission (take d.permissions.count d.permissions.rows) (40 * d.nodes.count + 40 * d.attributes.count) c2.new.out c3.ensures))
