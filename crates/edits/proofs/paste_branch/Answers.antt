-- `edits::paste_branch` meets its contract: every table; the rows of a branch are nowhere deeper than its nodes. Assumes nothing.
use native.Mathlib.Omega.{arith}
use Rattle.path.specs.View.{steps}
use Rattle.tables.specs.View.{view_dossier}
use Rattle.tables.proofs.Parts.{dossier_fits, nodes_sound, attributes_sound, permissions_sound}
use Rattle.tables.proofs.Tables.{nodes_count, attributes_count, permissions_count}
use Rattle.edits.proofs.Whole.{whole, nodes_shallow, attributes_shallow, permissions_shallow}
use Rattle.edits.proofs.paste_branch.Goals as goal

pub paste-requires : goal.paste-requires
paste-requires c =
    let k = nodes_sound (dossier_fits c.requires.0) in
    let l = nodes_sound (dossier_fits c.requires.1) in
    let a = nodes_count _ k in
    let b = nodes_count _ l in
    let r = c.requires.4.nodes in record { nodes_sound = (k, l, c.requires.2, c.requires.3); count_bound = (omega arith, nodes_shallow (steps c.args.q) (view_dossier c.args.c) (whole c.args.c c.requires.0) c.requires.4.depth) }

pub paste-requires-2 : goal.paste-requires-2
paste-requires-2 c =
    let k = attributes_sound (dossier_fits c.requires.0) in
    let l = attributes_sound (dossier_fits c.requires.1) in
    let a = attributes_count _ k in
    let b = attributes_count _ l in
    let r = c.requires.4.attributes in record { attributes_sound = (k, l, c.requires.2, c.requires.3); count_bound = (omega arith, attributes_shallow (steps c.args.q) (view_dossier c.args.c) (whole c.args.c c.requires.0) c.requires.4.depth) }

pub paste-requires-3 : goal.paste-requires-3
paste-requires-3 c =
    let k = permissions_sound (dossier_fits c.requires.0) in
    let l = permissions_sound (dossier_fits c.requires.1) in
    let a = permissions_count _ k in
    let b = permissions_count _ l in
    let r = c.requires.4.permissions in record { permissions_sound = (k, l, c.requires.2, c.requires.3); count_bound = (omega arith, permissions_shallow (steps c.args.q) (view_dossier c.args.c) (whole c.args.c c.requires.0) c.requires.4.depth) }
