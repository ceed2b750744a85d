-- `session::parts::deed` meets its contract: one of seven deeds, by its class. Assumes nothing.
use mathlib.Core.Path.{◌∙◌}
use Rattle.session.proofs.Deeds.{read_means, attributes_means, permissions_means, edit_means, paste_means, copy_means, cut_means}
use Rattle.session.proofs.parts.deed.Goals as goal

pub read-requires : goal.read-requires
read-requires c = (read_means c.args.s.now c.args.v c.requires c.in-Read.is).0

pub returns-in-Read : goal.returns-in-Read
returns-in-Read c =
    let w = (read_means c.args.s.now c.args.v c.requires c.in-Read.is).1 in
    (c.read.ensures.0 ∙ w.0, c.read.ensures.1 ∙ w.1)

pub change_attributes-requires : goal.change_attributes-requires
change_attributes-requires c = (attributes_means c.args.s.now c.args.v c.requires c.in-ChangeAttributes.is).0

pub returns-in-ChangeAttributes : goal.returns-in-ChangeAttributes
returns-in-ChangeAttributes c =
    let w = (attributes_means c.args.s.now c.args.v c.requires c.in-ChangeAttributes.is).1 in
    (c.change_attributes.ensures.0 ∙ w.0, c.change_attributes.ensures.1 ∙ w.1)

pub change_permissions-requires : goal.change_permissions-requires
change_permissions-requires c = (permissions_means c.args.s.now c.args.v c.requires c.in-ChangePermissions.is).0

pub returns-in-ChangePermissions : goal.returns-in-ChangePermissions
returns-in-ChangePermissions c =
    let w = (permissions_means c.args.s.now c.args.v c.requires c.in-ChangePermissions.is).1 in
    (c.change_permissions.ensures.0 ∙ w.0, c.change_permissions.ensures.1 ∙ w.1)

pub edit-requires : goal.edit-requires
edit-requires c = (edit_means c.args.s.now c.args.v c.requires c.in-Edit.is).0

pub returns-in-Edit : goal.returns-in-Edit
returns-in-Edit c =
    let w = (edit_means c.args.s.now c.args.v c.requires c.in-Edit.is).1 in
    (c.edit.ensures.0 ∙ w.0, c.edit.ensures.1 ∙ w.1)

pub paste-requires : goal.paste-requires
paste-requires c = (paste_means c.args.s.now c.args.v c.requires c.in-Paste.is).0

pub returns-in-Paste : goal.returns-in-Paste
returns-in-Paste c =
    let w = (paste_means c.args.s.now c.args.v c.requires c.in-Paste.is).1 in
    (c.paste.ensures.0 ∙ w.0, c.paste.ensures.1 ∙ w.1)

pub copy-requires : goal.copy-requires
copy-requires c = (copy_means c.args.s.now c.args.v c.requires c.in-Copy.is).0

pub returns-in-Copy : goal.returns-in-Copy
returns-in-Copy c =
    let w = (copy_means c.args.s.now c.args.v c.requires c.in-Copy.is).1 in
    (c.copy.ensures.0 ∙ w.0, c.copy.ensures.1 ∙ w.1)

pub cut-requires : goal.cut-requires
cut-requires c = (cut_means c.args.s.now c.args.v c.requires c.in-Cut.is).0

pub returns-in-Cut : goal.returns-in-Cut
returns-in-Cut c =
    let w = (cut_means c.args.s.now c.args.v c.requires c.in-Cut.is).1 in
    (c.cut.ensures.0 ∙ w.0, c.cut.ensures.1 ∙ w.1)
