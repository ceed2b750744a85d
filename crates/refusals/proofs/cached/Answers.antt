-- `refusals::cached` meets its contract: by the clipboard's kind. Assumes nothing.
use mathlib.Core.Path.{sym, ap, ◌∙◌}
use native.Mathlib.Omega.{arith}
use borrow.Author.Rules.{rules}
use Rattle.model.specs.Run as run
use Rattle.tables.proofs.Parts.{nodes_sound}
use Rattle.refusals.proofs.Clipboards.{branch_fits, branch_seen, branch_sizes, nodes_short, single_seen, single_sizes}
use Rattle.refusals.proofs.Objects.{nodes_size, nodes_room, attributes_size, attributes_room, permissions_size, permissions_room}
use Rattle.refusals.proofs.cached.Goals as goal

pub deepest_in-requires : goal.deepest_in-requires
deepest_in-requires c = nodes_sound (branch_fits c.requires c.if-c-eq1.true)

pub returns-then-c-eq1 : goal.returns-then-c-eq1
returns-then-c-eq1 c =
    let b = branch_fits c.requires c.if-c-eq1.true in
    let nodes = nodes_size b in
    let attributes = attributes_size b in
    let permissions = permissions_size b in
    let short = nodes_short (nodes_sound b) in
    let height = c.deepest_in.ensures in
    let held = branch_sizes nodes attributes permissions height in (
      held ∙ ap run.cached (sym (branch_seen c.args.c c.if-c-eq1.true)),
      record { nodes = nodes_room b; attributes = attributes_room b; permissions = permissions_room b; height = omega arith },
    )

pub returns-then-c-eq2 : goal.returns-then-c-eq2
returns-then-c-eq2 c =
    let w = single_seen c.requires c.if-c-eq2.true in
    let few = w.few in
    let count = w.count in (
      single_sizes count ∙ ap run.cached (sym w.seen),
      record { nodes = search rules; attributes = search rules; permissions = omega arith; height = search rules },
    )
