-- `edits::add_node` meets its contract: a branch of one node: the other tables only move. Assumes nothing.
use mathlib.Core.Path.{sym, ap, subst, ◌∙◌}
use mathlib.Core.List.Memᴰ
use Prim.Native.Nat.{◌+◌, ◌≤◌}
use native.Mathlib.Omega.{arith}
use lib.ListN.{length}
use Rattle.laws.specs.Sorted.{◌∈◌, merge}
use Rattle.path.specs.Address.{Address}
use Rattle.path.specs.View.{steps}
use Rattle.path.proofs.Structs.{path_valid, valid_short}
use Rattle.model.specs.Things.{before_node}
use Rattle.tables.specs.View.{view_nodes, nodes_of}
use Rattle.tables.proofs.Parts.{dossier_fits, nodes_sound, attributes_sound, permissions_sound}
use Rattle.tables.proofs.Tables.{nodes_one, nodes_count}
use Rattle.moves.specs.Moved.{raised, below}
use Rattle.edits.proofs.add_node.Goals as goal

pub paste-requires : goal.paste-requires
paste-requires c =
    let one = nodes_one c.args.owner c.one-n.ensures in
    let a = nodes_count c.one-n.result one.0 in
    let t = nodes_sound (dossier_fits c.requires.0) in
    let b = nodes_count _ t in
    let e = ap length one.1 in
    let room = c.requires.3 in
    let n = valid_short (steps c.args.q) (path_valid c.requires.1) in
    let short : length (steps c.args.q) + 0 ≤ 6 = omega arith in record { nodes_sound = (one.0, t, c.requires.1, c.requires.2); count_bound = (omega arith, λ r m. subst (λ (z : Address). length (steps c.args.q) + length z ≤ 6) (sym (ap (λ x. x.0) (Memᴰ.eq_of_singleton (subst (λ l. r ∈ l) one.1 m)))) short) }

pub up-requires : goal.up-requires
up-requires c =
    (attributes_sound (dossier_fits c.requires.0), c.requires.1)

pub up-requires-2 : goal.up-requires-2
up-requires-2 c =
    (permissions_sound (dossier_fits c.requires.0), c.requires.1)

pub returns : goal.returns
returns c =
    let one = nodes_one c.args.owner c.one-n.ensures in
    let q = steps c.args.q in
    let n = c.paste.ensures ∙ ap (λ l. nodes_of (merge before_node (below q l) (raised q (view_nodes c.args.d.nodes)))) one.1 in
    λ i. record { nodes = n i; attributes = c.up.ensures i; permissions = c.up-2.ensures i }
