-- `tables::order::permission_before` meets its contract: by the keys of their paths, then by name, then by the grant. Assumes nothing.
use mathlib.Core.Path.{ap₂, ◌∙◌}
use Rattle.std.specs.Ordering.{is_lt, is_some_and, partial_ordering_then}
use Rattle.model.specs.Things.{lt_permission}
use Rattle.tables.specs.View.{view_grant}
use Rattle.tables.proofs.Compare.{compare, Rank, compare_rank, ranks_number, ranks_three, ranks_grant, ranks_less, lexed, keyed}
use Rattle.tables.proofs.Rows.{permission_path}
use Rattle.tables.proofs.order.permission_before.Goals as goal

pub returns : goal.returns
returns c =
    let a = c.args.a in
    let b = c.args.b in
    let j = c.key.result in
    let k = c.key-2.result in
    let g = view_grant a.grant in
    let h = view_grant b.grant in
    c.lt.ensures
    ∙ ap₂ (λ (x y : Rank). is_some_and is_lt (partial_ordering_then (partial_ordering_then (compare j k) (compare a.name b.name)) (compare_rank x y))) c.rank.ensures.fields c.rank-2.ensures.fields
    ∙ ranks_less (ranks_three (ranks_number j k) (ranks_number a.name b.name) (ranks_grant g h c.rank.ensures.times c.rank-2.ensures.times))
    ∙ keyed a.path b.path (permission_path c.requires.0) (permission_path c.requires.1) j k c.key.ensures c.key-2.ensures (lexed a.name b.name (lt_permission g h))
