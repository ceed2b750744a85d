-- `tables::order::grant_before` meets its contract: field by field, a time by its bits. Assumes nothing.
use mathlib.Core.Path.{ap₂, ◌∙◌}
use Rattle.std.specs.Ordering.{is_lt, is_some_and}
use Rattle.tables.specs.View.{view_grant}
use Rattle.tables.proofs.Compare.{compare_rank, ranks_grant, ranks_less}
use Rattle.tables.proofs.order.grant_before.Goals as goal

pub returns : goal.returns
returns c =
    c.lt.ensures ∙ ap₂ (λ x y. is_some_and is_lt (compare_rank x y)) c.rank.ensures.fields c.rank-2.ensures.fields
    ∙ ranks_less (ranks_grant (view_grant c.args.a) (view_grant c.args.b) c.rank.ensures.times c.rank-2.ensures.times)
