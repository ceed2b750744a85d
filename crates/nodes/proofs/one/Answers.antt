-- `nodes::one` meets its contract: one row in an empty table. Assumes nothing.
use mathlib.Core.Path.{◌≡◌, ap, ap₂, subst, ◌∙◌}
use mathlib.Core.List.Memᴰ
use mathlib.Core.List.{List, []}
use native.Mathlib.Omega.{arith}
use lib.ListN.{length}
use Rattle.laws.specs.Sorted.{◌∈◌, insert}
use Rattle.path.specs.View.{steps}
use Rattle.path.proofs.Structs.{view_path}
use Rattle.model.specs.Things.{before_node}
use Rattle.tables.specs.View.{node_row, nodes_of}
use Rattle.tables.proofs.Tables.{nodes_none, nodes_count}
use Rattle.nodes.proofs.one.Goals as goal

no_row : {A : Type 0} {x : A} {l : List A} → l ≡ [] → x ∈ l → ⊥
no_row {x = x} e m = Memᴰ.not-nil (subst (λ l. x ∈ l) e m)

pub insert-requires : goal.insert-requires
insert-requires c =
    let none = nodes_none c.no_nodes-none.ensures in
    let e = nodes_count c.no_nodes-none.result none.0 in
    let f = ap length none.1 in (
      record { model = ([], c.args.owner); same = λ i. node_row (c.root.ensures i) c.args.owner; fits = tt },
      none.0,
      omega arith,
      λ m. no_row none.1 m,
    )

pub returns : goal.returns
returns c =
    let p = ap steps c.root.ensures ∙ view_path [] in
    c.insert.ensures ∙ ap₂ (λ q l. nodes_of (insert before_node (q, c.args.owner) l)) p (nodes_none c.no_nodes-none.ensures).1
