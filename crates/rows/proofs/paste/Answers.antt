-- `rows::paste` meets its contract: the branch below q is put among what has moved up. Assumes nothing.
use Rattle.std.proofs.Common.{rules}
use mathlib.Core.Path.{refl, ap₂, ◌∙◌}
use native.Mathlib.Omega.{arith}
use Rattle.laws.specs.Sorted.{merge}
use Rattle.laws.proofs.Inplace.{held_size}
use Rattle.path.proofs.Structs.{path_valid}
use Rattle.moves.specs.Moved.{below, raised}
use Rattle.moves.proofs.Merged.{moved_length}
use Rattle.path.specs.Address.{up, on}
use Rattle.path.specs.View.{steps}
use Rattle.rows.specs.Tables.{row_lt, seen, table_of}
use Rattle.rows.proofs.Steps.{table_held}
use Rattle.rows.proofs.Pasting.{seen_fits, stands, two_tables, branch_sorted, rest_sorted, branch_apart, branch_compares}
use Rattle.rows.proofs.paste.Goals as goal

pub merged-requires : goal.merged-requires
merged-requires g c =
    let r = g.R.Row in
    let w = g.met.R.Row.laws in
    let q = steps c.args.q in
    let x = seen r.view c.args.c.now in
    let y = seen r.view c.args.t.now in
    let k = seen_fits g.row.N r.blank w c.args.c.now c.requires.sound.0 in
    let l = seen_fits g.row.N r.blank w c.args.t.now c.requires.sound.1 in
    let v = path_valid c.requires.sound.2 in
    let d = c.requires.sound.3 in
    let s = c.requires.count_bound.1 in
    let i = moved_length (on q) x in
    let j = moved_length (up q) y in
    let m = held_size (table_held g.row.N r.blank r.of r.lt c.args.c.now c.requires.sound.0) r.view in
    let n = held_size (table_held g.row.N r.blank r.of r.lt c.args.t.now c.requires.sound.1) r.view in
    let room = c.requires.count_bound.0 in (
      search rules,
      two_tables g.row.N r.blank w (below q x) (raised q y) c.on-branch.ensures c.up-rest.ensures _ _ (omega arith) (branch_sorted g.row.N w.order q x y k l) (rest_sorted g.row.N w.order q x y k l) (branch_apart g.row.N w.order q x y k l v d s)
          (λ a b h f. search rules) (λ a b o h f p. p a b refl refl ∙ branch_compares g.row.N w.order q x y k l v d s a b h f),
    )

pub returns : goal.returns
returns g c =
    let r = g.R.Row in
    let w = g.met.R.Row.laws in
    c.merged.ensures
    ∙ ap₂ (λ k l. table_of g.row.N r.blank r.of (merge (row_lt r.lt) k l)) (stands g.row.N r.blank w _ c.on-branch.ensures) (stands g.row.N r.blank w _ c.up-rest.ensures)
