-- `rows::insert` meets its contract: a list of one row is put among the rows of the table. Assumes nothing.
use Rattle.std.proofs.Common.{rules}
use Rattle.rows.proofs.Pasting.{one_row}
use Rattle.rows.proofs.insert.Goals as goal

pub merged-requires : goal.merged-requires
merged-requires g c = (
  search rules,
  one_row g.row.N g.R.Row.blank g.met.R.Row.laws c.requires.sound.0 c.requires.sound.1 c.requires.room.0 c.requires.room.1 _ _ (λ x y h k d. search rules) (λ x y r p. search rules),
)
