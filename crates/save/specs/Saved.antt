-- What a save answers and leaves in the buffer: all of its bytes, or nothing.
use Rattle.std.specs.Prelude.{List, ℕ, length, Option, Some, None}
use Rattle.laws.specs.Slots.{pick}
use Rattle.model.specs.Run.{short, written}

-- how many bytes were written, or none: the buffer is too short for them
abbrev pub written_of : List ℕ → List ℕ → Option ℕ
written_of bytes buffer = pick (short bytes buffer) None (Some (length bytes))

-- the buffer as it is left: nothing is written unless all of it fits
abbrev pub left_in : List ℕ → List ℕ → List ℕ
left_in bytes buffer = pick (short bytes buffer) buffer (written bytes buffer)
