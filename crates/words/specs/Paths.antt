-- Addresses as they are written.
use Rattle.std.specs.Prelude.{List, [], ◌∷◌, ℕ, leb, length, take, Option, None, Some, option_map}
use Rattle.std.specs.Str.{bytes_eq}
use Rattle.laws.specs.Slots.{pick, slots}
use Rattle.path.specs.declared.RawPath.{RawPath}
use Rattle.words.specs.Numbers.{decimal, up_to}
use Rattle.words.specs.Words.{split}

abbrev pub before : Option ℕ → Option (List ℕ) → Option (List ℕ)
before None o = None
before (Some n) o = option_map (λ l. n ∷ l) o

-- every word a step, 0 to 255
abbrev pub bytes_in : List (List ℕ) → Option (List ℕ)
bytes_in [] = Some []
bytes_in (w ∷ ws) = before (up_to 255 (decimal w)) (bytes_in ws)

-- a length is one byte
abbrev pub counted : Option (List ℕ) → Option (List ℕ)
counted None = None
counted (Some l) = pick (leb (length l) 255) (Some l) None

-- "steps with dots, as 2.1.4; a step is 0..255; more than six steps can be written"
abbrev pub steps_in : List ℕ → Option (List ℕ)
steps_in s = counted (bytes_in (split 46 s))

-- "`/` for the root"
abbrev pub path_in : List ℕ → Option (List ℕ)
path_in s = pick (bytes_eq s (47 ∷ [])) (Some []) (steps_in s)

-- ---- as the code answers them: a length of more than six is kept, so that the path is refused
abbrev pub raw_of : List ℕ → RawPath
raw_of l = record { len = length l; steps = slots 6 0 (take 6 l) }
