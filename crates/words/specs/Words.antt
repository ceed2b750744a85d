-- Words of a line, and parts of a word: what stands between separators.
use Rattle.std.specs.Prelude.{Bool, not, List, ℕ, eqb, length, take, filter}
use Rattle.std.specs.List.{slice_split}
use Rattle.std.specs.Str.{bytes_eq}

-- the parts between the bytes b: one more than there are b
abbrev pub split : ℕ → List ℕ → List (List ℕ)
split b s = slice_split (λ x. eqb x b) s

-- "words with one or more spaces between them"
abbrev pub words_in : List ℕ → List (List ℕ)
words_in l = filter (λ w. not (eqb (length w) 0)) (split 32 l)

abbrev pub starts : List ℕ → List ℕ → Bool
starts w s = bytes_eq (take (length w) s) w
