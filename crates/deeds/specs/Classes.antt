-- The requests by what they do to a session, and what is asked of one that is carried out on the dossier that it names alone.
use Rattle.std.specs.Prelude.{◌≡◌, List, [], ◌∷◌, ℕ, Option, Some, None}
use Rattle.std.proofs.Math.Option.{none}
use Rattle.model.specs.Things.{Dossier, Clipboard}
use Rattle.model.specs.Refusals.{Request, choose, Standing, refusal}
use Rattle.model.specs.Run.{found, cached}
use Rattle.deeds.specs.declared.classes.Class.{Class}
use Rattle.deeds.specs.declared.classes.Class.TheVariants.{Read, ChangeAttributes, ChangePermissions, Edit, Paste, Copy, Cut}

abbrev pub classes : List (List ℕ × Option Class)
classes =
    (1 ∷ 2 ∷ [], Some Read)
    ∷ (8 ∷ 10 ∷ [], Some ChangeAttributes)
    ∷ (14 ∷ 15 ∷ 16 ∷ [], Some ChangePermissions)
    ∷ (3 ∷ 4 ∷ 9 ∷ [], Some Edit)
    ∷ (7 ∷ 13 ∷ 17 ∷ [], Some Paste)
    ∷ (5 ∷ 11 ∷ [], Some Copy)
    ∷ (6 ∷ 12 ∷ [], Some Cut)
    ∷ []

-- none for a number that no request has
abbrev pub class_of : ℕ → Option Class
class_of n = choose n None classes

-- no row of the refusal table applies, for some standing of the user
pub record Allowed (r : Request) (d : Dossier) (c : Clipboard) : Type 0 where
  pub standing : Standing
  pub free : refusal r (found r d) (cached c) standing ≡ none

-- the same where the clipboard plays no part
pub record Open (r : Request) (d : Dossier) : Type 0 where
  pub clipboard : Clipboard
  pub allowed : Allowed r d clipboard
