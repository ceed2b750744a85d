-- The refusals and the paper's numbers.
use Rattle.std.specs.Prelude.{Bool, List, [], ◌∷◌, map, ℕ, eqb}
use Rattle.laws.specs.Slots.{pick}
use Rattle.model.specs.Refusals.{among}
use Rattle.state.specs.declared.refusal.Refusal.{Refusal}
use Rattle.state.specs.declared.refusal.Refusal.TheVariants.{BadOperand, AtRoot, Absent, NameTaken, WrongClipboard, NotGranted, NotCovered, Clashes, ShortBuffer, Unsigned, LogFull, BadImage, BadRecord, NodesFull, TooDeep, ChildrenFull, AttributesFull, PermissionsFull}

-- the paper's number of each; 12 with a record, or without as from ask
abbrev pub number_of : Refusal → ℕ
number_of BadOperand = 1
number_of AtRoot = 2
number_of Absent = 3
number_of NameTaken = 4
number_of WrongClipboard = 5
number_of NotGranted = 6
number_of NotCovered = 7
number_of Clashes = 8
number_of ShortBuffer = 9
number_of Unsigned = 10
number_of LogFull = 11
number_of BadImage = 12
number_of (BadRecord k) = 12
number_of NodesFull = 13
number_of TooDeep = 14
number_of ChildrenFull = 15
number_of AttributesFull = 16
number_of PermissionsFull = 17

-- the table, in its order; ask's 12 for 12, since a record is no row's
abbrev pub table : List Refusal
table =
    BadOperand
    ∷ AtRoot
    ∷ Absent
    ∷ NameTaken
    ∷ WrongClipboard
    ∷ NotGranted
    ∷ NotCovered
    ∷ Clashes
    ∷ ShortBuffer
    ∷ Unsigned
    ∷ LogFull
    ∷ BadImage
    ∷ NodesFull
    ∷ TooDeep
    ∷ ChildrenFull
    ∷ AttributesFull
    ∷ PermissionsFull
    ∷ []

-- whether the table has the number
abbrev pub numbered : ℕ → Bool
numbered n = among n (map number_of table)

-- the first of these with that number
abbrev pub first_with : ℕ → List Refusal → Refusal
first_with n [] = BadOperand
first_with n (r ∷ l) = pick (eqb n (number_of r)) r (first_with n l)

-- the refusal of a number: the model refuses with no number that the table has not (proofs/Numbers)
unfoldable pub refusal_of : ℕ → Refusal
refusal_of n = first_with n table
