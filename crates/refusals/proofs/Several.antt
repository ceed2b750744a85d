-- A test that only several numbers take. Assumes nothing.
use mathlib.Core.Path.{◌≡◌, refl, sym}
use mathlib.Core.Bool.{Bool, true, false, ◌&&◌, ◌||◌}
use Rattle.path.proofs.Structs.{no}

-- the last of several numbers
pub or_last : (b : Bool) → b ≡ (b || false)
or_last true = refl
or_last false = refl

-- a test that only two numbers take
pub of_two : (a b : Bool) {x y : Bool} → (a || b) ≡ true → x ≡ y → x ≡ ((a || (b || false)) && y)
of_two true b e h = h
of_two false true e h = h
of_two false false e h = no (sym e)

pub of_no_other : (a b y : Bool) → (a || b) ≡ false → false ≡ ((a || (b || false)) && y)
of_no_other true b y e = no e
of_no_other false true y e = no e
of_no_other false false y e = refl
