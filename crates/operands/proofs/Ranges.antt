-- What a number's type gives of its range, and the tests on readings. Assumes nothing.
use mathlib.Core.Path.{◌≡◌, refl, sym}
use mathlib.Core.Bool.{Bool, true, false, ◌&&◌}
use native.Mathlib.Omega.{arith}
use borrow.Author.Tests.{le-leb}
use lib.IntN.{ℤ, pos, negsuc}
use lib.Ieee.{Float, nan, inf, fin, lt}
use mir.Syntax.{w64}
use mir.Val.{SFits}
use Rattle.path.proofs.Structs.{no}
use Rattle.model.specs.Refusals.{finite, time_good}

-- ---- times
pub time_good_lem : (t : ℤ) → SFits w64 t → true ≡ time_good t
time_good_lem (pos n) f = sym (le-leb n 9223372036854775807 (let s = f.sfits in omega arith))
time_good_lem (negsuc n) f =
    let e = le-leb n 9223372036854775807 (let s = f.sfits in omega arith) in
    rw e

-- ---- readings: between the infinities
pub between_infinities : (x : Float) → lt x (inf false) ≡ true → lt (inf true) x ≡ finite x
unfolding lt
between_infinities nan h = refl
between_infinities (inf true) h = refl
between_infinities (inf false) h = no (sym h)
between_infinities (fin s m e) h = refl

pub beyond_infinities : (x : Float) → lt x (inf false) ≡ false → false ≡ finite x
unfolding lt
beyond_infinities nan h = refl
beyond_infinities (inf s) h = refl
beyond_infinities (fin s m e) h = sym h

pub and_true : (a : Bool) {b : Bool} → b ≡ true → a ≡ (a && b)
and_true true e = sym e
and_true false e = refl
