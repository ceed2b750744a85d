-- What a call answered, of which its contract says what it is, as the definitions ask it. Assumes nothing.
use mathlib.Core.Path.{◌≡◌, sym, subst, ◌∙◌}
use mathlib.Core.Bool.{Bool, true, false, not}
use lib.Dec.{T}

pub called_yes : {a b : Bool} → a ≡ b → a ≡ true → T b
called_yes e t = subst T (sym t ∙ e) tt

pub called_no : {a b : Bool} → a ≡ b → a ≡ false → T (not b)
called_no e f = subst (λ (x : Bool). T (not x)) (sym f ∙ e) tt
