-- Pairs and lists compared part by part: the first part that differs decides.
use Rattle.std.specs.Prelude.{Bool, true, false, List, [], ◌∷◌}

-- less in the first part, more in the first part, or the rest
abbrev pub lex : Bool → Bool → Bool → Bool
lex true b c = true
lex false true c = false
lex false false c = c

module _ {A : Type 0} (lt : A → A → Bool) where
  abbrev pub lex2 : A → A → Bool → Bool
  lex2 a a' c = lex (lt a a') (lt a' a) c

  -- as byte strings compare
  abbrev pub lt_list : List A → List A → Bool
  lt_list [] [] = false
  lt_list [] (y ∷ ys) = true
  lt_list (x ∷ xs) [] = false
  lt_list (x ∷ xs) (y ∷ ys) = lex (lt x y) (lt y x) (lt_list xs ys)

module _ {A B : Type 0} (lt_a : A → A → Bool) (lt_b : B → B → Bool) where
  abbrev pub lt_pair : A × B → A × B → Bool
  lt_pair u v = lex (lt_a u.0 v.0) (lt_a v.0 u.0) (lt_b u.1 v.1)
