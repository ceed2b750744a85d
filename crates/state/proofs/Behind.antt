-- Rows put behind those that a table holds, for any rows and any struct around them. Assumes nothing.
use mathlib.Core.Path.{◌≡◌, refl, sym, ap, ap₂, ◌∙◌}
use mathlib.Core.List.{List, [], ◌∷◌, ◌++◌, append_assoc}
use Prim.Native.Nat.{ℕ, zero, suc, ◌+◌, ◌-◌}
use native.Mathlib.Omega.{arith}
use lib.ListN.{length, take, drop, replicate, length-append}
use lib.Seq.{take_at}
use Rattle.laws.specs.Slots.{slots, filled}

drop_blank : {A : Type 0} (b : A) (n k : ℕ) → drop k (replicate n b) ≡ replicate (n - k) b
drop_blank b n zero = let e : n ≡ n - 0 = omega arith in ap (λ j. replicate j b) e
drop_blank b zero (suc k) = let e : 0 ≡ 0 - suc k = omega arith in ap (λ j. replicate j b) e
drop_blank b (suc n) (suc k) = drop_blank b n k ∙ (let e : n - k ≡ suc n - suc k = omega arith in ap (λ j. replicate j b) e)

drop_behind : {A : Type 0} (rows l : List A) (k : ℕ) → drop (length rows + k) (rows ++ l) ≡ drop k l
drop_behind [] l k = let e : 0 + k ≡ k = omega arith in ap (λ j. drop j l) e
drop_behind (x ∷ rows) l k =
    let e : suc (length rows) + k ≡ suc (length rows + k) = omega arith in
    ap (λ j. drop j (x ∷ (rows ++ l))) e ∙ drop_behind rows l k

module _ {S T : Type 0} (mk : List S → ℕ → T) where
  -- what is to be stored from k on, where k rows are held, is the table that holds both
  pub behind : (b : S) (n : ℕ) (rows ys : List S) → mk (slots n b (rows ++ ys)) (length (rows ++ ys)) ≡ filled mk (slots n b rows) (length rows) ys
  behind b n rows ys =
      let len = length-append rows ys in
      let blank = replicate (n - length rows) b in
      let t : take (length rows) (slots n b rows) ≡ rows = take_at rows blank (length rows) refl in
      let e : n - length rows - length ys ≡ n - length (rows ++ ys) = omega arith in
      let d : drop (length rows + length ys) (slots n b rows) ≡ replicate (n - length (rows ++ ys)) b =
      drop_behind rows blank (length ys) ∙ drop_blank b (n - length rows) (length ys) ∙ ap (λ j. replicate j b) e in
      ap₂ mk (append_assoc rows ys (replicate (n - length (rows ++ ys)) b) ∙ ap₂ (λ p r. p ++ (ys ++ r)) (sym t) (sym d)) len
