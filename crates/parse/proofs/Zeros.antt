-- Bytes that are all 0, and a part of a record. Assumes nothing.
use mathlib.Core.Path.{◌≡◌, refl, sym, ap, ap₂, ◌∙◌}
use mathlib.Core.Bool.{Bool, true, false, ◌&&◌}
use mathlib.Core.List.{List, [], ◌∷◌}
use mathlib.Core.Logic.{◌↔◌}
use Prim.Native.Nat.{ℕ, zero, suc, ◌+◌, ◌-◌, ◌≤◌, ◌<◌}
use native.Mathlib.Omega.{arith}
use lib.ListN.{length, take, drop, get_or, replicate, length-drop}
use borrow.Author.Tests.{eq-eqb, ne_eqb}
use Rattle.std.proofs.lemmas.List.{drop-take, length-take}
use Rattle.laws.specs.Slots.{same_bytes}
use Rattle.path.proofs.Structs.{no}
use Rattle.parse.specs.Fields.{zeros}

abbrev EachZero : List ℕ → Type 0
EachZero l = (k : ℕ) → k < length l → get_or l k 0 ≡ 0

each_same : (l : List ℕ) → EachZero l → same_bytes (replicate (length l) 0) l ≡ true
each_same [] h = refl
each_same (x ∷ l) h = ap₂ (λ (a b : Bool). a && b) (eq-eqb 0 x (sym (h 0 (omega arith)))) (each_same l (λ k q. h (suc k) (omega arith)))

same_each : (l : List ℕ) → same_bytes (replicate (length l) 0) l ≡ true → EachZero l
same_each [] e k h = absurd (omega arith)
same_each (zero ∷ l) e zero h = refl
same_each (zero ∷ l) e (suc k) h = same_each l e k (omega arith)
same_each (suc x ∷ l) e k h = no (sym e ∙ ap (λ (t : Bool). t && same_bytes (replicate (length l) 0) l) (ne_eqb 0 (suc x) (λ z. absurd (omega arith))))

same_truth : (r s : Bool) → (r ≡ true → s ≡ true) → (s ≡ true → r ≡ true) → r ≡ s
same_truth true s f g = sym (f refl)
same_truth false true f g = g refl
same_truth false false f g = refl

-- what a test of n bytes from `from` on says
pub part_zeros : (b : List ℕ) (from n : ℕ) (r : Bool) → from + n ≤ length b → (r ≡ true ↔ EachZero (take n (drop from b))) → r ≡ zeros from (from + n) b
unfolding zeros
part_zeros b from n r room h =
    let l = take n (drop from b) in
    let full : length l ≡ n = grind (arith, length-take, length-drop) in
    let count : from + n - from ≡ length l = omega arith in
    same_truth r (same_bytes (replicate (length l) 0) l) (λ e. each_same l (h.0 e)) (λ e. h.1 (same_each l e))
    ∙ sym (ap₂ (λ (k : ℕ) (m : List ℕ). same_bytes (replicate k 0) m) count (drop-take from n b))
