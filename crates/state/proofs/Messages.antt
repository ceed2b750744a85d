-- The numbers in a set, as a loop over its 32 places meets them. Assumes nothing.
use mathlib.Core.Path.{◌≡◌, sym, ap, ◌∙◌}
use mathlib.Core.Option.{some, none}
use mathlib.Core.List.{List, ◌∷◌}
use Prim.Native.Nat.{ℕ, zero, suc, ◌+◌, ◌-◌, ◌/◌, ◌%◌, ◌^◌, ◌<◌}
use native.Mathlib.Omega.{arith}
use lib.Count.{ones, ones_step}
use lib.Dec.{eqb}
use lib.ListN.{length}
use borrow.Author.Tests.{eq-eqb, ne_eqb}
use Rattle.std.proofs.Common.{mod-lt, pow-suc}
use Rattle.laws.specs.Slots.{pick}
use Rattle.laws.specs.Sorted.{push}
use Rattle.model.specs.Decide.{members, members_from}

-- the numbers in a set are as many as its bits that are set
length-push : (bit m : ℕ) (l : List ℕ) → bit < 2 → length (push (pick (eqb bit 1) (some m) none) l) ≡ bit + length l
length-push zero m l h = omega arith
length-push (suc zero) m l h = omega arith
length-push (suc (suc bit)) m l h = absurd (omega arith)

length-members_from : (k m set : ℕ) → set < 2 ^ k → length (members_from k m set) ≡ ones set
unfolding ones
length-members_from zero m set h = let e : 0 ≡ set = omega arith in ap ones e
length-members_from (suc k) m set h =
    length-push (set % 2) m (members_from k (suc m) (set / 2)) (mod-lt set (omega arith))
    ∙ ap (λ n. set % 2 + n) (length-members_from k (suc m) (set / 2) (omega (arith, pow-suc 2 k)))
    ∙ sym (ones_step set)

pub length-members : (set : ℕ) → set < 2 ^ 32 → length (members set) ≡ ones set
length-members set h = length-members_from 32 0 set h

-- what is still to come at place m, of which left is the rest of the set
abbrev pub coming : ℕ → ℕ → List ℕ
coming m left = members_from (32 - m) m left

one_more : (m left : ℕ) → m < 32 → coming m left ≡ push (pick (eqb (left % 2) 1) (some m) none) (coming (m + 1) (left / 2))
one_more m left h =
    let e : 32 - m ≡ suc (32 - (m + 1)) = omega arith in
    ap (λ (k : ℕ). members_from k m left) e
    ∙ ap (λ (j : ℕ). push (pick (eqb (left % 2) 1) (some m) none) (members_from (32 - (m + 1)) j (left / 2))) (let f : suc m ≡ m + 1 = omega arith in f)

pub coming_in : (m left : ℕ) → m < 32 → left % 2 ≡ 1 → coming m left ≡ m ∷ coming (m + 1) (left / 2)
coming_in m left h e = one_more m left h ∙ ap (λ t. push (pick t (some m) none) (coming (m + 1) (left / 2))) (eq-eqb _ _ e)

pub coming_out : (m left : ℕ) → m < 32 → (left % 2 ≡ 1 → ⊥) → coming m left ≡ coming (m + 1) (left / 2)
coming_out m left h e = one_more m left h ∙ ap (λ t. push (pick t (some m) none) (coming (m + 1) (left / 2))) (ne_eqb _ _ e)
