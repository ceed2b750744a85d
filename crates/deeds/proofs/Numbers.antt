-- What holds of every number of a class holds of a request whose number has that class. Assumes nothing.
use mathlib.Core.Path.{◌≡◌, refl, sym, ap, subst, ◌∙◌}
use mathlib.Core.Bool.{Bool, true, false, ◌||◌}
use mathlib.Core.Logic.{◌⊎◌, inl, inr, ⊎_elim}
use mathlib.Core.List.{List, [], ◌∷◌, map}
use Prim.Native.Nat.{ℕ}
use native.Mathlib.Omega.{arith}
use Rattle.std.specs.Prelude.{Option, Some, None}
use lib.Dec.{T, eqb, eqb→eq, eqb_refl}
use borrow.Author.Tests.{eqb-true, eqb-false}
use Rattle.laws.specs.Slots.{pick, All}
use Rattle.path.proofs.Structs.{no}
use Rattle.model.specs.Refusals.{Request, among, choose}
use Rattle.twin.proofs.Requests.{numbered}
use Rattle.deeds.specs.declared.classes.Class.{Class}
use Rattle.deeds.specs.declared.classes.Class.TheVariants.{Read, ChangeAttributes, ChangePermissions, Edit, Paste, Copy, Cut}
use Rattle.deeds.specs.Classes.{classes, class_of}

-- ---- the classes told apart, by a number for each
abbrev pub code : Class → ℕ
code Read = 1
code ChangeAttributes = 2
code ChangePermissions = 3
code Edit = 4
code Paste = 5
code Copy = 6
code Cut = 7

abbrev coded : Option Class → ℕ
coded None = 0
coded (Some c) = code c

abbrev decode : ℕ → Class
decode n =
    pick (eqb n 1) Read
    (pick (eqb n 2) ChangeAttributes (pick (eqb n 3) ChangePermissions (pick (eqb n 4) Edit (pick (eqb n 5) Paste (pick (eqb n 6) Copy Cut)))))

decoded : (c : Class) → decode (code c) ≡ c
decoded Read = refl
decoded ChangeAttributes = refl
decoded ChangePermissions = refl
decoded Edit = refl
decoded Paste = refl
decoded Copy = refl
decoded Cut = refl

no_class : (c : Class) → 0 ≡ code c → ⊥
no_class Read e = omega arith
no_class ChangeAttributes e = omega arith
no_class ChangePermissions e = omega arith
no_class Edit e = omega arith
no_class Paste e = omega arith
no_class Copy e = omega arith
no_class Cut e = omega arith

-- whether a class is one of these
abbrev pub within : Class → List Class → Bool
within c l = among (code c) (map code l)

-- the rows of a class in a table of classes
abbrev pub rows_of : Class → List (List ℕ × Option Class) → List (List ℕ)
rows_of c [] = []
rows_of c (row ∷ l) = pick (eqb (coded row.1) (code c)) (row.0 ∷ rows_of c l) (rows_of c l)

-- what holds of each number of a class
abbrev pub Numbers : (ℕ → Type 0) → Class → Type 0
Numbers F c = All (λ l. All F l) (rows_of c classes)

-- for a class of two numbers, and of three
pub two : {A B : Type 0} → A → B → (A × (B × Unit {0})) × Unit {0}
two a b = ((a, (b, tt)), tt)

pub three : {A B C : Type 0} → A → B → C → (A × (B × (C × Unit {0}))) × Unit {0}
three a b c = ((a, (b, (c, tt))), tt)

one_of : (F : ℕ → Type 0) (n : ℕ) (l : List ℕ) → All F l → T (among n l) → F n
one_of F n [] a t = absurd t
one_of F n (k ∷ l) a t = go (eqb n k) (λ s. subst F (sym (eqb→eq n k s)) a.0) (one_of F n l a.1) t
  where
    go : (b : Bool) → (T b → F n) → (T (among n l) → F n) → T (b || among n l) → F n
    go true f g s = f tt
    go false f g s = g s

by_row : (F : ℕ → Type 0) (n : ℕ) (c : Class) → (l : List (List ℕ × Option Class)) → All (λ m. All F m) (rows_of c l) → choose n None l ≡ Some c → F n
by_row F n c [] a e = absurd (let z : ◌≡◌ {A = ℕ} 0 (code c) = ap coded e in no_class c z)
by_row F n c (row ∷ l) a e = go (among n row.0) (eqb (coded row.1) (code c)) (λ s. subst (λ (k : Option Class). T (eqb (coded row.1) (coded k))) s (eqb_refl (coded row.1))) (one_of F n row.0) (by_row F n c l) a e
  where
    go : (x y : Bool) → (row.1 ≡ Some c → T y) → (All F row.0 → T x → F n) → (All (λ m. All F m) (rows_of c l) → choose n None l ≡ Some c → F n)
        → All (λ m. All F m) (pick y (row.0 ∷ rows_of c l) (rows_of c l)) → pick x row.1 (choose n None l) ≡ Some c → F n
    go true true s f g a e = f a.0 tt
    go true false s f g a e = absurd (s e)
    go false true s f g a e = g a.1 e
    go false false s f g a e = g a e

pub by_class : (F : ℕ → Type 0) (n : ℕ) {c : Class} → class_of n ≡ Some c → Numbers F c → F n
by_class F n {c} e a = by_row F n c classes a e

-- the same where the class is one of several
one_class : (G : Class → Type 0) (c : Class) (l : List Class) → All G l → T (within c l) → G c
one_class G c [] a t = absurd t
one_class G c (k ∷ l) a t = go (eqb (code c) (code k)) (λ s. subst G (sym (sym (decoded c) ∙ ap decode (eqb→eq (code c) (code k) s) ∙ decoded k)) a.0) (one_class G c l a.1) t
  where
    go : (b : Bool) → (T b → G c) → (T (within c l) → G c) → T (b || within c l) → G c
    go true f g s = f tt
    go false f g s = g s

pub by_classes : (F : ℕ → Type 0) (n : ℕ) {c : Class} (l : List Class) → T (within c l) → class_of n ≡ Some c → All (Numbers F) l → F n
by_classes F n {c} l t e a = one_class (λ k. class_of n ≡ Some k → F n) c l (each l a) t e
  where
    each : (m : List Class) → All (Numbers F) m → All (λ k. class_of n ≡ Some k → F n) m
    each [] b = tt
    each (k ∷ m) b = ((λ f. by_class F n f b.0), each m b.1)

-- ---- the numbers that are left where a function has gone by others
module _ {n : ℕ} where
  pub not_eight : class_of n ≡ Some ChangeAttributes → (n ≡ 8 → ⊥) → n ≡ 10
  not_eight e = by_class (λ k. (k ≡ 8 → ⊥) → k ≡ 10) n e (two (λ f. absurd (f refl)) (λ f. refl))

  pub not_fifteen : class_of n ≡ Some ChangePermissions → (n ≡ 15 → ⊥) → (n ≡ 14) ⊎ (n ≡ 16)
  not_fifteen e = by_class (λ k. (k ≡ 15 → ⊥) → (k ≡ 14) ⊎ (k ≡ 16)) n e (three (λ f. inl refl) (λ f. absurd (f refl)) (λ f. inr refl))

  pub not_thirteen : class_of n ≡ Some Paste → (n ≡ 13 → ⊥) → (n ≡ 7) ⊎ (n ≡ 17)
  not_thirteen e = by_class (λ k. (k ≡ 13 → ⊥) → (k ≡ 7) ⊎ (k ≡ 17)) n e (three (λ f. inl refl) (λ f. absurd (f refl)) (λ f. inr refl))

  pub no_branch : (class_of n ≡ Some Edit) ⊎ (class_of n ≡ Some Cut) → (n ≡ 3 → ⊥) → ((n ≡ 4) ⊎ (n ≡ 6) → ⊥) → (n ≡ 9) ⊎ (n ≡ 12)
  no_branch e =
      ⊎_elim
      (λ h. by_class F n h (three (λ f g. absurd (f refl)) (λ f g. absurd (g (inl refl))) (λ f g. inl refl)))
      (λ h. by_class F n h (two (λ f g. absurd (g (inr refl))) (λ f g. inr refl)))
      e
    where
      F : ℕ → Type 0
      F k = (k ≡ 3 → ⊥) → ((k ≡ 4) ⊎ (k ≡ 6) → ⊥) → (k ≡ 9) ⊎ (k ≡ 12)

  pub no_branch_copied : (class_of n ≡ Some Copy) ⊎ (class_of n ≡ Some Cut) → ((n ≡ 5) ⊎ (n ≡ 6) → ⊥) → (n ≡ 11) ⊎ (n ≡ 12)
  no_branch_copied e =
      ⊎_elim
      (λ h. by_class F n h (two (λ f. absurd (f (inl refl))) (λ f. inl refl)))
      (λ h. by_class F n h (two (λ f. absurd (f (inr refl))) (λ f. inr refl)))
      e
    where
      F : ℕ → Type 0
      F k = ((k ≡ 5) ⊎ (k ≡ 6) → ⊥) → (k ≡ 11) ⊎ (k ≡ 12)

-- a test for two numbers
pub either : (n a b : ℕ) → (eqb n a || eqb n b) ≡ true → (n ≡ a) ⊎ (n ≡ b)
either n a b = go (eqb n a) (eqb-true n a) (eqb n b) (eqb-true n b)
  where
    go : (x : Bool) → (x ≡ true → n ≡ a) → (y : Bool) → (y ≡ true → n ≡ b) → (x || y) ≡ true → (n ≡ a) ⊎ (n ≡ b)
    go true f y g e = inl (f refl)
    go false f y g e = inr (g e)

pub neither_of : (n a b : ℕ) → (eqb n a || eqb n b) ≡ false → (n ≡ a) ⊎ (n ≡ b) → ⊥
neither_of n a b = go (eqb n a) (eqb-false n a) (eqb n b) (eqb-false n b)
  where
    go : (x : Bool) → (x ≡ false → n ≡ a → ⊥) → (y : Bool) → (y ≡ false → n ≡ b → ⊥) → (x || y) ≡ false → (n ≡ a) ⊎ (n ≡ b) → ⊥
    go true f y g e = no e
    go false f y g e = ⊎_elim (f refl) (g e)

-- what was told of the request with its path taken, at the number that it has, of the request itself
pub told : {A : Type 0} (F : Request → A) {q r : Request} → q ≡ r → {k : ℕ} → q.number ≡ k → {a : A} → a ≡ F (numbered k q) → a ≡ F r
told F {q} e n h = h ∙ ap (λ (k : ℕ). F (numbered k q)) (sym n) ∙ ap F e
