-- A rule of a request, at the number that the request has. Assumes nothing.
use mathlib.Core.Path.{◌≡◌, ap, sym, ◌∙◌}
use mathlib.Core.Logic.{◌⊎◌, ⊎_elim}
use Prim.Native.Nat.{ℕ}
use Rattle.model.specs.Refusals.{Request}

-- the request, were n its number
abbrev pub numbered : ℕ → Request → Request
numbered n r =
    record {
      number = n;
      dossier = r.dossier;
      role = r.role;
      user = r.user;
      time = r.time;
      path = r.path;
      name = r.name;
      value = r.value;
      permission = r.permission;
    }

module _ {A : Type 0} (F : Request → A) (r : Request) {a : A} {k : ℕ} where
  pub one : r.number ≡ k → a ≡ F (numbered k r) → a ≡ F r
  one e h = h ∙ ap (λ n. F (numbered n r)) (sym e)

  -- the number, or another of the same arm
  pub or : {X : Type 0} → (r.number ≡ k) ⊎ X → a ≡ F (numbered k r) → (X → a ≡ F r) → a ≡ F r
  or e h g = ⊎_elim (λ x. one x h) g e
