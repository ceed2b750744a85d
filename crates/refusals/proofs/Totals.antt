-- What there would be: a request that adds nothing of a kind passes no bound of that kind. Assumes nothing.
use mathlib.Core.Path.{◌≡◌, refl}
use mathlib.Core.Bool.{Bool, true, false}
use mathlib.Core.List.{[], ◌∷◌}
use Prim.Native.Nat.{ℕ, ◌+◌, ◌≤◌}
use native.Mathlib.Omega.{arith}
use borrow.Author.Tests.{ne_eqb, le-ltb}
use lib.Dec.{ltb}
use Rattle.laws.specs.Slots.{pick}
use Rattle.model.specs.Refusals.{Request, among, Found, Cached, Sizes, Totals, with_branch, with_rows, none_added, totals, attributes_over, permissions_over}

picked : {A : Type 0} (g : A → Bool) (t : Bool) {x y : A} {v : Bool} → g x ≡ v → g y ≡ v → g (pick t x y) ≡ v
picked g true h k = h
picked g false h k = k

module _ (r : Request) (f : Found) (c : Cached) (g : Totals → Bool) (none : g none_added ≡ false) where
  -- what only a branch adds
  pub no_branch : ((a p : ℕ) → g (with_rows a p f) ≡ false) → (r.number ≡ 3 → ⊥) → (r.number ≡ 7 → ⊥) → (r.number ≡ 17 → ⊥) → g (totals r f c) ≡ false
  no_branch rows x3 x7 x17 =
      rw (ne_eqb r.number 3 x3, ne_eqb r.number 7 x7, ne_eqb r.number 17 x17)
      (picked g (among r.number (8 ∷ [])) (rows 1 0)
      (picked g (among r.number (13 ∷ [])) (rows 1 c.sizes.permissions) (picked g (among r.number (14 ∷ 16 ∷ [])) (rows 0 1) none)))

  -- what only rows on a node add
  pub no_rows : ((s : Sizes) (h : ℕ) → g (with_branch s h r f) ≡ false)
      → (r.number ≡ 8 → ⊥) → (r.number ≡ 13 → ⊥) → (r.number ≡ 14 → ⊥) → (r.number ≡ 16 → ⊥) → g (totals r f c) ≡ false
  no_rows branch x8 x13 x14 x16 =
      rw (ne_eqb r.number 8 x8, ne_eqb r.number 13 x13, ne_eqb r.number 14 x14, ne_eqb r.number 16 x16)
      (picked g (among r.number (3 ∷ [])) (branch (record { nodes = 1; attributes = 0; permissions = 0 }) 0) (picked g (among r.number (7 ∷ 17 ∷ [])) (branch c.sizes c.height) none))

module _ (r : Request) (f : Found) (c : Cached) where
  pub no_attributes : f.sizes.attributes ≤ 256 → (r.number ≡ 7 → ⊥) → (r.number ≡ 17 → ⊥) → (r.number ≡ 8 → ⊥) → (r.number ≡ 13 → ⊥) → attributes_over (totals r f c).attributes ≡ false
  no_attributes room x7 x17 x8 x13 =
      let full : ltb 256 (f.sizes.attributes + 0) ≡ false = le-ltb 256 (f.sizes.attributes + 0) (omega arith) in
      rw (ne_eqb r.number 7 x7, ne_eqb r.number 17 x17, ne_eqb r.number 8 x8, ne_eqb r.number 13 x13)
      (picked (λ (t : Totals). attributes_over t.attributes) (among r.number (3 ∷ [])) full (picked (λ (t : Totals). attributes_over t.attributes) (among r.number (14 ∷ 16 ∷ [])) full refl))

  pub no_permissions : f.sizes.permissions ≤ 128 → (r.number ≡ 7 → ⊥) → (r.number ≡ 17 → ⊥) → (r.number ≡ 13 → ⊥) → (r.number ≡ 14 → ⊥) → (r.number ≡ 16 → ⊥)
      → permissions_over (totals r f c).permissions ≡ false
  no_permissions room x7 x17 x13 x14 x16 =
      let full : ltb 128 (f.sizes.permissions + 0) ≡ false = le-ltb 128 (f.sizes.permissions + 0) (omega arith) in
      rw (ne_eqb r.number 7 x7, ne_eqb r.number 17 x17, ne_eqb r.number 13 x13, ne_eqb r.number 14 x14, ne_eqb r.number 16 x16)
      (picked (λ (t : Totals). permissions_over t.permissions) (among r.number (3 ∷ [])) full (picked (λ (t : Totals). permissions_over t.permissions) (among r.number (8 ∷ [])) full refl))
