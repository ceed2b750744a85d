-- What a decision means, and what a walk over a list of permissions tells: whether one of them is such, and the first that matches. Assumes nothing.
use mathlib.Core.Path.{◌≡◌, refl, sym, ◌∙◌}
use mathlib.Core.Bool.{Bool, true, false, cond, ◌||◌}
use mathlib.Core.Option.{Option, none, some}
use mathlib.Core.List.{List, [], ◌∷◌, map}
use Prim.Native.Nat.{ℕ}
use Rattle.std.specs.Prelude.{Some, option_map}
use Rattle.std.specs.List.{list_any, find}
use Rattle.laws.specs.Slots.{pick}
use Rattle.model.specs.Decide as model
use Rattle.tables.specs.declared.Permission.{Permission}
use Rattle.tables.specs.View.{view_grant}
use Rattle.grants.specs.declared.Provisions.{Provisions}
use Rattle.grants.specs.View.{decision_of, view_decision}

-- ---- decisions and what they mean
pub decision_seen : (o : Option model.Provisions) → view_decision (decision_of o) ≡ o
decision_seen none = refl
decision_seen (some p) = refl

-- ---- a walk
-- G says whether f holds of one of a list
pub any_told : {A B : Type 0} (v : A → B) (f : B → Bool) (G : List B → Bool) → G [] ≡ false → ((x : B) (l : List B) → G (x ∷ l) ≡ pick (f x) true (G l))
    → (l : List A) → list_any (λ a. f (v a)) l ≡ G (map v l)
any_told v f G e turn [] = sym e
any_told v f G e turn (x ∷ l) = go (f (v x)) (any_told v f G e turn l) ∙ sym (turn (v x) (map v l))
  where
    go : (b : Bool) → list_any (λ a. f (v a)) l ≡ G (map v l) → (b || list_any (λ a. f (v a)) l) ≡ pick b true (G (map v l))
    go true h = refl
    go false h = h

abbrev pub asked : Permission → Provisions
asked a = record { messages = a.grant.messages; agreements = a.grant.agreements }

-- what the first that matches asks for
pub first_told : (s : model.Subject) (action : ℕ) (l : List Permission)
    → option_map asked (find (λ a. model.matches s action (view_grant a.grant)) l) ≡ decision_of (model.matched s action (map (λ a. view_grant a.grant) l))
first_told s action [] = refl
first_told s action (x ∷ l) = go (model.matches s action (view_grant x.grant)) (first_told s action l)
  where
    go : (b : Bool) → option_map asked (find (λ a. model.matches s action (view_grant a.grant)) l) ≡ decision_of (model.matched s action (map (λ a. view_grant a.grant) l))
        → option_map asked (cond b (Some x) (find (λ a. model.matches s action (view_grant a.grant)) l))
        ≡ decision_of (pick b (some (model.provisions_of (view_grant x.grant))) (model.matched s action (map (λ a. view_grant a.grant) l)))
    go true h = refl
    go false h = h
