-- What a request needs, at the number that it has. Assumes nothing.
use mathlib.Core.Path.{◌≡◌, sym, ap, subst, ◌∙◌}
use mathlib.Core.List.{List}
use Rattle.std.specs.Prelude as std
use Prim.Native.Nat.{ℕ}
use Rattle.path.specs.View.{steps}
use Rattle.model.specs.Things.{Row, Permission}
use Rattle.model.specs.Decide as model
use Rattle.model.specs.Moves.{permissions_in}
use Rattle.model.specs.Refusals as refusals
use Rattle.grants.specs.declared.Provisions.{Provisions}
use Rattle.grants.specs.declared.Walk.{Walk}
use Rattle.grants.specs.View.{view_subject, decision_of}
use Rattle.decide.specs.declared.Asked.{Asked}
use Rattle.decide.specs.declared.Owners.{Owners}
use Rattle.decide.specs.View.{view_asked, found_by, object_owned, owned_or, object_walk, change_given}
use Rattle.decide.proofs.Objects.{owned_given}

-- the request, were n its number
abbrev pub numbered : Asked → ℕ → refusals.Request
numbered a n = view_asked (record { number = n; subject = a.subject; path = a.path; name = a.name })

module _ (a : Asked) (o : Owners) (l : List (Row (ℕ × Permission))) where
  -- the decision, were n the number
  abbrev pub decided : ℕ → std.Option Provisions
  decided n = decision_of (refusals.granted (numbered a n) (found_by (numbered a n) o l))

  pub one : {r : std.Option Provisions} {k : ℕ} → a.number ≡ k → r ≡ decided k → r ≡ decided a.number
  one {r} e h = subst (λ n. r ≡ decided n) (sym e) h

  abbrev subject : model.Subject
  subject = view_subject a.subject

  -- w: what the permissions give on the object; if it is the one at name n, read of an object there
  module _ {w : Walk} (g : w ≡ object_walk (view_asked a) l) {k : ℕ} (e : a.number ≡ k) where
    walk_at : w ≡ object_walk (numbered a k) l
    walk_at = g ∙ ap (λ n. object_walk (numbered a n) l) e

    pub reads : (u : std.Option ℕ) (n : ℕ) {r : std.Option Provisions} → (object_walk (numbered a k) l).read ≡ decision_of (model.matched subject 1 (permissions_in (steps a.path) n l))
        → r ≡ owned_or u a.subject.user w.read → r ≡ decision_of (model.given (model.read_by subject) (object_owned u (permissions_in (steps a.path) n l)))
    reads u n f h =
        h ∙ ap (owned_or u a.subject.user) (ap (λ (x : Walk). x.read) walk_at ∙ f) ∙ owned_given a.subject.user (model.matched subject 1) u (permissions_in (steps a.path) n l)

  -- d: what the permissions of the node give whose permissions are m
  pub changes : {d : std.Option Provisions} → d ≡ change_given (view_asked a) l → {k : ℕ} → a.number ≡ k → (u : std.Option ℕ) (m : List Permission) {r : std.Option Provisions}
      → change_given (numbered a k) l ≡ decision_of (model.joined (model.matched subject 1 m) (model.matched subject 2 m))
      → r ≡ owned_or u a.subject.user d → r ≡ decision_of (model.given (model.change_by subject) (object_owned u m))
  changes g e u m f h =
      h ∙ ap (owned_or u a.subject.user) (g ∙ ap (λ n. change_given (numbered a n) l) e ∙ f) ∙ owned_given a.subject.user (λ x. model.joined (model.matched subject 1 x) (model.matched subject 2 x)) u m
