-- A part of a session stored under its dossier's number. Assumes nothing.
use mathlib.Core.Path.{◌≡◌, refl}
use mathlib.Core.Bool.{Bool, true, false, not}
use Prim.Native.Nat.{ℕ}
use lib.Dec.{T, eqb}
use Rattle.laws.specs.Slots.{pick}
use Rattle.tables.specs.declared.Dossier.{Dossier}
use Rattle.state.specs.declared.Session.{Session}
use Rattle.state.specs.Parts.{numbered_in, replaced_in}
use Rattle.session.specs.Parts.{store_one, store_two}

-- what the code leaves of a session whose dossier 1 it sets
pub one_written : (s : Session) (d : Dossier) → record { one = d; two = s.two; clipboard = s.clipboard; signatures = s.signatures; log = s.log } ≡ store_one s d
one_written s d = refl

-- another dossier, made of the one that stands there
pub first_stored : (s : Session) (f : Dossier → Dossier) (n : ℕ) → T (eqb n 1) → store_one s (f s.one) ≡ replaced_in n (f (numbered_in n s)) s
first_stored s f n = go (eqb n 1)
  where
    go : (b : Bool) → T b → store_one s (f s.one) ≡ record { one = pick b (f (pick b s.one s.two)) s.one; two = pick b s.two (f (pick b s.one s.two)); clipboard = s.clipboard; signatures = s.signatures; log = s.log }
    go true t = refl
    go false t = absurd t

pub second_stored : (s : Session) (f : Dossier → Dossier) (n : ℕ) → T (not (eqb n 1)) → store_two s (f s.two) ≡ replaced_in n (f (numbered_in n s)) s
second_stored s f n = go (eqb n 1)
  where
    go : (b : Bool) → T (not b) → store_two s (f s.two) ≡ record { one = pick b (f (pick b s.one s.two)) s.one; two = pick b s.two (f (pick b s.one s.two)); clipboard = s.clipboard; signatures = s.signatures; log = s.log }
    go true t = absurd t
    go false t = refl
