-- Clashes: of a permission with one of a list, and both ways. Assumes nothing.
use mathlib.Core.Path.{refl, sym, subst}
use mathlib.Core.Logic.{◌⊎◌, inl, inr}
use mathlib.Core.Bool.{Bool, true, false, not, ◌&&◌, ◌||◌}
use mathlib.Core.List.Memᴰ
use mathlib.Core.List.{List, [], ◌∷◌}
use Prim.Native.Nat.{ℕ}
use lib.Signed.{le_z}
use lib.Dec.{T, eqb, eqb→eq, not_T}
use mir.Facts.{and_yes, yes_and, yes_eqb}
use Rattle.laws.specs.Slots.{pick}
use Rattle.laws.specs.Sorted.{◌∈◌}
use Rattle.model.specs.Things.{Permission}
use Rattle.model.specs.Decide.{meet, overlap, alike, clash, clash_any}

pub clash_back : (g : Permission) (l : List Permission) → T (clash_any g l) → (h : Permission) × (h ∈ l) × T (clash g h)
clash_back g [] t = absurd t
clash_back g (x ∷ l) t = go (clash g x) (λ s. s) (clash_back g l) t
  where
    go : (b : Bool) → (T b → T (clash g x)) → (T (clash_any g l) → (h : Permission) × (h ∈ l) × T (clash g h)) → T (pick b true (clash_any g l)) → (h : Permission) × (h ∈ x ∷ l) × T (clash g h)
    go true f k s = (x, Memᴰ.head refl, f tt)
    go false f k s = let w = k s in (w.0, Memᴰ.tail w.1, w.2)

either_true : (b c : Bool) → T b ⊎ T c → T (pick b true c)
either_true true c t = tt
either_true false c (inl t) = absurd t
either_true false c (inr t) = t

pub clash_in : (g h : Permission) (l : List Permission) → h ∈ l → T (clash g h) → T (clash_any g l)
clash_in g h l (Memᴰ.head {x} {xs} e) t = either_true (clash g x) (clash_any g xs) (inl (subst (λ (z : Permission). T (clash g z)) e t))
clash_in g h l (Memᴰ.tail {x} {xs} m) t = either_true (clash g x) (clash_any g xs) (inr (clash_in g h xs m t))

pub clash_none : (g : Permission) (l : List Permission) → ((h : Permission) → h ∈ l → T (clash g h) → ⊥) → T (not (clash_any g l))
clash_none g l f = not_T (clash_any g l) (λ t. let w = clash_back g l t in f w.0 w.1 w.2)

eqb_sym : (m n : ℕ) → T (eqb m n) → T (eqb n m)
eqb_sym m n t = yes_eqb (sym (eqb→eq m n t))

meet_sym : (a b c c' : Bool) → (T c → T c') → T (a || (b || c)) → T (b || (a || c'))
meet_sym true true c c' f t = tt
meet_sym true false c c' f t = tt
meet_sym false true c c' f t = tt
meet_sym false false c c' f t = f t

pub clash_sym : (g h : Permission) → T (clash g h) → T (clash h g)
clash_sym g h t =
    let w = and_yes (alike g h) (overlap g h) t in
    let a = and_yes (eqb g.role h.role) (eqb g.action h.action && meet g.user h.user) w.0 in
    let b = and_yes (eqb g.action h.action) (meet g.user h.user) a.1 in
    let c = and_yes (le_z g.first h.last) (le_z h.first g.last) w.1 in
    yes_and (alike h g) (overlap h g)
    (yes_and (eqb h.role g.role) (eqb h.action g.action && meet h.user g.user) (eqb_sym g.role h.role a.0)
    (yes_and (eqb h.action g.action) (meet h.user g.user) (eqb_sym g.action h.action b.0)
    (meet_sym (eqb g.user 0) (eqb h.user 0) (eqb g.user h.user) (eqb h.user g.user) (eqb_sym g.user h.user) b.1)))
    (yes_and (le_z h.first g.last) (le_z g.first h.last) c.1 c.0)
