-- Who is granted what, and with which provisions: exactly the owner, or the permission that matches, of which there is at most one. Assumes nothing.
use mathlib.Core.Path.{◌≡◌, refl, sym, ap, ap₂, subst, ◌∙◌}
use mathlib.Core.Logic.{◌⊎◌, inl, inr, ◌↔◌, ◌≢◌}
use mathlib.Core.Bool.{Bool, false, not, ◌&&◌, ◌||◌}
use mathlib.Core.Option.{Option, none, some, some-injective, none-ne-some}
use mathlib.Core.List.Memᴰ
use mathlib.Core.List.{List, [], ◌∷◌}
use Prim.Native.Nat.{ℕ}
use native.Mathlib.Nat.{le_trans}
use lib.IntN.{ℤ, pos, negsuc}
use lib.Signed.{le_z}
use lib.Dec.{T, eqb, leb, leb→le, le→leb, eqb→eq, T_not, not_T}
use mir.Facts.{and_yes, yes_and, or_yes, yes_eqb}
use Rattle.laws.specs.Slots.{pick}
use Rattle.laws.specs.Sorted.{◌∈◌}
use Rattle.path.specs.Address.{valid}
use Rattle.path.proofs.Moves.{Test, holds, fails, test, is_false, pick_yes, pick_no}
use Rattle.model.specs.Things.{Permission, State}
use Rattle.model.specs.Decide.{Subject, Object, Provisions, nothing, joined, admits, during, concerns, matches, provisions_of, matched, owned, read_by, change_by, own_by, delegate_by, meet, overlap, alike, clash}
use Rattle.model.specs.Refusals.{Request, between, user_good, role_good, time_good, common_good, own_good, bad_operand}
use Rattle.model.specs.Run.{Question, request, ask, Answer, refused, Reply, reply, requested, bad_question, step}
use Rattle.roundtrip.proofs.Checks.{or_left, or_right}
use Rattle.twin.specs.Good.{NoClash}
use Rattle.twin.proofs.KeepNode.{one_clashes}
use Rattle.twin.proofs.Refusal.{refused_so, unread, ask_refused_by}

-- ---- "No dossier ever holds a clash, so at most one matches"
time_trans : (a b c : ℤ) → T (le_z a b) → T (le_z b c) → T (le_z a c)
time_trans (pos a) (pos b) (pos c) h k = le→leb a c (le_trans (leb→le a b h) (leb→le b c k))
time_trans (pos a) (pos b) (negsuc c) h k = k
time_trans (pos a) (negsuc b) c h k = absurd h
time_trans (negsuc a) (pos b) (pos c) h k = tt
time_trans (negsuc a) (pos b) (negsuc c) h k = absurd k
time_trans (negsuc a) (negsuc b) (pos c) h k = tt
time_trans (negsuc a) (negsuc b) (negsuc c) h k = le→leb c a (le_trans (leb→le c b k) (leb→le b a h))

-- what a permission that matches has
pub record Fits (s : Subject) (n : ℕ) (g : Permission) : Type 0 where
  pub role : g.role ≡ s.role
  pub action : g.action ≡ n
  pub user : (g.user ≡ 0) ⊎ (g.user ≡ s.user)
  pub began : T (le_z g.first s.time)
  pub lasts : T (le_z s.time g.last)

-- "A permission matches if role, object and action are equal, the time is in the interval and the user is admitted"
pub matches_exactly : (s : Subject) (action : ℕ) (g : Permission) → T (matches s action g) ↔ Fits s action g
matches_exactly s action g = (there, back)
  where
    admitted : T (admits g.user s.user) → (g.user ≡ 0) ⊎ (g.user ≡ s.user)
    admitted t = elim (or_yes (eqb g.user 0) (eqb g.user s.user) t) [ inl a ↦ inl (eqb→eq g.user 0 a) | inr b ↦ inr (eqb→eq g.user s.user b) ]

    there : T (matches s action g) → Fits s action g
    there t =
        let w = and_yes (concerns s action g) (during g s.time) t in
        let v = and_yes (eqb g.role s.role) (eqb g.action action && admits g.user s.user) w.0 in
        let u = and_yes (eqb g.action action) (admits g.user s.user) v.1 in
        let d = and_yes (le_z g.first s.time) (le_z s.time g.last) w.1 in
        record { role = eqb→eq g.role s.role v.0; action = eqb→eq g.action action u.0; user = admitted u.1; began = d.0; lasts = d.1 }

    admit : (g.user ≡ 0) ⊎ (g.user ≡ s.user) → T (admits g.user s.user)
    admit (inl e) = or_left (eqb g.user 0) (eqb g.user s.user) (yes_eqb e)
    admit (inr e) = or_right (eqb g.user 0) (eqb g.user s.user) (yes_eqb e)

    back : Fits s action g → T (matches s action g)
    back f =
        yes_and (concerns s action g) (during g s.time)
        (yes_and (eqb g.role s.role) (eqb g.action action && admits g.user s.user) (yes_eqb f.role)
        (yes_and (eqb g.action action) (admits g.user s.user) (yes_eqb f.action) (admit f.user)))
        (yes_and (le_z g.first s.time) (le_z s.time g.last) f.began f.lasts)

-- they share the present time and the user who asks
both_clash : (s : Subject) (action : ℕ) (g h : Permission) → T (matches s action g) → T (matches s action h) → T (clash g h)
both_clash s action g h tg th =
    yes_and (alike g h) (overlap g h)
    (yes_and (eqb g.role h.role) (eqb g.action h.action && meet g.user h.user) (yes_eqb (a.role ∙ sym b.role))
    (yes_and (eqb g.action h.action) (meet g.user h.user) (yes_eqb (a.action ∙ sym b.action)) (met a.user b.user)))
    (yes_and (le_z g.first h.last) (le_z h.first g.last)
    (time_trans g.first s.time h.last a.began b.lasts) (time_trans h.first s.time g.last b.began a.lasts))
  where
    a : Fits s action g
    a = (matches_exactly s action g).0 tg

    b : Fits s action h
    b = (matches_exactly s action h).0 th

    met : (g.user ≡ 0) ⊎ (g.user ≡ s.user) → (h.user ≡ 0) ⊎ (h.user ≡ s.user) → T (meet g.user h.user)
    met (inl e) d = or_left (eqb g.user 0) (eqb h.user 0 || eqb g.user h.user) (yes_eqb e)
    met (inr e) (inl d) = or_right (eqb g.user 0) (eqb h.user 0 || eqb g.user h.user) (or_left (eqb h.user 0) (eqb g.user h.user) (yes_eqb d))
    met (inr e) (inr d) =
        or_right (eqb g.user 0) (eqb h.user 0 || eqb g.user h.user) (or_right (eqb h.user 0) (eqb g.user h.user) (yes_eqb (e ∙ sym d)))

pub at_most_one : (s : Subject) (action : ℕ) (l : List Permission) → NoClash l
    → (g h : Permission) → g ∈ l → h ∈ l → T (matches s action g) → T (matches s action h) → g ≡ h
at_most_one s action l c g h m n tg th = one_clashes l c g h m n (both_clash s action g h tg th)

-- ---- the provisions are those of the permission that matches
-- there is one such permission
abbrev pub OneMatches : Subject → ℕ → List Permission → Provisions → Type 0
OneMatches s action l π = (g : Permission) × (g ∈ l) × T (matches s action g) × (π ≡ provisions_of g)

module _ (s : Subject) (action : ℕ) where
  matched_found : (l : List Permission) (π : Provisions) → matched s action l ≡ some π → OneMatches s action l π
  matched_found [] π e = absurd (none-ne-some π e)
  matched_found (p ∷ l) π e = go (test (matches s action p)) (matched_found l π)
    where
      go : Test (matches s action p) → (matched s action l ≡ some π → OneMatches s action l π) → OneMatches s action (p ∷ l) π
      go (holds t) below =
          (p, Memᴰ.head refl, t, some-injective π (provisions_of p) (sym e ∙ pick_yes (matches s action p) (some (provisions_of p)) (matched s action l) t))
      go (fails n) below =
          let w = below (sym (pick_no (matches s action p) (some (provisions_of p)) (matched s action l) n) ∙ e) in (w.0, Memᴰ.tail w.1, w.2, w.3)

  matched_some : (g : Permission) {l : List Permission} → g ∈ l → T (matches s action g) → (π : Provisions) × (matched s action l ≡ some π)
  matched_some g (Memᴰ.head {x} {xs} e) t =
      (provisions_of x, pick_yes (matches s action x) (some (provisions_of x)) (matched s action xs) (subst (λ (z : Permission). T (matches s action z)) e t))
  matched_some g (Memᴰ.tail {x} {xs} m) t = go (test (matches s action x)) (matched_some g m t)
    where
      go : Test (matches s action x) → ((π : Provisions) × (matched s action xs ≡ some π)) → (π : Provisions) × (matched s action (x ∷ xs) ≡ some π)
      go (holds h) below = (provisions_of x, pick_yes (matches s action x) (some (provisions_of x)) (matched s action xs) h)
      go (fails n) below = (below.0, pick_no (matches s action x) (some (provisions_of x)) (matched s action xs) n ∙ below.1)

  pub matched_exactly : (l : List Permission) → NoClash l → (π : Provisions) → (matched s action l ≡ some π) ↔ OneMatches s action l π
  matched_exactly l c π = (matched_found l π, back)
    where
      back : OneMatches s action l π → matched s action l ≡ some π
      back w =
          let v = matched_some w.0 w.1 w.2 in
          let u = matched_found l v.0 v.1 in
          v.1 ∙ ap some (u.3 ∙ ap provisions_of (at_most_one s action l c u.0 w.0 u.1 w.1 u.2 w.2) ∙ sym w.3)

  pub matched_none : (l : List Permission) → (matched s action l ≡ none) ↔ ((g : Permission) → g ∈ l → T (matches s action g) → ⊥)
  matched_none l = (there, back (matched s action l) refl)
    where
      there : matched s action l ≡ none → (g : Permission) → g ∈ l → T (matches s action g) → ⊥
      there e g m t = let v = matched_some g m t in none-ne-some v.0 (sym e ∙ v.1)

      back : (o : Option Provisions) → matched s action l ≡ o → ((g : Permission) → g ∈ l → T (matches s action g) → ⊥) → matched s action l ≡ none
      back none e n = e
      back (some π) e n = let w = matched_found l π e in absurd (n w.0 w.1 w.2)

joined_both : (a b : Option Provisions) (π : Provisions) → joined a b ≡ some π
    → (p : Provisions) × (q : Provisions) × (a ≡ some p) × (b ≡ some q) × (some π ≡ joined (some p) (some q))
joined_both none b π e = absurd (none-ne-some π e)
joined_both (some p) none π e = absurd (none-ne-some π e)
joined_both (some p) (some q) π e = (p, q, refl, refl, sym e)

-- ---- granted
-- by owning it, with no provisions, or else by something else
abbrev pub OwnedOr : Subject → Object → Provisions → Type 0 → Type 0
OwnedOr s o π R = ((s.user ≡ o.owner) × (π ≡ nothing)) ⊎ ((s.user ≢ o.owner) × R)

module _ (s : Subject) (o : Object) where
  owned_or_lem : (rest : Option Provisions) (R : Type 0) (π : Provisions) → (rest ≡ some π) ↔ R → (pick (owned s o) (some nothing) rest ≡ some π) ↔ OwnedOr s o π R
  owned_or_lem rest R π w = (there (test (owned s o)), back)
    where
      there : Test (owned s o) → pick (owned s o) (some nothing) rest ≡ some π → OwnedOr s o π R
      there (holds t) e = inl (eqb→eq s.user o.owner t, some-injective π nothing (sym e ∙ pick_yes (owned s o) (some nothing) rest t))
      there (fails n) e = inr (λ d. n (yes_eqb d), w.0 (sym (pick_no (owned s o) (some nothing) rest n) ∙ e))

      back : OwnedOr s o π R → pick (owned s o) (some nothing) rest ≡ some π
      back (inl h) = pick_yes (owned s o) (some nothing) rest (yes_eqb h.0) ∙ ap some (sym h.1)
      back (inr h) = pick_no (owned s o) (some nothing) rest (λ t. h.0 (eqb→eq s.user o.owner t)) ∙ w.1 h.1

  -- "Read of an object: the user owns it (no provisions), or a permission matches"
  pub read_exactly : NoClash o.permissions → (π : Provisions) → (read_by s o ≡ some π) ↔ OwnedOr s o π (OneMatches s 1 o.permissions π)
  read_exactly c π = owned_or_lem (matched s 1 o.permissions) (OneMatches s 1 o.permissions π) π (matched_exactly s 1 o.permissions c π)

  -- "one permission matches for read and one for change; the provisions are joined"
  abbrev pub TwoMatch : Provisions → Type 0
  TwoMatch π =
      (g : Permission) × (h : Permission) × (g ∈ o.permissions) × (h ∈ o.permissions) × T (matches s 1 g) × T (matches s 2 h)
      × (some π ≡ joined (some (provisions_of g)) (some (provisions_of h)))

  -- "Change of a node: the user owns it (no provisions), or one permission matches for read and one for change"
  pub change_exactly : NoClash o.permissions → (π : Provisions) → (change_by s o ≡ some π) ↔ OwnedOr s o π (TwoMatch π)
  change_exactly c π = owned_or_lem (joined (matched s 1 l) (matched s 2 l)) (TwoMatch π) π (there, back)
    where
      l : List Permission
      l = o.permissions

      there : joined (matched s 1 l) (matched s 2 l) ≡ some π → TwoMatch π
      there e =
          let w = joined_both (matched s 1 l) (matched s 2 l) π e in
          let u = (matched_exactly s 1 l c w.0).0 w.2 in
          let v = (matched_exactly s 2 l c w.1).0 w.3 in
          (u.0, v.0, u.1, v.1, u.2, v.2, w.4 ∙ ap₂ (λ (a b : Provisions). joined (some a) (some b)) u.3 v.3)

      back : TwoMatch π → joined (matched s 1 l) (matched s 2 l) ≡ some π
      back w =
          ap₂ joined ((matched_exactly s 1 l c (provisions_of w.0)).1 (w.0, w.2, w.4, refl)) ((matched_exactly s 2 l c (provisions_of w.1)).1 (w.1, w.3, w.5, refl))
          ∙ sym w.6

  -- "own the object"
  pub own_exactly : (π : Provisions) → (own_by s o ≡ some π) ↔ ((s.user ≡ o.owner) × (π ≡ nothing))
  own_exactly π = (λ e. only (w.0 e), λ h. w.1 (inl h))
    where
      w : (own_by s o ≡ some π) ↔ OwnedOr s o π ⊥
      w = owned_or_lem none ⊥ π (λ d. none-ne-some π d, λ b. absurd b)

      only : OwnedOr s o π ⊥ → (s.user ≡ o.owner) × (π ≡ nothing)
      only (inl h) = h
      only (inr h) = absurd h.1

  -- "A delegate permission must match for the user's role (owning does not help)"
  pub delegate_exactly : NoClash o.permissions → (π : Provisions) → (delegate_by s o ≡ some π) ↔ OneMatches s 4 o.permissions π
  delegate_exactly c π = matched_exactly s 4 o.permissions c π

-- ---- "Blank user: 1, before anything else"
pub owned_needs_user : (u : ℕ) → T (user_good u) → eqb u 0 ≡ false
owned_needs_user u t = is_false (eqb u 0) (λ h. subst (λ (n : ℕ). T (user_good n)) (eqb→eq u 0 h) t)

-- no object that a good user owns is a blank user's
pub no_owner_by_blank : (s : Subject) (o : Object) → s.user ≡ 0 → T (user_good o.owner) → owned s o ≡ false
no_owner_by_blank s o e t = is_false (owned s o) (λ h. subst (λ (n : ℕ). T (user_good n)) (sym (eqb→eq s.user o.owner h) ∙ e) t)

-- whatever stands before it and after it in a row of tests, a blank user fails it
blank_fails : (u : ℕ) (a b : Bool) → u ≡ 0 → T (a && (user_good u && b)) → ⊥
blank_fails u a b e t = subst (λ (n : ℕ). T (user_good n)) e (and_yes (user_good u) b (and_yes a (user_good u && b) t).1).0

-- no state and no permission makes it granted
pub blank_user : (s : State) (r : Request) (image : List ℕ) → r.user ≡ 0 → requested s r image ≡ (s, refused 1)
blank_user s r image e =
    let wrong = not_T (common_good r && own_good r) bad in
    refused_so s r image 1 (
      s.clipboard,
      unread s r image (λ t. T_not (bad_operand r) (and_yes (eqb r.number 17) (not (bad_operand r)) t).1 wrong),
      pick_yes (bad_operand r) (some 1) _ wrong,
    )
  where
    bad : T (common_good r && own_good r) → ⊥
    bad t =
        let w = and_yes (common_good r) (own_good r) t in
        blank_fails r.user (role_good r.role) (time_good r.time && valid r.path) e
        (and_yes (between 1 2 r.dossier) (role_good r.role && (user_good r.user && (time_good r.time && valid r.path))) w.0).1

pub blank_request : (s : State) (r : Request) (image : List ℕ) → r.user ≡ 0 → step s (request r image) ≡ (s, reply (refused 1) (image ∷ []))
unfolding step
blank_request s r image e = ap {B = State × Reply} (λ (out : State × Answer). (out.0, reply out.1 (image ∷ []))) (blank_user s r image e)

pub blank_question : (s : State) (image : List ℕ) (q : Question) (buffer : List ℕ) → q.user ≡ 0
    → step s (ask image q buffer) ≡ (s, reply (refused 1) (image ∷ buffer ∷ []))
blank_question s image q buffer e =
    ask_refused_by s image q buffer 1
    (pick_yes (bad_question q) (some 1) _ (not_T (role_good q.role && (user_good q.user && rest)) (blank_fails q.user (role_good q.role) rest e)))
  where
    rest : Bool
    rest = time_good q.time && (valid q.path && (leb q.name 65535 && between 1 2 q.action))
