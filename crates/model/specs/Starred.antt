-- The starred examples of document 01, and "Pasting makes nobody an owner", by one statement over a list of them.
use Rattle.std.specs.Prelude.{◌≡◌, refl, Bool, true, false, ◌&&◌, not, List, [], ◌∷◌, ◌++◌, map, ℕ, ℤ, pos, negsuc, replicate}
use Rattle.std.proofs.Math.Option.{Option, none, some}
use Rattle.laws.specs.Slots.{same_bytes}
use Rattle.path.specs.Address.{Address, same, up, down}
use Rattle.model.specs.Things.{whole, Permission}
use Rattle.model.specs.Decide.{matches, clash}
use Rattle.model.specs.Run.{Call, new, save, request, Reply, number_of, step, run}

abbrev pub all : List Bool → Bool
all [] = true
all (b ∷ l) = b && all l

-- the answer is this address; the answer is that it goes
abbrev pub becomes : Option Address → Address → Bool
becomes none r = false
becomes (some p) r = same p r

abbrev pub goes : Option Address → Bool
goes none = true
goes (some p) = false

-- "Add at 1.2: 1.2 becomes 1.3; 1.2.4 becomes 1.3.4; 1.10 becomes 1.11."
abbrev pub example1 : List Bool
example1 =
    same (up (1 ∷ 2 ∷ []) (1 ∷ 2 ∷ [])) (1 ∷ 3 ∷ [])
    ∷ same (up (1 ∷ 2 ∷ []) (1 ∷ 2 ∷ 4 ∷ [])) (1 ∷ 3 ∷ 4 ∷ [])
    ∷ same (up (1 ∷ 2 ∷ []) (1 ∷ 10 ∷ [])) (1 ∷ 11 ∷ [])
    ∷ []

-- "Same: 1, 1.1 and 2.2 stay."
abbrev pub example2 : List Bool
example2 =
    same (up (1 ∷ 2 ∷ []) (1 ∷ [])) (1 ∷ [])
    ∷ same (up (1 ∷ 2 ∷ []) (1 ∷ 1 ∷ [])) (1 ∷ 1 ∷ [])
    ∷ same (up (1 ∷ 2 ∷ []) (2 ∷ 2 ∷ [])) (2 ∷ 2 ∷ [])
    ∷ []

-- "Delete at 1.2: 1.3.1 becomes 1.2.1; 1.2.5 goes; 1.1 stays."
abbrev pub example3 : List Bool
example3 =
    becomes (down (1 ∷ 2 ∷ []) (1 ∷ 3 ∷ 1 ∷ [])) (1 ∷ 2 ∷ 1 ∷ [])
    ∷ goes (down (1 ∷ 2 ∷ []) (1 ∷ 2 ∷ 5 ∷ []))
    ∷ becomes (down (1 ∷ 2 ∷ []) (1 ∷ 1 ∷ [])) (1 ∷ 1 ∷ [])
    ∷ []

-- a permission of a role for an action, without provisions
abbrev pub permit : ℕ → ℕ → ℕ → ℤ → ℤ → Permission
permit role action user first last = record { role = role; action = action; user = user; first = first; last = last; messages = 0; agreements = 0 }

-- "Intervals −5..0 and 0..9 with the same role, object, action and any user: clash. −5..−1 and 0..9: none."
abbrev pub example4 : List Bool
example4 =
    clash (permit 2 1 0 (negsuc 4) (pos 0)) (permit 2 1 0 (pos 0) (pos 9))
    ∷ not (clash (permit 2 1 0 (negsuc 4) (negsuc 0)) (permit 2 1 0 (pos 0) (pos 9)))
    ∷ []

-- "The first pair of 4, but user 3 only against user 4 only: no clash; user 3 against any: clash."
abbrev pub example5 : List Bool
example5 =
    not (clash (permit 2 1 3 (negsuc 4) (pos 0)) (permit 2 1 4 (pos 0) (pos 9)))
    ∷ clash (permit 2 1 3 (negsuc 4) (pos 0)) (permit 2 1 0 (pos 0) (pos 9))
    ∷ []

-- "Permission 0..10: time −1 no match, 0 and 10 match, 11 none."
abbrev pub matches_at : ℤ → Bool
matches_at t = matches (record { role = 2; user = 3; time = t }) 1 (permit 2 1 0 (pos 0) (pos 10))

abbrev pub example6 : List Bool
example6 = not (matches_at (negsuc 0)) ∷ matches_at (pos 0) ∷ matches_at (pos 10) ∷ not (matches_at (pos 11)) ∷ []

-- ---- runs
-- a request on dossier 1 at time 0, by number, role, user, path and permission
abbrev pub asks : ℕ → ℕ → ℕ → Address → Permission → Call
asks number role user path p =
    request (record { number = number; dossier = 1; role = role; user = user; time = pos 0; path = path; name = 0; value = whole 0; permission = p }) []

abbrev pub always : ℕ → ℕ → Permission
always role action = permit role action 0 (pos 0) (pos 100)

abbrev pub no_permission : Permission
no_permission = permit 0 0 0 (pos 0) (pos 0)

abbrev pub plain : ℕ → ℕ → Address → Call
plain number user path = asks number 1 user path no_permission

abbrev pub numbers : List Reply → List ℕ
numbers l = map (λ r. number_of r.answer) l

abbrev pub answers : List Call → List ℕ → Bool
answers calls l = same_bytes (numbers (run calls)) l

-- "Delegating to one's own role: 8, when granted and covered."
abbrev pub example7 : List Bool
example7 =
    answers (asks 14 1 1 [] (always 2 4) ∷ asks 14 1 1 [] (always 2 1) ∷ asks 16 2 5 [] (always 2 1) ∷ []) (0 ∷ 0 ∷ 8 ∷ []) ∷ []

-- "New dossier, owner 5: image 01, nine zeros, 05, 29 zeros."
abbrev pub bytes_lent : List Reply → List ℕ
bytes_lent [] = []
bytes_lent (r ∷ []) = first_lent r.lent
  where
    first_lent : List (List ℕ) → List ℕ
    first_lent [] = []
    first_lent (b ∷ l) = b
bytes_lent (r ∷ s ∷ l) = bytes_lent (s ∷ l)

abbrev pub example8 : List Bool
example8 = same_bytes (bytes_lent (run (new 1 5 ∷ save 1 (replicate 40 255) ∷ []))) (1 ∷ (replicate 9 0 ++ (5 ∷ replicate 29 0))) ∷ []

-- "Root with 2 children: add at 3 granted to the owner, at 4 refused 3."
abbrev pub two_children : List Call
two_children = plain 3 1 (1 ∷ []) ∷ plain 3 1 (2 ∷ []) ∷ []

abbrev pub example9 : List Bool
example9 =
    answers (two_children ++ (plain 3 1 (3 ∷ []) ∷ [])) (0 ∷ 0 ∷ 0 ∷ []) ∷ answers (two_children ++ (plain 3 1 (4 ∷ []) ∷ [])) (0 ∷ 0 ∷ 3 ∷ []) ∷ []

-- "Change permission without read, not the owner: change refused 6."
abbrev pub example10 : List Bool
example10 = answers (asks 14 1 1 [] (always 2 2) ∷ asks 3 2 5 (1 ∷ []) no_permission ∷ []) (0 ∷ 6 ∷ []) ∷ []

-- a request on an attribute, by number, role, user, path and name
abbrev pub asks_of : ℕ → ℕ → ℕ → Address → ℕ → Call
asks_of number role user path name =
    request (record { number = number; dossier = 1; role = role; user = user; time = pos 0; path = path; name = name; value = whole 0; permission = no_permission }) []

-- "Pasting makes nobody an owner": user 1's node and attribute, copied by him and pasted by user 5, who may change the root, are read by user 1 and not by user 5
abbrev pub pasting : List Call
pasting =
    asks 14 1 1 [] (always 2 1)
    ∷ asks 14 1 1 [] (always 2 2)
    ∷ plain 3 1 (1 ∷ [])
    ∷ asks_of 8 1 1 [] 7
    ∷ plain 5 1 (1 ∷ [])
    ∷ asks_of 7 2 5 (2 ∷ []) 0
    ∷ asks_of 1 2 5 (2 ∷ []) 0
    ∷ asks_of 1 2 1 (2 ∷ []) 0
    ∷ asks_of 11 1 1 [] 7
    ∷ asks_of 13 2 5 [] 9
    ∷ asks_of 2 2 5 [] 9
    ∷ asks_of 2 2 1 [] 9
    ∷ []

abbrev pub example_paste : List Bool
example_paste = answers pasting (0 ∷ 0 ∷ 0 ∷ 0 ∷ 0 ∷ 0 ∷ 6 ∷ 0 ∷ 0 ∷ 0 ∷ 6 ∷ 0 ∷ []) ∷ []

abbrev pub starred : List Bool
starred =
    all example1
    ∷ all example2
    ∷ all example3
    ∷ all example4
    ∷ all example5
    ∷ all example6
    ∷ all example7
    ∷ all example8
    ∷ all example9
    ∷ all example10
    ∷ all example_paste
    ∷ []

pub all_starred : all starred ≡ true
unfolding step
all_starred = refl
