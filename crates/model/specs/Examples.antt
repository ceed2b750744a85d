-- Examples 11, 12 and 13 of document 01, as runs from the fresh state, and the shelves in their order.
use Rattle.std.specs.Prelude.{◌≡◌, refl, List, [], ◌∷◌, ◌++◌, ℕ, zero, suc, pos, replicate}
use Rattle.std.proofs.Math.Option.{Option, none, some}
use Rattle.path.specs.Address.{Address, child}
use Rattle.model.specs.Things.{Permission}
use Rattle.model.specs.Refusals.{shelves, first_that}
use Rattle.model.specs.Run.{Call, new, sign, take_log, step, run}
use Rattle.model.specs.Starred.{asks, no_permission, plain, numbers}

-- ---- "A branch with node paths of 3 steps below its top pastes at depth 3, not at 4 (9)"; "the 9 of example 11 becomes 14"
-- the branch at 1 with 1.1, 1.1.1 and 1.1.1.1, and its copy
abbrev pub deep_branch : List Call
deep_branch = plain 3 1 (1 ∷ []) ∷ plain 3 1 (1 ∷ 1 ∷ []) ∷ plain 3 1 (1 ∷ 1 ∷ 1 ∷ []) ∷ plain 3 1 (1 ∷ 1 ∷ 1 ∷ 1 ∷ []) ∷ plain 5 1 (1 ∷ []) ∷ []

pub example11 : numbers (run (deep_branch ++ (plain 7 1 (1 ∷ 1 ∷ 1 ∷ 2 ∷ []) ∷ plain 7 1 (1 ∷ 1 ∷ 2 ∷ []) ∷ []))) ≡ replicate 5 0 ++ (14 ∷ 0 ∷ [])
unfolding step
example11 = refl

-- ---- "Node 64 is added; node 65 refused 9"; "that of example 12 becomes 13"
-- so many nodes added by user 1 below a node, from a step on
abbrev pub adds_below : Address → ℕ → ℕ → List Call
adds_below p i zero = []
adds_below p i (suc n) = plain 3 1 (child p i) ∷ adds_below p (suc i) n

-- the root is the first, its children 2 to 33, and the children of 1 the others
pub example12_nodes : numbers (run (adds_below [] 1 32 ++ adds_below (1 ∷ []) 1 32)) ≡ replicate 63 0 ++ (13 ∷ [])
unfolding step
example12_nodes = refl

-- ---- "Entry 256 is logged; 257 refused 11"
-- permissions of two roles to read the root: with messages 0 to 30, and with message 31
abbrev pub logs : ℕ → ℕ → Permission
logs role messages = record { role = role; action = 1; user = 0; first = pos 0; last = pos 100; messages = messages; agreements = 0 }

-- 8 reads log 31 entries each, 8 more one each; the next would be entry 257. The log is 512 bytes then, and its room is usable again
abbrev pub fill_log : List Call
fill_log =
    asks 14 1 1 [] (logs 2 2147483647)
    ∷ asks 14 1 1 [] (logs 3 2147483648)
    ∷ (replicate 8 (asks 1 2 5 [] no_permission) ++ replicate 8 (asks 1 3 5 [] no_permission))

pub example12_log : numbers (run (fill_log ++ (asks 1 3 5 [] no_permission ∷ take_log (replicate 511 0) ∷ take_log (replicate 512 0) ∷ asks 1 3 5 [] no_permission ∷ [])))
    ≡ replicate 18 0 ++ (11 ∷ 9 ∷ 0 ∷ 0 ∷ [])
unfolding step
example12_log = refl

-- ---- "16 attributes (dossier or node)", "tested in that order": the shelf that is told of several
abbrev pub told : ℕ → ℕ → ℕ → ℕ → ℕ → ℕ → Option ℕ
told nodes depth children attributes on_node permissions =
    first_that
    (shelves (record { nodes = nodes; depth = depth; children = children; attributes = attributes; on_node = on_node; permissions = permissions }))

pub shelves_in_order : told 65 7 33 257 17 129
    ∷ told 64 7 33 257 17 129
    ∷ told 64 6 33 257 17 129
    ∷ told 64 6 32 257 16 129
    ∷ told 64 6 32 256 17 129
    ∷ told 64 6 32 256 16 129
    ∷ told 64 6 32 256 16 128
    ∷ []
    ≡ some 13 ∷ some 14 ∷ some 15 ∷ some 16 ∷ some 16 ∷ some 17 ∷ none ∷ []
shelves_in_order = refl

-- a 33rd child, in front of the others: the dossier has room for 31 nodes more
pub shelf_of_children : numbers (run (adds_below [] 1 32 ++ (plain 3 1 (1 ∷ []) ∷ []))) ≡ replicate 32 0 ++ (15 ∷ [])
unfolding step
shelf_of_children = refl

-- ---- "Blank user: 1, before anything else"
-- every request by a blank user, and those numbers that are no request's
abbrev pub blanks : ℕ → List Call
blanks zero = plain 0 0 [] ∷ []
blanks (suc n) = plain (suc n) 0 [] ∷ blanks n

pub example13 : numbers (run (new 1 0 ∷ sign 0 3 ∷ blanks 18)) ≡ replicate 21 1
unfolding step
example13 = refl
