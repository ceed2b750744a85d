-- Request 17 by examples: whose the branch is, what is refused and in which order, and that the clipboard has no part in it.
use Rattle.std.specs.Prelude.{◌≡◌, refl, List, [], ◌∷◌, map, ℕ, zero, suc, pos, replicate, set}
use Rattle.path.specs.Address.{Address}
use Rattle.model.specs.Things.{whole, Row, Dossier}
use Rattle.model.specs.Image as images
use Rattle.model.specs.Image.{node_record, permission_record, bytes_of}
use Rattle.model.specs.Run.{Call, save, request, Answer, done, refused, bad_record, step, run}
use Rattle.model.specs.Starred.{always, no_permission, plain, asks_of, numbers, bytes_lent}

-- request 17 in dossier 1 at time 0, by role, user, path and image
abbrev pub adds : ℕ → ℕ → Address → List ℕ → Call
adds role user path image =
    request (record { number = 17; dossier = 1; role = role; user = user; time = pos 0; path = path; name = 0; value = whole 0; permission = no_permission }) image

abbrev pub answers_to : List Call → List Answer
answers_to calls = map (λ r. r.answer) (run calls)

-- a probe of two nodes and an attribute, which users 9 and 8 own
abbrev pub probe : Dossier
probe =
    record {
      nodes = ([], 9) ∷ (1 ∷ [], 8) ∷ [];
      attributes = ([], record { name = 5; owner = 9; value = whole 3 }) ∷ [];
      permissions = [];
    }

-- "Every object in it belongs to the adding user": user 1 reads what he added, and users 9 and 8 do not
pub branch_is_adders : numbers
    (run
    (adds 1 1 (1 ∷ []) (images.save probe)
    ∷ plain 1 1 (1 ∷ 1 ∷ [])
    ∷ asks_of 2 1 1 (1 ∷ []) 5
    ∷ plain 1 9 (1 ∷ [])
    ∷ plain 1 8 (1 ∷ 1 ∷ [])
    ∷ asks_of 2 1 9 (1 ∷ []) 5
    ∷ []))
    ≡ 0 ∷ 0 ∷ 0 ∷ 6 ∷ 6 ∷ 6 ∷ []
unfolding step
branch_is_adders = refl

-- the dossier afterwards, as its image
pub branch_placed : bytes_lent (run (plain 3 1 (1 ∷ []) ∷ adds 1 1 (1 ∷ []) (images.save probe) ∷ save 1 (replicate 200 255) ∷ []))
    ≡ images.save
    (record {
      nodes = ([], 1) ∷ (1 ∷ [], 1) ∷ (2 ∷ [], 1) ∷ (1 ∷ 1 ∷ [], 1) ∷ [];
      attributes = (1 ∷ [], record { name = 5; owner = 1; value = whole 3 }) ∷ [];
      permissions = [];
    })
unfolding step
branch_placed = refl

-- a permission of the root, as a record of the image that holds it behind the root
abbrev pub with_permission : List ℕ
with_permission = bytes_of (node_record ([], 9) ∷ permission_record ([], (0, always 2 1)) ∷ [])

-- "12, with the first record that is bad or a permission, tested after 1; the rest as for request 7 without 5": each answer is the first of those that are due
pub branch_refusals : answers_to
    (adds 1 0 [] []
    ∷ adds 1 1 [] []
    ∷ adds 1 1 [] with_permission
    ∷ adds 1 1 [] (set (images.save probe) 10 65)
    ∷ adds 1 1 [] (set with_permission 10 0)
    ∷ adds 1 1 [] (images.save probe)
    ∷ adds 1 1 (1 ∷ 1 ∷ []) (images.save probe)
    ∷ adds 1 5 (2 ∷ []) (images.save probe)
    ∷ adds 1 5 (1 ∷ []) (images.save probe)
    ∷ adds 1 1 (1 ∷ []) (images.save probe)
    ∷ plain 7 1 (1 ∷ [])
    ∷ plain 18 1 (1 ∷ [])
    ∷ [])
    ≡ refused 1
    ∷ bad_record 0
    ∷ bad_record 2
    ∷ bad_record 1
    ∷ bad_record 1
    ∷ refused 2
    ∷ refused 3
    ∷ refused 3
    ∷ refused 6
    ∷ done
    ∷ refused 5
    ∷ refused 1
    ∷ []
unfolding step
branch_refusals = refl

-- a root with so many children
abbrev pub children : ℕ → ℕ → List (Row ℕ)
children i zero = []
children i (suc n) = (i ∷ [], 9) ∷ children (suc i) n

abbrev pub wide : ℕ → List ℕ
wide n = images.save (record { nodes = ([], 9) ∷ children 1 n; attributes = []; permissions = [] })

-- bounds of dossier and image together: nodes
pub branch_shelves : numbers (run (adds 1 1 (1 ∷ []) (wide 30) ∷ adds 1 1 (2 ∷ []) (wide 31) ∷ adds 1 1 (2 ∷ []) (wide 30) ∷ adds 1 1 (1 ∷ 1 ∷ []) (wide 0) ∷ [])) ≡ 0 ∷ 0 ∷ 13 ∷ 13 ∷ []
unfolding step
branch_shelves = refl

-- and depth: a chain of nodes, whose longest path has five steps
abbrev pub chain : List ℕ
chain =
    images.save
    (record {
      nodes = ([], 9) ∷ (1 ∷ [], 9) ∷ (1 ∷ 1 ∷ [], 9) ∷ (1 ∷ 1 ∷ 1 ∷ [], 9) ∷ (1 ∷ 1 ∷ 1 ∷ 1 ∷ [], 9) ∷ (1 ∷ 1 ∷ 1 ∷ 1 ∷ 1 ∷ [], 9) ∷ [];
      attributes = [];
      permissions = [];
    })

pub branch_depth : numbers (run (adds 1 1 (1 ∷ []) chain ∷ adds 1 1 (1 ∷ 2 ∷ []) chain ∷ adds 1 1 (2 ∷ []) chain ∷ [])) ≡ 0 ∷ 14 ∷ 0 ∷ []
unfolding step
branch_depth = refl
