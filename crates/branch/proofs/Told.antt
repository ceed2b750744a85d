-- What load_branch answers, by what load answered and how many records stand before the first permission: in the words of the contracts. Assumes nothing.
use mathlib.Core.Path.{◌≡◌, sym, ap, ◌∙◌}
use mathlib.Core.Bool.{Bool, true, false}
use mathlib.Core.List.{List}
use Prim.Native.Nat.{ℕ, ◌+◌, ◌/◌, ◌≤◌, ◌<◌}
use native.Mathlib.Omega.{arith}
use lib.Dec.{ltb}
use lib.ListN.{length}
use borrow.Author.Tests.{lt-ltb, le-ltb}
use Rattle.std.proofs.Common.{Result, Ok, Err}
use Rattle.laws.specs.Slots.{pick}
use Rattle.path.proofs.Structs.{no}
use Rattle.model.specs.Things as things
use Rattle.model.specs.Image as images
use Rattle.model.specs.Image.{bad, good, records, before_permissions, load, load_added, all_owned}
use Rattle.roundtrip.proofs.Images.{records_length}
use Rattle.roundtrip.proofs.Adding.{told_at, added_told}
use Rattle.tables.specs.declared.Dossier.{Dossier}
use Rattle.tables.specs.View.{view_dossier, dossier_of}
use Rattle.tables.proofs.Rows.{view_dossier_lem}
use Rattle.image.specs.declared.BadRecord.{BadRecord}
use Rattle.image.specs.View.{loaded_of}
use Rattle.branch.proofs.Before.{before_few}

-- ---- what load answers, and what it stands for
abbrev dossier_in : Dossier → Result Dossier BadRecord → Dossier
dossier_in d (Ok x) = x
dossier_in d (Err k) = d

abbrev number_in : Result Dossier BadRecord → ℕ
number_in (Ok x) = 0
number_in (Err k) = k.number

abbrev is_good : Result Dossier BadRecord → Bool
is_good (Ok x) = true
is_good (Err k) = false

loaded_good : {d : Dossier} (o : images.Loaded things.Dossier) → Ok d ≡ loaded_of o → o ≡ good (view_dossier d)
loaded_good (bad n) e = no (ap is_good e)
loaded_good {d} (good m) e = ap good (sym (ap (λ x. view_dossier (dossier_in d x)) e ∙ view_dossier_lem m))

loaded_bad : {r : BadRecord} (o : images.Loaded things.Dossier) → Err r ≡ loaded_of o → o ≡ bad r.number
loaded_bad (bad n) e = ap bad (sym (ap number_in e))
loaded_bad (good d) e = no (sym (ap is_good e))

-- ---- k records stand before the first permission
module _ (b : List ℕ) (k : ℕ) (before : k ≡ before_permissions (records (length b / 40) b)) where
  pub few_before : k ≤ length b / 40
  few_before = let n = records_length (length b / 40) b in let f = before_few (records (length b / 40) b) in omega arith

  module _ (u : ℕ) where
    told : load_added u b ≡ told_at u (k + 1) (ltb k (length b / 40)) (load b)
    told =
        let n = records_length (length b / 40) b in
        let z : 1 + before_permissions (records (length b / 40) b) ≡ k + 1 = omega arith in
        let y = sym before in
        added_told u b ∙ (λ i. told_at u (z i) (ltb (y i) (n i)) (load b))

    -- the image loads: then a permission in it is refused
    module _ {m : Dossier} (loaded : Ok m ≡ loaded_of (load b)) where
      told_good : (c : Bool) → ltb k (length b / 40) ≡ c → load_added u b ≡ pick c (bad (k + 1)) (good (all_owned u (view_dossier m)))
      told_good c q = let e = loaded_good (load b) loaded in told ∙ (λ i. told_at u (k + 1) (q i) (e i))

      pub permission_there : k < length b / 40 → Err (record { number = k + 1 }) ≡ loaded_of (load_added u b)
      permission_there h = sym (ap loaded_of (told_good true (lt-ltb k (length b / 40) h)))

      pub permission_nowhere : {d : Dossier} → length b / 40 ≤ k → d ≡ dossier_of (all_owned u (view_dossier m))
          → Ok d ≡ loaded_of (load_added u b)
      permission_nowhere h e = ap Ok e ∙ sym (ap loaded_of (told_good false (le-ltb k (length b / 40) h)))

    -- it does not: then the earlier of the first permission and the bad record is refused
    module _ {r : BadRecord} (loaded : Err r ≡ loaded_of (load b)) where
      told_bad : (c : Bool) → ltb (k + 1) r.number ≡ c → load_added u b ≡ pick c (bad (k + 1)) (bad r.number)
      told_bad c q =
          told ∙ ap (told_at u (k + 1) (ltb k (length b / 40))) (loaded_bad (load b) loaded)
          ∙ ap (λ (x : Bool). pick {A = images.Loaded things.Dossier} x (bad (k + 1)) (bad r.number)) q

      pub permission_first : k + 1 < r.number → Err (record { number = k + 1 }) ≡ loaded_of (load_added u b)
      permission_first h = sym (ap loaded_of (told_bad true (lt-ltb (k + 1) r.number h)))

      pub bad_first : r.number ≤ k + 1 → Err r ≡ loaded_of (load_added u b)
      bad_first h = loaded ∙ ap loaded_of (loaded_bad (load b) loaded ∙ sym (told_bad false (le-ltb (k + 1) r.number h)))
