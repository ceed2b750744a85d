-- What a request is judged against, and the judgement.
use Rattle.std.specs.Prelude.{◌≡◌, false, List, ◌∷◌, ◌++◌, ℕ, Result, Ok, Err}
use Rattle.std.proofs.Math.Option.{Option, none, some}
use Rattle.model.specs.Decide.{Provisions}
use Rattle.model.specs.Refusals.{Request, Standing, at_root, wrong_clipboard, missing, provisions, granted, shelves, provided, first_that, refusal}
use Rattle.model.specs.Run.{signed_by}
use Rattle.tables.specs.declared.Dossier.{Dossier}
use Rattle.grants.specs.View.{view_decision}
use Rattle.state.specs.declared.refusal.Refusal.{Refusal}
use Rattle.state.specs.Refusals.{refusal_of}
use Rattle.refusals.specs.declared.Placed.{Placed}
use Rattle.refusals.specs.declared.Cache.{Cache}
use Rattle.refusals.specs.declared.Seen.{Seen}
use Rattle.refusals.specs.View.{view_placed, view_cache}
use Rattle.refusals.specs.Parts.{found_for}
use Rattle.refusals.specs.Look.{absent_in, taken_in, uncovered_in, clashing_in, totals_in}

-- the agreements in the user's row, and how many entries the log has
abbrev pub standing_of : Request → List ℕ → ℕ → Standing
standing_of r rows entries = record { signed = signed_by r.user rows; entries = entries }

-- a refusal, or the messages of what is granted
abbrev pub Judged : Type 0
Judged = Result ℕ Refusal

abbrev pub judged_of : Option ℕ → Option Provisions → Judged
judged_of (some n) may = Err (refusal_of n)
judged_of none may = Ok (provisions may).messages

-- the whole table, of a user who has signed so much and a log of so many entries
abbrev pub judgement : Dossier → Cache → ℕ → ℕ → Placed → Judged
judgement d c signed entries q =
    judged_of (refusal (view_placed q) (found_for d q) (view_cache c) (record { signed = signed; entries = entries })) (granted (view_placed q) (found_for d q))

-- the same from 2 on, of what is seen of the dossier
abbrev pub refusal_in : Seen → Cache → Standing → Placed → Option ℕ
refusal_in s c t q =
    let r = view_placed q in
    first_that
    ((2, at_root r)
    ∷ (3, absent_in s r)
    ∷ (4, taken_in s r)
    ∷ (5, wrong_clipboard r (view_cache c))
    ∷ (6, missing (view_decision s.may))
    ∷ (7, uncovered_in s r)
    ∷ (8, clashing_in s r)
    ∷ (shelves (totals_in s c q) ++ provided (provisions (view_decision s.may)) t))

abbrev pub judged_in : Seen → Cache → ℕ → ℕ → Placed → Judged
judged_in s c signed entries q = judged_of (refusal_in s c (record { signed = signed; entries = entries }) q) (view_decision s.may)

-- refusals 2 to 6 do not apply
pub record Passed (s : Seen) (c : Cache) (q : Placed) : Type 0 where
  pub root : at_root (view_placed q) ≡ false
  pub there : absent_in s (view_placed q) ≡ false
  pub free : taken_in s (view_placed q) ≡ false
  pub clipboard : wrong_clipboard (view_placed q) (view_cache c) ≡ false
  pub may : missing (view_decision s.may) ≡ false
