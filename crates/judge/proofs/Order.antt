-- The first test that applies is given. Assumes nothing.
use mathlib.Core.Path.{◌≡◌, refl, sym, ap, ◌∙◌}
use mathlib.Core.Bool.{Bool, true, false, ◌&&◌, ◌||◌, not}
use mathlib.Core.Option.{Option, none, some}
use mathlib.Core.List.{List, [], ◌∷◌, ◌++◌}
use Prim.Native.Nat.{ℕ, ◌≤◌}
use native.Mathlib.Omega.{arith}
use lib.Dec.{T, leb, leb→le}
use Rattle.laws.specs.Slots.{pick}
use Rattle.path.specs.Address.{valid}
use Rattle.path.proofs.Structs.{no, both}
use Rattle.model.specs.Refusals.{Request, Found, Cached, Standing, bad_operand, common_good, own_good, between, role_good, user_good, time_good, at_root, wrong_clipboard, missing, granted, nodes_over, depth_over, children_over, attributes_over, on_node_over, permissions_over, shelves, provisions, unsigned, log_full, provided, first_that, refusal}
use Rattle.tables.specs.declared.Dossier.{Dossier}
use Rattle.std.specs.Prelude as std
use Rattle.grants.specs.declared.Provisions as grants
use Rattle.grants.specs.View.{view_decision}
use Rattle.grants.proofs.Told.{decision_seen}
use Rattle.std.specs.Prelude.{Ok, Err}
use Rattle.state.specs.declared.refusal.Refusal.{Refusal}
use Rattle.state.specs.declared.refusal.Refusal.TheVariants.{BadOperand, AtRoot, Absent, NameTaken, WrongClipboard, NotGranted, NotCovered, Clashes, Unsigned, LogFull}
use Rattle.state.specs.Refusals.{number_of, refusal_of}
use Rattle.state.proofs.Numbers.{refusal_back}
use Rattle.judge.specs.View.{Judged, judged_of, judgement, refusal_in, judged_in, Passed}
use Rattle.refusals.specs.declared.Placed.{Placed}
use Rattle.refusals.specs.declared.Cache.{Cache}
use Rattle.refusals.specs.declared.Seen.{Seen}
use Rattle.refusals.specs.View.{view_placed, view_cache}
use Rattle.refusals.specs.Parts.{found_for}
use Rattle.refusals.specs.Look.{seen_of, absent_in, taken_in, uncovered_in, clashing_in, totals_in}
use Rattle.refusals.proofs.Looked.{absent_seen, taken_seen, uncovered_seen, clashing_seen, totals_seen}

-- what is not granted has no provisions
pub denied_seen : (o : std.Option grants.Provisions) → std.is_some o ≡ false → missing (view_decision o) ≡ true
denied_seen std.None e = refl
denied_seen (std.Some p) e = no e

skip : {A : Type 0} (t : Bool) (x y : A) → t ≡ false → pick t x y ≡ y
skip t x y e = rw e

hit : {A : Type 0} (t : Bool) (x y : A) → t ≡ true → pick t x y ≡ x
hit t x y e = rw e

-- a table behind a table: looked at where nothing applies before it
abbrev or_else : Option ℕ → Option ℕ → Option ℕ
or_else none o = o
or_else (some n) o = some n

first_of_both : (l m : List (ℕ × Bool)) → first_that (l ++ m) ≡ or_else (first_that l) (first_that m)
first_of_both [] m = refl
first_of_both (row ∷ l) m = go row.1 (first_of_both l m)
  where
    go : (b : Bool) → first_that (l ++ m) ≡ or_else (first_that l) (first_that m)
        → pick b (some row.0) (first_that (l ++ m)) ≡ or_else (pick b (some row.0) (first_that l)) (first_that m)
    go true behind = refl
    go false behind = behind

-- no shelf is told as a bad image
no_twelve : (a b c d e : Bool) (n : ℕ) → some n ≡ first_that ((13, a) ∷ (14, b) ∷ (15, c) ∷ (16, d) ∷ (17, e) ∷ []) → n ≡ 12 → ⊥
no_twelve true b c d e n h k = let z : ◌≡◌ {A = ℕ} n 13 = cc in omega arith
no_twelve false true c d e n h k = let z : ◌≡◌ {A = ℕ} n 14 = cc in omega arith
no_twelve false false true d e n h k = let z : ◌≡◌ {A = ℕ} n 15 = cc in omega arith
no_twelve false false false true e n h k = let z : ◌≡◌ {A = ℕ} n 16 = cc in omega arith
no_twelve false false false false true n h k = let z : ◌≡◌ {A = ℕ} n 17 = cc in omega arith
no_twelve false false false false false n h k = cc

-- ---- the operands that were good
not_bad : (b : Bool) → not b ≡ false → T b
not_bad true e = tt
not_bad false e = no e

pub record Good (r : Request) : Type 0 where
  pub user_least : 1 ≤ r.user
  pub user_most : r.user ≤ 64
  pub path : T (valid r.path)

pub good : (r : Request) → bad_operand r ≡ false → Good r
good r e =
    let common = (both (common_good r) (own_good r) (not_bad (common_good r && own_good r) e)).0 in
    let role = (both (between 1 2 r.dossier) (role_good r.role && (user_good r.user && (time_good r.time && valid r.path))) common).1 in
    let user = (both (role_good r.role) (user_good r.user && (time_good r.time && valid r.path)) role).1 in
    let time = both (user_good r.user) (time_good r.time && valid r.path) user in
    let range = both (leb 1 r.user) (leb r.user 64) time.0 in
    record { user_least = leb→le 1 r.user range.0; user_most = leb→le r.user 64 range.1; path = (both (time_good r.time) (valid r.path) time.1).1 }

-- ---- the table
pub refused_1 : (r : Request) (f : Found) (c : Cached) (t : Standing) → bad_operand r ≡ true → Err BadOperand ≡ judged_of (refusal r f c t) (granted r f)
unfolding refusal_of
refused_1 r f c t e = sym (ap (λ o. judged_of o (granted r f)) (hit (bad_operand r) _ _ e))

-- with good operands what is seen of the dossier is judged as the dossier is
pub on_seen : (d : Dossier) (c : Cache) (signed entries : ℕ) (q : Placed) → bad_operand (view_placed q) ≡ false → judged_in (seen_of d q) c signed entries q ≡ judgement d c signed entries q
on_seen d c signed entries q operands =
    let r = view_placed q in
    let f = found_for d q in
    let t : Standing = record { signed = signed; entries = entries } in
    let may = decision_seen (granted r f) in
    (λ i. judged_of
    (first_that
    ((2, at_root r) ∷ (3, absent_seen d q i) ∷ (4, taken_seen d q i) ∷ (5, wrong_clipboard r (view_cache c)) ∷ (6, missing (may i)) ∷ (7, uncovered_seen d q i) ∷ (8, clashing_seen d q i)
    ∷ (shelves (totals_seen d q (view_cache c) i) ++ provided (provisions (may i)) t)))
    (may i))
    ∙ sym (ap (λ o. judged_of o (granted r f)) (skip (bad_operand r) _ _ operands))

module _ (s : Seen) (c : Cache) (signed entries : ℕ) (q : Placed) where
  abbrev r : Request
  r = view_placed q

  abbrev t : Standing
  t = record { signed = signed; entries = entries }

  abbrev denied : Bool
  denied = missing (view_decision s.may)

  abbrev pub verdict : Judged
  verdict = judged_in s c signed entries q

  given : {o : Option ℕ} → refusal_in s c t q ≡ o → judged_of o (view_decision s.may) ≡ verdict
  given e = sym (ap (λ o. judged_of o (view_decision s.may)) e)

  pub refused_2 : at_root r ≡ true → Err AtRoot ≡ verdict
  unfolding refusal_of
  refused_2 e = given (hit (at_root r) _ _ e)

  pub refused_3 : at_root r ≡ false → absent_in s r ≡ true → Err Absent ≡ verdict
  unfolding refusal_of
  refused_3 root e = given (skip (at_root r) _ _ root ∙ hit (absent_in s r) _ _ e)

  pub refused_4 : at_root r ≡ false → absent_in s r ≡ false → taken_in s r ≡ true → Err NameTaken ≡ verdict
  unfolding refusal_of
  refused_4 root there e = given (skip (at_root r) _ _ root ∙ skip (absent_in s r) _ _ there ∙ hit (taken_in s r) _ _ e)

  pub refused_5 : at_root r ≡ false → absent_in s r ≡ false → taken_in s r ≡ false → wrong_clipboard r (view_cache c) ≡ true → Err WrongClipboard ≡ verdict
  unfolding refusal_of
  refused_5 root there free e =
      given (skip (at_root r) _ _ root ∙ skip (absent_in s r) _ _ there ∙ skip (taken_in s r) _ _ free ∙ hit (wrong_clipboard r (view_cache c)) _ _ e)

  pub refused_6 : at_root r ≡ false → absent_in s r ≡ false → taken_in s r ≡ false → wrong_clipboard r (view_cache c) ≡ false → denied ≡ true → Err NotGranted ≡ verdict
  unfolding refusal_of
  refused_6 root there free clipboard e =
      given (skip (at_root r) _ _ root ∙ skip (absent_in s r) _ _ there ∙ skip (taken_in s r) _ _ free ∙ skip (wrong_clipboard r (view_cache c)) _ _ clipboard ∙ hit denied _ _ e)

  module _ (passed : Passed s c q) where
    abbrev last_tests : List (ℕ × Bool)
    last_tests = provided (provisions (view_decision s.may)) t

    -- the tests from 7 on
    past : refusal_in s c t q ≡ first_that ((7, uncovered_in s r) ∷ (8, clashing_in s r) ∷ (shelves (totals_in s c q) ++ last_tests))
    past =
        skip (at_root r) _ _ passed.root ∙ skip (absent_in s r) _ _ passed.there ∙ skip (taken_in s r) _ _ passed.free
        ∙ skip (wrong_clipboard r (view_cache c)) _ _ passed.clipboard ∙ skip denied _ _ passed.may

    pub refused_7 : uncovered_in s r ≡ true → Err NotCovered ≡ verdict
    unfolding refusal_of
    refused_7 e = given (past ∙ hit (uncovered_in s r) _ _ e)

    module _ (cover : uncovered_in s r ≡ false) where
      pub refused_8 : clashing_in s r ≡ true → Err Clashes ≡ verdict
      unfolding refusal_of
      refused_8 e = given (past ∙ skip (uncovered_in s r) _ _ cover ∙ hit (clashing_in s r) _ _ e)

      module _ (apart : clashing_in s r ≡ false) where
        -- the shelves, and what stands behind them
        shelved : {o : Option ℕ} → first_that (shelves (totals_in s c q)) ≡ o → refusal_in s c t q ≡ or_else o (first_that last_tests)
        shelved e =
            past ∙ skip (uncovered_in s r) _ _ cover ∙ skip (clashing_in s r) _ _ apart ∙ first_of_both (shelves (totals_in s c q)) last_tests
            ∙ ap (λ o. or_else o (first_that last_tests)) e

        pub refused_full : (full : Refusal) → some (number_of full) ≡ first_that (shelves (totals_in s c q)) → Err full ≡ verdict
        refused_full full e =
            let t = totals_in s c q in
            ap Err (sym (refusal_back full (no_twelve (nodes_over t.nodes) (depth_over t.depth) (children_over t.children) (attributes_over t.attributes || on_node_over t.on_node) (permissions_over t.permissions) (number_of full) e)))
            ∙ given (shelved (sym e))

        module _ (room : first_that (shelves (totals_in s c q)) ≡ none) where
          pub refused_10 : unsigned (provisions (view_decision s.may)) t ≡ true → Err Unsigned ≡ verdict
          unfolding refusal_of
          refused_10 e = given (shelved room ∙ hit (unsigned (provisions (view_decision s.may)) t) _ _ e)

          last_test : unsigned (provisions (view_decision s.may)) t ≡ false → refusal_in s c t q ≡ first_that ((11, log_full (provisions (view_decision s.may)) t) ∷ [])
          last_test signed = shelved room ∙ skip (unsigned (provisions (view_decision s.may)) t) _ _ signed

          pub refused_11 : unsigned (provisions (view_decision s.may)) t ≡ false → log_full (provisions (view_decision s.may)) t ≡ true → Err LogFull ≡ verdict
          unfolding refusal_of
          refused_11 signed e = given (last_test signed ∙ hit (log_full (provisions (view_decision s.may)) t) _ _ e)

          pub allowed : unsigned (provisions (view_decision s.may)) t ≡ false → log_full (provisions (view_decision s.may)) t ≡ false → Ok (provisions (view_decision s.may)).messages ≡ verdict
          allowed signed e = given (last_test signed ∙ skip (log_full (provisions (view_decision s.may)) t) _ _ e)
