-- A request that is not refused passed every test, and its number is in the table of requests. Assumes nothing.
use mathlib.Core.Path.{◌≡◌, sym, subst}
use mathlib.Core.Bool.{Bool, true, false, ◌&&◌, ◌||◌}
use mathlib.Core.Option.{Option, none}
use mathlib.Core.List.{List, [], ◌∷◌, ◌++◌}
use Prim.Native.Nat.{ℕ, ◌≤◌}
use lib.Dec.{T, eqb, leb, ltb, leb→le, nltb→le, eqb→eq, not_T}
use lib.ListN.{length}
use mir.Facts.{and_yes}
use Rattle.laws.specs.Slots.{pick, All}
use Rattle.path.specs.Address.{steps_good, valid}
use Rattle.model.specs.Decide.{Provisions}
use Rattle.model.specs.Refusals.{Request, among, choose, Found, Cached, missing, between, user_good, role_good, name_good, time_good, value_good, common_good, grant_good, own_good, bad_operand, at_root, absent, taken, wrong_clipboard, granted, uncovered, clashing, Totals, totals, attributes_over, on_node_over, shelves, provisions, Standing, log_full, provided, refusal}
use Rattle.roundtrip.proofs.Checks.{not_not, neither}
use Rattle.twin.proofs.Refusal.{Rows, Untrue, no_refusal}

-- the table of refusals, told what is granted and whether nothing covers
abbrev pub tests : Request → Found → Cached → Standing → Option Provisions → Bool → Rows
tests r f c s g nocover =
    (1, bad_operand r)
    ∷ (2, at_root r)
    ∷ (3, absent r f)
    ∷ (4, taken r f)
    ∷ (5, wrong_clipboard r c)
    ∷ (6, missing g)
    ∷ (7, nocover)
    ∷ (8, clashing r f)
    ∷ (shelves (totals r f c) ++ provided (provisions g) s)

-- every bound is kept
pub record Within (t : Totals) : Type 0 where
  pub nodes : t.nodes ≤ 64
  pub depth : t.depth ≤ 6
  pub children : t.children ≤ 32
  pub attributes : t.attributes ≤ 256
  pub on_node : t.on_node ≤ 16
  pub permissions : t.permissions ≤ 128

pub below : (a b : ℕ) → (T (ltb a b) → ⊥) → b ≤ a
below a b n = nltb→le a b (not_T (ltb a b) n)

-- the part of the table that tells the shelves, where none applies
within : (t : Totals) (l : Rows) → All Untrue (shelves t ++ l) → Within t
within t l w =
    let attributes = neither (attributes_over t.attributes) (on_node_over t.on_node) (subst T w.1.1.1.0) in
    record {
      nodes = below 64 t.nodes (subst T w.0);
      depth = below 6 t.depth (subst T w.1.0);
      children = below 32 t.children (subst T w.1.1.0);
      attributes = below 256 t.attributes attributes.0;
      on_node = below 16 t.on_node attributes.1;
      permissions = below 128 t.permissions (subst T w.1.1.1.1.0);
    }

pub record Passed (r : Request) (f : Found) (c : Cached) (s : Standing) : Type 0 where
  pub operands : T (bad_operand r) → ⊥
  pub root : T (at_root r) → ⊥
  pub there : T (absent r f) → ⊥
  pub free : T (taken r f) → ⊥
  pub kind : T (wrong_clipboard r c) → ⊥
  pub clash : T (clashing r f) → ⊥
  pub bounds : Within (totals r f c)
  pub log : T (log_full (provisions (granted r f)) s) → ⊥

pub passed : (r : Request) (f : Found) (c : Cached) (s : Standing) → refusal r f c s ≡ none → Passed r f c s
passed r f c s e =
    let w = (no_refusal (tests r f c s (granted r f) (uncovered r f))).0 e in
    let above = w.1.1.1.1.1.1.1.1 in
    record {
      operands = subst T w.0;
      root = subst T w.1.0;
      there = subst T w.1.1.0;
      free = subst T w.1.1.1.0;
      kind = subst T w.1.1.1.1.0;
      clash = subst T w.1.1.1.1.1.1.1.0;
      bounds = within (totals r f c) (provided (provisions (granted r f)) s) above;
      log = subst T above.1.1.1.1.1.1.0;
    }

-- ---- operands
pub operands_good : (r : Request) → (T (bad_operand r) → ⊥) → T (common_good r) × T (own_good r)
operands_good r n = and_yes (common_good r) (own_good r) (not_not (common_good r && own_good r) n)

pub record Common (r : Request) : Type 0 where
  pub user : T (user_good r.user)
  pub short : length r.path ≤ 6
  pub steps : T (steps_good r.path)

common : (r : Request) → T (common_good r) → Common r
common r t =
    let a = and_yes (between 1 2 r.dossier) (role_good r.role && (user_good r.user && (time_good r.time && valid r.path))) t in
    let b = and_yes (role_good r.role) (user_good r.user && (time_good r.time && valid r.path)) a.1 in
    let c = and_yes (user_good r.user) (time_good r.time && valid r.path) b.1 in
    let d = and_yes (time_good r.time) (valid r.path) c.1 in
    let e = and_yes (leb (length r.path) 6) (steps_good r.path) d.1 in
    record { user = c.0; short = leb→le (length r.path) 6 e.0; steps = e.1 }

pub request_common : (r : Request) → (T (bad_operand r) → ⊥) → Common r
request_common r n = common r (operands_good r n).0

-- ---- by the number of the request
-- the same request under another number
abbrev pub numbered : ℕ → Request → Request
numbered n r =
    record { number = n; dossier = r.dossier; role = r.role; user = r.user; time = r.time; path = r.path; name = r.name; value = r.value; permission = r.permission }

module _ (F : ℕ → Type 0) (n : ℕ) where
  one_of : (l : List ℕ) → All F l → T (among n l) → F n
  one_of [] a t = absurd t
  one_of (k ∷ l) a t = go (eqb n k) (λ s. subst F (sym (eqb→eq n k s)) a.0) (one_of l a.1) t
    where
      go : (b : Bool) → (T b → F n) → (T (among n l) → F n) → T (b || among n l) → F n
      go true f g s = f tt
      go false f g s = g s

  -- what holds of each number in a table of tests holds of a number whose test is passed
  by_number : (l : List (List ℕ × Bool)) → All (λ row. All F row.0) l → T (choose n false l) → F n
  by_number [] a t = absurd t
  by_number (row ∷ l) a t = go (among n row.0) (one_of row.0 a.0) (by_number l a.1) t
    where
      go : (b : Bool) → (T b → F n) → (T (choose n false l) → F n) → T (pick b row.1 (choose n false l)) → F n
      go true f g s = f tt
      go false f g s = g s

-- every number that there is: "unknown request" is refused
pub every_number : (F : ℕ → Type 0) (r : Request)
    → All (λ l. All F l) ((1 ∷ 3 ∷ 4 ∷ 5 ∷ 6 ∷ 7 ∷ 17 ∷ []) ∷ (2 ∷ 9 ∷ 11 ∷ 12 ∷ 13 ∷ []) ∷ (8 ∷ 10 ∷ []) ∷ (14 ∷ 15 ∷ []) ∷ (16 ∷ []) ∷ [])
    → T (own_good r) → F r.number
every_number F r a t =
    by_number F r.number
    ((1 ∷ 3 ∷ 4 ∷ 5 ∷ 6 ∷ 7 ∷ 17 ∷ [], true)
    ∷ (2 ∷ 9 ∷ 11 ∷ 12 ∷ 13 ∷ [], name_good r.name)
    ∷ (8 ∷ 10 ∷ [], name_good r.name && value_good r.value)
    ∷ (14 ∷ 15 ∷ [], grant_good r)
    ∷ (16 ∷ [], grant_good r && leb r.permission.action 2)
    ∷ [])
    a t
