-- Every call on the tree editor keeps what holds of good trees, clipboards, signatures and logs. Assumes nothing.
use mathlib.Core.Path.{◌≡◌, refl, sym, subst, ◌∙◌}
use mathlib.Core.Logic.{◌⊎◌, inl, inr, ⊎_elim}
use mathlib.Core.Bool.{Bool, true, false, not, ◌&&◌}
use mathlib.Core.Option.{Option, none, some}
use mathlib.Core.List.Memᴰ
use mathlib.Core.List.{List, [], ◌∷◌, map}
use Prim.Native.Nat.{ℕ, zero, suc, ◌+◌, ◌-◌, ◌/◌, ◌%◌, ◌^◌, ◌≤◌, ◌<◌}
use native.Mathlib.Nat.{pow-le-pow_right}
use native.Mathlib.Omega.{arith}
use lib.Dec.{T, eqb, leb, ltb, leb→le, nltb→le, not_T}
use lib.Bits.{bit_or, or_lt}
use lib.ListN.{length, get_or, set, replicate, length-append, length-map, length-set}
use mir.Facts.{and_yes}
use Rattle.laws.specs.Slots.{pick}
use Rattle.laws.specs.Sorted.{◌∈◌, push}
use Rattle.model.specs.Decide.{members_from, members}
use Rattle.model.specs.Refusals.{Request, user_good, granted, provisions, first_that, refusal}
use Rattle.model.specs.Image.{Loaded, bad, good}
use Rattle.model.specs.Run.{Call, start, new, load, save, save_clipboard, sign, take_log, request, ask, Answer, done, refused, Reply, reply, short, writes, dossier_good, signed_by, signed, logged, log_bytes, standing}
use Rattle.roundtrip.proofs.Checks.{not_not}
use Rattle.twin.specs.Tree.{Tree}
use Rattle.twin.specs.Twin.{Node, Clip, Session, leaf, begun, saved, saved_clip, found, cached, edited, clipped, dossier, with_dossier, with_clipboard, with_log, with_signatures, carried_out, requested_from, load_tree, source, requested_with, requested, loaded, or_refused, step}
use Rattle.twin.specs.Good.{GoodTree, GoodClip, GoodSession}
use Rattle.twin.proofs.KeepEdits.{leaf_good, dossier_good_lem}
use Rattle.twin.proofs.Refusal.{no_refusal}
use Rattle.twin.proofs.Requests.{Passed, passed, request_common}
use Rattle.twin.proofs.KeepLoad.{Loads, load_good}
use Rattle.twin.proofs.KeepRequest.{request_good}
use Rattle.twin.proofs.Added.{source_good}

-- ---- signatures
blank_in : (n m : ℕ) → m ∈ replicate n 0 → m ≡ 0
blank_in zero m h = absurd (Memᴰ.not-nil h)
blank_in (suc n) m (Memᴰ.head e) = e
blank_in (suc n) m (Memᴰ.tail h) = blank_in n m h

set_back : (l : List ℕ) (i a m : ℕ) → m ∈ set l i a → (m ≡ a) ⊎ (m ∈ l)
set_back [] i a m h = inr h
set_back (x ∷ l) zero a m (Memᴰ.head e) = inl e
set_back (x ∷ l) zero a m (Memᴰ.tail h) = inr (Memᴰ.tail h)
set_back (x ∷ l) (suc i) a m (Memᴰ.head e) = inr (Memᴰ.head e)
set_back (x ∷ l) (suc i) a m (Memᴰ.tail h) = ⊎_elim (λ e. inl e) (λ k. inr (Memᴰ.tail k)) (set_back l i a m h)

get_d_le : (l : List ℕ) (i b : ℕ) → ((n : ℕ) → n ∈ l → n ≤ b) → get_or l i 0 ≤ b
get_d_le [] i b h = omega arith
get_d_le (x ∷ l) zero b h = h x (Memᴰ.head refl)
get_d_le (x ∷ l) (suc i) b h = get_d_le l i b (λ n m. h n (Memᴰ.tail m))

one_more : (a n : ℕ) → a ≤ 31 → n ≤ 4294967295 → bit_or n (2 ^ a) ≤ 4294967295
one_more a n h k =
    let p : 2 ^ a ≤ 2147483648 = pow-le-pow_right {n = 2} (omega arith) {i = a} {j = 31} h in
    let q : bit_or n (2 ^ a) < 4294967296 = or_lt 32 n (2 ^ a) (omega arith) (omega arith) in omega arith

-- ---- messages
members_low : (k n set m : ℕ) → m ∈ members_from k n set → m < k + n
members_low zero n set m h = absurd (Memᴰ.not-nil h)
members_low (suc k) n set m h = go (eqb (set % 2) 1) (members_low k (suc n) (set / 2) m) h
  where
    go : (b : Bool) → (m ∈ members_from k (suc n) (set / 2) → m < k + suc n) → m ∈ push (pick b (some n) none) (members_from k (suc n) (set / 2)) → m < suc k + n
    go true f (Memᴰ.head e) = omega arith
    go true f (Memᴰ.tail i) = let l : m < k + suc n = f i in omega arith
    go false f i = let l : m < k + suc n = f i in omega arith

-- ---- parts of a session
pub begun_good : GoodSession begun
begun_good = record {
  one = leaf_good 1 tt;
  two = leaf_good 1 tt;
  clipboard = tt;
  rows = refl;
  agreements = λ n m. let e : n ≡ 0 = blank_in 64 n m in omega arith;
  entries = omega arith;
  log = λ e m. absurd (Memᴰ.not-nil m);
}

with_dossier_lem : (n : ℕ) (t : Tree Node) (s : Session) → GoodTree t → GoodSession s → GoodSession (with_dossier n t s)
with_dossier_lem n t s h g = go (eqb n 1)
  where
    go : (b : Bool)
        → GoodSession (pick b (record { one = t; two = s.two; clipboard = s.clipboard; signatures = s.signatures; log = s.log })
        (record { one = s.one; two = t; clipboard = s.clipboard; signatures = s.signatures; log = s.log }))
    go true = record { one = h; two = g.two; clipboard = g.clipboard; rows = g.rows; agreements = g.agreements; entries = g.entries; log = g.log }
    go false = record { one = g.one; two = h; clipboard = g.clipboard; rows = g.rows; agreements = g.agreements; entries = g.entries; log = g.log }

with_clipboard_lem : (c : Clip) (s : Session) → GoodClip c → GoodSession s → GoodSession (with_clipboard c s)
with_clipboard_lem c s h g = record { one = g.one; two = g.two; clipboard = h; rows = g.rows; agreements = g.agreements; entries = g.entries; log = g.log }

with_log_lem : (user messages : ℕ) (l : List (ℕ × ℕ)) (s : Session) → T (user_good user) → length l + length (members messages) ≤ 256 → ((e : ℕ × ℕ) → e ∈ l → T (user_good e.0) × (e.1 ≤ 31)) → GoodSession s
    → GoodSession (with_log (logged user messages l) s)
with_log_lem user messages l s u b h g = record {
  one = g.one;
  two = g.two;
  clipboard = g.clipboard;
  rows = g.rows;
  agreements = g.agreements;
  entries = omega (arith, length-append l (map (λ m. (user, m)) (members messages)), length-map {B = ℕ × ℕ} (members messages) (λ m. (user, m)));
  log = λ e m. go e (Memᴰ.append_cases l m);
}
  where
    go : (e : ℕ × ℕ) → (e ∈ l) ⊎ (e ∈ map (λ m. (user, m)) (members messages)) → T (user_good e.0) × (e.1 ≤ 31)
    go e (inl m) = h e m
    go e (inr m) =
        let w = Memᴰ.of_map {B = ℕ × ℕ} (λ k. (user, k)) (members messages) m in
        let k : w.0 < 32 + 0 = members_low 32 0 messages w.0 w.1 in
        subst (λ (x : ℕ × ℕ). T (user_good x.0) × (x.1 ≤ 31)) w.2 (u, omega arith)

signed_good : (user agreement : ℕ) (s : Session) → agreement ≤ 31 → GoodSession s → GoodSession (with_signatures (signed user agreement s.signatures) s)
signed_good user agreement s h g = record {
  one = g.one;
  two = g.two;
  clipboard = g.clipboard;
  rows = length-set s.signatures (user - 1) (bit_or (signed_by user s.signatures) (2 ^ agreement)) ∙ g.rows;
  agreements = λ n m. ⊎_elim
      (λ e. subst (λ (k : ℕ). k ≤ 4294967295) (sym e) (one_more agreement (signed_by user s.signatures) h (get_d_le s.signatures (user - 1) 4294967295 g.agreements)))
      (λ k. g.agreements n k) (set_back s.signatures (user - 1) (bit_or (signed_by user s.signatures) (2 ^ agreement)) n m);
  entries = g.entries;
  log = g.log;
}

-- what a call leaves is good
abbrev Leaves : {A : Type 0} → Session × A → Type 0
Leaves w = GoodSession w.0

-- ---- answers: a refused call leaves the session as it was
refused_good : (o : Option ℕ) (s s' : Session) (a : Answer) → GoodSession s → (o ≡ none → GoodSession s') → GoodSession (or_refused o s s' a).0
refused_good none s s' a g f = f refl
refused_good (some n) s s' a g f = g

writes_good : (o : Option ℕ) (s s' : Session) (b c : List ℕ) → GoodSession s → GoodSession s' → GoodSession (writes o s s' b c).0
writes_good none s s' b c g g' = g'
writes_good (some n) s s' b c g g' = g

loaded_good : (s : Session) (n : ℕ) (image : List ℕ) (o : Loaded (Option (Tree Node))) → Loads o → GoodSession s → GoodSession (loaded s n image o).0
loaded_good s n image (bad k) h g = g
loaded_good s n image (good none) h g = g
loaded_good s n image (good (some t)) h g = with_dossier_lem n t s (h (some t) refl) g

carried_good : (s : Session) (r : Request) (t : Tree Node) (c : Clip) → GoodTree t → GoodSession s → GoodClip c → Passed r (found r t) (cached c) (standing r s.signatures s.log)
    → GoodSession (carried_out s r (found r t) t c).0
carried_good s r t c h g k p =
    let w = request_good r t h c s.clipboard (standing r s.signatures s.log) k g.clipboard p in
    let messages = (provisions (granted r (found r t))).messages in
    let b : length s.log + length (members messages) ≤ 256 = nltb→le 256 (length s.log + length (members messages)) (not_T (ltb 256 (length s.log + length (members messages))) p.log) in
    with_log_lem r.user messages s.log (with_clipboard (clipped r t s.clipboard) (with_dossier r.dossier (edited r t c) s)) (request_common r p.operands).user b g.log
    (with_clipboard_lem (clipped r t s.clipboard) (with_dossier r.dossier (edited r t c) s) w.1 (with_dossier_lem r.dossier (edited r t c) s w.0 g))

from_good : (s : Session) (r : Request) (c : Clip) → GoodSession s → GoodClip c → GoodSession (requested_from s r c).0
from_good s r c g k =
    go (refusal r (found r (dossier r.dossier s)) (cached c) (standing r s.signatures s.log))
    (λ e. carried_good s r (dossier r.dossier s) c (dossier_good_lem r.dossier s g) g k (passed r (found r (dossier r.dossier s)) (cached c) (standing r s.signatures s.log) e))
  where
    go : (o : Option ℕ) → (o ≡ none → GoodSession (carried_out s r (found r (dossier r.dossier s)) (dossier r.dossier s) c).0)
        → Leaves {A = Answer} (elim o [ none ↦ carried_out s r (found r (dossier r.dossier s)) (dossier r.dossier s) c | some n ↦ (s, refused n) ])
    go none f = f refl
    go (some n) f = g

requested_good : (s : Session) (r : Request) (image : List ℕ) → GoodSession s → GoodSession (requested s r image).0
requested_good s r image g = go (source s r image) (source_good s r image g.clipboard)
  where
    go : (l : Loaded Clip) → ((c : Clip) → l ≡ good c → GoodClip c) → GoodSession (requested_with s r l).0
    go (bad k) h = g
    go (good c) h = from_good s r c g (h c refl)

-- ---- every call
pub good_step : (s : Session) (c : Call) → GoodSession s → GoodSession (step s c).0
unfolding step
good_step s start g = begun_good
good_step s (new n owner) g =
    refused_good (first_that ((1, not (dossier_good n && user_good owner)) ∷ [])) s (with_dossier n (leaf owner) s) done g
    (λ e. with_dossier_lem n (leaf owner) s
    (leaf_good owner (and_yes (dossier_good n) (user_good owner) (not_not (dossier_good n && user_good owner) (subst T ((no_refusal ((1, not (dossier_good n && user_good owner)) ∷ [])).0 e).0))).1) g)
good_step s (load n image) g = go (first_that ((1, not (dossier_good n)) ∷ []))
  where
    go : (o : Option ℕ) → Leaves {A = Reply} (elim o [ none ↦ loaded s n image (load_tree image) | some k ↦ (s, reply (refused k) (image ∷ [])) ])
    go none = loaded_good s n image (load_tree image) (load_good image) g
    go (some k) = g
good_step s (save n buffer) g =
    writes_good (first_that ((1, not (dossier_good n)) ∷ (9, short (saved (dossier n s)) buffer) ∷ [])) s s (saved (dossier n s)) buffer g g
good_step s (save_clipboard buffer) g = writes_good (first_that ((9, short (saved_clip s.clipboard) buffer) ∷ [])) s s (saved_clip s.clipboard) buffer g g
good_step s (sign user agreement) g =
    refused_good (first_that ((1, not (user_good user && leb agreement 31)) ∷ [])) s (with_signatures (signed user agreement s.signatures) s) done g
    (λ e. signed_good user agreement s
    (leb→le agreement 31 (and_yes (user_good user) (leb agreement 31) (not_not (user_good user && leb agreement 31) (subst T ((no_refusal ((1, not (user_good user && leb agreement 31)) ∷ [])).0 e).0))).1) g)
good_step s (take_log buffer) g =
    writes_good (first_that ((9, short (log_bytes s.log) buffer) ∷ [])) s (with_log [] s) (log_bytes s.log) buffer g
    (record { one = g.one; two = g.two; clipboard = g.clipboard; rows = g.rows; agreements = g.agreements; entries = omega arith; log = λ e m. absurd (Memᴰ.not-nil m) })
good_step s (request r image) g = requested_good s r image g
good_step s (ask image q buffer) g = g
