-- Request 17's image is the same branch to both dossiers, and a good one; so both requests paste from the same. Assumes nothing.
use mathlib.Core.Path.{◌≡◌, refl, sym, ap, subst, ◌∙◌}
use mathlib.Core.Bool.{Bool, true, false, not}
use mathlib.Core.Option.{Option, none, some, map, none-ne-some}
use mathlib.Core.List.{List}
use Prim.Native.Nat.{ℕ}
use lib.Dec.{T, eqb, T_not}
use mir.Facts.{and_yes}
use Rattle.laws.specs.Slots.{pick}
use Rattle.model.specs.Things.{Clipboard}
use Rattle.model.specs.Refusals.{Request, user_good, bad_operand}
use Rattle.model.specs.Image as images
use Rattle.model.specs.Image.{Record, node_record, attribute_record, permission_record, in_range, Loaded, bad, good, owned_node, owned_attribute, adding}
use Rattle.model.specs.Run as run
use Rattle.model.specs.Run.{places}
use Rattle.roundtrip.proofs.Scan.{good≠bad, good_is}
use Rattle.roundtrip.proofs.Adding.{node_range, attribute_range}
use Rattle.twin.specs.Tree.{Tree}
use Rattle.twin.specs.Twin.{Node, Clip, branched, Session, accept, load_added, as_branch, source, requested_with, requested}
use Rattle.twin.specs.Good.{clipboard_of, state_of, GoodClip, GoodSession}
use Rattle.twin.proofs.Requests.{request_common}
use Rattle.twin.proofs.SameRequest.{seen, from_same}
use Rattle.twin.proofs.SameRecord.{SoFar, tables_of, accept_same}
use Rattle.twin.proofs.KeepLoad.{Whole, accept_keeps, Loads, loads_good}
use Rattle.twin.proofs.SameLoad.{loaded_of, loads_same}

module _ (u : ℕ) (h : T (user_good u)) where
  -- ---- record by record
  adding_same : (t : Option (Tree Node)) (r : Record) → SoFar t → T (in_range r) → adding u images.accept (tables_of t) r ≡ map tables_of (adding u accept t r)
  adding_same t (node_record r) g i = accept_same t (node_record (owned_node u r)) g (node_range u r h i)
  adding_same t (attribute_record r) g i = accept_same t (attribute_record (owned_attribute u r)) g (attribute_range u r h i)
  adding_same t (permission_record r) g i = refl

  adding_keeps : (t : Option (Tree Node)) (r : Record) (s : Option (Tree Node)) → T (in_range r) → adding u accept t r ≡ some s → SoFar t → Whole s
  adding_keeps t (node_record r) s i e g = accept_keeps t (node_record (owned_node u r)) s (node_range u r h i) e g
  adding_keeps t (attribute_record r) s i e g = accept_keeps t (attribute_record (owned_attribute u r)) s (attribute_range u r h i) e g
  adding_keeps t (permission_record r) s i e g = absurd (none-ne-some s e)

  -- ---- the image
  added_same : (b : List ℕ) → images.load_added u b ≡ loaded_of (load_added u b)
  added_same = loads_same (adding u images.accept) (adding u accept) adding_same adding_keeps

  added_good : (b : List ℕ) → Loads (load_added u b)
  added_good = loads_good (adding u accept) adding_keeps

-- ---- what there is to paste
abbrev clips_of : Loaded Clip → Loaded Clipboard
clips_of (bad k) = bad k
clips_of (good c) = good (clipboard_of c)

branch_same : (l : Loaded (Option (Tree Node))) → Loads l → run.as_branch (loaded_of l) ≡ clips_of (as_branch l)
branch_same (bad k) h = refl
branch_same (good none) h = absurd (h none refl)
branch_same (good (some t)) h = refl

branch_kept : (l : Loaded (Option (Tree Node))) → Loads l → (c : Clip) → as_branch l ≡ good c → GoodClip c
branch_kept (bad k) h c e = good≠bad c k (sym e)
branch_kept (good none) h c e = absurd (h none refl)
branch_kept (good (some t)) h c e = subst GoodClip (good_is (branched t) c e) (h (some t) refl)

-- the image is looked at by a user who is one
adder : (r : Request) → T (places r) → T (user_good r.user)
adder r t = (request_common r (T_not (bad_operand r) (and_yes (eqb r.number 17) (not (bad_operand r)) t).1)).user

pub source_same : (s : Session) (r : Request) (image : List ℕ) → run.source (state_of s) r image ≡ clips_of (source s r image)
source_same s r image = go (places r) (adder r)
  where
    go : (b : Bool) → (T b → T (user_good r.user))
        → pick b (run.as_branch (images.load_added r.user image)) (good (clipboard_of s.clipboard)) ≡ clips_of (pick b (as_branch (load_added r.user image)) (good s.clipboard))
    go true h = ap run.as_branch (added_same r.user (h tt) image) ∙ branch_same (load_added r.user image) (added_good r.user (h tt) image)
    go false h = refl

pub source_good : (s : Session) (r : Request) (image : List ℕ) → GoodClip s.clipboard → (c : Clip) → source s r image ≡ good c → GoodClip c
source_good s r image g c = go (places r) (adder r)
  where
    go : (b : Bool) → (T b → T (user_good r.user)) → pick b (as_branch (load_added r.user image)) (good s.clipboard) ≡ good c → GoodClip c
    go true h e = branch_kept (load_added r.user image) (added_good r.user (h tt) image) c e
    go false h e = subst GoodClip (good_is s.clipboard c e) g

-- ---- every request
pub request_same : (s : Session) (r : Request) (image : List ℕ) → GoodSession s → run.requested (state_of s) r image ≡ seen (requested s r image)
request_same s r image g = ap (run.requested_with (state_of s) r) (source_same s r image) ∙ go (source s r image) (source_good s r image g.clipboard)
  where
    go : (l : Loaded Clip) → ((c : Clip) → l ≡ good c → GoodClip c) → run.requested_with (state_of s) r (clips_of l) ≡ seen (requested_with s r l)
    go (bad k) h = refl
    go (good c) h = from_same s r c g (h c refl)
