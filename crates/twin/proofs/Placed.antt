-- A request 17 that is not refused is the paste, at its place, of what its image loads as with every owner the adding user's; and the clipboard stays. Assumes nothing.
use mathlib.Core.Path.{◌≡◌, refl, sym, ap, subst, ◌∙◌}
use mathlib.Core.Bool.{Bool, true, false, not}
use mathlib.Core.Option.{Option, none, some}
use mathlib.Core.List.{List, []}
use Prim.Native.Nat.{ℕ}
use lib.Dec.{T, eqb, T_not, not_T}
use mir.Facts.{and_yes, yes_and, yes_eqb}
use Rattle.laws.specs.Slots.{pick}
use Rattle.path.proofs.Moves.{Test, holds, fails, test, pick_yes}
use Rattle.model.specs.Things.{Dossier, branch, State}
use Rattle.model.specs.Moves.{paste_branch, attribute_at}
use Rattle.model.specs.Refusals.{Request, Found, granted, provisions, bad_operand}
use Rattle.model.specs.Image.{Loaded, bad, good, load, load_added, all_owned}
use Rattle.model.specs.Run.{Answer, done, dossier, with_dossier, with_clipboard, with_log, logged, found, edited, clipped, answered, places, as_branch, source, requested_with, requested}
use Rattle.roundtrip.proofs.Adding.{added_places}
use Rattle.twin.proofs.Refusal.{judged, outcome, is_refused, request_keeps, refused_so, unread}
use Rattle.twin.proofs.Requests.{numbered}

-- the state with its messages logged and its dossier another: all else stays, the clipboard too
abbrev pub pasted : State → Request → Dossier → State
pasted s r d = with_log (logged r.user (provisions (granted r (found r (dossier r.dossier s)))).messages s.log) (with_dossier r.dossier d s)

pub record IsPaste (s : State) (r : Request) (image : List ℕ) : Type 0 where
  -- what the image loads as: no permission is in it
  pub held : Dossier
  pub loads : load image ≡ good held
  pub bare : held.permissions ≡ []
  -- "placed as a branch"; "Every object in it belongs to the adding user"
  pub leaves : requested s r image ≡ (pasted s r (paste_branch r.path (all_owned r.user held) (dossier r.dossier s)), done)

-- the clipboard put back as it was
same_clipboard : (n : ℕ) (d : Dossier) (s : State) → with_clipboard s.clipboard (with_dossier n d s) ≡ with_dossier n d s
same_clipboard n d s = go (eqb n 1)
  where
    one : State
    one = record { one = d; two = s.two; clipboard = s.clipboard; signatures = s.signatures; log = s.log }

    two : State
    two = record { one = s.one; two = d; clipboard = s.clipboard; signatures = s.signatures; log = s.log }

    go : (b : Bool) → with_clipboard s.clipboard (pick b one two) ≡ pick b one two
    go true = refl
    go false = refl

module _ (s : State) (r : Request) (image : List ℕ) (e : r.number ≡ 17) where
  abbrev d : Dossier
  d = dossier r.dossier s

  abbrev f : Found
  f = found r d

  -- what is carried out, told by the number
  abbrev carried : ℕ → Dossier → State × Answer
  carried n x = (
    with_log (logged r.user (provisions (granted r f)).messages s.log) (with_clipboard (clipped (numbered n r) d s.clipboard) (with_dossier r.dossier (edited (numbered n r) d (branch x)) s)),
    answered (numbered n r) f (attribute_at r.path r.name d),
  )

  at_17 : (x : Dossier) → carried r.number x ≡ (pasted s r (paste_branch r.path x d), done)
  at_17 x =
      ap (λ (n : ℕ). carried n x) e
      ∙ ap {B = State × Answer} (λ (t : State). (with_log (logged r.user (provisions (granted r f)).messages s.log) t, done)) (same_clipboard r.dossier (paste_branch r.path x d) s)

  -- the image is looked at, since else the request would be refused 1
  looked_at : (T (is_refused (requested s r image).1) → ⊥) → source s r image ≡ as_branch (load_added r.user image)
  looked_at n = go (test (bad_operand r))
    where
      go : Test (bad_operand r) → source s r image ≡ as_branch (load_added r.user image)
      go (holds t) =
          absurd (n (subst (λ (x : State × Answer). T (is_refused x.1)) (sym (refused_so s r image 1 (s.clipboard, unread s r image (λ p. refuted t p), pick_yes (bad_operand r) (some 1) _ t))) tt))
        where
          refuted : T (bad_operand r) → T (places r) → ⊥
          refuted t p = T_not (bad_operand r) (and_yes (eqb r.number 17) (not (bad_operand r)) p).1 t
      go (fails b) =
          pick_yes (places r) (as_branch (load_added r.user image)) (good s.clipboard) (yes_and (eqb r.number 17) (not (bad_operand r)) (yes_eqb e) (not_T (bad_operand r) b))

  pub added_is_pasted : (T (is_refused (requested s r image).1) → ⊥) → IsPaste s r image
  added_is_pasted n = go (load_added r.user image) refl
    where
      from : (l : Loaded Dossier) → load_added r.user image ≡ l → requested s r image ≡ requested_with s r (as_branch l)
      from l q = ap (requested_with s r) (looked_at n ∙ ap as_branch q)

      not_refused : (x : State × Answer) → requested s r image ≡ x → T (is_refused x.1) → ⊥
      not_refused x q t = n (subst (λ (y : State × Answer). T (is_refused y.1)) (sym q) t)

      judge : (x : Dossier) (o : Option ℕ) → judged s r (branch x) ≡ o → requested s r image ≡ outcome s r (branch x) (judged s r (branch x)) → requested s r image ≡ carried r.number x
      judge x none j q = q ∙ ap (outcome s r (branch x)) j
      judge x (some k) j q = absurd (not_refused _ (q ∙ ap (outcome s r (branch x)) j) tt)

      go : (l : Loaded Dossier) → load_added r.user image ≡ l → IsPaste s r image
      go (bad k) q = absurd (not_refused _ (from (bad k) q) tt)
      go (good x) q =
          let w = added_places r.user image x q in
          record {
            held = w.held;
            loads = w.loads;
            bare = w.bare;
            leaves = judge x (judged s r (branch x)) refl (from (good x) q) ∙ at_17 x
                ∙ ap {B = State × Answer} (λ (y : Dossier). (pasted s r (paste_branch r.path y d), done)) w.owned;
          }

  -- "placed as a branch" takes nothing to the clipboard and nothing from it
  pub clipboard_stays : (requested s r image).0.clipboard ≡ s.clipboard
  clipboard_stays = go (test (is_refused (requested s r image).1))
    where
      go : Test (is_refused (requested s r image).1) → (requested s r image).0.clipboard ≡ s.clipboard
      go (holds t) = ap (λ (x : State). x.clipboard) (request_keeps (source s r image) s r t)
      go (fails n) = ap (λ (x : State × Answer). x.0.clipboard) (added_is_pasted n).leaves ∙ kept (eqb r.dossier 1)
        where
          to : Dossier
          to = paste_branch r.path (all_owned r.user (added_is_pasted n).held) d

          kept : (b : Bool) → (pick {A = State} b (record { one = to; two = s.two; clipboard = s.clipboard; signatures = s.signatures; log = s.log }) (record { one = s.one; two = to; clipboard = s.clipboard; signatures = s.signatures; log = s.log })).clipboard ≡ s.clipboard
          kept true = refl
          kept false = refl
