-- What the deeds of a request leave of the session, each with the parts that it stores, is what the model's request leaves but for the log. Assumes nothing.
use mathlib.Core.Path.{◌≡◌, refl, sym, ap, subst, ◌∙◌}
use mathlib.Core.Logic.{◌⊎◌, inl, inr}
use mathlib.Core.Bool.{Bool, true, false}
use mathlib.Core.List.{[], ◌∷◌}
use Prim.Native.Nat.{ℕ}
use lib.Dec.{T, eqb}
use Rattle.laws.specs.Slots.{pick}
use Rattle.laws.proofs.Fill.{is_same}
use Rattle.model.specs.Things as things
use Rattle.model.specs.Refusals.{Request}
use Rattle.model.specs.Moves.{attribute_at}
use Rattle.model.specs.Run as run
use Rattle.model.specs.Sound.{SoundClipboard}
use Rattle.tables.specs.declared.Dossier.{Dossier}
use Rattle.tables.specs.declared.Clipboard.{Clipboard}
use Rattle.tables.specs.View.{view_dossier, dossier_of, view_clipboard, clipboard_of, ClipboardSound}
use Rattle.tables.proofs.Rows.{view_clipboard_lem}
use Rattle.state.specs.declared.Session.{Session}
use Rattle.std.specs.Prelude.{Option, Some, None, Ok}
use Rattle.state.specs.declared.Reply.TheVariants.{Done}
use Rattle.state.specs.View.{view_request, Answer, answer_of}
use Rattle.state.specs.Parts.{numbered_in, replaced_in, clipped_in}
use Rattle.state.proofs.Sessions.{dossier_same}
use Rattle.deeds.specs.declared.classes.Class.{Class}
use Rattle.deeds.specs.declared.classes.Class.TheVariants.{Read, ChangeAttributes, ChangePermissions, Edit, Paste, Copy, Cut}
use Rattle.deeds.specs.declared.classes.Verdict.{Verdict}
use Rattle.deeds.specs.Classes.{class_of, Allowed}
use Rattle.deeds.proofs.Allowed.{known}
use Rattle.deeds.proofs.Numbers.{within}
use Rattle.deeds.proofs.Parts.{clipboard_unread, clipboard_filled, clipboard_kept, dossier_kept, answer_done}
use Rattle.session.specs.Requests.{named_in, edited_in, copied_in, read_in, deed_of, Granted, Laid, Stands}

-- ---- a class, or one of two, is that of the request's number
pub either_class : {s : Session} {v : Verdict} {a b : Class} → Granted s v → (v.class ≡ a) ⊎ (v.class ≡ b) → (class_of v.request.number ≡ Some a) ⊎ (class_of v.request.number ≡ Some b)
either_class g (inl e) = inl (g.class ∙ ap Some e)
either_class g (inr e) = inr (g.class ∙ ap Some e)

-- ---- what a deed leaves
same_clipboard : {c : Clipboard} → ClipboardSound c → c ≡ clipboard_of (view_clipboard c)
same_clipboard {c} h = is_same clipboard_of view_clipboard view_clipboard_lem SoundClipboard c h

-- by what it leaves of the dossier and of the clipboard, and its answer
leaves : (s : Session) (v : Verdict) {x : Dossier} {y : Clipboard} {a : Answer} → x ≡ edited_in s v (view_clipboard s.clipboard) → y ≡ copied_in s v (view_clipboard s.clipboard) → a ≡ read_in s v
    → (a ≡ (deed_of s v).answer) × (replaced_in v.dossier x (clipped_in y s) ≡ (deed_of s v).session)
leaves s v p q w = (w, λ k. replaced_in v.dossier (p k) (clipped_in (q k) s))

-- the dossier that stands there, in its place
back_in : (s : Session) (n : ℕ) → s ≡ replaced_in n (numbered_in n s) s
back_in s n = go (eqb n 1)
  where
    go : (b : Bool) → s ≡ record { one = pick b (pick b s.one s.two) s.one; two = pick b s.two (pick b s.one s.two); clipboard = s.clipboard; signatures = s.signatures; log = s.log }
    go true = refl
    go false = refl

-- ---- class by class: what it may rely on, its answer and what it leaves
module _ (s : Session) (v : Verdict) where
  abbrev r : Request
  r = view_request v.request

  abbrev d : things.Dossier
  d = view_dossier (named_in s v)

  abbrev c : things.Clipboard
  c = view_clipboard s.clipboard

  module _ {k : Class} (e : class_of v.request.number ≡ Some k) where
    -- the dossier, the clipboard or the answer of a class that leaves them alone
    same_dossier : Granted s v → T (within k (Read ∷ Copy ∷ [])) → named_in s v ≡ edited_in s v c
    same_dossier g t = dossier_same g.sound ∙ ap dossier_of (sym (dossier_kept r d c e t))

    same_held : Laid s v → T (within k (Read ∷ ChangeAttributes ∷ ChangePermissions ∷ Edit ∷ Paste ∷ [])) → s.clipboard ≡ copied_in s v c
    same_held l t = same_clipboard l.sound ∙ ap clipboard_of (sym (clipboard_kept r d c e t))

    plain_answer : T (within k (ChangeAttributes ∷ ChangePermissions ∷ Edit ∷ Paste ∷ Copy ∷ Cut ∷ [])) → Ok Done ≡ read_in s v
    plain_answer t = ap answer_of (sym (answer_done r (run.found r d) (attribute_at r.path r.name d) e t))

    edited_so : T (within k (Read ∷ ChangeAttributes ∷ ChangePermissions ∷ Edit ∷ Copy ∷ Cut ∷ [])) → edited_in s v things.empty ≡ edited_in s v c
    edited_so t = ap dossier_of (sym (clipboard_unread r d c e t))

    copied_so : Granted s v → T (within k (Copy ∷ Cut ∷ [])) → copied_in s v things.empty ≡ copied_in s v c
    copied_so g t = ap clipboard_of (sym (clipboard_filled r d c e g.free t))

  pub read_means : Stands s v → v.class ≡ Read → Granted s v × ((read_in s v ≡ (deed_of s v).answer) × (s ≡ (deed_of s v).session))
  read_means ok t =
      let g = ok in
      let e = g.0.class ∙ ap Some t in
      let w = leaves s v (same_dossier e g.0 tt) (same_held e g.1 tt) refl in
      (g.0, (w.0, back_in s v.dossier ∙ w.1))

  pub attributes_means : Stands s v → v.class ≡ ChangeAttributes → (Granted s v × (v.class ≡ ChangeAttributes)) × ((Ok Done ≡ (deed_of s v).answer) × (replaced_in v.dossier (edited_in s v things.empty) s ≡ (deed_of s v).session))
  attributes_means ok t =
      let g = ok in
      let e = g.0.class ∙ ap Some t in
      ((g.0, t), leaves s v (edited_so e tt) (same_held e g.1 tt) (plain_answer e tt))

  pub permissions_means : Stands s v → v.class ≡ ChangePermissions → (Granted s v × (v.class ≡ ChangePermissions)) × ((Ok Done ≡ (deed_of s v).answer) × (replaced_in v.dossier (edited_in s v things.empty) s ≡ (deed_of s v).session))
  permissions_means ok t =
      let g = ok in
      let e = g.0.class ∙ ap Some t in
      ((g.0, t), leaves s v (edited_so e tt) (same_held e g.1 tt) (plain_answer e tt))

  pub edit_means : Stands s v → v.class ≡ Edit → (Granted s v × ((v.class ≡ Edit) ⊎ (v.class ≡ Cut))) × ((Ok Done ≡ (deed_of s v).answer) × (replaced_in v.dossier (edited_in s v things.empty) s ≡ (deed_of s v).session))
  edit_means ok t =
      let g = ok in
      let e = g.0.class ∙ ap Some t in
      ((g.0, inl t), leaves s v (edited_so e tt) (same_held e g.1 tt) (plain_answer e tt))

  pub paste_means : Stands s v → v.class ≡ Paste → (Granted s v × Laid s v × (v.class ≡ Paste)) × ((Ok Done ≡ (deed_of s v).answer) × (replaced_in v.dossier (edited_in s v c) s ≡ (deed_of s v).session))
  paste_means ok t =
      let g = ok in
      let e = g.0.class ∙ ap Some t in
      ((g.0, g.1, t), leaves s v refl (same_held e g.1 tt) (plain_answer e tt))

  pub copy_means : Stands s v → v.class ≡ Copy → (Granted s v × ((v.class ≡ Copy) ⊎ (v.class ≡ Cut))) × ((Ok Done ≡ (deed_of s v).answer) × (clipped_in (copied_in s v things.empty) s ≡ (deed_of s v).session))
  copy_means ok t =
      let g = ok in
      let e = g.0.class ∙ ap Some t in
      let w = leaves s v (same_dossier e g.0 tt) (copied_so e g.0 tt) (plain_answer e tt) in
      ((g.0, inl t), (w.0, back_in (clipped_in (copied_in s v things.empty) s) v.dossier ∙ w.1))

  pub cut_means : Stands s v → v.class ≡ Cut → (Granted s v × (v.class ≡ Cut)) × ((Ok Done ≡ (deed_of s v).answer) × (replaced_in v.dossier (edited_in s v things.empty) (clipped_in (copied_in s v things.empty) s) ≡ (deed_of s v).session))
  cut_means ok t =
      let g = ok in
      let e = g.0.class ∙ ap Some t in
      ((g.0, t), leaves s v (edited_so e tt) (copied_so e g.0 tt) (plain_answer e tt))

-- ---- what is not refused has a class
abbrev has : Option Class → Bool
has None = false
has (Some k) = true

works : {q : Request} {m : things.Dossier} {k : things.Clipboard} → Allowed q m k → T (has (class_of q.number))
works {q} a = go (has (class_of q.number)) refl
  where
    go : (b : Bool) → has (class_of q.number) ≡ b → T (has (class_of q.number))
    go true e = subst T (sym e) tt
    go false e = absurd (known a ((no 1 tt, (no 3 tt, (no 4 tt, (no 5 tt, (no 6 tt, (no 7 tt, (no 17 tt, tt))))))), ((no 2 tt, (no 9 tt, (no 11 tt, (no 12 tt, (no 13 tt, tt))))), ((no 8 tt, (no 10 tt, tt)), ((no 14 tt, (no 15 tt, tt)), ((no 16 tt, tt), tt))))))
      where
        no : (k : ℕ) → T (has (class_of k)) → q.number ≡ k → ⊥
        no k t n = subst T e (subst (λ (m : ℕ). T (has (class_of m))) (sym n) t)

pub unclassed : {q : Request} {m : things.Dossier} {k : things.Clipboard} → Allowed q m k → class_of q.number ≡ None → ⊥
unclassed a e = subst (λ (k : Option Class). T (has k)) e (works a)
