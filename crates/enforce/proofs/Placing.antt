-- What request 17 pastes, on the structs, and that a request pastes from its image exactly where the model does. Assumes nothing.
use mathlib.Core.Path.{◌≡◌, refl, sym, ap, subst, ◌∙◌}
use mathlib.Core.Logic.{◌⊎◌, inl, inr}
use mathlib.Core.Bool.{Bool, true, false, not}
use mathlib.Core.List.{List}
use Prim.Native.Nat.{ℕ}
use lib.Dec.{T, eqb, eqb→eq, T_not, not_T}
use mir.Facts.{and_yes, yes_and, yes_eqb}
use Rattle.path.proofs.Structs.{no}
use Rattle.path.proofs.Moves.{pick_yes}
use Rattle.model.specs.Things as things
use Rattle.model.specs.Refusals.{Request, user_good, bad_operand}
use Rattle.model.specs.Image as images
use Rattle.model.specs.Image.{bad, good, load_added}
use Rattle.model.specs.Run as run
use Rattle.roundtrip.proofs.Adding.{placed_sound}
use Rattle.tables.specs.declared.Clipboard.{Clipboard}
use Rattle.tables.specs.View.{view_dossier, dossier_of, DossierSound, view_clipboard, clipboard_of, ClipboardSound}
use Rattle.tables.proofs.Rows.{view_dossier_lem, view_clipboard_lem}
use Rattle.tables.specs.declared.Dossier.{Dossier}
use Rattle.image.specs.declared.BadRecord as image
use Rattle.image.specs.View.{loaded_of}
use Rattle.state.specs.declared.Session.{Session}
use Rattle.std.specs.Prelude.{Result, Ok, Err}
use Rattle.state.specs.declared.refusal.Refusal.TheVariants.{BadRecord}
use Rattle.state.specs.View.{view_session, SessionSound}
use Rattle.state.specs.Calls.{stepped_of}
use Rattle.state.proofs.Sessions.{session_back}
use Rattle.twin.proofs.Refusal.{unread}
use Rattle.twin.proofs.Requests.{request_common}
use Rattle.enforce.specs.Requests.{from_of, with_of}

-- ---- an image that was loaded for its user
abbrev dossier_in : Dossier → Result Dossier image.BadRecord → Dossier
dossier_in d (Ok x) = x
dossier_in d (Err k) = d

abbrev number_in : Result Dossier image.BadRecord → ℕ
number_in (Ok x) = 0
number_in (Err k) = k.number

abbrev is_good : Result Dossier image.BadRecord → Bool
is_good (Ok x) = true
is_good (Err k) = false

module _ (u : ℕ) (h : T (user_good u)) (b : List ℕ) where
  -- a bad one: the record alone
  pub bad_image : {k : image.BadRecord} → Err k ≡ loaded_of (load_added u b) → (s : Session) (r : Request) → SessionSound s
      → record { session = s; answer = Err (BadRecord k.number) } ≡ with_of s r (run.as_branch (load_added u b))
  bad_image {k} e s r m = go (load_added u b) refl
    where
      go : (o : images.Loaded things.Dossier) → load_added u b ≡ o → record { session = s; answer = Err (BadRecord k.number) } ≡ with_of s r (run.as_branch (load_added u b))
      go (bad n) q =
          let z : k.number ≡ n = ap number_in (e ∙ ap loaded_of q) in
          (λ i. record { session = sym (session_back s m) i; answer = Err (BadRecord (z i)) }) ∙ ap (λ (x : images.Loaded things.Dossier). with_of s r (run.as_branch x)) (sym q)
      go (good d) q = no (sym (ap is_good (e ∙ ap loaded_of q)))

  -- a good one: a sound branch
  pub record Held (c : Clipboard) : Type 0 where
    pub sound : ClipboardSound c
    pub seen : good (view_clipboard c) ≡ run.as_branch (load_added u b)
    pub branch : T (run.cached (view_clipboard c)).branch

  pub good_image : {m : Dossier} → Ok m ≡ loaded_of (load_added u b) → DossierSound m × ((c : Clipboard) → c ≡ clipboard_of (things.branch (view_dossier m)) → Held c)
  good_image {m} e = go (load_added u b) refl
    where
      go : (o : images.Loaded things.Dossier) → load_added u b ≡ o → DossierSound m × ((c : Clipboard) → c ≡ clipboard_of (things.branch (view_dossier m)) → Held c)
      go (bad n) q = no (ap is_good (e ∙ ap loaded_of q))
      go (good d) q =
          let x : m ≡ dossier_of d = ap (dossier_in m) (e ∙ ap loaded_of q) in
          let s = placed_sound u h b d q in (
            record { model = d; same = x; fits = s },
            λ c p.
                let z : c ≡ clipboard_of (things.branch d) = p ∙ ap (λ (y : things.Dossier). clipboard_of (things.branch y)) (ap view_dossier x ∙ view_dossier_lem d) in
                let v = ap view_clipboard z ∙ view_clipboard_lem (things.branch d) in
                record {
                  sound = record { model = things.branch d; same = z; fits = s };
                  seen = ap good v ∙ ap run.as_branch (sym q);
                  branch = subst (λ (y : things.Clipboard). T (run.cached y).branch) (sym v) tt;
                },
          )

-- ---- where a request looks at its image
module _ (s : Session) (r : Request) (image : List ℕ) where
  pub looked : T (run.places r) → with_of s r (run.as_branch (load_added r.user image)) ≡ stepped_of s (run.request r image)
  unfolding run.step
  looked t = ap (with_of s r) (sym (pick_yes (run.places r) (run.as_branch (load_added r.user image)) (good (view_session s).clipboard) t))

  pub not_looked : (T (run.places r) → ⊥) → from_of s r (view_session s).clipboard ≡ stepped_of s (run.request r image)
  unfolding run.step
  not_looked n = ap (with_of s r) (sym (unread (view_session s) r image n))

-- number and operands decide
pub looks : (r : Request) → r.number ≡ 17 → bad_operand r ≡ false → T (run.places r)
looks r n b = yes_and (eqb r.number 17) (not (bad_operand r)) (yes_eqb n) (not_T (bad_operand r) (subst T b))

pub looks_not : (r : Request) → (bad_operand r ≡ true) ⊎ (r.number ≡ 17 → ⊥) → T (run.places r) → ⊥
looks_not r (inl b) t = T_not (bad_operand r) (and_yes (eqb r.number 17) (not (bad_operand r)) t).1 (subst T (sym b) tt)
looks_not r (inr n) t = n (eqb→eq r.number 17 (and_yes (eqb r.number 17) (not (bad_operand r)) t).0)

-- a user whose operands are good is one
pub adder : (r : Request) → bad_operand r ≡ false → T (user_good r.user)
adder r b = (request_common r (λ t. subst T b t)).user
