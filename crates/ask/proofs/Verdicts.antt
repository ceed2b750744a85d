-- What is decided on an image, test after test, and what is then returned and written. Assumes nothing.
use borrow.Author.Tests.{eq-eqb, ne_eqb, le-leb}
use mathlib.Core.Path.{◌≡◌, refl, sym, ap, ◌∙◌}
use mathlib.Core.Bool.{Bool, true, false, ◌&&◌, not}
use mathlib.Core.Option.{Option, none, some}
use mathlib.Core.List.{List}
use Prim.Native.Nat.{ℕ}
use native.Mathlib.Omega.{arith}
use lib.Dec.{T, leb}
use lib.IntN.{ℤ, pos, negsuc}
use mir.Syntax.{w64}
use mir.Val.{SFits}
use Rattle.std.specs.Prelude as std
use Rattle.path.specs.Address.{Address, valid}
use Rattle.path.proofs.Structs.{no}
use Rattle.model.specs.Things as things
use Rattle.model.specs.Decide.{Object, Provisions, read_by, change_by, given, joined}
use Rattle.model.specs.Moves.{node_at, attribute_object, object_at}
use Rattle.model.specs.Refusals.{missing, role_good, user_good, time_good, between}
use Rattle.model.specs.Image as images
use Rattle.model.specs.Run.{Question, bad_question, asker, may_ask, may_ask_in, image_of}
use Rattle.roundtrip.proofs.SaveLoad.{load_sound}
use Rattle.tables.specs.View.{view_dossier, DossierFits}
use Rattle.tables.proofs.Rows.{view_dossier_lem}
use Rattle.tables.proofs.Parts.{dossier_fits}
use Rattle.grants.specs.View.{decision_of}
use Rattle.grants.specs.declared.Provisions as grants
use Rattle.std.specs.Option.{ok_or}
use Rattle.std.proofs.Common.{Result, Ok, Err}
use Rattle.tables.specs.declared.Dossier.{Dossier}
use Rattle.image.specs.declared.BadRecord.{BadRecord}
use Rattle.image.specs.View.{loaded_of}
use Rattle.state.specs.declared.refusal.Refusal.TheVariants.{BadOperand, BadImage, Absent, NotGranted}
use Rattle.state.specs.Refusals.{refusal_of}
use Rattle.ask.specs.Verdict.{Verdict, verdict_on, verdict_at, verdict_in}

-- ---- 6: what is granted, by name and action
module _ {n : ℕ} (p : Address) (d : things.Dossier) where
  pub object_node : n ≡ 0 → node_at p d ≡ object_at p n d
  object_node e = rw (eq-eqb n 0 e)

  pub object_attribute : (n ≡ 0 → ⊥) → attribute_object p n d ≡ object_at p n d
  object_attribute e = rw (ne_eqb n 0 e)

module _ (q : Question) (p : Address) (d : things.Dossier) where
  pub asks_read : q.action ≡ 1 → given (read_by (asker q)) (object_at p q.name d) ≡ may_ask q (object_at p q.name d) (node_at p d)
  asks_read a = rw (eq-eqb q.action 1 a)

  module _ (a : q.action ≡ 1 → ⊥) where
    pub asks_change : q.name ≡ 0 → given (change_by (asker q)) (node_at p d) ≡ may_ask q (object_at p q.name d) (node_at p d)
    asks_change n = rw (ne_eqb q.action 1 a, eq-eqb q.name 0 n)

    -- "Change of an attribute means request 10's needs"
    pub asks_both : (q.name ≡ 0 → ⊥)
        → joined (given (read_by (asker q)) (attribute_object p q.name d)) (given (change_by (asker q)) (node_at p d)) ≡ may_ask q (object_at p q.name d) (node_at p d)
    asks_both n = rw (ne_eqb q.action 1 a, ne_eqb q.name 0 n)

-- ---- 3 and 6, on a dossier
pub not_there : (o : Option Object) (m : Option Provisions) → true ≡ missing o → Err Absent ≡ verdict_at o m
unfolding refusal_of
not_there none m e = refl
not_there (some o) m e = no e

abbrev pub of_decision : std.Option grants.Provisions → Verdict
of_decision o = ok_or o NotGranted

pub decided_there : (o : Option Object) (m : Option Provisions) → false ≡ missing o → of_decision (decision_of m) ≡ verdict_at o m
unfolding refusal_of
decided_there none m e = no (sym e)
decided_there (some o) none e = refl
decided_there (some o) (some p) e = refl

-- looked up at a path that is the one asked for
module _ (q : Question) (d : things.Dossier) {l : Address} (e : l ≡ q.path) {b : Bool} (h : b ≡ missing (object_at l q.name d)) where
  pub absent_there : b ≡ true → Err Absent ≡ verdict_in q d
  absent_there t = not_there (object_at q.path q.name d) (may_ask_in q d) (sym t ∙ h ∙ ap (λ k. missing (object_at k q.name d)) e)

  pub decided_on_it : {r : std.Option grants.Provisions} → b ≡ false → r ≡ decision_of (may_ask q (object_at l q.name d) (node_at l d)) → of_decision r ≡ verdict_in q d
  decided_on_it f m =
      ap of_decision (m ∙ ap (λ k. decision_of (may_ask q (object_at k q.name d) (node_at k d))) e)
      ∙ decided_there (object_at q.path q.name d) (may_ask_in q d) (sym f ∙ h ∙ ap (λ k. missing (object_at k q.name d)) e)

-- ---- 1 and 12
path_good : (a b c d e : Bool) → not (a && (b && (c && (d && e)))) ≡ false → T d
path_good true true true true e h = tt
path_good true true true false e h = no h
path_good true true false d e h = no h
path_good true false c d e h = no h
path_good false b c d e h = no h

-- a time is in range by its type
pub time_good_lem : (t : ℤ) → SFits w64 t → true ≡ time_good t
time_good_lem (pos n) f = let k = f.sfits in sym (le-leb n 9223372036854775807 (omega arith))
time_good_lem (negsuc n) f = let k = f.sfits in sym (ap (λ b. b && true) (le-leb n 9223372036854775807 (omega arith)))

-- a question that is not bad has a path
pub path_asked : (q : Question) → bad_question q ≡ false → T (valid q.path)
path_asked q e = path_good (role_good q.role) (user_good q.user) (time_good q.time) (valid q.path) (leb q.name 65535 && between 1 2 q.action) e

pub bad_asked : (q : Question) (d : Option things.Dossier) {b : Bool} → b ≡ bad_question q → b ≡ true → Err BadOperand ≡ verdict_on q d
unfolding refusal_of
bad_asked q d h e = rw (sym h ∙ e)

-- what was loaded
abbrev dossier_in : Dossier → Result Dossier BadRecord → Dossier
dossier_in d (Ok x) = x
dossier_in d (Err k) = d

abbrev is_good : Result Dossier BadRecord → Bool
is_good (Ok x) = true
is_good (Err k) = false

module _ (q : Question) (h : false ≡ bad_question q) where
  pub bad_image : {r : BadRecord} (l : images.Loaded things.Dossier) → Err r ≡ loaded_of l → Err BadImage ≡ verdict_on q (image_of l)
  unfolding refusal_of
  bad_image (images.bad k) e = rw (sym h)
  bad_image (images.good d) e = no (sym (ap is_good e))

  pub good_image : {x : Dossier} {v : Verdict} (l : images.Loaded things.Dossier) → Ok x ≡ loaded_of l → v ≡ verdict_in q (view_dossier x) → v ≡ verdict_on q (image_of l)
  good_image (images.bad k) e w = no (ap is_good e)
  good_image {x} (images.good d) e w = w ∙ ap (λ y. verdict_in q (view_dossier (dossier_in x y))) e ∙ ap (verdict_in q) (view_dossier_lem d) ∙ rw (sym h)

-- what was loaded fits
pub image_fits : {x : Dossier} (b : List ℕ) → Ok x ≡ loaded_of (images.load b) → DossierFits x
image_fits {x} b e = go (images.load b) refl e
  where
    go : (l : images.Loaded things.Dossier) → images.load b ≡ l → Ok x ≡ loaded_of l → DossierFits x
    go (images.bad k) f h = no (ap is_good h)
    go (images.good d) f h = dossier_fits (record { model = d; same = ap (dossier_in x) h; fits = load_sound b d f })
