-- What a request of a class leaves as it is: tables, clipboard, dossier and answer. Assumes nothing.
use mathlib.Core.Path.{◌≡◌, refl, sym, ap}
use mathlib.Core.Option.{Option}
use mathlib.Core.List.{[], ◌∷◌}
use Rattle.std.specs.Prelude.{Some}
use lib.Dec.{T}
use Rattle.model.specs.Things as things
use Rattle.model.specs.Refusals.{Request, Found}
use Rattle.model.specs.Run as run
use Rattle.tables.specs.View.{Attributes}
use Rattle.tables.specs.View.{Permissions}
use Rattle.tables.specs.declared.Dossier.{Dossier}
use Rattle.tables.specs.View.{view_dossier, dossier_of, DossierSound}
use Rattle.state.proofs.Sessions.{dossier_same}
use Rattle.twin.proofs.Requests.{numbered}
use Rattle.deeds.specs.declared.classes.Class.{Class}
use Rattle.deeds.specs.declared.classes.Class.TheVariants.{Read, ChangeAttributes, ChangePermissions, Edit, Paste, Copy, Cut}
use Rattle.deeds.specs.Classes.{Open, class_of}
use Rattle.deeds.proofs.Allowed.{attribute_there, attribute_there_cut}
use Rattle.deeds.proofs.Looked.{copied_any}
use Rattle.deeds.proofs.Numbers.{within, two, three, by_class, by_classes}

-- ---- one table alone changes
-- the dossier with another table
abbrev pub with_attributes : Attributes → Dossier → Dossier
with_attributes t d = record { nodes = d.nodes; attributes = t; permissions = d.permissions }

abbrev pub with_permissions : Permissions → Dossier → Dossier
with_permissions t d = record { nodes = d.nodes; attributes = d.attributes; permissions = t }

module _ (r : Request) {d : Dossier} (h : DossierSound d) (c : things.Clipboard) where
  pub attributes_only : class_of r.number ≡ Some ChangeAttributes
      → dossier_of (run.edited r (view_dossier d) c) ≡ with_attributes (dossier_of (run.edited r (view_dossier d) things.empty)).attributes d
  attributes_only e =
      by_class (λ k. dossier_of (run.edited (numbered k r) (view_dossier d) c) ≡ with_attributes (dossier_of (run.edited (numbered k r) (view_dossier d) things.empty)).attributes d)
      r.number e (two (rest _) (rest _))
    where
      rest : (t : Attributes) → with_attributes t (dossier_of (view_dossier d)) ≡ with_attributes t d
      rest t = ap (with_attributes t) (sym (dossier_same h))

  pub permissions_only : class_of r.number ≡ Some ChangePermissions
      → dossier_of (run.edited r (view_dossier d) c) ≡ with_permissions (dossier_of (run.edited r (view_dossier d) things.empty)).permissions d
  permissions_only e =
      by_class (λ k. dossier_of (run.edited (numbered k r) (view_dossier d) c) ≡ with_permissions (dossier_of (run.edited (numbered k r) (view_dossier d) things.empty)).permissions d)
      r.number e (three (rest _) (rest _) (rest _))
    where
      rest : (t : Permissions) → with_permissions t (dossier_of (view_dossier d)) ≡ with_permissions t d
      rest t = ap (with_permissions t) (sym (dossier_same h))

-- ---- what is not looked at, and what stays; k is the request's class
module _ (r : Request) (d : things.Dossier) (c : things.Clipboard) {k : Class} (e : class_of r.number ≡ Some k) where
  -- only a paste looks at the clipboard
  pub clipboard_unread : T (within k (Read ∷ ChangeAttributes ∷ ChangePermissions ∷ Edit ∷ Copy ∷ Cut ∷ [])) → run.edited r d c ≡ run.edited r d things.empty
  clipboard_unread t =
      by_classes (λ n. run.edited (numbered n r) d c ≡ run.edited (numbered n r) d things.empty) r.number (Read ∷ ChangeAttributes ∷ ChangePermissions ∷ Edit ∷ Copy ∷ Cut ∷ []) t e
      (two refl refl, (two refl refl, (three refl refl refl, (three refl refl refl, (two refl refl, (two refl refl, tt))))))

  -- what a copy or a cut takes does not depend on the clipboard that it fills
  pub clipboard_filled : Open r d → T (within k (Copy ∷ Cut ∷ [])) → run.clipped r d c ≡ run.clipped r d things.empty
  clipboard_filled o t =
      by_classes (λ n. r.number ≡ n → run.clipped (numbered n r) d c ≡ run.clipped (numbered n r) d things.empty) r.number (Copy ∷ Cut ∷ []) t e (
        two (λ f. refl) (λ f. sym (copied_any r.path r.name d c (attribute_there o.allowed f))),
        (two (λ f. refl) (λ f. sym (copied_any r.path r.name d c (attribute_there_cut o.allowed f))), tt),
      )
      refl

  pub clipboard_kept : T (within k (Read ∷ ChangeAttributes ∷ ChangePermissions ∷ Edit ∷ Paste ∷ [])) → run.clipped r d c ≡ c
  clipboard_kept t =
      by_classes (λ n. run.clipped (numbered n r) d c ≡ c) r.number (Read ∷ ChangeAttributes ∷ ChangePermissions ∷ Edit ∷ Paste ∷ []) t e
      (two refl refl, (two refl refl, (three refl refl refl, (three refl refl refl, (three refl refl refl, tt)))))

  pub dossier_kept : T (within k (Read ∷ Copy ∷ [])) → run.edited r d c ≡ d
  dossier_kept t = by_classes (λ n. run.edited (numbered n r) d c ≡ d) r.number (Read ∷ Copy ∷ []) t e (two refl refl, (two refl refl, tt))

-- only a read has more to answer than that it is done
pub answer_done : (r : Request) (f : Found) (a : Option things.Attribute) {k : Class} → class_of r.number ≡ Some k → T (within k (ChangeAttributes ∷ ChangePermissions ∷ Edit ∷ Paste ∷ Copy ∷ Cut ∷ [])) → run.answered r f a ≡ run.done
answer_done r f a e t =
    by_classes (λ n. run.answered (numbered n r) f a ≡ run.done) r.number (ChangeAttributes ∷ ChangePermissions ∷ Edit ∷ Paste ∷ Copy ∷ Cut ∷ []) t e
    (two refl refl, (three refl refl refl, (three refl refl refl, (three refl refl refl, (two refl refl, (two refl refl, tt))))))
