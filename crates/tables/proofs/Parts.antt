-- The tables of a dossier that fits are sound, and a sound dossier fits. Assumes nothing.
use mathlib.Core.Path.{refl, ap}
use mathlib.Core.Bool.{Bool, ◌&&◌}
use mathlib.Core.List.Memᴰ
use mathlib.Core.List.{List, [], ◌∷◌}
use Prim.Native.Nat.{ℕ, ◌≤◌}
use lib.Dec.{T}
use lib.ListN.{length}
use Rattle.laws.specs.Slots.{All}
use Rattle.laws.specs.Sorted.{◌∈◌, Sorted}
use Rattle.path.specs.Address.{valid}
use Rattle.path.proofs.Structs.{both}
use Rattle.model.specs.Things as things
use Rattle.model.specs.Things.{Row}
use Rattle.model.specs.Sound.{Sound}
use Rattle.tables.specs.declared.Dossier.{Dossier}
use Rattle.tables.specs.View.{NodesSound, AttributesSound, PermissionsSound, TablesFit, DossierFits, DossierSound, Fits}

all : {A : Type 0} (P : A → Type 0) (l : List A) → ((x : A) → x ∈ l → P x) → All P l
all P [] h = tt
all P (x ∷ l) h = (h x (Memᴰ.head refl), all P l (λ y m. h y (Memᴰ.tail m)))

-- rows in range are at a path
fits : {P : Type 0} (lt : Row P → Row P → Bool) (n : ℕ) (l : List (Row P)) (rest : Row P → Bool)
    → length l ≤ n → ((r : Row P) → r ∈ l → T (valid r.0 && rest r)) → Sorted lt l → Fits lt n l
fits lt n l rest room good ascend = record { room = room; each = all _ l (λ r m. (both (valid r.0) (rest r) (good r m)).0); ascend = ascend }

pub sound_fits : (d : things.Dossier) → Sound d → TablesFit d
sound_fits d s =
    record {
      nodes = fits _ 64 _ _ s.few_nodes s.nodes_good s.nodes_ascend;
      attributes = fits _ 256 _ _ s.few_attributes s.attributes_good s.attributes_ascend;
      permissions = fits _ 128 _ _ s.few_permissions s.permissions_good s.permissions_ascend;
    }

pub dossier_fits : {d : Dossier} → DossierSound d → DossierFits d
dossier_fits h = record { model = h.model; same = h.same; fits = sound_fits h.model h.fits }

module _ {d : Dossier} (h : DossierFits d) where
  pub nodes_sound : NodesSound d.nodes
  nodes_sound = record { model = h.model.nodes; same = ap (λ x. x.nodes) h.same; fits = h.fits.nodes }

  pub attributes_sound : AttributesSound d.attributes
  attributes_sound = record { model = h.model.attributes; same = ap (λ x. x.attributes) h.same; fits = h.fits.attributes }

  pub permissions_sound : PermissionsSound d.permissions
  permissions_sound = record { model = h.model.permissions; same = ap (λ x. x.permissions) h.same; fits = h.fits.permissions }
