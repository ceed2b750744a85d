-- An attribute that was looked up, as its answer and on the clipboard. Assumes nothing.
use mathlib.Core.Path.{◌≡◌, refl, sym, ap₂}
use mathlib.Core.Option.{Option, none, some}
use Prim.Native.Nat.{ℕ}
use lib.Dec.{T}
use Rattle.path.specs.Address.{Address}
use Rattle.model.specs.Things.{Attribute, Dossier, Clipboard, empty, single}
use Rattle.model.specs.Moves.{permissions_for, attribute_at, copied}
use Rattle.model.specs.Image.{there}
use Rattle.model.specs.Run as run
use Rattle.tables.specs.declared.Found.{Found}
use Rattle.std.specs.Prelude.{None, Some}
use Rattle.std.proofs.Common as rust
use Rattle.tables.specs.View.{view_value, found_of}
use Rattle.tables.proofs.Rows.{value_back}
use Rattle.attributes.proofs.Values.{attribute_found}
use Rattle.std.specs.Prelude.{Ok}
use Rattle.state.specs.declared.Reply.TheVariants.{Done, ValueRead}
use Rattle.state.specs.View.{Answer, answer_of}

-- ---- its value
abbrev pub value_found : rust.Option Found → Answer
value_found None = Ok Done
value_found (Some f) = Ok (ValueRead f.value)

pub value_found_lem : (o : Option Attribute) → value_found (found_of o) ≡ answer_of (run.value_of o)
value_found_lem none = refl
value_found_lem (some a) = refl

-- ---- with its permissions, under its own name
abbrev pub clip_found : Address → ℕ → Dossier → rust.Option Found → Clipboard
clip_found p n d None = empty
clip_found p n d (Some f) = single (record { name = n; owner = f.owner; value = view_value f.value }) (permissions_for p n d)

pub clip_found_lem : (p : Address) (n : ℕ) (d : Dossier) → clip_found p n d (found_of (attribute_at p n d)) ≡ copied p n d empty (attribute_at p n d)
clip_found_lem p n d = go (attribute_at p n d) (λ a e. (attribute_found p n a d.attributes e).1)
  where
    go : (o : Option Attribute) → ((a : Attribute) → o ≡ some a → a.name ≡ n) → clip_found p n d (found_of o) ≡ copied p n d empty o
    go none f = refl
    go (some a) f = ap₂ (λ k v. single (record { name = k; owner = a.owner; value = v }) (permissions_for p n d)) (sym (f a refl)) (value_back a.value)

-- the clipboard that it fills plays no part
pub copied_any : (p : Address) (n : ℕ) (d : Dossier) (c : Clipboard) → T (there (attribute_at p n d)) → copied p n d empty (attribute_at p n d) ≡ copied p n d c (attribute_at p n d)
copied_any p n d c = go (attribute_at p n d)
  where
    go : (o : Option Attribute) → T (there o) → copied p n d empty o ≡ copied p n d c o
    go none t = absurd t
    go (some a) t = refl
