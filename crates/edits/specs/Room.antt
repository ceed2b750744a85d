-- What is asked of a whole dossier: room for what is put in.
use Rattle.std.specs.Prelude.{◌≡◌, ℕ, ◌+◌, ◌≤◌, ◌<◌, length}
use Rattle.std.proofs.Math.Option.{none}
use Rattle.path.specs.Address.{Address}
use Rattle.model.specs.Things.{Dossier}
use Rattle.model.specs.Moves.{attribute_at, deepest}

-- room for one more
abbrev pub NodeRoom : Dossier → Type 0
NodeRoom d = length d.nodes < 64

abbrev pub AttributeRoom : Dossier → Type 0
AttributeRoom d = length d.attributes < 256

abbrev pub PermissionRoom : Dossier → Type 0
PermissionRoom d = length d.permissions < 128

-- room for a branch at q
pub record Room (q : Address) (c d : Dossier) : Type 0 where
  pub nodes : length c.nodes + length d.nodes ≤ 64
  pub attributes : length c.attributes + length d.attributes ≤ 256
  pub permissions : length c.permissions + length d.permissions ≤ 128
  pub depth : length q + deepest c.nodes ≤ 6

-- room for a cached attribute under a name at p, where that name is not taken; 0 is no attribute's name
pub record SingleRoom (p : Address) (n : ℕ) (c d : Dossier) : Type 0 where
  pub attribute : AttributeRoom d
  pub permissions : length c.permissions + length d.permissions ≤ 128
  pub named : 0 < n
  pub fresh : attribute_at p n d ≡ none
