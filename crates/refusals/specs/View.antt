-- The structs of this crate and the model.
use Rattle.std.proofs.Math.Option.{Option, none, some}
use Rattle.std.specs.Prelude.{ℕ, ◌≤◌, Some, None}
use Rattle.std.specs.Prelude as structs
use Rattle.path.specs.View.{steps}
use Rattle.model.specs.Refusals.{Request, Cached}
use Rattle.tables.specs.View.{view_value, view_grant}
use Rattle.state.specs.declared.refusal.Refusal.{Refusal}
use Rattle.state.specs.Refusals.{number_of}
use Rattle.refusals.specs.declared.Placed.{Placed}
use Rattle.refusals.specs.declared.Cache.{Cache}

abbrev pub view_placed : Placed → Request
view_placed q =
    record {
      number = q.number;
      dossier = q.dossier;
      role = q.role;
      user = q.user;
      time = q.time;
      path = steps q.path;
      name = q.name;
      value = view_value q.value;
      permission = view_grant q.permission;
    }

abbrev pub view_cache : Cache → Cached
view_cache c =
    record {
      branch = c.branch;
      attribute = c.attribute;
      sizes = record { nodes = c.nodes; attributes = c.attributes; permissions = c.permissions };
      height = c.height;
    }

-- a clipboard "has the same bounds as a dossier"
pub record CacheSound (c : Cache) : Type 0 where
  pub nodes : c.nodes ≤ 64
  pub attributes : c.attributes ≤ 256
  pub permissions : c.permissions ≤ 128
  pub height : c.height ≤ 6

-- the first of the shelves' refusals that applies, by its number
abbrev pub view_shelf : structs.Option Refusal → Option ℕ
view_shelf None = none
view_shelf (Some e) = some (number_of e)
