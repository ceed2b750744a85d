-- The structs of this crate and the model.
use Rattle.std.proofs.Math.Option.{Option, none, some}
use Rattle.std.specs.Prelude as std
use Rattle.std.specs.Prelude.{List, Some, None}
use Rattle.model.specs.Decide as model
use Rattle.model.specs.Moves.{holds}
use Rattle.model.specs.Things.{Permission}
use Rattle.grants.specs.declared.Subject.{Subject}
use Rattle.grants.specs.declared.Provisions.{Provisions}
use Rattle.grants.specs.declared.Walk.{Walk}
use Rattle.grants.specs.declared.Weights.{Weights}

abbrev pub view_subject : Subject → model.Subject
view_subject s = record { role = s.role; user = s.user; time = s.time }

-- the meaning of a decision: none, or the provisions
abbrev pub decision_of : Option model.Provisions → std.Option Provisions
decision_of none = None
decision_of (some p) = Some (record { messages = p.messages; agreements = p.agreements })

abbrev pub view_decision : std.Option Provisions → Option model.Provisions
view_decision None = none
view_decision (Some p) = some (record { messages = p.messages; agreements = p.agreements })

-- what an object's permissions give the subject: "read 1, change 2, delegate 4"
abbrev pub walk_of : model.Subject → List Permission → Walk
walk_of s l = record { read = decision_of (model.matched s 1 l); change = decision_of (model.matched s 2 l); delegate = decision_of (model.matched s 4 l) }

-- whether an object has exactly this permission, one that covers it, one that clashes with it
abbrev pub weights_of : model.Subject → Permission → List Permission → Weights
weights_of s g l = record { held = holds g l; covered = model.cover_any s g l; clashing = model.clash_any g l }
