-- A session with one part stored.
use Rattle.std.specs.Prelude.{List}
use Rattle.tables.specs.declared.Dossier.{Dossier}
use Rattle.state.specs.declared.Agreements.{Agreements}
use Rattle.state.specs.declared.Log.{Log}
use Rattle.state.specs.declared.Session.{Session}

abbrev pub store_one : Session → Dossier → Session
store_one s d = record { one = d; two = s.two; clipboard = s.clipboard; signatures = s.signatures; log = s.log }

abbrev pub store_two : Session → Dossier → Session
store_two s d = record { one = s.one; two = d; clipboard = s.clipboard; signatures = s.signatures; log = s.log }

abbrev pub store_signatures : Session → List Agreements → Session
store_signatures s rows = record { one = s.one; two = s.two; clipboard = s.clipboard; signatures = rows; log = s.log }

abbrev pub store_log : Session → Log → Session
store_log s log = record { one = s.one; two = s.two; clipboard = s.clipboard; signatures = s.signatures; log = log }
