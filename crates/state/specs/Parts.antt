-- The parts of a session that a request names, and the session with another part.
use Rattle.std.specs.Prelude.{ℕ, eqb}
use Rattle.laws.specs.Slots.{pick}
use Rattle.tables.specs.declared.Dossier.{Dossier}
use Rattle.tables.specs.declared.Clipboard.{Clipboard}
use Rattle.state.specs.declared.Session.{Session}

-- the dossier of that number, and the session with another dossier under it
abbrev pub numbered_in : ℕ → Session → Dossier
numbered_in n s = pick (eqb n 1) s.one s.two

abbrev pub replaced_in : ℕ → Dossier → Session → Session
replaced_in n d s =
    record {
      one = pick (eqb n 1) d s.one;
      two = pick (eqb n 1) s.two d;
      clipboard = s.clipboard;
      signatures = s.signatures;
      log = s.log;
    }

-- the session with another clipboard
abbrev pub clipped_in : Clipboard → Session → Session
clipped_in c s = record { one = s.one; two = s.two; clipboard = c; signatures = s.signatures; log = s.log }
