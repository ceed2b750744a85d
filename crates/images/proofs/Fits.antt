-- What load gives fits, so that a save may be asked of it: a good image's dossier is sound. Assumes nothing.
use mathlib.Core.Path.{◌≡◌}
use mathlib.Core.List.{List}
use Prim.Native.Nat.{ℕ}
use Rattle.std.proofs.Common.{Result, Ok, Err, IfOk}
use Rattle.model.specs.Image.{load}
use Rattle.tables.specs.declared.Dossier.{Dossier}
use Rattle.tables.specs.View.{DossierFits}
use Rattle.tables.proofs.Parts.{dossier_fits}
use Rattle.image.specs.declared.BadRecord.{BadRecord}
use Rattle.image.specs.View.{loaded_of}
use Rattle.image.proofs.Corollaries.{loaded_saves}

pub loaded_fits : (b : List ℕ) (r : Result Dossier BadRecord) → r ≡ loaded_of (load b) → IfOk r (λ d. DossierFits d)
loaded_fits b (Ok d) e = dossier_fits (loaded_saves b d e).sound
loaded_fits b (Err k) e = tt
