-- What an image loads as.
use Rattle.std.specs.Prelude.{Result, Ok, Err}
use Rattle.model.specs.Things as things
use Rattle.model.specs.Image.{bad, good}
use Rattle.model.specs.Image as images
use Rattle.tables.specs.declared.Dossier.{Dossier}
use Rattle.tables.specs.View.{dossier_of}
use Rattle.image.specs.declared.BadRecord.{BadRecord}

abbrev pub loaded_of : images.Loaded things.Dossier → Result Dossier BadRecord
loaded_of (bad k) = Err (record { number = k })
loaded_of (good d) = Ok (dossier_of d)
