-- `session::parts::edit` meets its contract: the dossier that the request names is what its deed may rely on. Assumes nothing.
use Rattle.session.proofs.Deeds.{either_class}
use Rattle.session.proofs.parts.edit.Goals as goal

pub edited_at-o-requires : goal.edited_at-o-requires
edited_at-o-requires c = let ok = c.requires in rw c.dossier_in-d.ensures.0 (ok.0.sound, ok.0.valid, ok.0.free, either_class ok.0 ok.1)
