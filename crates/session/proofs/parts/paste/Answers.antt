-- `session::parts::paste` meets its contract: the dossier that the request names and the clipboard are what a paste may rely on. Assumes nothing.
use mathlib.Core.Path.{ap, ◌∙◌}
use Rattle.std.specs.Prelude.{Some}
use Rattle.session.proofs.parts.paste.Goals as goal

pub pasted_at-o-requires : goal.pasted_at-o-requires
pasted_at-o-requires c =
    let ok = c.requires in
    rw (c.dossier_in-d.ensures.0, c.dossier_in-d.ensures.1) (ok.0.sound, ok.1.sound, ok.0.valid, ok.1.allowed, ok.0.class ∙ ap Some ok.2, ok.1.branch)
