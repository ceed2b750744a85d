-- `state::entries::message_count` meets its contract: a set has as many numbers as bits that are set. Assumes nothing.
use mathlib.Core.Path.{sym}
use lib.Count.{ones-le}
use Rattle.state.proofs.Messages.{length-members}
use Rattle.state.proofs.entries.message_count.Goals as goal

pub returns : goal.returns
returns c =
    let n = c.args.messages in
    let h = c.ranges.messages.fits in
    (sym (length-members n h), ones-le 32 n h)
