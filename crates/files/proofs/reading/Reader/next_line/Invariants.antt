-- `files::reading::Reader::next_line` is safe and ends. Assumes nothing.
use Rattle.std.proofs.Common.{◌≤◌, length}
use Rattle.files.proofs.reading.Reader.next_line.Given as goal

abbrev pub invariant-loop : goal.invariant-loop
invariant-loop g l = l.len ≤ length l.line
