-- `words::words_in` meets its contract. The loop's invariant: the words so far stand in the array. Assumes nothing.
use Rattle.std.proofs.Common.{◌≡◌, ◌≤◌, length, take}
use Rattle.words.proofs.words_in.Given as goal

abbrev pub invariant-loop-word : goal.invariant-loop-word
invariant-loop-word l = record {
  room : length l.ws.at ≡ 18;
  few : l.ws.count ≤ 18;
  each : l.ws.count ≡ length l.yielded;
  held : take l.ws.count l.ws.at ≡ l.yielded;
}
