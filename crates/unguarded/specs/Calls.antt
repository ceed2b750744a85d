-- What is answered to the calls without a guard.
use Rattle.std.specs.Prelude.{ℕ, Option, Some, None, Ok, Err}
use Rattle.state.specs.declared.Reply.TheVariants.{Wrote}
use Rattle.state.specs.declared.refusal.Refusal.TheVariants.{ShortBuffer}
use Rattle.state.specs.View.{Answer}

-- "Saving .. answer how many bytes they wrote"; 9: "a lent buffer is too short"
abbrev pub answer_for : Option ℕ → Answer
answer_for None = Err ShortBuffer
answer_for (Some n) = Ok (Wrote n)
