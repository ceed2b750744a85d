-- What the C front end asks, as numbers, and what the model answers.
use Rattle.std.specs.Prelude.{List, [], ◌∷◌, ℕ, ℤ}
use Rattle.path.specs.View.{asked}
use Rattle.model.specs.Things.{fresh}
use Rattle.model.specs.Run as run
use Rattle.model.specs.Run.{Question, Reply, step}

-- the numbers as a question: the path is what its length and steps ask for
abbrev pub question_of : ℕ → ℕ → ℤ → ℕ → ℕ → ℕ → ℕ → ℕ → ℕ → ℕ → ℕ → ℕ → Question
question_of role user time len s1 s2 s3 s4 s5 s6 name action =
    record {
      role = role;
      user = user;
      time = time;
      path = asked (record { len = len; steps = s1 ∷ s2 ∷ s3 ∷ s4 ∷ s5 ∷ s6 ∷ [] });
      name = name;
      action = action;
    }

-- ask looks at no session: the model's step on the fresh one
abbrev pub reply_to : List ℕ → Question → List ℕ → Reply
reply_to image q buffer = (step fresh (run.ask image q buffer)).1

-- the second of its lent slices is the output buffer
abbrev pub second : List (List ℕ) → List ℕ
second [] = []
second (a ∷ []) = []
second (a ∷ b ∷ l) = b

abbrev pub out_of : Reply → List ℕ
out_of r = second r.lent
