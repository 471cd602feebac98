-- When the steps of two sessions are those of one, but for the numbers that replies name. Our own.
use Rattle.std.specs.Prelude.{◌≡◌, ◌⊎◌, ℕ, ◌+◌, List, [], ◌∷◌}
use Rattle.serde_json.specs.Data.{Data}
use Rattle.yw_lines.specs.Answers.{answer_line}
use Rattle.yw_lines.specs.Replies.{done_line, refused_line}
use Rattle.yw_model.specs.Run.{Entry, Step}
use Rattle.yw_state.specs.declared.rule.Refusal.{Refusal}

-- Both say the same refusal, the same entry or the same answer: the one reply of the line with number n, the other of the line with number k.
abbrev pub SayTheSame : ℕ → ℕ → List ℕ → List ℕ → Type 0
SayTheSame n k a b =
    ((refusal : Refusal) × (a ≡ refused_line n refusal) × (b ≡ refused_line k refusal))
    ⊎ ((entry : Entry) × (a ≡ done_line n entry.events entry.quiet) × (b ≡ done_line k entry.events entry.quiet))
    ⊎ ((answer : Data) × (a ≡ answer_line n answer) × (b ≡ answer_line k answer))

-- The same comes of line n as of line k, but for the number in the reply.
pub record SameButNumber (n k : ℕ) (a b : Step) : Type 0 where
  pub taken : b.taken ≡ a.taken
  pub reply : SayTheSame n k a.reply b.reply

-- and so step by step, from these numbers on
abbrev pub SameButNumbers : ℕ → ℕ → List Step → List Step → Type 0
SameButNumbers n k [] [] = Unit {0}
SameButNumbers n k [] (b ∷ others) = ⊥
SameButNumbers n k (a ∷ later) [] = ⊥
SameButNumbers n k (a ∷ later) (b ∷ others) = SameButNumber n k a b × SameButNumbers (n + 1) (k + 1) later others
