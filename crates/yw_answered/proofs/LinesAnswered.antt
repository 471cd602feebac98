-- In a state that is well no line lacks an answer.
use Rattle.std.specs.Prelude.{◌≡◌, ℕ, List, [], Result, Ok, Err, refl}
use Rattle.yw_accepted.proofs.Loaded.{accepted_are_within}
use Rattle.yw_texts.proofs.Lacking.{here}
use Rattle.yw_lines.proofs.Asking.{asks_properly}
use Rattle.yw_lines.specs.Meaning.{IsProper, meaning}
use Rattle.yw_lines.specs.Replies.{refused_line}
use Rattle.yw_model.specs.Run.{MeaningAnswers, Step}
use Rattle.yw_texts.specs.Lacking.{CannotLack}
use Rattle.yw_texts.specs.Texts.{reader}
use Rattle.yw_lines.specs.declared.word.Word.{Word}
use Rattle.yw_state.specs.Broken.{placeless}
use Rattle.yw_state.specs.State.{State}
use Rattle.yw_state.specs.Well.{IsWell}
use Rattle.yw_state.specs.declared.command.Asked.{Asked}
use Rattle.yw_state.specs.declared.command.Asked.TheVariants as asked
use Rattle.yw_state.specs.declared.command.Command.{Command}
use Rattle.yw_state.specs.declared.command.Query.{Query}
use Rattle.yw_state.specs.declared.rule.Rule.{Rule}
use Rattle.yw_within.proofs.Finding.{well_holds_within}
use Rattle.yw_answered.proofs.Deciding.{has_answer}
use Rattle.yw_answered.proofs.QueriesAnswered.{query_answered}
use Rattle.yw_answered.proofs.Reading.{reads_all}
use Rattle.yw_answered.specs.Answered.{CommandHasAnswer, LineHasAnswer, QueryHasAnswer}

pub command_has_answer : (s : State) (n : ℕ) (c : Command) → IsWell reader s → IsProper c → CommandHasAnswer s n c
command_has_answer s n c well right = has_answer reads_all s n well (well_holds_within reader s accepted_are_within well) c right

pub query_has_answer : (s : State) (n : ℕ) (q : Query) → IsWell reader s → QueryHasAnswer s n q
query_has_answer s n q well = query_answered s n well (well_holds_within reader s accepted_are_within well) q

refuses : (s : State) (n : ℕ) (r : Rule) → CannotLack ((step : Step) × (t : State) × MeaningAnswers (Err r) s n step t)
refuses s n r = here (record { taken = []; reply = refused_line n (placeless r) }, s, record { nothing = refl; told = refl; same = refl })

pub line_has_answer : (built : List Word) (s : State) (n : ℕ) (line : List ℕ) → IsWell reader s → LineHasAnswer built s n line
line_has_answer built s n line well = by_meaning (meaning built line) refl
  where
    by_meaning : (m : Result Asked Rule) → meaning built line ≡ m → CannotLack ((step : Step) × (t : State) × MeaningAnswers m s n step t)
    by_meaning (Err r) is = refuses s n r
    by_meaning (Ok (asked.Command c)) is = command_has_answer s n c well (asks_properly built line (asked.Command c) is).0
    by_meaning (Ok (asked.Query q)) is = query_has_answer s n q well
