-- What can't be lacking of readers of texts, commands and lines. Our own.
use Rattle.std.specs.Prelude.{ℕ, List, Option, Result}
use Rattle.yw_expr.specs.Tree.{Tree}
use Rattle.yw_expr.specs.declared.scope.Binding.{Binding}
use Rattle.yw_lines.specs.Meaning.{meaning}
use Rattle.yw_model.specs.Run.{CommandAnswers, MeaningAnswers, QueryAnswers, Step}
use Rattle.yw_texts.specs.Lacking.{CannotLack}
use Rattle.yw_lines.specs.declared.word.Word.{Word}
use Rattle.yw_spec.specs.declared.spec.Spec.{Spec}
use Rattle.yw_state.specs.Broken.{Breaks}
use Rattle.yw_state.specs.State.{State}
use Rattle.yw_state.specs.Texts.{Reader}
use Rattle.yw_state.specs.declared.command.Command.{Command}
use Rattle.yw_state.specs.declared.command.Query.{Query}
use Rattle.yw_state.specs.declared.rule.Refusal.{Refusal}

-- A reader by which no text lacks a reading: as a specification, or its first fault; and as a condition over some names, or its fault.
pub record ReadsAll (reader : Reader) : Type 0 where
  pub spec : (text : List ℕ) → CannotLack ((said : Result Spec Refusal) × reader.spec text said)
  pub condition : (text : List ℕ) (scope : List Binding) → CannotLack ((said : Result Tree (List ℕ)) × reader.condition text scope said)

-- the first rule that the command breaks is found, or that it breaks none
abbrev pub FindsRule : Reader → State → Command → Type 0
FindsRule reader s c = CannotLack ((found : Option Refusal) × Breaks reader s c found)

-- the command has an answer in this state, as the line with number n
abbrev pub CommandHasAnswer : State → ℕ → Command → Type 0
CommandHasAnswer s n c = CannotLack ((step : Step) × (t : State) × CommandAnswers c s n step t)

-- so has the query
abbrev pub QueryHasAnswer : State → ℕ → Query → Type 0
QueryHasAnswer s n q = CannotLack ((step : Step) × (t : State) × QueryAnswers q s n step t)

-- the line has, where these words are built
abbrev pub LineHasAnswer : List Word → State → ℕ → List ℕ → Type 0
LineHasAnswer built s n line = CannotLack ((step : Step) × (t : State) × MeaningAnswers (meaning built line) s n step t)
