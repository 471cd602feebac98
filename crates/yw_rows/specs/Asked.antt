-- The event that a line asks for.
use Rattle.std.specs.Prelude.{ℕ, true, List, ◌∷◌}
use Rattle.yw_rows.specs.Play.{Entry, Then, no_reader}
use Rattle.yw_state.specs.Automatic.{after_each}
use Rattle.yw_state.specs.Events.{after}
use Rattle.yw_state.specs.Legal.{IsAsked, IsLegal}
use Rattle.yw_state.specs.Texts.{nothing}
use Rattle.yw_state.specs.declared.command.Command.{Command}
use Rattle.yw_state.specs.declared.event.Event.{Event}

-- it asks for this event then
abbrev pub AsksThen : List Entry → ℕ → Command → Event → Type 0
AsksThen row k c e = Then row k (λ s. IsAsked no_reader s c e)

-- the line may be answered by this event and those behind it, which leave the case quiet
abbrev pub AnsweredThen : List Entry → ℕ → Command → Event → List Event → Type 0
AnsweredThen row k c e es = Then row k (λ s. IsLegal no_reader s c (e ∷ es) true (after_each (after s e nothing) es))
