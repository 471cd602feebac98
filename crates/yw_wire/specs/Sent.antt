-- What is sent: the steps of a reply as items of a JSON list, and values by name as members of an object.
use Rattle.std.specs.Prelude.{ℕ, List, [], ◌∷◌}
use Rattle.std.specs.Borrow.{Bor}
use Rattle.serde_json.specs.Data.{Data, Members, no_members, member, string}
use Rattle.yw_base.specs.declared.value.Value.{Value}
use Rattle.yw_lines.specs.Answers.{value_data}
use Rattle.yw_lines.specs.EventTexts.{step_text}
use Rattle.yw_state.specs.declared.event.Event.{Event}

-- an event as a text
abbrev pub step_data : Event → Data
step_data event = string (step_text event)

-- values by name, as they stand
abbrev pub entry_members : List (Bor (List ℕ) × Bor Value) → Members
entry_members [] = no_members
entry_members (e ∷ es) = member e.0.now (value_data e.1.now) (entry_members es)
