-- The event that a command asks for, where the command breaks no rule.
use Rattle.std.specs.Prelude.{◌≡◌, ℕ, List, None, Option, Some, Result, Ok, Err}
use Rattle.yw_base.specs.declared.value.Value.{Value}
use Rattle.yw_breaks.specs.Finds.{FindsNext}
use Rattle.yw_breaks.specs.Nets.{IsTaskNamed}
use Rattle.yw_breaks.specs.Persons.{HasRoles}
use Rattle.yw_breaks.specs.Tables.{add_rest}
use Rattle.yw_breaks.specs.declared.asked.AddAsked.{AddAsked}
use Rattle.yw_known.specs.Here.{SaysNet}
use Rattle.yw_known.specs.declared.here.NetHere.{NetHere}
use Rattle.yw_library.specs.Held.{IsHeld}
use Rattle.yw_library.specs.Holdings.{Holdings}
use Rattle.yw_texts.specs.Texts.{reader}
use Rattle.yw_state.specs.Allowed.{Allowed}
use Rattle.yw_state.specs.Broken.{Breaks}
use Rattle.yw_state.specs.Identity.{Ident}
use Rattle.yw_state.specs.Legal.{IsAsked}
use Rattle.yw_state.specs.State.{State}
use Rattle.yw_state.specs.Texts.{nothing}
use Rattle.yw_state.specs.Values.{Row}
use Rattle.yw_state.specs.declared.command.Command.{Command}
use Rattle.yw_state.specs.declared.command.Command.TheVariants as commands
use Rattle.yw_state.specs.declared.command.Given.{Given}
use Rattle.yw_state.specs.declared.event.Event.{Event}
use Rattle.yw_state.specs.declared.event.Event.TheVariants as events
use Rattle.yw_state.specs.declared.rule.Refusal.{Refusal}
use Rattle.yw_tree.specs.declared.Forest.{Forest}

-- where the command breaks no rule, the event that it asks for is allowed
abbrev pub IsAllowed : State → Command → Event → Type 0
IsAllowed s c e = Breaks reader s c None → IsAsked reader s c e → Allowed s e nothing

-- in each state that is held, whatever stands in cases, and in which this number is drawn next, the launch asks for this event
abbrev pub LaunchAsks : Holdings → ℕ → List ℕ → List Given → Event → Type 0
LaunchAsks known next name gs e =
    (f : Forest) (s : State) → IsHeld known f s → s.next ≡ next → IsAsked reader s (commands.Launch name gs) e

-- in each state that is held and in which this number is drawn next, the addition asks for this event
abbrev pub AddAsks : Holdings → Forest → ℕ → List ℕ → Ident → List ℕ → Option Value → Event → Type 0
AddAsks known f next who i t value e = (s : State) → IsHeld known f s → s.next ≡ next → IsAsked reader s (commands.Add who i t value) e

-- None of the checks behind is broken by an addition, which asks for this event; or this is the first that is.
abbrev pub FindsAdd : Holdings → Forest → ℕ → List ℕ → Ident → List ℕ → Option Value → Result Event Refusal → Type 0
FindsAdd known f next who i t value (Ok e) = FindsNext known f next (λ s. add_rest s who i t value) None × AddAsks known f next who i t value e
FindsAdd known f next who i t value (Err refusal) = FindsNext known f next (λ s. add_rest s who i t value) (Some refusal)

-- so it is where the net stands at i, whoever with these roles adds to its task of this name
abbrev pub AddMakes : Forest → List (List ℕ) → NetHere → ℕ → Ident → List ℕ → Option Value → Result Event Refusal → Type 0
AddMakes f roles h next i t value made =
    (known : Holdings) (who : List ℕ) → HasRoles known who roles → SaysNet known f i h → FindsAdd known f next who i t value made

-- so it is of the event that is found, and the net's task of this name has this number; or it is refused
abbrev pub AddFinds : Forest → List (List ℕ) → NetHere → ℕ → Ident → List ℕ → Option Value → Result AddAsked Refusal → Type 0
AddFinds f roles h next i t value (Ok x) = AddMakes f roles h next i t value (Ok x.event) × IsTaskNamed h.net.now t x.task
AddFinds f roles h next i t value (Err refusal) = AddMakes f roles h next i t value (Err refusal)

-- in each state that is held the completion asks for the event with these values
abbrev pub CompleteMakes : Holdings → Forest → Ident → List Given → Row → Type 0
CompleteMakes known f j gs out =
    (s : State) → IsHeld known f s → (who : List ℕ) → IsAsked reader s (commands.Complete who j gs) (events.Complete j out)
