-- The event that a command asks for, and the entries that may answer it: that event, and what comes of itself behind it until the case
-- is quiet, or until 4,096 events came behind the first. The one entry of one command is our own.
use Rattle.std.specs.Prelude.{◌≡◌, ◌≤◌, ◌↔◌, ℕ, ◌+◌, List, [], ◌∷◌, length, Bool, false, Option, Some, None, option_and_then, option_map, IsTrue, Ok}
use Rattle.yw_spec.specs.declared.spec.Net.{Net}
use Rattle.yw_spec.specs.declared.spec.Place.{Place}
use Rattle.yw_spec.specs.declared.spec.Spec.{Spec}
use Rattle.yw_state.specs.Automatic.{ComeAll, IsQuiet, after_each, case_of}
use Rattle.yw_state.specs.Broken.{Breaks, entry_count}
use Rattle.yw_state.specs.Events.{Leads}
use Rattle.yw_state.specs.Given.{element_value, launch_values, made_values}
use Rattle.yw_base.specs.Identity.{case_number}
use Rattle.yw_state.specs.Judged.{judged, rules_at}
use Rattle.yw_state.specs.State.{State, item_at, task_at, top_called}
use Rattle.yw_state.specs.Texts.{Reader}
use Rattle.yw_state.specs.declared.command.Command.{Command}
use Rattle.yw_state.specs.declared.command.Command.TheVariants as commands
use Rattle.yw_state.specs.declared.event.Event.{Event}
use Rattle.yw_state.specs.declared.event.Event.TheVariants as events
use Rattle.yw_state.specs.declared.tree.TreePlace.{TreePlace}

-- ---- what is asked

abbrev AsksLoad : Reader → List ℕ → Event → Type 0
AsksLoad reader text e = (spec : Spec) × reader.spec text (Ok spec) × (e ≡ events.Load spec.name text)

-- the event that the command asks for; of an Enter the places are left to where it is allowed
unfoldable pub IsAsked : Reader → State → Command → Event → Type 0
IsAsked reader s (commands.Person name roles) e = e ≡ events.Person name roles
IsAsked reader s (commands.Load toml) e = AsksLoad reader toml e
IsAsked reader s (commands.Rule spec net task kind at side when conclusion) e =
    (p : TreePlace) × (p ≡ record { spec = spec; net = net; task = task; kind = kind }) × (e ≡ events.AddRule p at side when conclusion (length (rules_at s p) + 1))
IsAsked reader s (commands.Launch spec gs) e =
    Some e ≡ option_map (λ (net : Net). events.Launch s.next spec (launch_values net.vars gs)) (top_called s spec)
IsAsked reader s (commands.Enter who i t) e =
    (places : List Place) × (Some e ≡ option_map (λ x. events.Enter i t places s.next (entry_count x)) (task_at s i t))
IsAsked reader s (commands.Start who j) e = e ≡ events.Start j who
IsAsked reader s (commands.Complete who j gs) e =
    Some e ≡ option_map (events.Complete j) (option_and_then (λ x. made_values x.of_task.task.outs gs) (item_at s j))
IsAsked reader s (commands.Add who i t value) e =
    Some e ≡ option_map (λ v. events.Add i t v s.next) (option_and_then (λ x. element_value x.task value) (task_at s i t))
IsAsked reader s (commands.Raise j kind) e = Some e ≡ option_map (λ node. events.Raise j kind node s.next) (judged s j kind)
IsAsked reader s (commands.Suspend j) e = e ≡ events.Suspend j
IsAsked reader s (commands.Continue j) e = e ≡ events.Continue j
IsAsked reader s (commands.Cancel j) e = e ≡ events.Cancel (case_number j)
IsAsked reader s (commands.Advance j) e = e ≡ events.Advance (case_number j)

-- ---- legal entries

-- the most events that come of themselves behind a command's own
abbrev pub budget : ℕ
budget = 4096

-- nothing follows an event without a case; an event with one is followed by what comes of itself in it
abbrev pub Follow : State → Option ℕ → List Event → Type 0
Follow s None es = es ≡ []
Follow s (Some n) es = ComeAll s n es

abbrev pub QuietIfCase : State → Option ℕ → Type 0
QuietIfCase s None = Unit {0}
QuietIfCase s (Some n) = IsQuiet s n

-- The events may answer the command; they lead to this state, and the case is quiet then, or not.
pub record IsLegal (reader : Reader) (s : State) (c : Command) (entry : List Event) (quiet : Bool) (t : State) : Type 0 where
  pub unbroken : Breaks reader s c None
  pub first : Event
  pub others : List Event
  pub in_order : entry ≡ first ∷ others
  pub asked : IsAsked reader s c first
  pub mid : State
  pub leads : Leads reader s first mid
  pub follow : Follow mid (case_of first) others
  pub then : t ≡ after_each mid others
  pub within : length others ≤ budget
  pub is_quiet : IsTrue quiet ↔ QuietIfCase t (case_of first)
  -- where something is still to come, the budget is spent
  pub spent : quiet ≡ false → length others ≡ budget
