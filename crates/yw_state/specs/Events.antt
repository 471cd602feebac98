-- The state after an event, one row for each kind, and what a list of events leads to. The rows from Launch to CompleteEmpty are the
-- paper's transitions; AddRule and those from Pass on are after the thesis; Person and Load are our own.
use Rattle.std.specs.Prelude.{◌≡◌, List, [], ◌∷◌}
use Rattle.yw_state.specs.After.{add, add_rule, begin_run, begun, change, complete, completed, end_case, end_net, enter, exit, launch, load, pass, start_sub, substitute, where_some, with_item}
use Rattle.yw_state.specs.Allowed.{Allowed}
use Rattle.yw_state.specs.ByName.{made_by_child, made_by_worklet}
use Rattle.yw_state.specs.Exlets.{continue_at, end_compensation, suspend, take_primitive}
use Rattle.yw_state.specs.Map.{insert}
use Rattle.yw_state.specs.State.{State, item_at, task_at}
use Rattle.yw_state.specs.Texts.{Reader, Said, Says}
use Rattle.std.specs.Prelude.{Some}
use Rattle.yw_state.specs.declared.event.Event.{Event}
use Rattle.yw_state.specs.declared.event.Event.TheVariants as events
use Rattle.yw_state.specs.declared.part.Way.TheVariants.{Finished, Cancelled}

-- what the event does, whose text says this
unfoldable pub after : State → Event → Said → State
after s (events.Person name roles) said = record s { persons = insert s.persons name roles }
after s (events.Load name text) said = load s name text said
after s (events.AddRule p at side when conclusion number) said = add_rule s p at side when conclusion said
after s (events.Launch n spec vals) said = launch s n spec vals
after s (events.Enter i t places first count) said = where_some (task_at s i t) s (enter s i places first)
after s (events.Start j who) said = change s j (with_item (begun (Some who)))
after s (events.Complete j out) said = where_some (item_at s j) s (complete s j out)
after s (events.Exit i t places) said = where_some (task_at s i t) s (exit s i places)
after s (events.Add i t value n) said = where_some (task_at s i t) s (add s i value n)
after s (events.Finish n) said = end_case s n Finished
after s (events.Cancel n) said = end_case s n Cancelled
after s (events.StartSub j) said = where_some (item_at s j) s (start_sub s j)
after s (events.CompleteSub j) said = where_some (item_at s j) s (end_net s j made_by_child)
after s (events.CompleteEmpty j) said = change s j (with_item (completed []))
after s (events.Pass j check) said = pass s j check
after s (events.Except j check node n) said = begin_run (pass s j check) j check node n
after s (events.Substitute j worklet) said = where_some (item_at s j) s (substitute s j worklet)
after s (events.CompleteWorklet j) said = where_some (item_at s j) s (end_net s j made_by_worklet)
after s (events.Raise j kind node n) said = begin_run s j kind node n
after s (events.Prim r p) said = take_primitive s r p
after s (events.Compensated r) said = end_compensation s r
after s (events.Suspend j) said = suspend s j
after s (events.Continue j) said = continue_at s j
after s (events.Advance n) said = s

-- The event is allowed, and leads to this state.
pub record Leads (reader : Reader) (s : State) (e : Event) (t : State) : Type 0 where
  pub said : Said
  pub says : Says reader s e said
  pub allowed : Allowed s e said
  pub then : t ≡ after s e said

-- each of the events is allowed in its turn, and they lead to this state
abbrev pub LeadAll : Reader → State → List Event → State → Type 0
LeadAll reader s [] t = t ≡ s
LeadAll reader s (e ∷ es) t = (mid : State) × Leads reader s e mid × LeadAll reader mid es t
