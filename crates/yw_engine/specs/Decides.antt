-- What a command does to what is held. Our own.
use Rattle.std.specs.Prelude.{◌≡◌, ℕ, Bool, List, Option, Some, None, false, true, MatchOption, Result, Ok, Err, if◌then◌else◌}
use Rattle.std.specs.List.{list_all}
use Rattle.yw_base.specs.Identity.{case_number}
use Rattle.yw_breaks.specs.Persons.{HasRoles}
use Rattle.yw_built.specs.Built.{is_built}
use Rattle.yw_cases.specs.State.{MayStand}
use Rattle.yw_cases.specs.Tried.{IsNumbered}
use Rattle.yw_engine.specs.declared.begin.Numbered.{Numbered}
use Rattle.yw_engine.specs.declared.fault.Decided.{Decided}
use Rattle.yw_engine.specs.declared.fault.EngineFault.{EngineFault}
use Rattle.yw_engine.specs.declared.fault.EngineFault.TheVariants as faults
use Rattle.yw_standing.specs.State.{state_of}
use Rattle.yw_standing.specs.Tried.{LeadsNowhere}
use Rattle.yw_standing.specs.declared.standing.Standing.{Standing}
use Rattle.yw_texts.specs.Texts.{reader}
use Rattle.yw_state.specs.Automatic.{Comes, IsQuiet}
use Rattle.yw_state.specs.Broken.{Breaks, placeless}
use Rattle.yw_state.specs.Events.{Leads}
use Rattle.yw_state.specs.Identity.{Ident}
use Rattle.yw_state.specs.Legal.{IsAsked, IsLegal}
use Rattle.yw_state.specs.declared.command.Command.{Command}
use Rattle.yw_state.specs.declared.command.Command.TheVariants as commands
use Rattle.yw_state.specs.declared.event.Event.{Event}
use Rattle.yw_state.specs.declared.rule.Refusal.{Refusal}
use Rattle.yw_state.specs.declared.rule.Rule.TheVariants.{NotQuiet}
use Rattle.yw_still.specs.Still.{SomethingComes}
use Rattle.yw_walk.specs.Computed.{IsComputedOf}
use Rattle.yw_walk.specs.Finds.{IsEntered}
use Rattle.yw_walk.specs.declared.found.Found.{Found}

-- ---- an event

-- The event is allowed, and led to what is held now, which is well.
pub record IsDone (old : Standing) (e : Event) (new : Standing) : Type 0 where
  pub leads : Leads reader (state_of old) e (state_of new)
  pub stands : MayStand new

-- the event is allowed, and led to what is held now; or it leads nowhere, and nothing has changed
abbrev pub IsApplied : Standing → Event → Bool → Standing → Type 0
IsApplied old e true new = Leads reader (state_of old) e (state_of new)
IsApplied old e false new = LeadsNowhere old e × (new ≡ old)

-- The event comes of itself in the case, and is built; and this was computed of it.
pub record IsComing (h : Standing) (n : ℕ) (w : Found) : Type 0 where
  pub comes : Comes (state_of h) n w.event
  pub built : is_built w.event ≡ true
  pub computed : IsComputedOf (state_of h) w.event w.computed

-- so it is, or the case is quiet
abbrev pub IsNext : Standing → ℕ → Option Found → Type 0
IsNext h n found = MatchOption found (IsQuiet (state_of h) n) (IsComing h n)

-- ---- a command

-- The events may answer the command, and are built; they led to what is held now, which is well.
pub record IsDecided (old : Standing) (c : Command) (d : Decided) (new : Standing) : Type 0 where
  pub legal : IsLegal reader (state_of old) c d.events d.quiet (state_of new)
  pub built : list_all is_built d.events ≡ true
  pub stands : MayStand new

-- The command breaks this rule first, and nothing has changed.
pub record IsRefused (old : Standing) (c : Command) (refusal : Refusal) (new : Standing) : Type 0 where
  pub breaks : Breaks reader (state_of old) c (Some refusal)
  pub same : new ≡ old

-- one of them, or no memory was left
abbrev pub Decides : Standing → Command → Result Decided EngineFault → Standing → Type 0
Decides old c (Ok d) new = IsDecided old c d new
Decides old c (Err (faults.Refused refusal)) new = IsRefused old c refusal new
Decides old c (Err faults.Memory) new = Unit {0}
Decides old c (Err faults.Spent) new = ⊥

-- the events answer each command that breaks no rule and asks for this event
abbrev pub Answers : Standing → Event → Decided → Standing → Type 0
Answers old e d new = (c : Command) → Breaks reader (state_of old) c None → IsAsked reader (state_of old) c e → IsDecided old c d new

-- ---- a command of a case

-- whether the case is quiet
abbrev pub TellsRest : Standing → ℕ → Bool → Type 0
TellsRest h n true = IsQuiet (state_of h) n
TellsRest h n false = SomethingComes (state_of h) n

-- so it is told, if anybody has the person's name
abbrev pub TellsRestFor : Standing → List ℕ → ℕ → Bool → Type 0
TellsRestFor h who n quiet = (roles : List (List ℕ)) → HasRoles h.known who roles → TellsRest h n quiet

-- so it is of the case of each command that wants it to be quiet
abbrev pub TellsRestOf : Standing → Command → Bool → Type 0
TellsRestOf h (commands.Enter who i t) quiet = TellsRestFor h who (case_number i) quiet
TellsRestOf h (commands.Start who j) quiet = TellsRestFor h who (case_number j) quiet
TellsRestOf h (commands.Complete who j gs) quiet = TellsRestFor h who (case_number j) quiet
TellsRestOf h (commands.Add who i t value) quiet = TellsRestFor h who (case_number i) quiet
TellsRestOf h c quiet = Unit {0}

-- NotQuiet, where the case isn't
abbrev pub quiet_rule : Bool → Option Refusal
quiet_rule quiet = if quiet then None else Some (placeless NotQuiet)

-- what the check finds that the case is quiet: NotQuiet where something comes of itself there, else nothing
abbrev pub BreaksQuiet : Standing → ℕ → Option Refusal → Type 0
BreaksQuiet h n (Some refusal) = SomethingComes (state_of h) n × (refusal ≡ placeless NotQuiet)
BreaksQuiet h n None = IsQuiet (state_of h) n

-- in what is held the command breaks this rule first, or none
abbrev pub BreaksNow : Standing → Command → Option Refusal → Type 0
BreaksNow h c found = Breaks reader (state_of h) c found

-- In what is held the command breaks no rule, and this is the event that it asks for; or this is the rule that it breaks first; or no memory
-- was left.
abbrev pub Makes : Standing → Command → Result Event EngineFault → Type 0
Makes h c (Ok e) = BreaksNow h c None × IsAsked reader (state_of h) c e
Makes h c (Err (faults.Refused refusal)) = BreaksNow h c (Some refusal)
Makes h c (Err faults.Memory) = Unit {0}
Makes h c (Err faults.Spent) = ⊥

-- In what is held an entry breaks no rule, and this is an event that enters the task of this name in the net at i, with what was computed of it; or
-- it is refused, or no memory was left.
abbrev pub MakesEntry : Standing → List ℕ → Ident → List ℕ → Result Found EngineFault → Type 0
MakesEntry h who i name (Ok found) = BreaksNow h (commands.Enter who i name) None × IsEntered (state_of h) i name found
MakesEntry h who i name (Err fault) = Makes h (commands.Enter who i name) (Err fault)

-- In what is held a launch, an addition breaks no rule, and this is the event that it asks for, with its number; or it is refused, or no memory was
-- left.
abbrev pub MakesNumbered : Standing → Command → Result Numbered EngineFault → Type 0
MakesNumbered h c (Ok x) = Makes h c (Ok x.event) × IsNumbered h x.event x.number
MakesNumbered h c (Err fault) = Makes h c (Err fault)
