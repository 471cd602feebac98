-- What comes of itself at one identity, and in a case: found, or nothing.
use Rattle.std.specs.List.{All}
use Rattle.std.specs.Prelude.{◌≡◌, ◌↔◌, ◌⊎◌, ℕ, Bool, IsTrue, List, MatchOption, None, Option, Some, option_map, true, false, unwrap_or}
use Rattle.yw_base.specs.Gates.{is_or}
use Rattle.yw_enabled.specs.Entered.{EntersFrom, is_chosen, is_manual as is_manual_by}
use Rattle.yw_enabled.specs.Free.{MayDraw, StandsFree}
use Rattle.yw_enabled.specs.Left.{TellsNet}
use Rattle.yw_idle.specs.Idle.{IsIdle, IsParked, RestsAll, compensation_would_end}
use Rattle.yw_library.specs.Held.{IsHeld}
use Rattle.yw_known.specs.Here.{IsItemHere, IsNetHere}
use Rattle.yw_known.specs.declared.here.ItemHere.{ItemHere}
use Rattle.yw_known.specs.declared.here.NetHere.{NetHere}
use Rattle.yw_library.specs.Holdings.{Holdings}
use Rattle.yw_mark.specs.Taking.{OfTask, taken_places}
use Rattle.yw_mark.specs.declared.join.Taken.{Taken}
use Rattle.yw_path.specs.Upstream.{IsUpstreamOf}
use Rattle.yw_plain.specs.Plain.{is_plain_event}
use Rattle.yw_state.specs.Automatic.{Comes, IsQuiet}
use Rattle.yw_state.specs.Identity.{Ident}
use Rattle.yw_base.specs.Identity.{case_number}
use Rattle.yw_state.specs.Joins.{Waits, at_output}
use Rattle.yw_state.specs.Judged.{is_manual}
use Rattle.yw_state.specs.Texts.{nothing}
use Rattle.yw_state.specs.Allowed.{Allowed}
use Rattle.yw_state.specs.declared.event.Event.TheVariants as events
use Rattle.yw_spec.specs.declared.spec.Place.{Place}
use Rattle.yw_spec.specs.declared.task.Many.{Many}
use Rattle.yw_spec.specs.declared.task.Task.{Task}
use Rattle.yw_state.specs.Nets.{is_atomic}
use Rattle.yw_state.specs.State.{State, TaskAt, is_item, net_part}
use Rattle.yw_state.specs.Values.{Row}
use Rattle.yw_state.specs.declared.event.Event.{Event}
use Rattle.yw_state.specs.Words.{clear, urgent}
use Rattle.yw_still.specs.Still.{case_ends, is_entering, is_leaving, item_goes_on, task_numbered}
use Rattle.yw_task.specs.Giving.{entry_rows}
use Rattle.yw_task.specs.Leaving.{IsOutcomeAt}
use Rattle.yw_task.specs.declared.exits.Outcome.{Outcome}
use Rattle.yw_tree.specs.declared.Forest.{Forest}
use Rattle.yw_tree.specs.Places.{net_at}
use Rattle.yw_tree.specs.declared.NetState.{NetState, out-NetState}
use Rattle.yw_walk.specs.Computed.{IsComputedOf}
use Rattle.yw_walk.specs.declared.found.Found.{Found}
use Rattle.yw_within.specs.Within.{HoldsWithin, NetIsWithin}
use Rattle.yw_plain.specs.Worklets.{HasNoWorklet}

-- The event comes of itself in case n. Where no worklet stands for an item it is of neither a rule tree nor an exlet.
pub record ComesPlainly (s : State) (n : ℕ) (e : Event) : Type 0 where
  pub comes : Comes s n e
  pub plain : HasNoWorklet s → is_plain_event e ≡ true

-- So it is of the event, and this was computed of it.
pub record IsFound (s : State) (n : ℕ) (found : Found) : Type 0 where
  pub comes : ComesPlainly s n found.event
  pub computed : IsComputedOf s found.event found.computed

-- ---- the net at an identity

-- The net is within its specification, and the upstream is its own.
pub record IsKnownHere (h : NetHere) : Type 0 where
  pub within : NetIsWithin h.spec.now h.net.now
  pub upstream : IsUpstreamOf h.net.now h.up.now

-- no task of the net at i may be left
abbrev pub NoneLeft : State → Ident → Type 0
NoneLeft s i = (k : ℕ) (x : TaskAt) → task_numbered s i k ≡ Some x → is_leaving s i x ≡ false

-- a task of the net at i that may be entered by no person has an OR-join that waits
abbrev pub NoneEntered : State → Ident → Type 0
NoneEntered s i = (k : ℕ) (x : TaskAt) → task_numbered s i k ≡ Some x → is_entering s i x ≡ true → IsTrue (is_or x.task.join) × Waits s i x

-- persons enter the atomic tasks and no others
abbrev pub AtomicIsManual : State → Type 0
AtomicIsManual s = (x : TaskAt) → is_manual s x ≡ is_atomic x.task

-- what is told of the tasks of the net at i is right: for which of them trees choose worklets
abbrev pub TellsChosen : State → Ident → List Bool → Type 0
TellsChosen s i chosen = (k : ℕ) (x : TaskAt) → task_numbered s i k ≡ Some x → is_manual s x ≡ is_manual_by x.task (is_chosen chosen k)

-- so many items an entry of the task may make
abbrev pub most_items : Task → ℕ
most_items t = unwrap_or (option_map (λ (m : Many). m.max) t.many) 1

-- wherever the net stands free and its task with this number may be left, it is left by this event, if its exit leaves this
abbrev pub IsExit : NetHere → Ident → ℕ → Outcome → Found → Type 0
IsExit h i t out found =
    (names : ℕ → List ℕ) (f : Forest) (s : State) (x : TaskAt) → StandsFree names f s i h.net.now h.state.now → HoldsWithin s
    → task_numbered s i t ≡ Some x → is_leaving s i x ≡ true → IsOutcomeAt h.net.now t h.state.now out → IsFound s (case_number i) found

-- The event enters the task of this name in the net at i, whoever does it: from some places, with so many items, numbered from the counter on.
-- It is allowed.
pub record EntersAs (s : State) (i : Ident) (name : List ℕ) (e : Event) : Type 0 where
  pub places : List Place
  pub count : ℕ
  pub is : e ≡ events.Enter i name places s.next count
  pub allowed : Allowed s e nothing

-- So does the event, and this was computed of it.
pub record IsEntered (s : State) (i : Ident) (name : List ℕ) (found : Found) : Type 0 where
  pub enters : EntersAs s i name found.event
  pub computed : IsComputedOf s found.event found.computed

-- each item of an entry of the task with this number is given one of these rows
abbrev pub GivesRows : NetHere → ℕ → List Row → Type 0
GivesRows h t rows = OfTask h.net.now t (λ task. rows ≡ entry_rows task (out-NetState h.state.now).vals)

-- where the number is drawn next too, and the task may be entered by this choice of its join, this event enters it
abbrev pub IsEntry : NetHere → Ident → ℕ → ℕ → Taken → Found → Type 0
IsEntry h i next t taken found =
    (names : ℕ → List ℕ) (f : Forest) (s : State) (x : TaskAt) → MayDraw names f s i h.net.now h.state.now next → HoldsWithin s
    → task_numbered s i t ≡ Some x → EntersFrom s i x (taken_places (out-NetState h.state.now).marks x.task.before taken)
    → IsEntered s i x.task.name found

-- wherever the net stands free, a task is left by this event, or none may be
abbrev pub FindsLeft : NetHere → Ident → Option Found → Type 0
FindsLeft h i found =
    (names : ℕ → List ℕ) (f : Forest) (s : State) → StandsFree names f s i h.net.now h.state.now → HoldsWithin s
    → MatchOption found (NoneLeft s i) (IsFound s (case_number i))

-- where the number is drawn next too, and what is told of the tasks is right, a task is entered by this event, or none may be
abbrev pub FindsEntered : NetHere → Ident → ℕ → List Bool → Option Found → Type 0
FindsEntered h i next chosen found =
    (names : ℕ → List ℕ) (f : Forest) (s : State) → MayDraw names f s i h.net.now h.state.now next → HoldsWithin s → TellsChosen s i chosen
    → MatchOption found (NoneEntered s i) (IsFound s (case_number i))

-- what is told of the net at i in the forest is right: how many items of each task are done
abbrev pub TellsAt : Forest → Ident → Option (List ℕ) → Type 0
TellsAt f i told = (state : NetState) → net_at f i ≡ Some state → TellsNet state told

-- ---- an identity

-- What is known, the forest and the number that is drawn next stand for this state. In case n nothing is urgent and no compensation is at its end.
-- Persons enter the atomic tasks and no others.
pub record StandsCalm (known : Holdings) (f : Forest) (next n : ℕ) (s : State) : Type 0 where
  pub held : IsHeld known f s
  pub calm : urgent s n ≡ false
  pub compensation : (j : Ident) → case_number j ≡ n → compensation_would_end s j ≡ false
  pub manual : AtomicIsManual s
  pub drawn : s.next ≡ next

-- where nothing is urgent, nothing comes of itself at j: it is idle, or work is held there
abbrev pub Rests : State → Ident → Type 0
Rests s j = IsIdle s j ⊎ IsParked s j

-- What is known, the forest and the number that is drawn next stand for this state. Nothing holds work at j, and persons enter the atomic tasks and
-- no others.
pub record IsFreeAt (known : Holdings) (f : Forest) (next : ℕ) (j : Ident) (s : State) : Type 0 where
  pub held : IsHeld known f s
  pub free : clear s j ≡ true
  pub manual : AtomicIsManual s
  pub drawn : s.next ≡ next

-- the net at an identity is this one, or none stands there
abbrev pub StandsAt : Holdings → Forest → Ident → Option NetHere → Type 0
StandsAt known f j found = (s : State) → IsHeld known f s → MatchOption found (net_part s j ≡ None) (IsNetHere known f s j)

-- so is the item
abbrev pub IsItemAt : Holdings → Forest → Ident → Option ItemHere → Type 0
IsItemAt known f j found = (s : State) → IsHeld known f s → MatchOption found (is_item s j ≡ false) (IsItemHere known f s j)

-- the net there is at its end, or none stands there that is
abbrev pub IsAtEnd : Holdings → Forest → Ident → Bool → Type 0
IsAtEnd known f j ends = (s : State) → IsHeld known f s → at_output s j ≡ ends

-- where nothing holds work, the case is finished by this event, or it isn't at its end or a run hangs there
abbrev pub FindsFinish : Holdings → Forest → Ident → Bool → Option Found → Type 0
FindsFinish known f j ends found =
    (s : State) → IsHeld known f s → clear s j ≡ true → at_output s j ≡ ends
    → MatchOption found (case_ends s j ≡ false) (IsFound s (case_number j))

-- where nothing holds work, the item goes on by this event, or it doesn't
abbrev pub FindsStep : Holdings → Forest → Ident → Bool → Option Found → Type 0
FindsStep known f j ends found =
    (s : State) → IsHeld known f s → clear s j ≡ true → at_output s j ≡ ends
    → MatchOption found (item_goes_on s j ≡ false) (IsFound s (case_number j))

-- a task of the net there is left or entered by this event, or none may be
abbrev pub FindsTasks : Holdings → Forest → Ident → ℕ → Option Found → Type 0
FindsTasks known f j next found =
    (s : State) → IsFreeAt known f next j s → MatchOption found (NoneLeft s j × NoneEntered s j) (IsFound s (case_number j))

-- the item goes on by this event, or a task of the net there is left or entered by it; or nothing of this is so
abbrev pub FindsItemOrTasks : Holdings → Forest → Ident → ℕ → Option Found → Type 0
FindsItemOrTasks known f j next found =
    (s : State) → IsFreeAt known f next j s
    → MatchOption found ((item_goes_on s j ≡ false) × NoneLeft s j × NoneEntered s j) (IsFound s (case_number j))

-- this event comes of itself there, or nothing does
abbrev pub FindsAt : Holdings → Forest → Ident → ℕ → Option Found → Type 0
FindsAt known f j next found =
    (s : State) → StandsCalm known f next (case_number j) s → MatchOption found (Rests s j) (IsFound s (case_number j))

-- at one of these identities, which are all in case n, this event comes of itself, or at none of them does anything
abbrev pub FindsAmong : Holdings → Forest → ℕ → List Ident → ℕ → Option Found → Type 0
FindsAmong known f n js next found =
    (s : State) → StandsCalm known f next n s → All (λ j. case_number j ≡ n) js → MatchOption found (All (Rests s) js) (IsFound s n)

-- ---- a case

-- this event comes of itself in the case, or at each identity in it nothing does, and so it is quiet
abbrev pub FindsNext : Holdings → Forest → ℕ → ℕ → Option Found → Type 0
FindsNext known f n next found =
    (s : State) → StandsCalm known f next n s → MatchOption found (RestsAll s n × IsQuiet s n) (IsFound s n)

-- whether the case is quiet
abbrev pub TellsQuiet : Holdings → Forest → ℕ → ℕ → Bool → Type 0
TellsQuiet known f n next quiet = (s : State) → StandsCalm known f next n s → IsTrue quiet ↔ IsQuiet s n
