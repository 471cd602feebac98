-- How an item goes on without a person, and when a case is at its end, read off its box.
use Rattle.std.specs.Prelude.{◌≡◌, ℕ, ◌&&◌, Bool, true, false, not, List, Option, Some, None, is_some}
use Rattle.yw_mark.specs.Tokens.{is_marked}
use Rattle.yw_spec.specs.declared.spec.Net.{Net}
use Rattle.yw_spec.specs.declared.task.Kind.{Kind}
use Rattle.yw_spec.specs.declared.task.Kind.TheVariants as kinds
use Rattle.yw_spec.specs.declared.task.Task.{Task}
use Rattle.yw_state.specs.Allowed.{Allowed}
use Rattle.yw_state.specs.Identity.{Ident, case_ident}
use Rattle.yw_state.specs.Joins.{at_output}
use Rattle.yw_state.specs.State.{ItemAt, State, item_at, net_of}
use Rattle.yw_state.specs.Texts.{nothing}
use Rattle.yw_state.specs.Well.{NumbersFit}
use Rattle.yw_state.specs.Words.{clear}
use Rattle.yw_state.specs.declared.event.Event.{Event}
use Rattle.yw_state.specs.declared.event.Event.TheVariants as events
use Rattle.yw_state.specs.declared.part.Stage.{Stage}
use Rattle.yw_state.specs.declared.part.Stage.TheVariants.{Ready, Executing}
use Rattle.yw_enabled.specs.declared.items.ItemStep.{ItemStep}
use Rattle.yw_enabled.specs.declared.items.ItemStep.TheVariants.{StartSub, CompleteSub, CompleteEmpty, CompleteWorklet}
use Rattle.yw_still.specs.Still.{case_ends, item_goes_on}
use Rattle.yw_task.specs.Standing.{ItemStands, NetStands}
use Rattle.yw_tree.specs.Cases.{case_at}
use Rattle.yw_tree.specs.Entries.{net_part}
use Rattle.yw_tree.specs.Forest.{IsForest, sites_of}
use Rattle.yw_tree.specs.declared.Case.{Case}
use Rattle.yw_tree.specs.declared.Forest.{Forest}
use Rattle.yw_tree.specs.declared.NetState.{NetState, out-NetState}
use Rattle.yw_tree.specs.declared.Node.{Node, out-Node}

-- the event of a step of the item at j
abbrev pub event_of : ItemStep → Ident → Event
event_of StartSub j = events.StartSub j
event_of CompleteSub j = events.CompleteSub j
event_of CompleteEmpty j = events.CompleteEmpty j
event_of CompleteWorklet j = events.CompleteWorklet j

-- ---- by the boxes

-- a token is on the output of the net
abbrev pub is_at_output : NetState → Net → Bool
is_at_output state net = is_marked (out-NetState state).marks net.output

-- how an item goes on, by its stage and the kind of its task, where a run hangs at it or not and its net is at its end or not
abbrev pub step_of : Stage → Kind → Bool → Bool → Option ItemStep
step_of Ready kinds.Empty busy ends = Some CompleteEmpty
step_of Ready (kinds.Sub k) false ends = Some StartSub
step_of Executing (kinds.Sub k) false true = Some CompleteSub
step_of Executing kinds.Atomic false true = Some CompleteWorklet
step_of stage kind busy ends = None

abbrev pub item_step : Node → Task → Bool → Option ItemStep
item_step n task ends = step_of (out-Node n).stage task.kind (is_some (out-Node n).run) ends

abbrev pub case_at_end : Case → Net → Bool
case_at_end c net = not (is_some c.run) && is_at_output c.net net

-- ---- by the definitions

-- wherever the net stands, the answer is whether it is at its end
abbrev pub IsAtOutputAs : Net → NetState → Bool → Type 0
IsAtOutputAs net state answer =
    (names : ℕ → List ℕ) (f : Forest) (s : State) (i : Ident) → NetStands names f s i net state → at_output s i ≡ answer

-- The item stands, it is of this task, no work is held at it, and its net is at its end or not.
pub record ItemFree (names : ℕ → List ℕ) (f : Forest) (s : State) (n : Node) (task : Task) (ends : Bool) : Type 0 where
  pub stands : ItemStands names f s n
  pub item : ItemAt
  pub known : item_at s (out-Node n).id ≡ Some item
  pub of_task : item.of_task.task ≡ task
  pub free : clear s (out-Node n).id ≡ true
  pub at_end : at_output s (out-Node n).id ≡ ends

-- The item at j goes on without a person, and this step of it is allowed.
pub record ItemTakes (s : State) (j : Ident) (step : ItemStep) : Type 0 where
  pub goes : item_goes_on s j ≡ true
  pub allowed : Allowed s (event_of step j) nothing

-- it does so, or it doesn't go on where there is none
abbrev pub ItemGoes : State → Ident → Option ItemStep → Type 0
ItemGoes s j (Some step) = ItemTakes s j step
ItemGoes s j None = item_goes_on s j ≡ false

-- wherever the item stands free
abbrev pub StepsAs : Node → Task → Bool → Option ItemStep → Type 0
StepsAs n task ends step =
    (names : ℕ → List ℕ) (f : Forest) (s : State) → ItemFree names f s n task ends → ItemGoes s (out-Node n).id step

-- The case has this number, its net is this one of its specification, and no work is held there.
pub record CaseFree (names : ℕ → List ℕ) (f : Forest) (s : State) (n : ℕ) (c : Case) (net : Net) : Type 0 where
  pub boxed : IsForest f
  pub sites : s.sites ≡ sites_of names f
  pub numbers : NumbersFit s
  pub found : case_at n f.cases ≡ Some c
  pub known : net_of s (net_part names c.net) ≡ Some net
  pub free : clear s (case_ident n) ≡ true

-- The answer is whether the case is at its end; where it is, its finish is allowed.
pub record CaseEnds (s : State) (n : ℕ) (answer : Bool) : Type 0 where
  pub ends : case_ends s (case_ident n) ≡ answer
  pub allowed : answer ≡ true → Allowed s (events.Finish n) nothing

-- wherever the case stands free
abbrev pub CaseEndsAs : Case → Net → Bool → Type 0
CaseEndsAs c net answer = (names : ℕ → List ℕ) (f : Forest) (s : State) (n : ℕ) → CaseFree names f s n c net → CaseEnds s n answer
