-- What an exit does to the forest, with the check of a case after its end.
use Rattle.std.specs.Prelude.{◌≡◌, ◌&&◌, ℕ, Bool, List, None, Option, Some, slice_get, true, if◌then◌else◌}
use Rattle.yw_nest.specs.Does.{all_else}
use Rattle.yw_spec.specs.declared.spec.Net.{Net}
use Rattle.yw_spec.specs.declared.spec.Place.{Place}
use Rattle.yw_spec.specs.declared.task.Task.{Task}
use Rattle.yw_state.specs.After.{due_where}
use Rattle.yw_state.specs.Allowed.{Allowed}
use Rattle.yw_state.specs.Identity.{Ident, is_case_ident}
use Rattle.yw_base.specs.Identity.{case_number}
use Rattle.yw_state.specs.Judged.{case_place, has_rules}
use Rattle.yw_state.specs.Nets.{is_among}
use Rattle.yw_state.specs.State.{State}
use Rattle.yw_state.specs.Texts.{nothing}
use Rattle.yw_state.specs.declared.event.Event.TheVariants as events
use Rattle.yw_state.specs.declared.tree.TreeKind.TheVariants.{Post}
use Rattle.yw_steps.specs.Stands.{DoesWhere, NetIs}
use Rattle.yw_task.specs.Leaving.{Exits as NetExits, IsOutcomeAt}
use Rattle.yw_task.specs.declared.exits.Outcome.{Outcome}
use Rattle.yw_tree.specs.Cases.{case_at}
use Rattle.yw_tree.specs.Places.{net_at, placed_case, placed_net}
use Rattle.yw_tree.specs.declared.Case.{Case}
use Rattle.yw_tree.specs.declared.Forest.{Forest}
use Rattle.yw_tree.specs.declared.NetState.{NetState}

-- The net is as is said, and the exit is allowed. Where the net is a case's own, due_post says whether the tree after the case has a rule.
pub record MayExit (net : Net) (i : Ident) (task : Task) (places : List Place) (due_post : Bool) (s : State) : Type 0 where
  pub net_is : NetIs s i net
  pub allowed : Allowed s (events.Exit i task.name places) nothing
  pub rule : is_case_ident i ≡ true → due_post ≡ has_rules s (case_place net_is.there.part.spec Post)

-- the task with number t exits, and a token comes to each of these places
abbrev pub Exits : Net → Ident → ℕ → Bool → Forest → Forest → Type 0
Exits net i t due_post old new =
    (task : Task) (places : List Place) → slice_get net.tasks t ≡ Some task
    → DoesWhere (λ names. events.Exit i task.name places) (λ names. MayExit net i task places due_post) all_else old new

-- it is what the exit of the task with number t leaves, in the net at i
abbrev pub IsOutcomeIn : Forest → Net → Ident → ℕ → Outcome → Type 0
IsOutcomeIn f net i t out = (state : NetState) → net_at f i ≡ Some state → IsOutcomeAt net t state out

-- ---- the check of a case after its end

-- it is due from now on, if this says so
abbrev pub with_post : Bool → Case → Case
with_post due_post c = record c { due = due_where due_post Post c.due }

abbrev pub over_case : Forest → ℕ → Bool → Option Case → Forest
over_case f n due_post None = f
over_case f n due_post (Some c) = placed_case f n (with_post due_post c)

-- the same of case n, and all else is as in f
abbrev pub case_with_post : Forest → ℕ → Bool → Forest
case_with_post f n due_post = over_case f n due_post (case_at n f.cases)

-- where a token came to the output of the case's own net; else all is as in f
abbrev pub judged : Ident → Net → List ℕ → Bool → Forest → Forest
judged i net cs due_post f = if is_case_ident i && is_among cs net.output then case_with_post f (case_number i) due_post else f

-- ---- on the boxes

-- In new the net at i is one to which the exit of its task with number t leads, and all else is as in old.
pub record NetLeaves (net : Net) (i : Ident) (t : ℕ) (old new : Forest) (numbers : List ℕ) : Type 0 where
  pub before : NetState
  pub later : NetState
  pub found : net_at old i ≡ Some before
  pub placed : new ≡ placed_net old i later
  pub exits : NetExits net t before later numbers
