-- What a primitive needs, and the events of runs.
use Rattle.std.specs.Prelude.{◌≡◌, ◌&&◌, IsSome, List, None, Option, Some, is_some, not, option_and_then, option_map, ℕ}
use Rattle.std.specs.Borrow.{Bor}
use Rattle.yw_base.specs.Identity.{case_number, parent}
use Rattle.yw_exlet.specs.Stands.{BareRunAt, TargetAt, first_at}
use Rattle.yw_exlet.specs.declared.first.Outcome.{Outcome}
use Rattle.yw_exlet.specs.declared.first.Outcome.TheVariants as outcomes
use Rattle.yw_nest.specs.Cases.{with_ended}
use Rattle.yw_nest.specs.Does.{Does, NeedsNothing, all_else}
use Rattle.yw_nest.specs.Values.{var_value}
use Rattle.yw_spec.specs.declared.spec.Net.{Net}
use Rattle.yw_spec.specs.declared.spec.Spec.{Spec}
use Rattle.yw_spec.specs.declared.task.Task.{Task}
use Rattle.yw_state.specs.ByName.{Valuation, param_value}
use Rattle.yw_state.specs.Exlets.{case_above}
use Rattle.yw_state.specs.Identity.{Ident, is_case_ident}
use Rattle.yw_state.specs.Judged.{has_rules, task_place}
use Rattle.yw_state.specs.Nets.{is_atomic}
use Rattle.yw_state.specs.State.{ItemAt, NetAt, State, item_at, net_at, spec_called}
use Rattle.yw_state.specs.declared.event.Event.TheVariants as events
use Rattle.yw_state.specs.declared.part.Checks.{Checks}
use Rattle.yw_state.specs.declared.part.Way.TheVariants.{Removed}
use Rattle.yw_state.specs.declared.tree.Primitive.{Primitive}
use Rattle.yw_state.specs.declared.tree.Primitive.TheVariants.{CompleteItem, Compensate, RemoveCase, RestartItem}
use Rattle.yw_state.specs.declared.tree.TreeKind.TheVariants.{Select}
use Rattle.yw_tree.specs.Forest.{item_of}
use Rattle.yw_tree.specs.Places.{net_at as net_found}
use Rattle.yw_tree.specs.declared.Forest.{Forest}
use Rattle.yw_tree.specs.declared.NetState.{NetState, out-NetState}
use Rattle.yw_tree.specs.declared.Node.{Node, out-Node}

-- ---- what the caller hands over

-- The specification that a compensation names, with its number, where one of that name is loaded.
abbrev pub IsNamed : (ℕ → List ℕ) → State → Primitive → Option (Spec × ℕ) → Type 0
IsNamed names s (Compensate name) None = spec_called s name ≡ None
IsNamed names s (Compensate name) (Some e) = (names e.1 ≡ name) × (spec_called s name ≡ Some e.0)
IsNamed names s p comp = Unit {0}

-- The net of the run's case, the task of its target where that is an item, the specification of a compensation, and what is due at an item
-- that begins anew.
pub record TakesAs (top : Net) (item : Option Task) (comp : Option (Spec × ℕ)) (due : Checks) (r : Ident) (p : Primitive) (names : ℕ → List ℕ) (s : State) : Type 0 where
  pub net : option_map (λ (n : NetAt). n.net) (net_at s (case_above r)) ≡ Some top
  pub task : option_map (λ (x : ItemAt). x.of_task.task) (item_at s (parent r)) ≡ item
  pub spec : IsNamed names s p comp
  pub select : (x : ItemAt) → item_at s (parent r) ≡ Some x → due.select ≡ (is_atomic x.of_task.task && has_rules s (task_place x.of_task Select))

-- what is handed to a compensation by a run at j
abbrev pub handed : Forest → Ident → Net → Option Task → Valuation
handed f j top None name = option_and_then (λ (u : NetState). var_value top.vars (out-NetState u).vals name) (net_found f j)
handed f j top (Some task) name = option_and_then (λ (n : Node). param_value task.ins (out-Node n).given name) (item_of f j)

-- a task comes exactly where the run hangs at an item
abbrev pub FitsTarget : Ident → Option Task → Type 0
FitsTarget j item = is_some item ≡ not (is_case_ident j)

-- what hands it over stands
abbrev pub SourceStands : Forest → Ident → Option Task → Type 0
SourceStands f j None = IsSome (net_found f j)
SourceStands f j (Some task) = IsSome (item_of f j)

-- A run that isn't a case and has no net stands at r, and what it hangs at and its case stand. A task comes exactly where it hangs at an item.
pub record MayTake (f : Forest) (item : Option Task) (r : Ident) : Type 0 where
  pub runs : BareRunAt f r
  pub target : TargetAt f (parent r)
  pub case : TargetAt f (case_above r)
  pub fits : FitsTarget (parent r) item

-- a specification that is handed over, with its number
abbrev pub named_spec : Bor Spec × ℕ → Spec × ℕ
named_spec e = (e.0.now, e.1)

-- ---- the events

-- of what is in no forest, that a case was removed
abbrev pub left : Ident → Primitive → State → State
left r RemoveCase s = with_ended (case_number r) Removed s
left r p s = s

abbrev pub DoesPrim : (top : Net) (item : Option Task) (comp : Option (Spec × ℕ)) (due : Checks) → Ident → Primitive → Forest → Forest → Type 0
DoesPrim top item comp due r p = Does (λ names. events.Prim r p) (TakesAs top item comp due r p) (left r p)

-- the run hangs at j, and takes one of these
abbrev pub Restarts : (item : Option Task) (due : Checks) → Ident → Ident → Forest → Forest → Type 0
Restarts item due r j old new = (top : Net) (comp : Option (Spec × ℕ)) → j ≡ parent r → DoesPrim top item comp due r RestartItem old new

abbrev pub Completes : (item : Option Task) → Ident → Ident → Forest → Forest → Type 0
Completes item r j old new = (top : Net) (comp : Option (Spec × ℕ)) (due : Checks) → j ≡ parent r → DoesPrim top item comp due r CompleteItem old new

abbrev pub MayCompensate : (top : Net) (item : Option Task) (comp : Option (Spec × ℕ)) → Ident → Ident → Forest → Forest → Type 0
MayCompensate top item comp r j old new = (name : List ℕ) (due : Checks) → j ≡ parent r → DoesPrim top item comp due r (Compensate name) old new

-- the run's first primitive is taken, whichever it is
abbrev pub Takes : (top : Net) (item : Option Task) (comp : Option (Spec × ℕ)) (due : Checks) → Ident → Forest → Forest → Type 0
Takes top item comp due r old new = (p : Primitive) → first_at old r ≡ Some p → DoesPrim top item comp due r p old new

-- what comes of it besides
abbrev pub outcome_of : Primitive → Option Outcome
outcome_of RemoveCase = Some outcomes.Removed
outcome_of p = None

abbrev pub ComesOf : Forest → Ident → Option Outcome → Type 0
ComesOf old r outcome = (p : Primitive) → first_at old r ≡ Some p → outcome ≡ outcome_of p

-- the run's compensation goes, and the run goes on, or goes too if it is over
abbrev pub Compensates : Ident → Forest → Forest → Type 0
Compensates r = Does (λ names. events.Compensated r) NeedsNothing all_else
