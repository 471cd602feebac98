-- The specification that a document says: names by their numbers, flows by their places, texts by their expressions.
use Rattle.std.specs.Prelude.{◌≡◌, ℕ, pos, List, ◌++◌, map, filter, false, not, Option, Some, None, Ok, slice_get, option_map, if◌then◌else◌}
use Rattle.std.specs.List.{AllZip}
use Rattle.std.specs.Option.{option_map_or}
use Rattle.std.specs.Str.{bytes_eq}
use Rattle.yw_base.specs.Values.{zero_of}
use Rattle.yw_expr.specs.declared.scope.Binding.{Binding}
use Rattle.yw_expr.specs.Parsing.{Means}
use Rattle.yw_expr.specs.Tree.{Tree}
use Rattle.yw_spec.specs.Net.{place_text}
use Rattle.yw_spec.specs.declared.spec.Net.{Net}
use Rattle.yw_spec.specs.declared.spec.Place.{Place}
use Rattle.yw_spec.specs.declared.spec.Place.TheVariants as places
use Rattle.yw_spec.specs.declared.spec.Spec.{Spec}
use Rattle.yw_spec.specs.declared.spec.Var.{Var}
use Rattle.yw_spec.specs.declared.task.Assign.{Assign}
use Rattle.yw_spec.specs.declared.task.Branch.{Branch}
use Rattle.yw_spec.specs.declared.task.Kind.{Kind}
use Rattle.yw_spec.specs.declared.task.Kind.TheVariants as kinds
use Rattle.yw_spec.specs.declared.task.Many.{Many}
use Rattle.yw_spec.specs.declared.task.Param.{Param}
use Rattle.yw_spec.specs.declared.task.Task.{Task}
use Rattle.yw_read.specs.declared.raw.RawBranch.{RawBranch}
use Rattle.yw_read.specs.declared.raw.RawFlow.{RawFlow}
use Rattle.yw_read.specs.declared.raw.RawIn.{RawIn}
use Rattle.yw_read.specs.declared.raw.RawKind.{RawKind}
use Rattle.yw_read.specs.declared.raw.RawKind.TheVariants as raw_kinds
use Rattle.yw_read.specs.declared.raw.RawNet.{RawNet}
use Rattle.yw_read.specs.declared.raw.RawOut.{RawOut}
use Rattle.yw_read.specs.declared.raw.RawSet.{RawSet}
use Rattle.yw_read.specs.declared.raw.RawSpec.{RawSpec}
use Rattle.yw_read.specs.declared.raw.RawTask.{RawTask}
use Rattle.yw_read.specs.declared.raw.RawVar.{RawVar}
use Rattle.yw_accept.specs.Nodes.{named_places, is_task, is_implicit}
use Rattle.yw_accept.specs.Scopes.{vars_scope, set_scope}
use Rattle.yw_accept.specs.Tasks.{least, greatest, enough}

abbrev pub var_of : RawVar → Var
var_of v = record { name = v.name; sort = v.sort; usage = v.usage; init = option_map_or (λ x. x) v.init (zero_of v.sort) }

abbrev pub out_of : RawOut → Param
out_of p = record { name = p.name; sort = p.sort; value = None }

-- ---- places

-- the condition at the flow's one end, or the flow's own place
abbrev pub place_of : RawNet → RawFlow → Place
place_of net flow =
    if is_implicit net flow then places.Between flow.from flow.to
    else if is_task net flow.from then places.Named flow.to
    else places.Named flow.from

-- the input, the output and the conditions, and behind them the implicit places in flow order
abbrev pub places_of : RawNet → List Place
places_of net = map places.Named (named_places net) ++ map (place_of net) (filter (is_implicit net) net.flows)

abbrev pub flows_to : RawNet → List ℕ → List RawFlow
flows_to net task = filter (λ (flow : RawFlow). bytes_eq flow.to task) net.flows

abbrev pub flows_from : RawNet → List ℕ → List RawFlow
flows_from net task = filter (λ (flow : RawFlow). bytes_eq flow.from task) net.flows

-- the place with this number is the flow's
abbrev pub IsPlaceOf : RawNet → RawFlow → ℕ → Type 0
IsPlaceOf net flow k = slice_get (places_of net) k ≡ Some (place_of net flow)

-- the place with this number has this text
abbrev pub IsPlaceCalled : RawNet → List ℕ → ℕ → Type 0
IsPlaceCalled net text k = option_map place_text (slice_get (places_of net) k) ≡ Some text

-- the task with this number has this name
abbrev pub IsTaskCalled : RawNet → List ℕ → ℕ → Type 0
IsTaskCalled net name k = option_map (λ (t : RawTask). t.name) (slice_get net.task k) ≡ Some name

abbrev pub IsVarCalled : RawNet → List ℕ → ℕ → Type 0
IsVarCalled net name k = option_map (λ (v : RawVar). v.name) (slice_get net.vars k) ≡ Some name

abbrev pub IsNetCalled : RawSpec → List ℕ → ℕ → Type 0
IsNetCalled raw name k = option_map (λ (n : RawNet). n.name) (slice_get raw.net k) ≡ Some name

abbrev pub IsInCalled : RawTask → List ℕ → ℕ → Type 0
IsInCalled task name k = option_map (λ (p : RawIn). p.name) (slice_get task.ins k) ≡ Some name

-- ---- what stands at a task

-- the text, where there is one, spells the expression, where there is one
abbrev pub MayMean : List Binding → Option (List ℕ) → Option Tree → Type 0
MayMean scope (Some text) (Some e) = Means text scope (Ok e)
MayMean scope None None = Unit {0}
MayMean scope (Some text) None = ⊥
MayMean scope None (Some e) = ⊥

pub record IsBranch (net : RawNet) (task : RawTask) (raw : RawBranch) (branch : Branch) : Type 0 where
  pub to : IsPlaceOf net (record { from = task.name; to = raw.to }) branch.to
  pub when : MayMean (vars_scope net) raw.when branch.when

pub record IsParam (net : RawNet) (raw : RawIn) (param : Param) : Type 0 where
  pub name : param.name ≡ raw.name
  pub sort : param.sort ≡ raw.sort
  pub value : MayMean (vars_scope net) raw.value param.value

pub record IsAssign (net : RawNet) (task : RawTask) (raw : RawSet) (assign : Assign) : Type 0 where
  pub var : IsVarCalled net raw.var assign.var
  pub value : Means raw.value (set_scope net task) (Ok assign.value)

pub record AreItems (net : RawNet) (task : RawTask) (each : List ℕ) (many : Many) : Type 0 where
  pub min : pos many.min ≡ least task
  pub max : pos many.max ≡ greatest task
  pub threshold : pos many.threshold ≡ enough task
  pub dynamic : many.dynamic ≡ option_map_or (λ d. d) task.dynamic false
  pub each_is : Means each (vars_scope net) (Ok many.each)
  pub item : (name : List ℕ) × (task.item ≡ Some name) × IsInCalled task name many.item

abbrev pub MayBeItems : RawNet → RawTask → Option (List ℕ) → Option Many → Type 0
MayBeItems net task (Some each) (Some many) = AreItems net task each many
MayBeItems net task None None = Unit {0}
MayBeItems net task (Some each) None = ⊥
MayBeItems net task None (Some many) = ⊥

abbrev pub IsKind : RawSpec → RawKind → Option (List ℕ) → Kind → Type 0
IsKind raw raw_kinds.Atomic net kind = kind ≡ kinds.Atomic
IsKind raw raw_kinds.Empty net kind = kind ≡ kinds.Empty
IsKind raw raw_kinds.Sub net kind = (name : List ℕ) × (net ≡ Some name) × (k : ℕ) × IsNetCalled raw name k × (kind ≡ kinds.Sub k)

pub record IsTask (raw : RawSpec) (net : RawNet) (said : RawTask) (task : Task) : Type 0 where
  pub name : task.name ≡ said.name
  pub kind : IsKind raw said.kind said.net task.kind
  pub role : task.role ≡ said.role
  pub join : task.join ≡ said.join
  pub split : task.split ≡ said.split
  pub before : AllZip (IsPlaceOf net) (flows_to net said.name) task.before
  pub after : AllZip (IsPlaceOf net) (flows_from net said.name) task.after
  pub branch : AllZip (IsBranch net said) said.branch task.branch
  pub drop_places : AllZip (IsPlaceCalled net) (filter (λ text. not (is_task net text)) said.remove) task.drop_places
  pub drop_tasks : AllZip (IsTaskCalled net) (filter (is_task net) said.remove) task.drop_tasks
  pub ins : AllZip (IsParam net) said.ins task.ins
  pub outs : task.outs ≡ map out_of said.outs
  pub set : AllZip (IsAssign net said) said.set task.set
  pub many : MayBeItems net said said.each task.many

-- ---- nets, and the whole

pub record IsNet (raw : RawSpec) (said : RawNet) (net : Net) : Type 0 where
  pub name : net.name ≡ said.name
  -- the input and the output are the first two places
  pub input : net.input ≡ 0
  pub output : net.output ≡ 1
  pub places : net.places ≡ places_of said
  pub tasks : AllZip (IsTask raw said) said.task net.tasks
  pub vars : net.vars ≡ map var_of said.vars

-- the specification is the one that the document says
pub record IsSpec (raw : RawSpec) (spec : Spec) : Type 0 where
  pub name : spec.name ≡ raw.name
  pub top : IsNetCalled raw raw.top spec.top
  pub nets : AllZip (IsNet raw) raw.net spec.nets
