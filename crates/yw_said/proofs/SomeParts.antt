-- What stands at a task that passes its checks is there to be built: branches, parameters, assignments, items and kinds.
use Rattle.std.proofs.Common.{◌≡◌, ℕ, ◌&&◌, true, false, not, List, All, Option, Some, None, Ok, refl, sym, ap, ◌∙◌, arith, option_to_list, true≢false}
use Rattle.std.specs.Prelude.{ℤ, pos, negsuc, int_le, Contains}
use Rattle.std.specs.Option.{option_map_or}
use Rattle.std.proofs.lemmas.Bool.{and_parts}
use Rattle.std.proofs.lemmas.List.Elements.{All-contains}
use Rattle.std.proofs.lemmas.List.Sums.{AllPass-from_list_all}
use Rattle.yw_base.specs.declared.value.Sort.{Sort}
use Rattle.yw_expr.specs.declared.scope.Binding.{Binding}
use Rattle.yw_expr.specs.Parsing.{Means}
use Rattle.yw_expr.specs.Tree.{Tree}
use Rattle.yw_spec.specs.declared.task.Assign.{Assign}
use Rattle.yw_spec.specs.declared.task.Branch.{Branch}
use Rattle.yw_spec.specs.declared.task.Kind.{Kind}
use Rattle.yw_spec.specs.declared.task.Kind.TheVariants as kinds
use Rattle.yw_spec.specs.declared.task.Many.{Many}
use Rattle.yw_spec.specs.declared.task.Param.{Param}
use Rattle.yw_read.specs.TaskKinds.{is_empty}
use Rattle.yw_read.specs.declared.raw.RawBranch.{RawBranch}
use Rattle.yw_read.specs.declared.raw.RawFlow.{RawFlow}
use Rattle.yw_read.specs.declared.raw.RawIn.{RawIn}
use Rattle.yw_read.specs.declared.raw.RawKind.{RawKind}
use Rattle.yw_read.specs.declared.raw.RawKind.TheVariants as raw_kinds
use Rattle.yw_read.specs.declared.raw.RawNet.{RawNet}
use Rattle.yw_read.specs.declared.raw.RawSet.{RawSet}
use Rattle.yw_read.specs.declared.raw.RawSpec.{RawSpec}
use Rattle.yw_read.specs.declared.raw.RawTask.{RawTask}
use Rattle.yw_read.specs.declared.raw.RawVar.{RawVar}
use Rattle.yw_accept.specs.Built.{MayMean, IsBranch, IsParam, IsAssign, IsVarCalled, IsInCalled, MayBeItems, IsKind}
use Rattle.yw_accept.specs.Facts.{NetLeads}
use Rattle.yw_accept.specs.Graph.{may_be_child}
use Rattle.yw_accept.specs.Names.{may_lead}
use Rattle.yw_accept.specs.Nodes.{is_name_among, leads_to}
use Rattle.yw_accept.specs.Ready.{TaskIsReady}
use Rattle.yw_accept.specs.Scopes.{Spells, names_var, vars_scope, set_scope}
use Rattle.yw_accept.specs.Tasks.{least, greatest, enough, bounds_fit, item_fits, in_names, has_no_bounds}
use Rattle.yw_accept.proofs.TaskFacts.{flow_to, to_outputs}
use Rattle.yw_said.proofs.SomeLists.{number_called, number_named}
use Rattle.yw_said.proofs.SomePlaces.{flow_place}

-- ---- expressions

-- what spells an expression of some sort means it
tree_of : (scope : List Binding) (Wanted : Sort → Type 0) (text : List ℕ) → Spells scope Wanted text → (e : Tree) × Means text scope (Ok e)
tree_of scope Wanted text (e, sort, means, is, wanted) = (e, means)

may_mean : (scope : List Binding) (Wanted : Sort → Type 0) (text : Option (List ℕ)) → All (Spells scope Wanted) (option_to_list text) → (e : Option Tree) × MayMean scope text e
may_mean scope Wanted None h = (None, tt)
may_mean scope Wanted (Some text) h = let found = tree_of scope Wanted text (h 0 text (omega arith)) in (Some found.0, found.1)

-- ---- branches

pub record BranchFits (net : RawNet) (task : RawTask) (branch : RawBranch) : Type 0 where
  pub flow : is_name_among (leads_to net task.name) branch.to ≡ true
  pub when : (e : Option Tree) × MayMean (vars_scope net) branch.when e

pub some_branch : (net : RawNet) (task : RawTask) → NetLeads net → (said : RawBranch) → BranchFits net task said → (branch : Branch) × IsBranch net task said branch
some_branch net task leads said fits =
    let flow : RawFlow = record { from = task.name; to = said.to } in
    let there : Contains net.flows flow = flow_to net task.name said.to fits.flow in
    let may : may_lead net flow ≡ true = All-contains (λ f. may_lead net f ≡ true) net.flows flow leads.leads there in
    let place = flow_place net flow may there in
    (record { to = place.0; when = fits.when.0 }, record { to = place.1; when = fits.when.1 })

-- ---- parameters and assignments

pub some_param : (net : RawNet) (said : RawIn) → ((e : Option Tree) × MayMean (vars_scope net) said.value e) → (param : Param) × IsParam net said param
some_param net said (e, means) = (record { name = said.name; sort = said.sort; value = e }, record { name = refl; sort = refl; value = means })

var_called : (net : RawNet) (said : RawSet) → names_var net said ≡ true → (k : ℕ) × IsVarCalled net said.var k
var_called net said h = number_named (λ (v : RawVar). v.name) net.vars said.var h

pub record AssignFits (net : RawNet) (task : RawTask) (said : RawSet) : Type 0 where
  pub var : names_var net said ≡ true
  pub value : (e : Tree) × Means said.value (set_scope net task) (Ok e)

pub some_assign : (net : RawNet) (task : RawTask) (said : RawSet) → AssignFits net task said → (assign : Assign) × IsAssign net task said assign
some_assign net task said fits =
    let var = var_called net said fits.var in
    (record { var = var.0; value = fits.value.0 }, record { var = var.1; value = fits.value.1 })

-- ---- several items

-- what isn't below a natural number is one
natural : (n : ℕ) (z : ℤ) → int_le (pos n) z ≡ true → (m : ℕ) × (pos m ≡ z)
natural n (pos m) h = (m, refl)
natural n (negsuc m) h = absurd (true≢false (sym h))

natural_above : (low high : ℤ) → (n : ℕ) × (pos n ≡ low) → int_le low high ≡ true → (m : ℕ) × (pos m ≡ high)
natural_above low high (n, is) h = natural n high (ap (λ z. int_le z high) is ∙ h)

pub record BoundsAre (task : RawTask) : Type 0 where
  pub min : (n : ℕ) × (pos n ≡ least task)
  pub max : (n : ℕ) × (pos n ≡ greatest task)
  pub threshold : (n : ℕ) × (pos n ≡ enough task)

bounds_are : (task : RawTask) → bounds_fit task ≡ true → BoundsAre task
bounds_are task h =
    let five = and_parts _ _ h in
    let four = and_parts _ _ five.0 in
    let three = and_parts _ _ four.0 in
    let two = and_parts _ _ three.0 in
    let min : (n : ℕ) × (pos n ≡ least task) = natural 1 (least task) two.0 in
    record {
      min = min;
      max = natural_above (least task) (greatest task) min two.1;
      threshold = natural 1 (enough task) four.1;
    }

item_named : (task : RawTask) (item : Option (List ℕ)) → option_map_or (is_name_among (in_names task)) item false ≡ true → (name : List ℕ) × (item ≡ Some name) × (is_name_among (in_names task) name ≡ true)
item_named task None h = absurd (true≢false (sym h))
item_named task (Some name) h = (name, refl, h)

pub record ItemIs (task : RawTask) : Type 0 where
  pub name : List ℕ
  pub is : task.item ≡ Some name
  pub number : (k : ℕ) × IsInCalled task name k

item_is : (task : RawTask) → item_fits task ≡ true → ItemIs task
item_is task h =
    let (name, is, among) = item_named task task.item h in
    record { name = name; is = is; number = number_called (λ (p : RawIn). p.name) task.ins name among }

pub some_items : (net : RawNet) (task : RawTask) (each : Option (List ℕ)) → option_map_or (λ _. not (is_empty task.kind) && bounds_fit task && item_fits task) each (has_no_bounds task) ≡ true → ((e : Option Tree) × MayMean (vars_scope net) each e) → (many : Option Many) × MayBeItems net task each many
some_items net task None h e = (None, tt)
some_items net task (Some each) h (None, means) = absurd means
some_items net task (Some each) h (Some e, means) =
    let parts = and_parts _ _ h in
    let bounds = bounds_are task (and_parts _ _ parts.0).1 in
    let item = item_is task parts.1 in (
      Some (record {
        min = bounds.min.0;
        max = bounds.max.0;
        threshold = bounds.threshold.0;
        dynamic = option_map_or (λ d. d) task.dynamic false;
        each = e;
        item = item.number.0;
      }),
      record {
        min = bounds.min.1;
        max = bounds.max.1;
        threshold = bounds.threshold.1;
        dynamic = refl;
        each_is = means;
        item = (item.name, item.is, item.number.1);
      },
    )

-- ---- kinds

pub some_kind : (raw : RawSpec) (kind : RawKind) (net : Option (List ℕ)) → may_be_child raw kind net ≡ true → (built : Kind) × IsKind raw kind net built
some_kind raw raw_kinds.Atomic net h = (kinds.Atomic, refl)
some_kind raw raw_kinds.Empty net h = (kinds.Empty, refl)
some_kind raw raw_kinds.Sub None h = absurd (true≢false (sym h))
some_kind raw raw_kinds.Sub (Some name) h =
    let called = number_called (λ (n : RawNet). n.name) raw.net name (and_parts _ _ h).0 in
    (kinds.Sub called.0, (name, refl, called.0, called.1, refl))

-- ---- the parts of a task

module _ (raw : RawSpec) (net : RawNet) (task : RawTask) (fits : TaskIsReady raw net task) where
  pub branches_fit : All (BranchFits net task) task.branch
  branches_fit i d lt = record {
    flow = to_outputs task.split (leads_to net task.name) task.branch fits.split i d lt;
    when = may_mean _ _ _ (fits.expressions.conditions i d lt);
  }

  pub ins_mean : All (λ (p : RawIn). (e : Option Tree) × MayMean (vars_scope net) p.value e) task.ins
  ins_mean i d lt = may_mean _ _ _ (fits.expressions.given i d lt)

  pub assigns_fit : All (AssignFits net task) task.set
  assigns_fit i d lt = record {
    var = AllPass-from_list_all (names_var net) task.set (and_parts _ _ fits.parameters.fit).1 i d lt;
    value = tree_of _ _ _ (fits.expressions.assigned i d lt);
  }

  pub each_means : (e : Option Tree) × MayMean (vars_scope net) task.each e
  each_means = may_mean _ _ _ fits.expressions.each
