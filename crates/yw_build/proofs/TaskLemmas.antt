-- What the checks of a task tell of what stands in it.
use Rattle.std.proofs.Common.{◌≡◌, ℕ, true, List, get_or, All, option_to_list}
use Rattle.std.proofs.lemmas.Bool.{and_parts}
use Rattle.std.proofs.lemmas.List.Sums.{AllPass-from_list_all}
use Rattle.yw_base.specs.declared.value.Sort.{Sort}
use Rattle.yw_expr.specs.declared.scope.Binding.{Binding}
use Rattle.yw_read.specs.declared.raw.RawIn.{RawIn}
use Rattle.yw_read.specs.declared.raw.RawOut.{RawOut}
use Rattle.yw_read.specs.declared.raw.RawNet.{RawNet}
use Rattle.yw_read.specs.declared.raw.RawSpec.{RawSpec}
use Rattle.yw_read.specs.declared.raw.RawTask.{RawTask}
use Rattle.yw_accept.specs.Names.{is_usable}
use Rattle.yw_accept.specs.Nodes.{leads_to}
use Rattle.yw_accept.specs.Scopes.{Spells, names_var, vars_scope}
use Rattle.yw_accept.proofs.TaskFacts.{flow_to, to_outputs}
use Rattle.yw_build.specs.Expressions.{HasMeaning, BranchIsReady, InIsReady, SetIsReady}
use Rattle.yw_accept.specs.Ready.{TaskIsReady}
use Rattle.yw_accept.proofs.ReadyLemmas.{usable_each}

meaning : (scope : List Binding) (Wanted : Sort → Type 0) (text : List ℕ) → Spells scope Wanted text → HasMeaning scope text
meaning scope Wanted text (e, sort, means, is, wanted) = (e, means)

meanings : (scope : List Binding) (Wanted : Sort → Type 0) (texts : List (List ℕ)) → All (Spells scope Wanted) texts → All (HasMeaning scope) texts
meanings scope Wanted texts h i d lt = meaning scope Wanted (get_or texts i d) (h i d lt)

-- ---- what stands in the task

module _ (raw : RawSpec) (net : RawNet) (task : RawTask) (ready : TaskIsReady raw net task) where
  pub branches_ready : All (BranchIsReady net task) task.branch
  branches_ready i d lt = record {
    flow = flow_to net task.name _ (to_outputs task.split (leads_to net task.name) task.branch ready.split i d lt);
    when = meanings _ _ _ (ready.expressions.conditions i d lt);
  }

  pub ins_ready : All (InIsReady net) task.ins
  ins_ready i d lt = record {
    name = usable_each (λ (p : RawIn). p.name) task.ins ready.named.ins.usable i d lt;
    value = meanings _ _ _ (ready.expressions.given i d lt);
  }

  pub outs_usable : All (λ (p : RawOut). is_usable p.name ≡ true) task.outs
  outs_usable = usable_each (λ (p : RawOut). p.name) task.outs ready.named.outs.usable

  pub sets_ready : All (SetIsReady net task) task.set
  sets_ready i d lt = record {
    var = AllPass-from_list_all (names_var net) task.set (and_parts _ _ ready.parameters.fit).1 i d lt;
    value = meaning _ _ _ (ready.expressions.assigned i d lt);
  }

  pub each_ready : All (HasMeaning (vars_scope net)) (option_to_list task.each)
  each_ready = meanings _ _ _ ready.expressions.each
