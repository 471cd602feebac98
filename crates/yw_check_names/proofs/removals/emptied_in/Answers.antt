use Rattle.std.proofs.Common.{◌||◌, ◌++◌, List, ap, ◌∙◌, subst}
use Rattle.std.proofs.Math.Bool.{or_comm}
use Rattle.std.proofs.lemmas.List.{map-id}
use Rattle.std.proofs.lemmas.List.Folds.{list_any-append}
use Rattle.std.specs.Str.{bytes_eq}
use Rattle.yw_read.specs.declared.raw.RawFlow.{RawFlow}
use Rattle.yw_read.specs.declared.raw.RawTask.{RawTask}
use Rattle.yw_read.specs.declared.raw.RawNet.{RawNet}
use Rattle.yw_accept.specs.Nodes.{is_name_among, is_task, task_names, implicit_places}
use Rattle.yw_check_names.specs.Removals.{AreImplicit, MayBeEmptied}
use Rattle.yw_check_names.specs.Seen.{NameSet, Knows, AddsAll}
use Rattle.yw_check_names.proofs.removals.emptied_in.Goals as goal

-- implicit conditions, conditions and tasks, one after the other
emptied : (net : RawNet) (tasks implicit more all : NameSet) → Knows tasks (task_names net.task) → AreImplicit tasks net.flows implicit → AddsAll implicit more net.conditions → AddsAll more all (task_names net.task) → MayBeEmptied net all
emptied net tasks implicit more all knows are_implicit conditions_added tasks_added = record {
  has = λ name.
      let places = implicit_places net in
      (tasks_added.knows (places ++ net.conditions) (conditions_added.knows places (are_implicit.knows net knows))).has name
      ∙ list_any-append (bytes_eq name) (places ++ net.conditions) (task_names net.task)
      ∙ ap (λ b. b || is_task net name) (list_any-append (bytes_eq name) places net.conditions ∙ or_comm (is_name_among places name) (is_name_among net.conditions name));
}

pub returns : goal.returns
returns c =
    let net = c.args.net.now in
    let tasks = c.in_ok-tasks.tasks in
    let implicit = c.in_ok-set.set in
    let more = c.add_all.new.set in
    let all = c.add_all-2.new.set in
    emptied net tasks implicit more all
    (subst (λ (ts : List RawTask). Knows tasks (task_names ts)) c.as_slice.ensures c.in_ok-tasks.ensures)
    (subst (λ (flows : List RawFlow). AreImplicit tasks flows implicit) c.as_slice-2.ensures c.in_ok-set.ensures)
    (subst (AddsAll implicit more) (map-id c.as_slice-3.result.now ∙ c.as_slice-3.ensures) c.in_ok-add_all.ensures)
    (subst (λ (ts : List RawTask). AddsAll more all (task_names ts)) c.as_slice-4.ensures c.in_ok-add_all-2.ensures)
