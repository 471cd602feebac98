-- What names may be used where checks find nothing, and that a document is ready then.
use Rattle.std.proofs.Common.{◌≡◌, ℕ, suc, ◌<◌, ◌+◌, ◌-◌, true, List, [], map, length, get_or, None, All, sym, ap, ◌∙◌, arith, length-append}
use Rattle.std.proofs.lemmas.List.{get_or_append_left, get_or-map, length-map}
use Rattle.std.proofs.Math.Seq.{get_or-append_right}
use Rattle.yw_read.specs.declared.raw.RawNet.{RawNet}
use Rattle.yw_read.specs.declared.raw.RawTask.{RawTask}
use Rattle.yw_read.specs.declared.raw.RawSpec.{RawSpec}
use Rattle.yw_accept.specs.Facts.{IsNamed, NetIsNamed}
use Rattle.yw_accept.specs.Names.{is_usable}
use Rattle.yw_accept.specs.Nodes.{nodes, task_names, named_places}
use Rattle.yw_accept.specs.Ready.{TaskIsReady, IsReady}
use Rattle.yw_accept.specs.Verdict.{IsVerdict}
use Rattle.yw_accept.proofs.FactsLemmas.{is_named, nets_lead}
use Rattle.yw_accept.proofs.TaskFacts.{FindNothing, find_nothing, removals_fit, each_fits, children_fit, sorts_fit, splits_fit, parameters_agree}

pub usable_input : (net : RawNet) → NetIsNamed net → is_usable net.input ≡ true
usable_input net h = h.nodes_are.usable 0 [] (omega arith)

pub usable_output : (net : RawNet) → NetIsNamed net → is_usable net.output ≡ true
usable_output net h = h.nodes_are.usable 1 [] (omega arith)

pub usable_conditions : (net : RawNet) → NetIsNamed net → All (λ name. is_usable name ≡ true) net.conditions
usable_conditions net h i d lt =
    let within : suc (suc i) < length (nodes net) = omega (arith, lt, length-append net.conditions (task_names net.task)) in
    ap is_usable (sym (get_or_append_left net.conditions (task_names net.task) d i lt)) ∙ h.nodes_are.usable (suc (suc i)) d within

pub usable_each : {A : Type 0} (name : A → List ℕ) (xs : List A) → All (λ n. is_usable n ≡ true) (map name xs) → All (λ x. is_usable (name x) ≡ true) xs
usable_each name xs h i d lt = ap is_usable (sym (get_or-map name xs i d (name d) lt)) ∙ h i (name d) (omega (arith, lt, length-map xs name))

pub usable_tasks : (net : RawNet) → NetIsNamed net → All (λ (t : RawTask). is_usable t.name ≡ true) net.task
usable_tasks net h = usable_each (λ (t : RawTask). t.name) net.task (λ i d lt.
    let n : ℕ = length (named_places net) in
    let all : length (nodes net) ≡ n + length (task_names net.task) = length-append (named_places net) (task_names net.task) in
    let same : n + i - n ≡ i = omega arith in
    ap is_usable (sym (get_or-append_right (named_places net) (task_names net.task) (n + i) d (omega arith) ∙ ap (λ m. get_or (task_names net.task) m d) same)) ∙ h.nodes_are.usable (n + i) d (omega (arith, all, lt)))

pub usable_nets : (raw : RawSpec) → IsNamed raw → All (λ (net : RawNet). is_usable net.name ≡ true) raw.net
usable_nets raw h = usable_each (λ (net : RawNet). net.name) raw.net h.nets_are.usable

-- ---- the whole

module _ (raw : RawSpec) (h : FindNothing raw) where
  named : IsNamed raw
  named = is_named raw h.names

  tasks_ready : (i : ℕ) (d : RawNet) → i < length raw.net → All (TaskIsReady raw (get_or raw.net i d)) (get_or raw.net i d).task
  tasks_ready i d lt j e within = record {
    name = usable_tasks (get_or raw.net i d) (named.nets i d lt) j e within;
    named = (named.nets i d lt).tasks j e within;
    removals = removals_fit raw h.removals i d lt j e within;
    items = each_fits raw h.items i d lt j e within;
    child = children_fit raw h.children i d lt j e within;
    expressions = sorts_fit raw h.sorts i d lt j e within;
    split = splits_fit raw h.splits i d lt j e within;
    parameters = parameters_agree raw h.parameters i d lt j e within;
  }

  all_ready : IsReady raw
  all_ready = record {
    named = named;
    nets = λ i d lt. record {
      name = usable_nets raw named i d lt;
      named = named.nets i d lt;
      leads = nets_lead raw h.flows i d lt;
      tasks = tasks_ready i d lt;
    };
  }

pub is_ready : (raw : RawSpec) → IsVerdict raw None → IsReady raw
is_ready raw h = all_ready raw (find_nothing raw h)
