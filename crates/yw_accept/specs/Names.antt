-- The checks of names: which names there may be (1), between which nodes flows go (2), and what a task removes (4).
-- The checks and their order are our own.
use Rattle.std.specs.Prelude.{◌≡◌, ℕ, ◌&&◌, ◌||◌, List, [], ◌++◌, map, Bool, true, not, option_to_list}
use Rattle.std.specs.List.{list_any, list_all}
use Rattle.std.specs.Str.{bytes_eq}
use Rattle.yw_base.specs.Spelling.{is_name}
use Rattle.yw_lex.specs.Spelling.{is_reserved}
use Rattle.yw_read.specs.declared.raw.RawFlow.{RawFlow}
use Rattle.yw_read.specs.declared.raw.RawIn.{RawIn}
use Rattle.yw_read.specs.declared.raw.RawOut.{RawOut}
use Rattle.yw_read.specs.declared.raw.RawSet.{RawSet}
use Rattle.yw_read.specs.declared.raw.RawVar.{RawVar}
use Rattle.yw_read.specs.declared.raw.RawTask.{RawTask}
use Rattle.yw_read.specs.declared.raw.RawNet.{RawNet}
use Rattle.yw_read.specs.declared.raw.RawSpec.{RawSpec}
use Rattle.yw_accept.specs.declared.broken.Broken.{Broken}
use Rattle.yw_accept.specs.Faults.{in_net, of_net, of_spec}
use Rattle.yw_accept.specs.Nodes.{is_name_among, net_names, task_names, named_places, is_net, is_task, is_source, is_sink, implicit_places}
use Rattle.yw_accept.specs.Order.{Check, Demand, Then, InOrder, InTurn}

-- ---- 1: every name, role and variable is a name, and no word of the expression language; and names that may be
-- taken for each other are distinct

abbrev pub is_usable : List ℕ → Bool
is_usable name = is_name name && not (is_reserved name)

-- it is usable, and none of those before it
abbrev pub is_new : List (List ℕ) → List ℕ → Bool
is_new seen name = is_usable name && not (is_name_among seen name)

abbrev pub IsUsable : (List ℕ → Broken) → List ℕ → Check
IsUsable fault name = Demand (is_usable name ≡ true) (fault name)

abbrev pub IsNew : (List ℕ → Broken) → List (List ℕ) → List ℕ → Check
IsNew fault seen name = Demand (is_new seen name ≡ true) (fault name)

-- each is usable, and none of those before it
abbrev pub AreNew : (List ℕ → Broken) → List (List ℕ) → Check
AreNew fault names = InTurn (IsNew fault) [] names

-- a task's name among the nodes before it, and then the names in it
abbrev pub TaskNames : RawNet → List RawTask → RawTask → Check
TaskNames net seen task =
    Then (IsNew (in_net 1 net.name) (named_places net ++ task_names seen) task.name)
    (Then (InOrder (IsUsable (in_net 1 net.name)) (option_to_list task.role))
    (Then (AreNew (in_net 1 net.name) (map (λ (p : RawIn). p.name) task.ins))
    (Then (AreNew (in_net 1 net.name) (map (λ (p : RawOut). p.name) task.outs))
    (AreNew (in_net 1 net.name) (map (λ (s : RawSet). s.var) task.set)))))

-- a net's name among the nets before it, and then the names in it
abbrev pub NetNames : List RawNet → RawNet → Check
NetNames seen net =
    Then (Demand (is_new (net_names seen) net.name ≡ true) (of_net 1 net.name))
    (Then (AreNew (in_net 1 net.name) (named_places net))
    (Then (InTurn (TaskNames net) [] net.task)
    (AreNew (in_net 1 net.name) (map (λ (v : RawVar). v.name) net.vars))))

-- the specification's name and its top, then the nets
unfoldable pub NamesFit : RawSpec → Check
NamesFit raw =
    Then (IsUsable (of_spec 1) raw.name)
    (Then (Demand (is_net raw raw.top ≡ true) (of_spec 1 raw.top))
    (InTurn NetNames [] raw.net))

-- ---- 2: a flow goes from a condition other than the output to a task, from a task to a condition other than the
-- input, or from task to task; no flow comes twice

abbrev pub may_lead : RawNet → RawFlow → Bool
may_lead net flow =
    (is_source net flow.from && is_task net flow.to) || (is_task net flow.from && (is_sink net flow.to || is_task net flow.to))

abbrev pub is_same_flow : RawFlow → RawFlow → Bool
is_same_flow one two = bytes_eq one.from two.from && bytes_eq one.to two.to

abbrev pub FlowFits : RawNet → List RawFlow → RawFlow → Check
FlowFits net seen flow =
    Demand ((may_lead net flow && not (list_any (is_same_flow flow) seen)) ≡ true) (in_net 2 net.name flow.from)

unfoldable pub FlowsFit : RawSpec → Check
FlowsFit raw = InOrder (λ (net : RawNet). InTurn (FlowFits net) [] net.flows) raw.net

-- ---- 4: a task removes from conditions other than input and output, from implicit ones, and from tasks

abbrev pub may_be_emptied : RawNet → List ℕ → Bool
may_be_emptied net name = is_name_among net.conditions name || is_name_among (implicit_places net) name || is_task net name

abbrev pub RemovalFits : RawNet → RawTask → Check
RemovalFits net task = Demand (list_all (may_be_emptied net) task.remove ≡ true) (in_net 4 net.name task.name)

unfoldable pub RemovalsFit : RawSpec → Check
RemovalsFit raw = InOrder (λ (net : RawNet). InOrder (RemovalFits net) net.task) raw.net
