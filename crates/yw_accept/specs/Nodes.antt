-- The nodes of a net as its document names them, and where its flows lead.
use Rattle.std.specs.Prelude.{ℕ, ◌||◌, ◌&&◌, List, ◌∷◌, ◌++◌, map, Bool, Contains, filter}
use Rattle.std.specs.List.{list_any}
use Rattle.std.specs.Str.{bytes_eq}
use Rattle.yw_spec.specs.Net.{arrow_text}
use Rattle.yw_read.specs.declared.raw.RawFlow.{RawFlow}
use Rattle.yw_read.specs.declared.raw.RawNet.{RawNet}
use Rattle.yw_read.specs.declared.raw.RawTask.{RawTask}
use Rattle.yw_read.specs.declared.raw.RawSpec.{RawSpec}

abbrev pub is_name_among : List (List ℕ) → List ℕ → Bool
is_name_among names name = list_any (bytes_eq name) names

abbrev pub net_names : List RawNet → List (List ℕ)
net_names nets = map (λ (net : RawNet). net.name) nets

abbrev pub task_names : List RawTask → List (List ℕ)
task_names tasks = map (λ (task : RawTask). task.name) tasks

-- the conditions that a document names, the input and the output first
abbrev pub named_places : RawNet → List (List ℕ)
named_places net = net.input ∷ net.output ∷ net.conditions

-- the nodes in document order
abbrev pub nodes : RawNet → List (List ℕ)
nodes net = named_places net ++ task_names net.task

abbrev pub is_net : RawSpec → List ℕ → Bool
is_net raw name = is_name_among (net_names raw.net) name

abbrev pub is_task : RawNet → List ℕ → Bool
is_task net name = is_name_among (task_names net.task) name

-- a condition other than the output
abbrev pub is_source : RawNet → List ℕ → Bool
is_source net name = bytes_eq name net.input || is_name_among net.conditions name

-- a condition other than the input
abbrev pub is_sink : RawNet → List ℕ → Bool
is_sink net name = bytes_eq name net.output || is_name_among net.conditions name

-- it goes from a task to a task
abbrev pub is_implicit : RawNet → RawFlow → Bool
is_implicit net flow = is_task net flow.from && is_task net flow.to

-- the implicit condition of a flow: `t->u`
abbrev pub arrow : RawFlow → List ℕ
arrow flow = arrow_text flow.from flow.to

abbrev pub implicit_places : RawNet → List (List ℕ)
implicit_places net = map arrow (filter (is_implicit net) net.flows)

-- a flow goes from one node to the other
abbrev pub HasFlow : RawNet → List ℕ → List ℕ → Type 0
HasFlow net from to = Contains net.flows (record { from = from; to = to })

-- the nodes to which flows go from a node, in flow order
abbrev pub leads_to : RawNet → List ℕ → List (List ℕ)
leads_to net node = map (λ (flow : RawFlow). flow.to) (filter (λ flow. bytes_eq flow.from node) net.flows)
