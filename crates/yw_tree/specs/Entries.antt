-- What stands in a forest, part by part, each before what is below it.
use Rattle.std.specs.Prelude.{Box, List, None, Option, Some, Vec, [], false, ℕ, ◌++◌, ◌∷◌}
use Rattle.std.specs.declared.alloc.Global.{Global}
use Rattle.yw_sites.specs.Entries.{Entries}
use Rattle.yw_state.specs.State.{ItemPart, NetPart, RunPart, Site, no_checks}
use Rattle.yw_tree.specs.declared.Case.{Case}
use Rattle.yw_tree.specs.declared.NetState.{NetState, NetState-F, fold-NetState, out-NetState}
use Rattle.yw_tree.specs.declared.Node.{Node, Node-F, fold-Node, out-Node}
use Rattle.yw_tree.specs.declared.Run.{Run, Run-F, fold-Run, out-Run}

-- lists one after another
abbrev pub join : {A : Type 0} → List (List A) → List A
join [] = []
join (xs ∷ xss) = xs ++ join xss

abbrev pub join_vecs : {A : Type 0} → List (Vec (List A) Global) → List A
join_vecs [] = []
join_vecs (v ∷ vs) = join v.items ++ join_vecs vs

-- a net, and the entries below it
abbrev pub NetEntries : Type 0
NetEntries = NetPart × Entries

abbrev pub part_of : Option (Box NetEntries Global) → Option NetPart
part_of None = None
part_of (Some b) = Some b.value.0

abbrev pub below_of : Option (Box NetEntries Global) → Entries
below_of None = []
below_of (Some b) = b.value.1

abbrev pub run_of : Option (Box Entries Global) → Entries
run_of None = []
run_of (Some b) = b.value

-- the items that stand directly in a net
abbrev pub row_nodes : List (Vec Node Global) → List Node
row_nodes [] = []
row_nodes (v ∷ vs) = v.items ++ row_nodes vs

abbrev pub nodes : NetState → List Node
nodes s = row_nodes (out-NetState s).items.items

-- f of each, one after another
abbrev pub flat : {A B : Type 0} → (A → List B) → List A → List B
flat f [] = []
flat f (x ∷ xs) = f x ++ flat f xs

abbrev pub item_part_of : Node → ItemPart
item_part_of n = let l = out-Node n in record { task = l.task; stage = l.stage; given = l.given; made = l.made; who = l.who }

-- the names of specifications by number
module _ (names : ℕ → List ℕ) where
  abbrev pub net_step : NetState-F NetEntries Entries Entries → NetEntries
  net_step l = (record { spec = names l.spec; net = l.net; vals = l.vals; tokens = l.marks }, join_vecs l.items.items)

  abbrev pub node_step : Node-F NetEntries Entries Entries → Entries
  node_step l =
      let item : ItemPart = record { task = l.task; stage = l.stage; given = l.given; made = l.made; who = l.who } in
      (l.id, record { net = part_of l.net; item = Some item; run = None; suspended = l.suspended; due = l.due }) ∷ (below_of l.net ++ run_of l.run)

  abbrev pub run_step : Run-F NetEntries Entries Entries → Entries
  run_step l =
      let run : RunPart = record { rest = l.rest; waiting = l.waiting } in
      (l.id, record { net = part_of l.net; item = None; run = Some run; suspended = false; due = no_checks }) ∷ below_of l.net

  abbrev pub net_entries : NetState → NetEntries
  net_entries = fold-NetState NetEntries Entries Entries net_step node_step run_step

  abbrev pub node_entries : Node → Entries
  node_entries = fold-Node NetEntries Entries Entries net_step node_step run_step

  abbrev pub run_entries : Run → Entries
  run_entries = fold-Run NetEntries Entries Entries net_step node_step run_step

  -- ---- what stands at a part's own identity
  abbrev pub net_part : NetState → NetPart
  net_part s = let l = out-NetState s in record { spec = names l.spec; net = l.net; vals = l.vals; tokens = l.marks }

  abbrev pub net_part_of : Option (Box NetState Global) → Option NetPart
  net_part_of None = None
  net_part_of (Some b) = Some (net_part b.value)

  abbrev pub item_site : Node → Site
  item_site n =
      let l = out-Node n in
      record { net = net_part_of l.net; item = Some (item_part_of n); run = None; suspended = l.suspended; due = l.due }

  abbrev pub run_site : Run → Site
  run_site r =
      let l = out-Run r in
      let run : RunPart = record { rest = l.rest; waiting = l.waiting } in
      record { net = net_part_of l.net; item = None; run = Some run; suspended = false; due = no_checks }

  abbrev pub case_site : Case → Site
  case_site c = record { net = Some (net_part c.net); item = None; run = None; suspended = c.suspended; due = c.due }

  -- ---- what is below it
  abbrev pub below_net : Option (Box NetState Global) → Entries
  below_net None = []
  below_net (Some b) = (net_entries b.value).1

  abbrev pub below_run : Option (Box Run Global) → Entries
  below_run None = []
  below_run (Some b) = run_entries b.value

  abbrev pub below_item : Node → Entries
  below_item n = below_net (out-Node n).net ++ below_run (out-Node n).run

  abbrev pub below_case : Case → Entries
  below_case c = (net_entries c.net).1 ++ below_run c.run

  abbrev pub case_entries : Case → Entries
  case_entries c = (c.id, case_site c) ∷ below_case c
