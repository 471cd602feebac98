-- A removal through all nesting: a child net, in it a worklet, and in that a compensation at work.
-- What is to be shown was worked out by hand from the rules of tokens, items, values and checks, and not taken from what these
-- definitions give.
use Rattle.std.specs.Prelude.{true, List, [], ◌∷◌, Some, None, codes}
use Rattle.yw_base.specs.declared.value.Value.TheVariants as values
use Rattle.yw_expr.specs.Tree.{constant}
use Rattle.yw_rows.specs.Play.{Entry}
use Rattle.yw_rows.specs.Written.{item, load, net, net_row, nothing_shown, person, plain, rule, spec, task, token, tree_place}
use Rattle.yw_spec.specs.declared.spec.Net.{Net}
use Rattle.yw_spec.specs.declared.spec.Place.TheVariants.{Named}
use Rattle.yw_spec.specs.declared.spec.Spec.{Spec}
use Rattle.yw_spec.specs.declared.task.Kind.TheVariants.{Sub}
use Rattle.yw_state.specs.declared.answer.Shown.{Shown}
use Rattle.yw_state.specs.declared.event.Event.TheVariants as events
use Rattle.yw_state.specs.declared.part.Stage.TheVariants as stages
use Rattle.yw_state.specs.declared.tree.Conclusion.TheVariants.{Exlet, Worklet}
use Rattle.yw_state.specs.declared.tree.Primitive.TheVariants as primitives
use Rattle.yw_state.specs.declared.tree.TreeKind.TheVariants as kinds

abbrev pub outer_main : Net
outer_main =
    net (codes "main")
    (Named (codes "i") ∷ Named (codes "o") ∷ Named (codes "c1") ∷ Named (codes "c2") ∷ Named (codes "d") ∷ Named (codes "e") ∷ [])
    []
    (task (codes "s") (0 ∷ []) (2 ∷ 3 ∷ [])
    ∷ record (task (codes "C") (2 ∷ []) (4 ∷ [])) { kind = Sub 1 }
    ∷ record (task (codes "k") (3 ∷ []) (5 ∷ [])) { drop_places = 2 ∷ []; drop_tasks = 1 ∷ [] }
    ∷ task (codes "f") (4 ∷ 5 ∷ []) (1 ∷ [])
    ∷ [])

abbrev pub outer_cn : Net
outer_cn =
    net (codes "cn")
    (Named (codes "i") ∷ Named (codes "o") ∷ [])
    []
    (task (codes "x") (0 ∷ []) (1 ∷ [])
    ∷ [])

abbrev pub outer : Spec
outer = spec (codes "top") (outer_main ∷ outer_cn ∷ [])

abbrev pub worklet_net : Net
worklet_net =
    net (codes "main")
    (Named (codes "i") ∷ Named (codes "o") ∷ [])
    []
    (task (codes "y") (0 ∷ []) (1 ∷ [])
    ∷ [])

abbrev pub worklet : Spec
worklet = spec (codes "wl") (worklet_net ∷ [])

abbrev pub comp_net : Net
comp_net =
    net (codes "main")
    (Named (codes "i") ∷ Named (codes "o") ∷ [])
    []
    (task (codes "u") (0 ∷ []) (1 ∷ [])
    ∷ [])

abbrev pub comp : Spec
comp = spec (codes "comp") (comp_net ∷ [])

abbrev pub nested_row : List Entry
nested_row =
    person (codes "ann") (codes "clerk" ∷ [])
    ∷ load outer
    ∷ load worklet
    ∷ load comp
    ∷ rule (tree_place (codes "top") (Some (codes "cn")) (Some (codes "x")) kinds.Select) 0 true (constant (values.Bool true)) (Worklet (codes "wl")) 1
    ∷ rule (tree_place (codes "wl") (Some (codes "main")) (Some (codes "y")) kinds.External) 0 true (constant (values.Bool true)) (Exlet (primitives.Compensate (codes "comp") ∷ [])) 1
    ∷ plain (events.Launch 1 (codes "top") [] ∷ [])
    ∷ plain (events.Enter (1 ∷ []) (codes "s") (Named (codes "i") ∷ []) 2 1 ∷ [])
    ∷ plain (events.Start (1 ∷ 2 ∷ []) (codes "ann") ∷ [])
    ∷ plain
    (events.Complete (1 ∷ 2 ∷ []) []
    ∷ events.Exit (1 ∷ []) (codes "s") (Named (codes "c1") ∷ Named (codes "c2") ∷ [])
    ∷ events.Enter (1 ∷ []) (codes "C") (Named (codes "c1") ∷ []) 3 1
    ∷ events.StartSub (1 ∷ 3 ∷ [])
    ∷ events.Enter (1 ∷ 3 ∷ []) (codes "x") (Named (codes "i") ∷ []) 4 1
    ∷ events.Substitute (1 ∷ 3 ∷ 4 ∷ []) (codes "wl")
    ∷ [])
    ∷ plain (events.Enter (1 ∷ 3 ∷ 4 ∷ []) (codes "y") (Named (codes "i") ∷ []) 5 1 ∷ [])
    ∷ plain (events.Start (1 ∷ 3 ∷ 4 ∷ 5 ∷ []) (codes "ann") ∷ [])
    ∷ plain (events.Raise (1 ∷ 3 ∷ 4 ∷ 5 ∷ []) kinds.External 1 6 ∷ events.Prim (1 ∷ 3 ∷ 4 ∷ 5 ∷ 6 ∷ []) (primitives.Compensate (codes "comp")) ∷ [])
    ∷ plain (events.Enter (1 ∷ []) (codes "k") (Named (codes "c2") ∷ []) 7 1 ∷ [])
    ∷ plain (events.Start (1 ∷ 7 ∷ []) (codes "ann") ∷ [])
    ∷ plain (events.Complete (1 ∷ 7 ∷ []) [] ∷ events.Exit (1 ∷ []) (codes "k") (Named (codes "e") ∷ []) ∷ [])
    ∷ []

-- the child net and the worklet have begun
abbrev pub nested_begun : Shown
nested_begun =
    record nothing_shown {
      items = item (1 ∷ 3 ∷ []) (codes "C") stages.Executing None ∷ item (1 ∷ 3 ∷ 4 ∷ []) (codes "x") stages.Executing None ∷ [];
      nets = net_row (1 ∷ []) (codes "top") (codes "main") [] ∷ net_row (1 ∷ 3 ∷ []) (codes "top") (codes "cn") [] ∷ net_row (1 ∷ 3 ∷ 4 ∷ []) (codes "wl") (codes "main") [] ∷ [];
      tokens = token (1 ∷ []) (Named (codes "c2")) 1 ∷ token (1 ∷ 3 ∷ 4 ∷ []) (Named (codes "i")) 1 ∷ [];
    }

-- the compensation has begun, and its run has nothing else to do
abbrev pub nested_deep : Shown
nested_deep =
    record nothing_shown {
      items = item (1 ∷ 3 ∷ []) (codes "C") stages.Executing None ∷ item (1 ∷ 3 ∷ 4 ∷ []) (codes "x") stages.Executing None ∷ item (1 ∷ 3 ∷ 4 ∷ 5 ∷ []) (codes "y") stages.Executing (Some (codes "ann")) ∷ [];
      nets = net_row (1 ∷ []) (codes "top") (codes "main") [] ∷ net_row (1 ∷ 3 ∷ []) (codes "top") (codes "cn") [] ∷ net_row (1 ∷ 3 ∷ 4 ∷ []) (codes "wl") (codes "main") [] ∷ net_row (1 ∷ 3 ∷ 4 ∷ 5 ∷ 6 ∷ []) (codes "comp") (codes "main") [] ∷ [];
      runs = record { run = 1 ∷ 3 ∷ 4 ∷ 5 ∷ 6 ∷ []; waiting = true; rest = [] } ∷ [];
      tokens = token (1 ∷ []) (Named (codes "c2")) 1 ∷ token (1 ∷ 3 ∷ 4 ∷ 5 ∷ 6 ∷ []) (Named (codes "i")) 1 ∷ [];
    }

abbrev pub nested_gone : Shown
nested_gone =
    record nothing_shown {
      nets = net_row (1 ∷ []) (codes "top") (codes "main") [] ∷ [];
      tokens = token (1 ∷ []) (Named (codes "e")) 1 ∷ [];
    }
