-- Values that a worklet is given and hands back by name and sort, and the order in which tokens are told.
-- What is to be shown was worked out by hand from the rules of tokens, items, values and checks, and not taken from what these
-- definitions give.
use Rattle.std.specs.Prelude.{pos, true, false, List, [], ◌∷◌, ◌++◌, take, Some, None, codes}
use Rattle.yw_base.specs.declared.value.Sort.TheVariants as sorts
use Rattle.yw_base.specs.declared.value.Value.TheVariants as values
use Rattle.yw_expr.specs.Tree.{constant, variable, binary}
use Rattle.yw_grammar.specs.declared.symbol.Infix.TheVariants.{Equal, Plus}
use Rattle.yw_rows.specs.Play.{Entry}
use Rattle.yw_state.specs.declared.event.Event.{Event}
use Rattle.yw_rows.specs.Written.{item, load, net, net_row, nothing_shown, person, plain, rule, spec, task, token, tree_place, var}
use Rattle.yw_spec.specs.declared.spec.Net.{Net}
use Rattle.yw_spec.specs.declared.spec.Place.TheVariants.{Between, Named}
use Rattle.yw_spec.specs.declared.spec.Spec.{Spec}
use Rattle.yw_base.specs.declared.usage.Usage.TheVariants as usages
use Rattle.yw_state.specs.declared.answer.Shown.{Shown}
use Rattle.yw_state.specs.declared.event.Event.TheVariants as events
use Rattle.yw_state.specs.declared.part.Stage.TheVariants as stages
use Rattle.yw_state.specs.declared.tree.Conclusion.TheVariants.{Exlet, Worklet}
use Rattle.yw_state.specs.declared.tree.Primitive.TheVariants as primitives
use Rattle.yw_state.specs.declared.tree.TreeKind.TheVariants as kinds

abbrev pub host_net : Net
host_net =
    net (codes "main")
    (Named (codes "i") ∷ Named (codes "o") ∷ [])
    (var (codes "n") sorts.Int usages.In (values.Int (pos 0))
    ∷ var (codes "p") sorts.Int usages.Local (values.Int (pos 0))
    ∷ var (codes "q") sorts.Int usages.Local (values.Int (pos 0))
    ∷ var (codes "d") sorts.Bool usages.Local (values.Bool true)
    ∷ var (codes "w") sorts.Text usages.Local (values.Text (codes "hi"))
    ∷ [])
    (record (task (codes "x") (0 ∷ []) (1 ∷ [])) {
      ins = record { name = codes "a"; sort = sorts.Int; value = Some (variable 0 sorts.Int) } ∷ record { name = codes "b"; sort = sorts.Int; value = Some (variable 0 sorts.Int) } ∷ record { name = codes "t"; sort = sorts.Text; value = Some (variable 4 sorts.Text) } ∷ [];
      outs = record { name = codes "a"; sort = sorts.Int; value = None } ∷ record { name = codes "b"; sort = sorts.Int; value = None } ∷ record { name = codes "c"; sort = sorts.Int; value = None } ∷ record { name = codes "d"; sort = sorts.Bool; value = None } ∷ [];
      set = record { var = 0; value = variable 0 sorts.Int } ∷ record { var = 1; value = variable 1 sorts.Int } ∷ record { var = 2; value = variable 2 sorts.Int } ∷ record { var = 3; value = variable 3 sorts.Bool } ∷ [];
    }
    ∷ [])

abbrev pub host : Spec
host = spec (codes "host") (host_net ∷ [])

abbrev pub guest_net : Net
guest_net =
    net (codes "main")
    (Named (codes "i") ∷ Named (codes "o") ∷ [])
    (var (codes "a") sorts.Int usages.InOut (values.Int (pos 1))
    ∷ var (codes "b") sorts.Int usages.In (values.Int (pos 2))
    ∷ var (codes "c") sorts.Int usages.Out (values.Int (pos 3))
    ∷ var (codes "t") sorts.Int usages.In (values.Int (pos 4))
    ∷ var (codes "d") sorts.Int usages.Out (values.Int (pos 5))
    ∷ [])
    (record (task (codes "y") (0 ∷ []) (1 ∷ [])) {
      outs = record { name = codes "m"; sort = sorts.Int; value = None } ∷ [];
      set = record { var = 0; value = binary Plus (variable 1 sorts.Int) (variable 0 sorts.Int) } ∷ record { var = 1; value = variable 0 sorts.Int } ∷ record { var = 2; value = variable 0 sorts.Int } ∷ [];
    }
    ∷ [])

abbrev pub guest : Spec
guest = spec (codes "guest") (guest_net ∷ [])

abbrev pub host_row : List Entry
host_row =
    person (codes "ann") (codes "clerk" ∷ [])
    ∷ load host
    ∷ load guest
    ∷ rule (tree_place (codes "host") (Some (codes "main")) (Some (codes "x")) kinds.Select) 0 true (binary Equal (variable 0 sorts.Int) (constant (values.Int (pos 10)))) (Worklet (codes "guest")) 1
    ∷ plain
    (events.Launch 1 (codes "host") (values.Int (pos 10) ∷ values.Int (pos 0) ∷ values.Int (pos 0) ∷ values.Bool true ∷ values.Text (codes "hi") ∷ [])
    ∷ events.Enter (1 ∷ []) (codes "x") (Named (codes "i") ∷ []) 2 1
    ∷ events.Substitute (1 ∷ 2 ∷ []) (codes "guest")
    ∷ [])
    ∷ plain (events.Enter (1 ∷ 2 ∷ []) (codes "y") (Named (codes "i") ∷ []) 3 1 ∷ [])
    ∷ plain (events.Start (1 ∷ 2 ∷ 3 ∷ []) (codes "ann") ∷ [])
    ∷ plain (events.Complete (1 ∷ 2 ∷ 3 ∷ []) (values.Int (pos 5) ∷ []) ∷ events.Exit (1 ∷ 2 ∷ []) (codes "y") (Named (codes "o") ∷ []) ∷ [])
    ∷ plain (events.CompleteWorklet (1 ∷ 2 ∷ []) ∷ events.Exit (1 ∷ []) (codes "x") (Named (codes "o") ∷ []) ∷ [])
    ∷ []

-- worked out by hand: an `in` or `inout` variable has what is given of its name and sort, where t is given as a text and wanted as a
-- number; any other has its own first value
abbrev pub guest_begun : Shown
guest_begun =
    record nothing_shown {
      items = item (1 ∷ 2 ∷ []) (codes "x") stages.Executing None ∷ [];
      nets = net_row (1 ∷ []) (codes "host") (codes "main") (record { name = codes "n"; value = values.Int (pos 10) } ∷ record { name = codes "p"; value = values.Int (pos 0) } ∷ record { name = codes "q"; value = values.Int (pos 0) } ∷ record { name = codes "d"; value = values.Bool true } ∷ record { name = codes "w"; value = values.Text (codes "hi") } ∷ []) ∷ net_row (1 ∷ 2 ∷ []) (codes "guest") (codes "main") (record { name = codes "a"; value = values.Int (pos 10) } ∷ record { name = codes "b"; value = values.Int (pos 10) } ∷ record { name = codes "c"; value = values.Int (pos 3) } ∷ record { name = codes "t"; value = values.Int (pos 4) } ∷ record { name = codes "d"; value = values.Int (pos 5) } ∷ []) ∷ [];
      tokens = token (1 ∷ 2 ∷ []) (Named (codes "i")) 1 ∷ [];
    }

-- y made 5
abbrev pub guest_over : Shown
guest_over =
    record nothing_shown {
      items = item (1 ∷ 2 ∷ []) (codes "x") stages.Executing None ∷ [];
      nets = net_row (1 ∷ []) (codes "host") (codes "main") (record { name = codes "n"; value = values.Int (pos 10) } ∷ record { name = codes "p"; value = values.Int (pos 0) } ∷ record { name = codes "q"; value = values.Int (pos 0) } ∷ record { name = codes "d"; value = values.Bool true } ∷ record { name = codes "w"; value = values.Text (codes "hi") } ∷ []) ∷ net_row (1 ∷ 2 ∷ []) (codes "guest") (codes "main") (record { name = codes "a"; value = values.Int (pos 15) } ∷ record { name = codes "b"; value = values.Int (pos 5) } ∷ record { name = codes "c"; value = values.Int (pos 5) } ∷ record { name = codes "t"; value = values.Int (pos 4) } ∷ record { name = codes "d"; value = values.Int (pos 5) } ∷ []) ∷ [];
      tokens = token (1 ∷ 2 ∷ []) (Named (codes "o")) 1 ∷ [];
    }

-- back come a and c; b doesn't, so what was given stands for it; d is of another sort and wasn't given, so it is false
abbrev pub host_over : Shown
host_over =
    record nothing_shown {
      nets = net_row (1 ∷ []) (codes "host") (codes "main") (record { name = codes "n"; value = values.Int (pos 15) } ∷ record { name = codes "p"; value = values.Int (pos 10) } ∷ record { name = codes "q"; value = values.Int (pos 5) } ∷ record { name = codes "d"; value = values.Bool false } ∷ record { name = codes "w"; value = values.Text (codes "hi") } ∷ []) ∷ [];
      tokens = token (1 ∷ []) (Named (codes "o")) 1 ∷ [];
    }

-- an exlet completes an item that was given the same: a and b come from what was given, c and d are zero
abbrev pub given_row : List Entry
given_row =
    person (codes "ann") (codes "clerk" ∷ [])
    ∷ load host
    ∷ rule (tree_place (codes "host") (Some (codes "main")) (Some (codes "x")) kinds.Timeout) 0 true (constant (values.Bool true)) (Exlet (primitives.CompleteItem ∷ [])) 1
    ∷ plain
    (events.Launch 1 (codes "host") (values.Int (pos 10) ∷ values.Int (pos 0) ∷ values.Int (pos 0) ∷ values.Bool true ∷ values.Text (codes "hi") ∷ [])
    ∷ [])
    ∷ plain (events.Enter (1 ∷ []) (codes "x") (Named (codes "i") ∷ []) 2 1 ∷ [])
    ∷ plain (events.Raise (1 ∷ 2 ∷ []) kinds.Timeout 1 3 ∷ events.Prim (1 ∷ 2 ∷ 3 ∷ []) primitives.CompleteItem ∷ [])
    ∷ plain (events.Exit (1 ∷ []) (codes "x") (Named (codes "o") ∷ []) ∷ [])
    ∷ []

abbrev pub given_kept : Shown
given_kept =
    record nothing_shown {
      nets = net_row (1 ∷ []) (codes "host") (codes "main") (record { name = codes "n"; value = values.Int (pos 10) } ∷ record { name = codes "p"; value = values.Int (pos 10) } ∷ record { name = codes "q"; value = values.Int (pos 0) } ∷ record { name = codes "d"; value = values.Bool false } ∷ record { name = codes "w"; value = values.Text (codes "hi") } ∷ []) ∷ [];
      tokens = token (1 ∷ []) (Named (codes "o")) 1 ∷ [];
    }

-- conditions z and a, and a task b: tokens come in order of their places' texts, and events name places in flow order
abbrev pub order_net : Net
order_net =
    net (codes "main")
    (Named (codes "i")
    ∷ Named (codes "o")
    ∷ Named (codes "z")
    ∷ Named (codes "a")
    ∷ Between (codes "s") (codes "b")
    ∷ Between (codes "b") (codes "e")
    ∷ [])
    []
    (task (codes "s") (0 ∷ []) (2 ∷ 4 ∷ 3 ∷ [])
    ∷ task (codes "b") (4 ∷ []) (5 ∷ [])
    ∷ task (codes "e") (2 ∷ 5 ∷ 3 ∷ []) (1 ∷ [])
    ∷ [])

abbrev pub order : Spec
order = spec (codes "order") (order_net ∷ [])

abbrev pub order_row : List Entry
order_row =
    person (codes "ann") (codes "clerk" ∷ [])
    ∷ load order
    ∷ plain (events.Launch 1 (codes "order") [] ∷ [])
    ∷ plain (events.Enter (1 ∷ []) (codes "s") (Named (codes "i") ∷ []) 2 1 ∷ [])
    ∷ plain (events.Start (1 ∷ 2 ∷ []) (codes "ann") ∷ [])
    ∷ plain
    (events.Complete (1 ∷ 2 ∷ []) []
    ∷ events.Exit (1 ∷ []) (codes "s") (Named (codes "z") ∷ Between (codes "s") (codes "b") ∷ Named (codes "a") ∷ [])
    ∷ [])
    ∷ []

abbrev pub exit_in_text_order : Event
exit_in_text_order = events.Exit (1 ∷ []) (codes "s") (Named (codes "a") ∷ Between (codes "s") (codes "b") ∷ Named (codes "z") ∷ [])

abbrev pub order_done : List Entry
order_done = take 5 order_row ++ plain (events.Complete (1 ∷ 2 ∷ []) [] ∷ []) ∷ []

abbrev pub in_text_order : Shown
in_text_order =
    record nothing_shown {
      nets = net_row (1 ∷ []) (codes "order") (codes "main") [] ∷ [];
      tokens = token (1 ∷ []) (Named (codes "a")) 1 ∷ token (1 ∷ []) (Between (codes "s") (codes "b")) 1 ∷ token (1 ∷ []) (Named (codes "z")) 1 ∷ [];
    }
