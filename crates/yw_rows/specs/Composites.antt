-- Checks and exlets at a composite task, at a case as it begins, and at an item that is added.
-- What is to be shown was worked out by hand from the rules of tokens, items, values and checks, and not taken from what these
-- definitions give.
use Rattle.std.specs.Prelude.{true, List, [], ◌∷◌, ◌++◌, Some, None, codes}
use Rattle.yw_base.specs.declared.value.Value.TheVariants as values
use Rattle.yw_expr.specs.Tree.{constant}
use Rattle.yw_rows.specs.ChildNets.{twice}
use Rattle.yw_rows.specs.Several.{several}
use Rattle.yw_rows.specs.Play.{Entry}
use Rattle.yw_rows.specs.Seq.{seq}
use Rattle.yw_state.specs.declared.event.Event.{Event}
use Rattle.yw_rows.specs.Written.{item, load, net_row, nothing_shown, person, plain, rule, token, tree_place}
use Rattle.yw_spec.specs.declared.spec.Place.TheVariants.{Named}
use Rattle.yw_state.specs.declared.answer.Shown.{Shown}
use Rattle.yw_state.specs.declared.event.Event.TheVariants as events
use Rattle.yw_state.specs.declared.part.Stage.TheVariants as stages
use Rattle.yw_state.specs.declared.tree.Conclusion.TheVariants.{Exlet}
use Rattle.yw_state.specs.declared.tree.Primitive.TheVariants as primitives
use Rattle.yw_state.specs.declared.tree.TreeKind.TheVariants as kinds

abbrev pub composite_front : List Entry
composite_front =
    person (codes "ann") (codes "clerk" ∷ [])
    ∷ load twice
    ∷ rule (tree_place (codes "twice") (Some (codes "main")) (Some (codes "A")) kinds.Pre) 0 true (constant (values.Bool true)) (Exlet (primitives.ContinueItem ∷ [])) 1
    ∷ rule (tree_place (codes "twice") (Some (codes "main")) (Some (codes "A")) kinds.Post) 0 true (constant (values.Bool true)) (Exlet (primitives.ContinueItem ∷ [])) 1
    ∷ rule (tree_place (codes "twice") (Some (codes "main")) (Some (codes "A")) kinds.Timeout) 0 true (constant (values.Bool true)) (Exlet (primitives.RestartItem ∷ [])) 1
    ∷ rule (tree_place (codes "twice") (Some (codes "main")) (Some (codes "A")) kinds.Abort) 0 true (constant (values.Bool true)) (Exlet (primitives.CompleteItem ∷ [])) 1
    ∷ []

abbrev pub composite_entered : List Entry
composite_entered =
    composite_front ++ plain (events.Launch 1 (codes "twice") [] ∷ events.Enter (1 ∷ []) (codes "A") (Named (codes "i") ∷ []) 2 1 ∷ []) ∷ []

abbrev pub composite_due : Shown
composite_due =
    record nothing_shown {
      due = record { at = 1 ∷ 2 ∷ []; check = kinds.Pre } ∷ [];
      items = item (1 ∷ 2 ∷ []) (codes "A") stages.Ready None ∷ [];
      nets = net_row (1 ∷ []) (codes "twice") (codes "main") [] ∷ [];
    }

abbrev pub start_sub : Event
start_sub = events.StartSub (1 ∷ 2 ∷ [])

abbrev pub composite_begun : List Entry
composite_begun =
    composite_entered ++ (plain (events.Except (1 ∷ 2 ∷ []) kinds.Pre 1 3 ∷ events.Prim (1 ∷ 2 ∷ 3 ∷ []) primitives.ContinueItem ∷ events.StartSub (1 ∷ 2 ∷ []) ∷ [])
    ∷ plain (events.Enter (1 ∷ 2 ∷ []) (codes "x") (Named (codes "i") ∷ []) 4 1 ∷ [])
    ∷ [])

abbrev pub composite_works : Shown
composite_works =
    record nothing_shown {
      items = item (1 ∷ 2 ∷ []) (codes "A") stages.Executing None ∷ item (1 ∷ 2 ∷ 4 ∷ []) (codes "x") stages.Ready None ∷ [];
      nets = net_row (1 ∷ []) (codes "twice") (codes "main") [] ∷ net_row (1 ∷ 2 ∷ []) (codes "twice") (codes "leaf") [] ∷ [];
    }

-- the child net goes, and the item is ready; nothing is due, for no worklet is chosen for it
abbrev pub composite_anew : List Entry
composite_anew = composite_begun ++ plain (events.Raise (1 ∷ 2 ∷ []) kinds.Timeout 1 5 ∷ events.Prim (1 ∷ 2 ∷ 5 ∷ []) primitives.RestartItem ∷ []) ∷ []

abbrev pub composite_ready : Shown
composite_ready =
    record nothing_shown {
      items = item (1 ∷ 2 ∷ []) (codes "A") stages.Ready None ∷ [];
      nets = net_row (1 ∷ []) (codes "twice") (codes "main") [] ∷ [];
    }

abbrev pub composite_completed : List Entry
composite_completed =
    composite_begun ++ plain (events.Raise (1 ∷ 2 ∷ []) kinds.Abort 1 5 ∷ events.Prim (1 ∷ 2 ∷ 5 ∷ []) primitives.CompleteItem ∷ []) ∷ []

abbrev pub composite_done : Shown
composite_done =
    record nothing_shown {
      items = item (1 ∷ 2 ∷ []) (codes "A") stages.Completed None ∷ [];
      nets = net_row (1 ∷ []) (codes "twice") (codes "main") [] ∷ [];
    }

-- the child net comes to its end by itself
abbrev pub composite_ended : List Entry
composite_ended =
    composite_begun ++ (plain (events.Start (1 ∷ 2 ∷ 4 ∷ []) (codes "ann") ∷ [])
    ∷ plain (events.Complete (1 ∷ 2 ∷ 4 ∷ []) [] ∷ events.Exit (1 ∷ 2 ∷ []) (codes "x") (Named (codes "o") ∷ []) ∷ events.CompleteSub (1 ∷ 2 ∷ []) ∷ [])
    ∷ [])

abbrev pub composite_post : Shown
composite_post =
    record nothing_shown {
      due = record { at = 1 ∷ 2 ∷ []; check = kinds.Post } ∷ [];
      items = item (1 ∷ 2 ∷ []) (codes "A") stages.Completed None ∷ [];
      nets = net_row (1 ∷ []) (codes "twice") (codes "main") [] ∷ [];
    }

-- suspended, it holds the work in its child net, and nothing else
abbrev pub composite_suspended : List Entry
composite_suspended = composite_begun ++ plain (events.Suspend (1 ∷ 2 ∷ []) ∷ []) ∷ []

abbrev pub start_x : Event
start_x = events.Start (1 ∷ 2 ∷ 4 ∷ []) (codes "ann")

-- a case has its own check as it begins
abbrev pub case_pre : List Entry
case_pre =
    person (codes "ann") (codes "clerk" ∷ [])
    ∷ load seq
    ∷ rule (tree_place (codes "seq") None None kinds.Pre) 0 true (constant (values.Bool true)) (Exlet (primitives.SuspendCase ∷ [])) 1
    ∷ plain (events.Launch 1 (codes "seq") [] ∷ [])
    ∷ []

abbrev pub enter_a : Event
enter_a = events.Enter (1 ∷ []) (codes "a") (Named (codes "i") ∷ []) 2 1

abbrev pub case_due : Shown
case_due =
    record nothing_shown {
      due = record { at = 1 ∷ []; check = kinds.Pre } ∷ [];
      nets = net_row (1 ∷ []) (codes "seq") (codes "main") [] ∷ [];
      tokens = token (1 ∷ []) (Named (codes "i")) 1 ∷ [];
    }

-- each of several items has its check, and one that is added has its own
abbrev pub added_row : List Entry
added_row =
    person (codes "ann") (codes "clerk" ∷ [])
    ∷ load several
    ∷ rule (tree_place (codes "r8") (Some (codes "main")) (Some (codes "m")) kinds.Pre) 0 true (constant (values.Bool true)) (Exlet (primitives.ContinueItem ∷ [])) 1
    ∷ plain (events.Launch 1 (codes "r8") (values.Texts (codes "p" ∷ codes "q" ∷ []) ∷ []) ∷ [])
    ∷ plain (events.Enter (1 ∷ []) (codes "m") (Named (codes "i") ∷ []) 2 2 ∷ [])
    ∷ plain (events.Except (1 ∷ 2 ∷ []) kinds.Pre 1 4 ∷ events.Prim (1 ∷ 2 ∷ 4 ∷ []) primitives.ContinueItem ∷ [])
    ∷ plain (events.Except (1 ∷ 3 ∷ []) kinds.Pre 1 5 ∷ events.Prim (1 ∷ 3 ∷ 5 ∷ []) primitives.ContinueItem ∷ [])
    ∷ plain (events.Add (1 ∷ []) (codes "m") (values.Text (codes "r")) 6 ∷ [])
    ∷ []

abbrev pub both_due : Shown
both_due =
    record nothing_shown {
      due = record { at = 1 ∷ 2 ∷ []; check = kinds.Pre } ∷ record { at = 1 ∷ 3 ∷ []; check = kinds.Pre } ∷ [];
      items = item (1 ∷ 2 ∷ []) (codes "m") stages.Ready None ∷ item (1 ∷ 3 ∷ []) (codes "m") stages.Ready None ∷ [];
      nets = net_row (1 ∷ []) (codes "r8") (codes "main") (record { name = codes "xs"; value = values.Texts (codes "p" ∷ codes "q" ∷ []) } ∷ []) ∷ [];
    }

abbrev pub added_due : Shown
added_due =
    record nothing_shown {
      due = record { at = 1 ∷ 6 ∷ []; check = kinds.Pre } ∷ [];
      items = item (1 ∷ 2 ∷ []) (codes "m") stages.Ready None ∷ item (1 ∷ 3 ∷ []) (codes "m") stages.Ready None ∷ item (1 ∷ 6 ∷ []) (codes "m") stages.Ready None ∷ [];
      nets = net_row (1 ∷ []) (codes "r8") (codes "main") (record { name = codes "xs"; value = values.Texts (codes "p" ∷ codes "q" ∷ []) } ∷ []) ∷ [];
    }
