-- Exlets at an item of the first task of the net of two tasks: before it begins, where a time has passed, and where it can't be done.
-- What is to be shown was worked out by hand from the rules of tokens, items, values and checks, and not taken from what these
-- definitions give.
use Rattle.std.specs.Prelude.{true, false, List, [], ◌∷◌, ◌++◌, take, Some, None, codes}
use Rattle.yw_base.specs.declared.value.Value.TheVariants as values
use Rattle.yw_expr.specs.Tree.{constant}
use Rattle.yw_rows.specs.Play.{Entry}
use Rattle.yw_rows.specs.Seq.{seq_row}
use Rattle.yw_rows.specs.Written.{item, net_row, nothing_shown, plain, rule, tree_place}
use Rattle.yw_spec.specs.declared.spec.Place.TheVariants.{Between, Named}
use Rattle.yw_state.specs.declared.answer.Shown.{Shown}
use Rattle.yw_state.specs.declared.event.Event.TheVariants as events
use Rattle.yw_state.specs.declared.part.Stage.TheVariants as stages
use Rattle.yw_state.specs.declared.tree.Conclusion.TheVariants.{Exlet}
use Rattle.yw_state.specs.declared.tree.Primitive.{Primitive}
use Rattle.yw_state.specs.declared.tree.Primitive.TheVariants as primitives
use Rattle.yw_state.specs.declared.tree.TreeKind.{TreeKind}
use Rattle.yw_state.specs.declared.tree.TreeKind.TheVariants as kinds

-- launched, with an exlet at the first task, whatever its item is given
abbrev seq_with : TreeKind → List Primitive → List Entry
seq_with kind ps =
    take 3 seq_row ++ rule (tree_place (codes "seq") (Some (codes "main")) (Some (codes "a")) kind) 0 true (constant (values.Bool true)) (Exlet ps) 1 ∷ []

-- the case is suspended as the item comes; it goes on, and the item is started
abbrev pub pre_entered : List Entry
pre_entered = seq_with kinds.Pre (primitives.SuspendCase ∷ []) ++ plain (events.Enter (1 ∷ []) (codes "a") (Named (codes "i") ∷ []) 2 1 ∷ []) ∷ []

abbrev pub pre_excepted : List Entry
pre_excepted = pre_entered ++ plain (events.Except (1 ∷ 2 ∷ []) kinds.Pre 1 3 ∷ []) ∷ []

abbrev pub pre_suspended : List Entry
pre_suspended = pre_excepted ++ plain (events.Prim (1 ∷ 2 ∷ 3 ∷ []) primitives.SuspendCase ∷ []) ∷ []

abbrev pub pre_going_on : List Entry
pre_going_on = pre_suspended ++ plain (events.Continue (1 ∷ []) ∷ []) ∷ plain (events.Start (1 ∷ 2 ∷ []) (codes "ann") ∷ []) ∷ []

abbrev pub pre_due : Shown
pre_due =
    record nothing_shown {
      due = record { at = 1 ∷ 2 ∷ []; check = kinds.Pre } ∷ [];
      items = item (1 ∷ 2 ∷ []) (codes "a") stages.Ready None ∷ [];
      nets = net_row (1 ∷ []) (codes "seq") (codes "main") [] ∷ [];
    }

abbrev pub pre_running : Shown
pre_running =
    record nothing_shown {
      items = item (1 ∷ 2 ∷ []) (codes "a") stages.Ready None ∷ [];
      nets = net_row (1 ∷ []) (codes "seq") (codes "main") [] ∷ [];
      runs = record { run = 1 ∷ 2 ∷ 3 ∷ []; waiting = false; rest = primitives.SuspendCase ∷ [] } ∷ [];
    }

abbrev pub pre_held : Shown
pre_held =
    record nothing_shown {
      items = item (1 ∷ 2 ∷ []) (codes "a") stages.Ready None ∷ [];
      nets = net_row (1 ∷ []) (codes "seq") (codes "main") [] ∷ [];
      suspended = (1 ∷ []) ∷ [];
    }

abbrev pub pre_started : Shown
pre_started =
    record nothing_shown {
      items = item (1 ∷ 2 ∷ []) (codes "a") stages.Executing (Some (codes "ann")) ∷ [];
      nets = net_row (1 ∷ []) (codes "seq") (codes "main") [] ∷ [];
    }

-- the item counts as completed where a time has passed, and its task exits
abbrev pub time_completed : List Entry
time_completed =
    seq_with kinds.Timeout (primitives.CompleteItem ∷ []) ++ (plain (events.Enter (1 ∷ []) (codes "a") (Named (codes "i") ∷ []) 2 1 ∷ [])
    ∷ plain (events.Raise (1 ∷ 2 ∷ []) kinds.Timeout 1 3 ∷ events.Prim (1 ∷ 2 ∷ 3 ∷ []) primitives.CompleteItem ∷ [])
    ∷ [])

abbrev pub time_left : List Entry
time_left = time_completed ++ plain (events.Exit (1 ∷ []) (codes "a") (Between (codes "a") (codes "b") ∷ []) ∷ []) ∷ []

abbrev pub completed_by_exlet : Shown
completed_by_exlet =
    record nothing_shown {
      items = item (1 ∷ 2 ∷ []) (codes "a") stages.Completed None ∷ [];
      nets = net_row (1 ∷ []) (codes "seq") (codes "main") [] ∷ [];
    }

-- the case is removed
abbrev pub case_removed : List Entry
case_removed =
    seq_with kinds.Abort (primitives.RemoveCase ∷ []) ++ (plain (events.Enter (1 ∷ []) (codes "a") (Named (codes "i") ∷ []) 2 1 ∷ [])
    ∷ plain (events.Raise (1 ∷ 2 ∷ []) kinds.Abort 1 3 ∷ events.Prim (1 ∷ 2 ∷ 3 ∷ []) primitives.RemoveCase ∷ [])
    ∷ [])

-- the item is suspended twice and let go on twice, which changes nothing the second time, and then begins anew
abbrev pub restarted : List Entry
restarted =
    seq_with kinds.Timeout (primitives.SuspendItem ∷ primitives.SuspendItem ∷ primitives.ContinueItem ∷ primitives.ContinueItem ∷ primitives.RestartItem ∷ []) ++ (plain (events.Enter (1 ∷ []) (codes "a") (Named (codes "i") ∷ []) 2 1 ∷ [])
    ∷ plain (events.Start (1 ∷ 2 ∷ []) (codes "ann") ∷ [])
    ∷ plain
    (events.Raise (1 ∷ 2 ∷ []) kinds.Timeout 1 3
    ∷ events.Prim (1 ∷ 2 ∷ 3 ∷ []) primitives.SuspendItem
    ∷ events.Prim (1 ∷ 2 ∷ 3 ∷ []) primitives.SuspendItem
    ∷ [])
    ∷ plain (events.Prim (1 ∷ 2 ∷ 3 ∷ []) primitives.ContinueItem ∷ events.Prim (1 ∷ 2 ∷ 3 ∷ []) primitives.ContinueItem ∷ [])
    ∷ plain (events.Prim (1 ∷ 2 ∷ 3 ∷ []) primitives.RestartItem ∷ [])
    ∷ plain (events.Start (1 ∷ 2 ∷ []) (codes "bob") ∷ [])
    ∷ [])

abbrev pub twice_suspended : Shown
twice_suspended =
    record nothing_shown {
      items = item (1 ∷ 2 ∷ []) (codes "a") stages.Executing (Some (codes "ann")) ∷ [];
      nets = net_row (1 ∷ []) (codes "seq") (codes "main") [] ∷ [];
      runs = record { run = 1 ∷ 2 ∷ 3 ∷ []; waiting = false; rest = primitives.ContinueItem ∷ primitives.ContinueItem ∷ primitives.RestartItem ∷ [] } ∷ [];
      suspended = (1 ∷ 2 ∷ []) ∷ [];
    }

abbrev pub twice_continued : Shown
twice_continued =
    record nothing_shown {
      items = item (1 ∷ 2 ∷ []) (codes "a") stages.Executing (Some (codes "ann")) ∷ [];
      nets = net_row (1 ∷ []) (codes "seq") (codes "main") [] ∷ [];
      runs = record { run = 1 ∷ 2 ∷ 3 ∷ []; waiting = false; rest = primitives.RestartItem ∷ [] } ∷ [];
    }

abbrev pub ready_again : Shown
ready_again =
    record nothing_shown {
      items = item (1 ∷ 2 ∷ []) (codes "a") stages.Ready None ∷ [];
      nets = net_row (1 ∷ []) (codes "seq") (codes "main") [] ∷ [];
    }

-- the item is removed, and nothing of its task is left
abbrev pub item_removed : List Entry
item_removed =
    seq_with kinds.Abort (primitives.RemoveItem ∷ []) ++ (plain (events.Enter (1 ∷ []) (codes "a") (Named (codes "i") ∷ []) 2 1 ∷ [])
    ∷ plain (events.Start (1 ∷ 2 ∷ []) (codes "ann") ∷ [])
    ∷ plain (events.Raise (1 ∷ 2 ∷ []) kinds.Abort 1 3 ∷ events.Prim (1 ∷ 2 ∷ 3 ∷ []) primitives.RemoveItem ∷ [])
    ∷ [])

abbrev pub nothing_left : Shown
nothing_left =
    record nothing_shown {
      nets = net_row (1 ∷ []) (codes "seq") (codes "main") [] ∷ [];
    }
