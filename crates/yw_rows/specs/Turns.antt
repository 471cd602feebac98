-- The order of checks at an item, and what is due once it begins anew or counts as completed.
-- What is to be shown was worked out by hand from the rules of tokens, items, values and checks, and not taken from what these
-- definitions give.
use Rattle.std.specs.Prelude.{true, List, [], ◌∷◌, ◌++◌, Some, None, codes}
use Rattle.yw_base.specs.declared.value.Value.TheVariants as values
use Rattle.yw_expr.specs.Tree.{constant}
use Rattle.yw_rows.specs.Nested.{worklet}
use Rattle.yw_rows.specs.Play.{Entry}
use Rattle.yw_rows.specs.Seq.{seq}
use Rattle.yw_state.specs.declared.event.Event.{Event}
use Rattle.yw_rows.specs.Written.{item, load, net_row, nothing_shown, person, plain, rule, tree_place}
use Rattle.yw_spec.specs.declared.spec.Place.TheVariants.{Named}
use Rattle.yw_state.specs.declared.answer.Shown.{Shown}
use Rattle.yw_state.specs.declared.event.Event.TheVariants as events
use Rattle.yw_state.specs.declared.part.Stage.TheVariants as stages
use Rattle.yw_state.specs.declared.tree.Conclusion.TheVariants.{Exlet, Worklet}
use Rattle.yw_state.specs.declared.tree.Primitive.TheVariants as primitives
use Rattle.yw_state.specs.declared.tree.TreeKind.TheVariants as kinds

-- an exlet before and behind, a worklet, and exlets for a time and for want of doing
abbrev pub turns_front : List Entry
turns_front =
    person (codes "ann") (codes "clerk" ∷ [])
    ∷ load seq
    ∷ load worklet
    ∷ rule (tree_place (codes "seq") (Some (codes "main")) (Some (codes "a")) kinds.Pre) 0 true (constant (values.Bool true)) (Exlet (primitives.ContinueItem ∷ [])) 1
    ∷ rule (tree_place (codes "seq") (Some (codes "main")) (Some (codes "a")) kinds.Select) 0 true (constant (values.Bool true)) (Worklet (codes "wl")) 1
    ∷ rule (tree_place (codes "seq") (Some (codes "main")) (Some (codes "a")) kinds.Post) 0 true (constant (values.Bool true)) (Exlet (primitives.ContinueItem ∷ [])) 1
    ∷ rule (tree_place (codes "seq") (Some (codes "main")) (Some (codes "a")) kinds.Timeout) 0 true (constant (values.Bool true)) (Exlet (primitives.RestartItem ∷ [])) 1
    ∷ rule (tree_place (codes "seq") (Some (codes "main")) (Some (codes "a")) kinds.Abort) 0 true (constant (values.Bool true)) (Exlet (primitives.CompleteItem ∷ [])) 1
    ∷ []

abbrev pub turns_entered : List Entry
turns_entered = turns_front ++ plain (events.Launch 1 (codes "seq") [] ∷ events.Enter (1 ∷ []) (codes "a") (Named (codes "i") ∷ []) 2 1 ∷ []) ∷ []

abbrev pub choose : Event
choose = events.Substitute (1 ∷ 2 ∷ []) (codes "wl")

abbrev pub two_due : Shown
two_due =
    record nothing_shown {
      due = record { at = 1 ∷ 2 ∷ []; check = kinds.Pre } ∷ record { at = 1 ∷ 2 ∷ []; check = kinds.Select } ∷ [];
      items = item (1 ∷ 2 ∷ []) (codes "a") stages.Ready None ∷ [];
      nets = net_row (1 ∷ []) (codes "seq") (codes "main") [] ∷ [];
    }

abbrev pub turns_pre : List Entry
turns_pre = turns_entered ++ plain (events.Except (1 ∷ 2 ∷ []) kinds.Pre 1 3 ∷ events.Prim (1 ∷ 2 ∷ 3 ∷ []) primitives.ContinueItem ∷ []) ∷ []

abbrev pub one_due : Shown
one_due =
    record nothing_shown {
      due = record { at = 1 ∷ 2 ∷ []; check = kinds.Select } ∷ [];
      items = item (1 ∷ 2 ∷ []) (codes "a") stages.Ready None ∷ [];
      nets = net_row (1 ∷ []) (codes "seq") (codes "main") [] ∷ [];
    }

abbrev pub turns_chosen : List Entry
turns_chosen =
    turns_pre ++ (plain (events.Substitute (1 ∷ 2 ∷ []) (codes "wl") ∷ [])
    ∷ plain (events.Enter (1 ∷ 2 ∷ []) (codes "y") (Named (codes "i") ∷ []) 4 1 ∷ [])
    ∷ [])

abbrev pub worklet_works : Shown
worklet_works =
    record nothing_shown {
      items = item (1 ∷ 2 ∷ []) (codes "a") stages.Executing None ∷ item (1 ∷ 2 ∷ 4 ∷ []) (codes "y") stages.Ready None ∷ [];
      nets = net_row (1 ∷ []) (codes "seq") (codes "main") [] ∷ net_row (1 ∷ 2 ∷ []) (codes "wl") (codes "main") [] ∷ [];
    }

-- the item begins anew: its worklet is gone, and one may be chosen again, but nothing comes before it again
abbrev pub turns_anew : List Entry
turns_anew = turns_chosen ++ plain (events.Raise (1 ∷ 2 ∷ []) kinds.Timeout 1 5 ∷ events.Prim (1 ∷ 2 ∷ 5 ∷ []) primitives.RestartItem ∷ []) ∷ []

-- it counts as completed: its worklet is gone, and nothing comes behind it
abbrev pub turns_completed : List Entry
turns_completed = turns_chosen ++ plain (events.Raise (1 ∷ 2 ∷ []) kinds.Abort 1 5 ∷ events.Prim (1 ∷ 2 ∷ 5 ∷ []) primitives.CompleteItem ∷ []) ∷ []

abbrev pub done_by_exlet : Shown
done_by_exlet =
    record nothing_shown {
      items = item (1 ∷ 2 ∷ []) (codes "a") stages.Completed None ∷ [];
      nets = net_row (1 ∷ []) (codes "seq") (codes "main") [] ∷ [];
    }

-- the worklet ends by itself, and then the check behind is due
abbrev pub turns_ended : List Entry
turns_ended =
    turns_chosen ++ (plain (events.Start (1 ∷ 2 ∷ 4 ∷ []) (codes "ann") ∷ [])
    ∷ plain (events.Complete (1 ∷ 2 ∷ 4 ∷ []) [] ∷ events.Exit (1 ∷ 2 ∷ []) (codes "y") (Named (codes "o") ∷ []) ∷ events.CompleteWorklet (1 ∷ 2 ∷ []) ∷ [])
    ∷ [])

abbrev pub post_is_due : Shown
post_is_due =
    record nothing_shown {
      due = record { at = 1 ∷ 2 ∷ []; check = kinds.Post } ∷ [];
      items = item (1 ∷ 2 ∷ []) (codes "a") stages.Completed None ∷ [];
      nets = net_row (1 ∷ []) (codes "seq") (codes "main") [] ∷ [];
    }
