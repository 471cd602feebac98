-- Checks behind an item and behind a case.
-- What is to be shown was worked out by hand from the rules of tokens, items, values and checks, and not taken from what these
-- definitions give.
use Rattle.std.specs.Prelude.{pos, true, false, List, [], ◌∷◌, ◌++◌, take, Some, None, codes}
use Rattle.yw_base.specs.declared.value.Sort.TheVariants as sorts
use Rattle.yw_base.specs.declared.value.Value.TheVariants as values
use Rattle.yw_expr.specs.Tree.{constant, variable, binary}
use Rattle.yw_grammar.specs.declared.symbol.Infix.TheVariants.{Greater}
use Rattle.yw_rows.specs.Mapping.{mapping}
use Rattle.yw_rows.specs.Play.{Entry}
use Rattle.yw_rows.specs.Seq.{seq_row}
use Rattle.yw_state.specs.declared.event.Event.{Event}
use Rattle.yw_rows.specs.Written.{item, load, net_row, nothing_shown, person, plain, rule, token, tree_place}
use Rattle.yw_spec.specs.declared.spec.Place.TheVariants.{Between, Named}
use Rattle.yw_state.specs.declared.answer.Shown.{Shown}
use Rattle.yw_state.specs.declared.event.Event.TheVariants as events
use Rattle.yw_state.specs.declared.part.Stage.TheVariants as stages
use Rattle.yw_state.specs.declared.tree.Conclusion.TheVariants.{Exlet}
use Rattle.yw_state.specs.declared.tree.Primitive.TheVariants as primitives
use Rattle.yw_state.specs.declared.tree.TreeKind.TheVariants as kinds

-- a rule behind the case, which looks at nothing
abbrev pub case_post : List Entry
case_post =
    take 3 seq_row ++ (rule (tree_place (codes "seq") None None kinds.Post) 0 true (constant (values.Bool true)) (Exlet (primitives.SuspendCase ∷ primitives.ContinueCase ∷ [])) 1
    ∷ plain (events.Enter (1 ∷ []) (codes "a") (Named (codes "i") ∷ []) 2 1 ∷ [])
    ∷ plain (events.Start (1 ∷ 2 ∷ []) (codes "ann") ∷ [])
    ∷ plain (events.Complete (1 ∷ 2 ∷ []) [] ∷ events.Exit (1 ∷ []) (codes "a") (Between (codes "a") (codes "b") ∷ []) ∷ [])
    ∷ plain (events.Enter (1 ∷ []) (codes "b") (Between (codes "a") (codes "b") ∷ []) 3 1 ∷ [])
    ∷ plain (events.Start (1 ∷ 3 ∷ []) (codes "ann") ∷ [])
    ∷ plain (events.Complete (1 ∷ 3 ∷ []) [] ∷ events.Exit (1 ∷ []) (codes "b") (Named (codes "o") ∷ []) ∷ [])
    ∷ [])

abbrev pub case_post_run : List Entry
case_post_run =
    case_post ++ (plain (events.Except (1 ∷ []) kinds.Post 1 4 ∷ events.Prim (1 ∷ 4 ∷ []) primitives.SuspendCase ∷ [])
    ∷ plain (events.Prim (1 ∷ 4 ∷ []) primitives.ContinueCase ∷ [])
    ∷ plain (events.Finish 1 ∷ [])
    ∷ [])

abbrev pub finish : Event
finish = events.Finish 1

abbrev pub post_due : Shown
post_due =
    record nothing_shown {
      due = record { at = 1 ∷ []; check = kinds.Post } ∷ [];
      nets = net_row (1 ∷ []) (codes "seq") (codes "main") [] ∷ [];
      tokens = token (1 ∷ []) (Named (codes "o")) 1 ∷ [];
    }

abbrev pub post_running : Shown
post_running =
    record nothing_shown {
      nets = net_row (1 ∷ []) (codes "seq") (codes "main") [] ∷ [];
      runs = record { run = 1 ∷ 4 ∷ []; waiting = false; rest = primitives.ContinueCase ∷ [] } ∷ [];
      suspended = (1 ∷ []) ∷ [];
      tokens = token (1 ∷ []) (Named (codes "o")) 1 ∷ [];
    }

-- behind an item: what it made is great, or else what it made isn't, where the item is removed
abbrev pub item_post : List Entry
item_post =
    person (codes "ann") (codes "clerk" ∷ [])
    ∷ load mapping
    ∷ rule (tree_place (codes "r10") (Some (codes "main")) (Some (codes "a")) kinds.Post) 0 true (binary Greater (variable 0 sorts.Int) (constant (values.Int (pos 50)))) (Exlet (primitives.RemoveItem ∷ [])) 1
    ∷ plain (events.Launch 1 (codes "r10") (values.Int (pos 0) ∷ []) ∷ [])
    ∷ plain (events.Enter (1 ∷ []) (codes "a") (Named (codes "i") ∷ []) 2 1 ∷ [])
    ∷ plain (events.Start (1 ∷ 2 ∷ []) (codes "ann") ∷ [])
    ∷ []

abbrev pub great : List Entry
great =
    item_post ++ (plain (events.Complete (1 ∷ 2 ∷ []) (values.Int (pos 100) ∷ []) ∷ [])
    ∷ plain (events.Except (1 ∷ 2 ∷ []) kinds.Post 1 3 ∷ events.Prim (1 ∷ 2 ∷ 3 ∷ []) primitives.RemoveItem ∷ [])
    ∷ [])

abbrev pub small : List Entry
small =
    item_post ++ (plain
    (events.Complete (1 ∷ 2 ∷ []) (values.Int (pos 50) ∷ [])
    ∷ events.Pass (1 ∷ 2 ∷ []) kinds.Post
    ∷ events.Exit (1 ∷ []) (codes "a") (Named (codes "o") ∷ [])
    ∷ events.Finish 1
    ∷ [])
    ∷ [])

abbrev pub leave : Event
leave = events.Exit (1 ∷ []) (codes "a") (Named (codes "o") ∷ [])

abbrev pub judged_great : Shown
judged_great =
    record nothing_shown {
      due = record { at = 1 ∷ 2 ∷ []; check = kinds.Post } ∷ [];
      items = item (1 ∷ 2 ∷ []) (codes "a") stages.Completed (Some (codes "ann")) ∷ [];
      nets = net_row (1 ∷ []) (codes "r10") (codes "main") (record { name = codes "x"; value = values.Int (pos 0) } ∷ []) ∷ [];
    }

abbrev pub removed_great : Shown
removed_great =
    record nothing_shown {
      nets = net_row (1 ∷ []) (codes "r10") (codes "main") (record { name = codes "x"; value = values.Int (pos 0) } ∷ []) ∷ [];
    }
