-- A compensation at work on a case.
-- What is to be shown was worked out by hand from the rules of tokens, items, values and checks, and not taken from what these
-- definitions give.
use Rattle.std.specs.Prelude.{pos, true, false, List, [], ◌∷◌, ◌++◌, None, codes}
use Rattle.yw_base.specs.declared.value.Value.TheVariants as values
use Rattle.yw_expr.specs.Tree.{constant}
use Rattle.yw_rows.specs.Loan.{deep}
use Rattle.yw_rows.specs.Play.{Entry}
use Rattle.yw_rows.specs.Trees.{amt}
use Rattle.yw_state.specs.declared.event.Event.{Event}
use Rattle.yw_rows.specs.Written.{load, net_row, nothing_shown, person, plain, rule, token, tree_place}
use Rattle.yw_spec.specs.declared.spec.Place.TheVariants.{Named}
use Rattle.yw_state.specs.declared.answer.Shown.{Shown}
use Rattle.yw_state.specs.declared.event.Event.TheVariants as events
use Rattle.yw_state.specs.declared.tree.Conclusion.TheVariants.{Exlet}
use Rattle.yw_state.specs.declared.tree.Primitive.TheVariants as primitives
use Rattle.yw_state.specs.declared.tree.TreeKind.TheVariants as kinds

-- an exlet outside and one behind the case
abbrev pub comp_row : List Entry
comp_row =
    person (codes "ann") (codes "clerk" ∷ [])
    ∷ person (codes "bob") (codes "officer" ∷ [])
    ∷ load amt
    ∷ load deep
    ∷ rule (tree_place (codes "amt") None None kinds.External) 0 true (constant (values.Bool true)) (Exlet (primitives.Compensate (codes "deep") ∷ primitives.SuspendCase ∷ [])) 1
    ∷ rule (tree_place (codes "amt") None None kinds.Post) 0 true (constant (values.Bool true)) (Exlet (primitives.ContinueCase ∷ [])) 1
    ∷ plain (events.Launch 1 (codes "amt") (values.Int (pos 50) ∷ []) ∷ [])
    ∷ plain (events.Raise (1 ∷ []) kinds.External 1 2 ∷ events.Prim (1 ∷ 2 ∷ []) (primitives.Compensate (codes "deep")) ∷ [])
    ∷ []

-- the compensation has the case's amount
abbrev pub comp_begun : Shown
comp_begun =
    record nothing_shown {
      nets = net_row (1 ∷ []) (codes "amt") (codes "main") (record { name = codes "amount"; value = values.Int (pos 50) } ∷ []) ∷ net_row (1 ∷ 2 ∷ []) (codes "deep") (codes "main") (record { name = codes "amount"; value = values.Int (pos 50) } ∷ []) ∷ [];
      runs = record { run = 1 ∷ 2 ∷ []; waiting = true; rest = primitives.SuspendCase ∷ [] } ∷ [];
      tokens = token (1 ∷ []) (Named (codes "i")) 1 ∷ token (1 ∷ 2 ∷ []) (Named (codes "i")) 1 ∷ [];
    }

-- the case is suspended
abbrev pub comp_suspended : List Entry
comp_suspended = comp_row ++ plain (events.Suspend (1 ∷ []) ∷ []) ∷ []

abbrev pub enter_t : Event
enter_t = events.Enter (1 ∷ []) (codes "t") (Named (codes "i") ∷ []) 3 1

abbrev pub enter_visit : Event
enter_visit = events.Enter (1 ∷ 2 ∷ []) (codes "visit") (Named (codes "i") ∷ []) 3 1

-- the case's own net comes to its end while the compensation is at work
abbrev pub comp_behind : List Entry
comp_behind =
    comp_row ++ (plain (events.Enter (1 ∷ []) (codes "t") (Named (codes "i") ∷ []) 3 1 ∷ [])
    ∷ plain (events.Start (1 ∷ 3 ∷ []) (codes "ann") ∷ [])
    ∷ plain (events.Complete (1 ∷ 3 ∷ []) [] ∷ events.Exit (1 ∷ []) (codes "t") (Named (codes "o") ∷ []) ∷ [])
    ∷ [])

abbrev pub due_and_busy : Shown
due_and_busy =
    record nothing_shown {
      due = record { at = 1 ∷ []; check = kinds.Post } ∷ [];
      nets = net_row (1 ∷ []) (codes "amt") (codes "main") (record { name = codes "amount"; value = values.Int (pos 50) } ∷ []) ∷ net_row (1 ∷ 2 ∷ []) (codes "deep") (codes "main") (record { name = codes "amount"; value = values.Int (pos 50) } ∷ []) ∷ [];
      runs = record { run = 1 ∷ 2 ∷ []; waiting = true; rest = primitives.SuspendCase ∷ [] } ∷ [];
      tokens = token (1 ∷ []) (Named (codes "o")) 1 ∷ token (1 ∷ 2 ∷ []) (Named (codes "i")) 1 ∷ [];
    }

abbrev pub over : Event
over = events.Finish 1

abbrev pub post_begins : Event
post_begins = events.Except (1 ∷ []) kinds.Post 1 4

-- the compensation ends, and its run goes on and suspends the case; the check behind it comes all the same
abbrev pub comp_over : List Entry
comp_over =
    comp_behind ++ (plain (events.Enter (1 ∷ 2 ∷ []) (codes "visit") (Named (codes "i") ∷ []) 4 1 ∷ [])
    ∷ plain (events.Start (1 ∷ 2 ∷ 4 ∷ []) (codes "bob") ∷ [])
    ∷ plain (events.Complete (1 ∷ 2 ∷ 4 ∷ []) [] ∷ events.Exit (1 ∷ 2 ∷ []) (codes "visit") (Named (codes "o") ∷ []) ∷ events.Compensated (1 ∷ 2 ∷ []) ∷ [])
    ∷ [])

abbrev pub comp_ended : List Entry
comp_ended =
    comp_over ++ (plain (events.Prim (1 ∷ 2 ∷ []) primitives.SuspendCase ∷ [])
    ∷ plain (events.Except (1 ∷ []) kinds.Post 1 5 ∷ events.Prim (1 ∷ 5 ∷ []) primitives.ContinueCase ∷ events.Finish 1 ∷ [])
    ∷ [])

abbrev pub run_goes_on : Shown
run_goes_on =
    record nothing_shown {
      due = record { at = 1 ∷ []; check = kinds.Post } ∷ [];
      nets = net_row (1 ∷ []) (codes "amt") (codes "main") (record { name = codes "amount"; value = values.Int (pos 50) } ∷ []) ∷ [];
      runs = record { run = 1 ∷ 2 ∷ []; waiting = false; rest = primitives.SuspendCase ∷ [] } ∷ [];
      tokens = token (1 ∷ []) (Named (codes "o")) 1 ∷ [];
    }
