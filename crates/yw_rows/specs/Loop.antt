-- A task that nobody does and that enables itself again: events come of themselves without end.
-- What is to be shown was worked out by hand from the rules of tokens, items, values and checks, and not taken from what these
-- definitions give.
use Rattle.std.specs.Prelude.{ℕ, zero, suc, ◌+◌, List, [], ◌∷◌, ◌++◌, None, codes}
use Rattle.yw_rows.specs.Play.{Entry}
use Rattle.yw_state.specs.declared.event.Event.{Event}
use Rattle.yw_rows.specs.Written.{item, load, net, net_row, nothing_shown, person, plain, spec, task}
use Rattle.yw_spec.specs.declared.spec.Net.{Net}
use Rattle.yw_spec.specs.declared.spec.Place.TheVariants.{Named}
use Rattle.yw_spec.specs.declared.spec.Spec.{Spec}
use Rattle.yw_spec.specs.declared.task.Kind.TheVariants.{Empty}
use Rattle.yw_state.specs.declared.answer.Shown.{Shown}
use Rattle.yw_state.specs.declared.event.Event.TheVariants as events
use Rattle.yw_state.specs.declared.part.Stage.TheVariants as stages

abbrev pub loop_net : Net
loop_net =
    net (codes "main")
    (Named (codes "i") ∷ Named (codes "o") ∷ Named (codes "c") ∷ [])
    []
    (record (task (codes "a") (0 ∷ []) (2 ∷ [])) { kind = Empty }
    ∷ record (task (codes "b") (2 ∷ []) (2 ∷ [])) { kind = Empty }
    ∷ task (codes "z") (2 ∷ []) (1 ∷ [])
    ∷ [])

abbrev pub loop : Spec
loop = spec (codes "loop") (loop_net ∷ [])

-- so many times round, and once in again
abbrev rounds : ℕ → ℕ → List Event
rounds zero n = events.Enter (1 ∷ []) (codes "b") (Named (codes "c") ∷ []) n 1 ∷ []
rounds (suc k) n =
    events.Enter (1 ∷ []) (codes "b") (Named (codes "c") ∷ []) n 1
    ∷ events.CompleteEmpty (1 ∷ n ∷ [])
    ∷ events.Exit (1 ∷ []) (codes "b") (Named (codes "c") ∷ [])
    ∷ rounds k (n + 1)

-- what comes of itself behind the launch
abbrev pub launched_events : ℕ → List Event
launched_events k =
    events.Enter (1 ∷ []) (codes "a") (Named (codes "i") ∷ []) 2 1
    ∷ events.CompleteEmpty (1 ∷ 2 ∷ [])
    ∷ events.Exit (1 ∷ []) (codes "a") (Named (codes "c") ∷ [])
    ∷ rounds k 3

abbrev pub launched_round : ℕ → List Entry
launched_round k = person (codes "ann") (codes "clerk" ∷ []) ∷ load loop ∷ plain (events.Launch 1 (codes "loop") [] ∷ launched_events k) ∷ []

abbrev pub suspended_round : ℕ → List Entry
suspended_round k = launched_round k ++ plain (events.Suspend (1 ∷ []) ∷ []) ∷ []

abbrev pub complete_last : Event
complete_last = events.CompleteEmpty (1 ∷ 1367 ∷ [])

abbrev pub in_again : Shown
in_again =
    record nothing_shown {
      items = item (1 ∷ 1367 ∷ []) (codes "b") stages.Ready None ∷ [];
      nets = net_row (1 ∷ []) (codes "loop") (codes "main") [] ∷ [];
    }
