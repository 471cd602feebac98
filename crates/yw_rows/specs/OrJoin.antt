-- An OR-join that waits for a token which may still come, until the task that could bring it is emptied.
-- What is to be shown was worked out by hand from the rules of tokens, items, values and checks, and not taken from what these
-- definitions give.
use Rattle.std.specs.Prelude.{List, [], ◌∷◌, None, codes}
use Rattle.yw_rows.specs.Play.{Entry}
use Rattle.yw_state.specs.declared.event.Event.{Event}
use Rattle.yw_rows.specs.Written.{item, load, net, net_row, nothing_shown, person, plain, spec, task, token}
use Rattle.yw_spec.specs.declared.spec.Net.{Net}
use Rattle.yw_spec.specs.declared.spec.Place.TheVariants.{Named}
use Rattle.yw_spec.specs.declared.spec.Spec.{Spec}
use Rattle.yw_base.specs.declared.gate.Gate.TheVariants.{Or}
use Rattle.yw_state.specs.declared.answer.Shown.{Shown}
use Rattle.yw_state.specs.declared.event.Event.TheVariants as events
use Rattle.yw_state.specs.declared.part.Stage.TheVariants as stages

abbrev pub or_join_net : Net
or_join_net =
    net (codes "main")
    (Named (codes "i") ∷ Named (codes "o") ∷ Named (codes "c1") ∷ Named (codes "c2") ∷ Named (codes "c3") ∷ Named (codes "d1") ∷ Named (codes "d2") ∷ [])
    []
    (task (codes "s") (0 ∷ []) (2 ∷ 3 ∷ 4 ∷ [])
    ∷ task (codes "p") (2 ∷ []) (5 ∷ [])
    ∷ task (codes "q") (3 ∷ []) (6 ∷ [])
    ∷ record (task (codes "k") (4 ∷ []) (5 ∷ [])) { drop_tasks = 2 ∷ [] }
    ∷ record (task (codes "j") (5 ∷ 6 ∷ []) (1 ∷ [])) { join = Or }
    ∷ [])

abbrev pub or_join : Spec
or_join = spec (codes "r7") (or_join_net ∷ [])

abbrev pub or_row : List Entry
or_row =
    person (codes "ann") (codes "clerk" ∷ [])
    ∷ load or_join
    ∷ plain (events.Launch 1 (codes "r7") [] ∷ [])
    ∷ plain (events.Enter (1 ∷ []) (codes "s") (Named (codes "i") ∷ []) 2 1 ∷ [])
    ∷ plain (events.Start (1 ∷ 2 ∷ []) (codes "ann") ∷ [])
    ∷ plain (events.Complete (1 ∷ 2 ∷ []) [] ∷ events.Exit (1 ∷ []) (codes "s") (Named (codes "c1") ∷ Named (codes "c2") ∷ Named (codes "c3") ∷ []) ∷ [])
    ∷ plain (events.Enter (1 ∷ []) (codes "p") (Named (codes "c1") ∷ []) 3 1 ∷ [])
    ∷ plain (events.Start (1 ∷ 3 ∷ []) (codes "ann") ∷ [])
    ∷ plain (events.Enter (1 ∷ []) (codes "q") (Named (codes "c2") ∷ []) 4 1 ∷ [])
    ∷ plain (events.Complete (1 ∷ 3 ∷ []) [] ∷ events.Exit (1 ∷ []) (codes "p") (Named (codes "d1") ∷ []) ∷ [])
    ∷ plain (events.Enter (1 ∷ []) (codes "k") (Named (codes "c3") ∷ []) 5 1 ∷ [])
    ∷ plain (events.Start (1 ∷ 5 ∷ []) (codes "ann") ∷ [])
    ∷ plain (events.Complete (1 ∷ 5 ∷ []) [] ∷ events.Exit (1 ∷ []) (codes "k") (Named (codes "d1") ∷ []) ∷ [])
    ∷ plain (events.Enter (1 ∷ []) (codes "j") (Named (codes "d1") ∷ []) 6 1 ∷ [])
    ∷ []

-- the entry of the join before k, and after it
abbrev pub join_early : Event
join_early = events.Enter (1 ∷ []) (codes "j") (Named (codes "d1") ∷ []) 5 1

abbrev pub join_late : Event
join_late = events.Enter (1 ∷ []) (codes "j") (Named (codes "d1") ∷ []) 6 1

-- before k is entered an item of q stands, and d1 is marked; after k that item is gone, and d1 has two tokens, of which the join takes one
abbrev pub or_waiting : Shown
or_waiting =
    record nothing_shown {
      items = item (1 ∷ 4 ∷ []) (codes "q") stages.Ready None ∷ [];
      nets = net_row (1 ∷ []) (codes "r7") (codes "main") [] ∷ [];
      tokens = token (1 ∷ []) (Named (codes "c3")) 1 ∷ token (1 ∷ []) (Named (codes "d1")) 1 ∷ [];
    }

abbrev pub or_emptied : Shown
or_emptied =
    record nothing_shown {
      nets = net_row (1 ∷ []) (codes "r7") (codes "main") [] ∷ [];
      tokens = token (1 ∷ []) (Named (codes "d1")) 2 ∷ [];
    }

abbrev pub or_joined : Shown
or_joined =
    record nothing_shown {
      items = item (1 ∷ 6 ∷ []) (codes "j") stages.Ready None ∷ [];
      nets = net_row (1 ∷ []) (codes "r7") (codes "main") [] ∷ [];
      tokens = token (1 ∷ []) (Named (codes "d1")) 1 ∷ [];
    }
