-- Nets in nets: three levels, and a net that two tasks name.
-- What is to be shown was worked out by hand from the rules of tokens, items, values and checks, and not taken from what these
-- definitions give.
use Rattle.std.specs.Prelude.{List, [], ◌∷◌, ◌++◌, None, codes}
use Rattle.yw_rows.specs.Play.{Entry}
use Rattle.yw_rows.specs.Written.{item, load, net, net_row, nothing_shown, person, plain, spec, task, token}
use Rattle.yw_spec.specs.declared.spec.Net.{Net}
use Rattle.yw_spec.specs.declared.spec.Place.TheVariants.{Between, Named}
use Rattle.yw_spec.specs.declared.spec.Spec.{Spec}
use Rattle.yw_spec.specs.declared.task.Kind.TheVariants.{Sub}
use Rattle.yw_state.specs.declared.answer.Shown.{Shown}
use Rattle.yw_state.specs.declared.event.Event.TheVariants as events
use Rattle.yw_state.specs.declared.part.Stage.TheVariants as stages

abbrev pub nest_main : Net
nest_main =
    net (codes "main")
    (Named (codes "i") ∷ Named (codes "o") ∷ Named (codes "c1") ∷ Named (codes "c2") ∷ Named (codes "d") ∷ Named (codes "e") ∷ [])
    []
    (task (codes "s") (0 ∷ []) (2 ∷ 3 ∷ [])
    ∷ record (task (codes "C") (2 ∷ []) (4 ∷ [])) { kind = Sub 1 }
    ∷ record (task (codes "k") (3 ∷ []) (5 ∷ [])) { drop_places = 2 ∷ []; drop_tasks = 1 ∷ [] }
    ∷ task (codes "f") (4 ∷ 5 ∷ []) (1 ∷ [])
    ∷ [])

abbrev pub nest_mid : Net
nest_mid =
    net (codes "mid")
    (Named (codes "i") ∷ Named (codes "o") ∷ [])
    []
    (record (task (codes "D") (0 ∷ []) (1 ∷ [])) { kind = Sub 2 }
    ∷ [])

abbrev pub nest_low : Net
nest_low =
    net (codes "low")
    (Named (codes "i") ∷ Named (codes "o") ∷ [])
    []
    (task (codes "x") (0 ∷ []) (1 ∷ [])
    ∷ [])

abbrev pub nest : Spec
nest = spec (codes "nest") (nest_main ∷ nest_mid ∷ nest_low ∷ [])

abbrev pub twice_main : Net
twice_main =
    net (codes "main")
    (Named (codes "i") ∷ Named (codes "o") ∷ Between (codes "A") (codes "B") ∷ [])
    []
    (record (task (codes "A") (0 ∷ []) (2 ∷ [])) { kind = Sub 1 }
    ∷ record (task (codes "B") (2 ∷ []) (1 ∷ [])) { kind = Sub 1 }
    ∷ [])

abbrev pub twice_leaf : Net
twice_leaf =
    net (codes "leaf")
    (Named (codes "i") ∷ Named (codes "o") ∷ [])
    []
    (task (codes "x") (0 ∷ []) (1 ∷ [])
    ∷ [])

abbrev pub twice : Spec
twice = spec (codes "twice") (twice_main ∷ twice_leaf ∷ [])

abbrev pub nest_front : List Entry
nest_front =
    person (codes "ann") (codes "clerk" ∷ [])
    ∷ load nest
    ∷ plain (events.Launch 1 (codes "nest") [] ∷ [])
    ∷ plain (events.Enter (1 ∷ []) (codes "s") (Named (codes "i") ∷ []) 2 1 ∷ [])
    ∷ plain (events.Start (1 ∷ 2 ∷ []) (codes "ann") ∷ [])
    ∷ plain
    (events.Complete (1 ∷ 2 ∷ []) []
    ∷ events.Exit (1 ∷ []) (codes "s") (Named (codes "c1") ∷ Named (codes "c2") ∷ [])
    ∷ events.Enter (1 ∷ []) (codes "C") (Named (codes "c1") ∷ []) 3 1
    ∷ events.StartSub (1 ∷ 3 ∷ [])
    ∷ events.Enter (1 ∷ 3 ∷ []) (codes "D") (Named (codes "i") ∷ []) 4 1
    ∷ events.StartSub (1 ∷ 3 ∷ 4 ∷ [])
    ∷ [])
    ∷ plain (events.Enter (1 ∷ 3 ∷ 4 ∷ []) (codes "x") (Named (codes "i") ∷ []) 5 1 ∷ [])
    ∷ []

-- the lowest item is done, and each net ends in its turn
abbrev pub nest_up : List Entry
nest_up =
    nest_front ++ (plain (events.Start (1 ∷ 3 ∷ 4 ∷ 5 ∷ []) (codes "ann") ∷ [])
    ∷ plain
    (events.Complete (1 ∷ 3 ∷ 4 ∷ 5 ∷ []) []
    ∷ events.Exit (1 ∷ 3 ∷ 4 ∷ []) (codes "x") (Named (codes "o") ∷ [])
    ∷ events.CompleteSub (1 ∷ 3 ∷ 4 ∷ [])
    ∷ events.Exit (1 ∷ 3 ∷ []) (codes "D") (Named (codes "o") ∷ [])
    ∷ events.CompleteSub (1 ∷ 3 ∷ [])
    ∷ events.Exit (1 ∷ []) (codes "C") (Named (codes "d") ∷ [])
    ∷ [])
    ∷ [])

-- another task takes the item with all its nets
abbrev pub nest_removed : List Entry
nest_removed =
    nest_front ++ (plain (events.Enter (1 ∷ []) (codes "k") (Named (codes "c2") ∷ []) 6 1 ∷ [])
    ∷ plain (events.Start (1 ∷ 6 ∷ []) (codes "ann") ∷ [])
    ∷ plain (events.Complete (1 ∷ 6 ∷ []) [] ∷ events.Exit (1 ∷ []) (codes "k") (Named (codes "e") ∷ []) ∷ [])
    ∷ plain (events.Cancel 1 ∷ [])
    ∷ [])

abbrev pub three_levels : Shown
three_levels =
    record nothing_shown {
      items = item (1 ∷ 3 ∷ []) (codes "C") stages.Executing None ∷ item (1 ∷ 3 ∷ 4 ∷ []) (codes "D") stages.Executing None ∷ item (1 ∷ 3 ∷ 4 ∷ 5 ∷ []) (codes "x") stages.Ready None ∷ [];
      nets = net_row (1 ∷ []) (codes "nest") (codes "main") [] ∷ net_row (1 ∷ 3 ∷ []) (codes "nest") (codes "mid") [] ∷ net_row (1 ∷ 3 ∷ 4 ∷ []) (codes "nest") (codes "low") [] ∷ [];
      tokens = token (1 ∷ []) (Named (codes "c2")) 1 ∷ [];
    }

abbrev pub all_ended : Shown
all_ended =
    record nothing_shown {
      nets = net_row (1 ∷ []) (codes "nest") (codes "main") [] ∷ [];
      tokens = token (1 ∷ []) (Named (codes "c2")) 1 ∷ token (1 ∷ []) (Named (codes "d")) 1 ∷ [];
    }

abbrev pub all_removed : Shown
all_removed =
    record nothing_shown {
      nets = net_row (1 ∷ []) (codes "nest") (codes "main") [] ∷ [];
      tokens = token (1 ∷ []) (Named (codes "e")) 1 ∷ [];
    }

abbrev pub twice_row : List Entry
twice_row =
    person (codes "ann") (codes "clerk" ∷ [])
    ∷ load twice
    ∷ plain (events.Launch 1 (codes "twice") [] ∷ events.Enter (1 ∷ []) (codes "A") (Named (codes "i") ∷ []) 2 1 ∷ events.StartSub (1 ∷ 2 ∷ []) ∷ [])
    ∷ plain (events.Enter (1 ∷ 2 ∷ []) (codes "x") (Named (codes "i") ∷ []) 3 1 ∷ [])
    ∷ plain (events.Start (1 ∷ 2 ∷ 3 ∷ []) (codes "ann") ∷ [])
    ∷ plain
    (events.Complete (1 ∷ 2 ∷ 3 ∷ []) []
    ∷ events.Exit (1 ∷ 2 ∷ []) (codes "x") (Named (codes "o") ∷ [])
    ∷ events.CompleteSub (1 ∷ 2 ∷ [])
    ∷ events.Exit (1 ∷ []) (codes "A") (Between (codes "A") (codes "B") ∷ [])
    ∷ events.Enter (1 ∷ []) (codes "B") (Between (codes "A") (codes "B") ∷ []) 4 1
    ∷ events.StartSub (1 ∷ 4 ∷ [])
    ∷ [])
    ∷ []

abbrev pub second_time : Shown
second_time =
    record nothing_shown {
      items = item (1 ∷ 4 ∷ []) (codes "B") stages.Executing None ∷ [];
      nets = net_row (1 ∷ []) (codes "twice") (codes "main") [] ∷ net_row (1 ∷ 4 ∷ []) (codes "twice") (codes "leaf") [] ∷ [];
      tokens = token (1 ∷ 4 ∷ []) (Named (codes "i")) 1 ∷ [];
    }
