-- A task that empties a place of its removal set, and then puts a token there itself.
-- What is to be shown was worked out by hand from the rules of tokens, items, values and checks, and not taken from what these
-- definitions give.
use Rattle.std.specs.Prelude.{List, [], ◌∷◌, codes}
use Rattle.yw_rows.specs.Play.{Entry}
use Rattle.yw_rows.specs.Written.{load, net, net_row, nothing_shown, person, plain, spec, task, token}
use Rattle.yw_spec.specs.declared.spec.Net.{Net}
use Rattle.yw_spec.specs.declared.spec.Place.TheVariants.{Named}
use Rattle.yw_spec.specs.declared.spec.Spec.{Spec}
use Rattle.yw_state.specs.declared.answer.Shown.{Shown}
use Rattle.yw_state.specs.declared.event.Event.TheVariants as events

abbrev pub removal_net : Net
removal_net =
    net (codes "main")
    (Named (codes "i") ∷ Named (codes "o") ∷ Named (codes "c") ∷ Named (codes "d") ∷ [])
    []
    (task (codes "s") (0 ∷ []) (2 ∷ 3 ∷ [])
    ∷ record (task (codes "a") (3 ∷ []) (2 ∷ [])) { drop_places = 2 ∷ [] }
    ∷ task (codes "b") (2 ∷ []) (1 ∷ [])
    ∷ [])

abbrev pub removal : Spec
removal = spec (codes "r11") (removal_net ∷ [])

abbrev pub removal_row : List Entry
removal_row =
    person (codes "ann") (codes "clerk" ∷ [])
    ∷ load removal
    ∷ plain (events.Launch 1 (codes "r11") [] ∷ [])
    ∷ plain (events.Enter (1 ∷ []) (codes "s") (Named (codes "i") ∷ []) 2 1 ∷ [])
    ∷ plain (events.Start (1 ∷ 2 ∷ []) (codes "ann") ∷ [])
    ∷ plain (events.Complete (1 ∷ 2 ∷ []) [] ∷ events.Exit (1 ∷ []) (codes "s") (Named (codes "c") ∷ Named (codes "d") ∷ []) ∷ [])
    ∷ plain (events.Enter (1 ∷ []) (codes "a") (Named (codes "d") ∷ []) 3 1 ∷ [])
    ∷ plain (events.Start (1 ∷ 3 ∷ []) (codes "ann") ∷ [])
    ∷ plain (events.Complete (1 ∷ 3 ∷ []) [] ∷ events.Exit (1 ∷ []) (codes "a") (Named (codes "c") ∷ []) ∷ [])
    ∷ plain (events.Enter (1 ∷ []) (codes "b") (Named (codes "c") ∷ []) 4 1 ∷ [])
    ∷ plain (events.Start (1 ∷ 4 ∷ []) (codes "ann") ∷ [])
    ∷ plain (events.Complete (1 ∷ 4 ∷ []) [] ∷ events.Exit (1 ∷ []) (codes "b") (Named (codes "o") ∷ []) ∷ events.Finish 1 ∷ [])
    ∷ []

abbrev pub both_marked : Shown
both_marked =
    record nothing_shown {
      nets = net_row (1 ∷ []) (codes "r11") (codes "main") [] ∷ [];
      tokens = token (1 ∷ []) (Named (codes "c")) 1 ∷ token (1 ∷ []) (Named (codes "d")) 1 ∷ [];
    }

abbrev pub one_left : Shown
one_left =
    record nothing_shown {
      nets = net_row (1 ∷ []) (codes "r11") (codes "main") [] ∷ [];
      tokens = token (1 ∷ []) (Named (codes "c")) 1 ∷ [];
    }
