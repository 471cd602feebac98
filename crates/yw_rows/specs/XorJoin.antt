-- An XOR-join behind two marked places: it takes from one of them, whichever.
-- What is to be shown was worked out by hand from the rules of tokens, items, values and checks, and not taken from what these
-- definitions give.
use Rattle.std.specs.Prelude.{List, [], ◌∷◌, ◌++◌, None, codes}
use Rattle.yw_rows.specs.Play.{Entry}
use Rattle.yw_state.specs.declared.event.Event.{Event}
use Rattle.yw_rows.specs.Written.{item, load, net, net_row, nothing_shown, person, plain, spec, task, token}
use Rattle.yw_spec.specs.declared.spec.Net.{Net}
use Rattle.yw_spec.specs.declared.spec.Place.TheVariants.{Named}
use Rattle.yw_spec.specs.declared.spec.Spec.{Spec}
use Rattle.yw_base.specs.declared.gate.Gate.TheVariants.{Xor}
use Rattle.yw_state.specs.declared.answer.Shown.{Shown}
use Rattle.yw_state.specs.declared.event.Event.TheVariants as events
use Rattle.yw_state.specs.declared.part.Stage.TheVariants as stages

abbrev pub xor_join_net : Net
xor_join_net =
    net (codes "main")
    (Named (codes "i") ∷ Named (codes "o") ∷ Named (codes "c1") ∷ Named (codes "c2") ∷ [])
    []
    (task (codes "s") (0 ∷ []) (2 ∷ 3 ∷ [])
    ∷ record (task (codes "x") (2 ∷ 3 ∷ []) (1 ∷ [])) { join = Xor }
    ∷ [])

abbrev pub xor_join : Spec
xor_join = spec (codes "xj") (xor_join_net ∷ [])

abbrev pub xor_front : List Entry
xor_front =
    person (codes "ann") (codes "clerk" ∷ [])
    ∷ load xor_join
    ∷ plain (events.Launch 1 (codes "xj") [] ∷ [])
    ∷ plain (events.Enter (1 ∷ []) (codes "s") (Named (codes "i") ∷ []) 2 1 ∷ [])
    ∷ plain (events.Start (1 ∷ 2 ∷ []) (codes "ann") ∷ [])
    ∷ plain (events.Complete (1 ∷ 2 ∷ []) [] ∷ events.Exit (1 ∷ []) (codes "s") (Named (codes "c1") ∷ Named (codes "c2") ∷ []) ∷ [])
    ∷ []

-- the join is entered from the one place, or from the other
abbrev pub xor_from_first : List Entry
xor_from_first = xor_front ++ plain (events.Enter (1 ∷ []) (codes "x") (Named (codes "c1") ∷ []) 3 1 ∷ []) ∷ []

abbrev pub xor_from_second : List Entry
xor_from_second = xor_front ++ plain (events.Enter (1 ∷ []) (codes "x") (Named (codes "c2") ∷ []) 3 1 ∷ []) ∷ []

-- no join of this kind: from both, from none, from the input
abbrev pub from_both : Event
from_both = events.Enter (1 ∷ []) (codes "x") (Named (codes "c1") ∷ Named (codes "c2") ∷ []) 3 1

abbrev pub from_none : Event
from_none = events.Enter (1 ∷ []) (codes "x") [] 3 1

abbrev pub from_input : Event
from_input = events.Enter (1 ∷ []) (codes "x") (Named (codes "i") ∷ []) 3 1

abbrev pub left_second : Shown
left_second =
    record nothing_shown {
      items = item (1 ∷ 3 ∷ []) (codes "x") stages.Ready None ∷ [];
      nets = net_row (1 ∷ []) (codes "xj") (codes "main") [] ∷ [];
      tokens = token (1 ∷ []) (Named (codes "c2")) 1 ∷ [];
    }

abbrev pub left_first : Shown
left_first =
    record nothing_shown {
      items = item (1 ∷ 3 ∷ []) (codes "x") stages.Ready None ∷ [];
      nets = net_row (1 ∷ []) (codes "xj") (codes "main") [] ∷ [];
      tokens = token (1 ∷ []) (Named (codes "c1")) 1 ∷ [];
    }
