-- A net of two tasks, one behind the other.
-- What is to be shown was worked out by hand from the rules of tokens, items, values and checks, and not taken from what these
-- definitions give.
use Rattle.std.specs.Prelude.{List, [], ◌∷◌, Some, codes}
use Rattle.yw_rows.specs.Play.{Entry}
use Rattle.yw_rows.specs.Written.{item, load, net, net_row, nothing_shown, person, plain, spec, task, token}
use Rattle.yw_spec.specs.declared.spec.Net.{Net}
use Rattle.yw_spec.specs.declared.spec.Place.TheVariants.{Between, Named}
use Rattle.yw_spec.specs.declared.spec.Spec.{Spec}
use Rattle.yw_state.specs.declared.answer.Shown.{Shown}
use Rattle.yw_state.specs.declared.event.Event.TheVariants as events
use Rattle.yw_state.specs.declared.part.Stage.TheVariants as stages

abbrev pub seq_net : Net
seq_net =
    net (codes "main")
    (Named (codes "i") ∷ Named (codes "o") ∷ Between (codes "a") (codes "b") ∷ [])
    []
    (task (codes "a") (0 ∷ []) (2 ∷ [])
    ∷ task (codes "b") (2 ∷ []) (1 ∷ [])
    ∷ [])

abbrev pub seq : Spec
seq = spec (codes "seq") (seq_net ∷ [])

abbrev pub seq_row : List Entry
seq_row =
    person (codes "ann") (codes "clerk" ∷ [])
    ∷ load seq
    ∷ plain (events.Launch 1 (codes "seq") [] ∷ [])
    ∷ plain (events.Enter (1 ∷ []) (codes "a") (Named (codes "i") ∷ []) 2 1 ∷ [])
    ∷ plain (events.Start (1 ∷ 2 ∷ []) (codes "ann") ∷ [])
    ∷ plain (events.Complete (1 ∷ 2 ∷ []) [] ∷ events.Exit (1 ∷ []) (codes "a") (Between (codes "a") (codes "b") ∷ []) ∷ [])
    ∷ plain (events.Enter (1 ∷ []) (codes "b") (Between (codes "a") (codes "b") ∷ []) 3 1 ∷ [])
    ∷ plain (events.Start (1 ∷ 3 ∷ []) (codes "ann") ∷ [])
    ∷ plain (events.Complete (1 ∷ 3 ∷ []) [] ∷ events.Exit (1 ∷ []) (codes "b") (Named (codes "o") ∷ []) ∷ events.Finish 1 ∷ [])
    ∷ []

-- What stands in the case after the launch, after the start of a, and after its end.
abbrev pub seq_launched : Shown
seq_launched =
    record nothing_shown {
      nets = net_row (1 ∷ []) (codes "seq") (codes "main") [] ∷ [];
      tokens = token (1 ∷ []) (Named (codes "i")) 1 ∷ [];
    }

abbrev pub seq_started : Shown
seq_started =
    record nothing_shown {
      items = item (1 ∷ 2 ∷ []) (codes "a") stages.Executing (Some (codes "ann")) ∷ [];
      nets = net_row (1 ∷ []) (codes "seq") (codes "main") [] ∷ [];
    }

abbrev pub seq_between : Shown
seq_between =
    record nothing_shown {
      nets = net_row (1 ∷ []) (codes "seq") (codes "main") [] ∷ [];
      tokens = token (1 ∷ []) (Between (codes "a") (codes "b")) 1 ∷ [];
    }
