-- A task that runs over a list, with two items at least, three at most, and two as its threshold; items may be added.
-- What is to be shown was worked out by hand from the rules of tokens, items, values and checks, and not taken from what these
-- definitions give.
use Rattle.std.specs.Prelude.{true, List, [], ◌∷◌, Some, None, codes}
use Rattle.yw_base.specs.declared.value.Sort.TheVariants as sorts
use Rattle.yw_base.specs.declared.value.Value.TheVariants as values
use Rattle.yw_expr.specs.Tree.{variable}
use Rattle.yw_rows.specs.Play.{Entry}
use Rattle.yw_state.specs.declared.event.Event.{Event}
use Rattle.yw_rows.specs.Written.{item, load, net, net_row, nothing_shown, person, plain, spec, task, token, var}
use Rattle.yw_spec.specs.declared.spec.Net.{Net}
use Rattle.yw_spec.specs.declared.spec.Place.TheVariants.{Between, Named}
use Rattle.yw_spec.specs.declared.spec.Spec.{Spec}
use Rattle.yw_base.specs.declared.usage.Usage.TheVariants as usages
use Rattle.yw_state.specs.declared.answer.Shown.{Shown}
use Rattle.yw_state.specs.declared.event.Event.TheVariants as events
use Rattle.yw_state.specs.declared.part.Stage.TheVariants as stages

abbrev pub several_net : Net
several_net =
    net (codes "main")
    (Named (codes "i") ∷ Named (codes "o") ∷ Between (codes "m") (codes "z") ∷ [])
    (var (codes "xs") sorts.Texts usages.In (values.Texts []) ∷ [])
    (record (task (codes "m") (0 ∷ []) (2 ∷ [])) {
      ins = record { name = codes "x"; sort = sorts.Text; value = None } ∷ [];
      many = Some (record { min = 2; max = 3; threshold = 2; dynamic = true; each = variable 0 sorts.Texts; item = 0 });
    }
    ∷ task (codes "z") (2 ∷ []) (1 ∷ [])
    ∷ [])

abbrev pub several : Spec
several = spec (codes "r8") (several_net ∷ [])

abbrev pub several_row : List Entry
several_row =
    person (codes "ann") (codes "clerk" ∷ [])
    ∷ load several
    ∷ plain (events.Launch 1 (codes "r8") (values.Texts (codes "p" ∷ codes "q" ∷ []) ∷ []) ∷ [])
    ∷ plain (events.Enter (1 ∷ []) (codes "m") (Named (codes "i") ∷ []) 2 2 ∷ [])
    ∷ plain (events.Add (1 ∷ []) (codes "m") (values.Text (codes "r")) 4 ∷ [])
    ∷ plain (events.Start (1 ∷ 2 ∷ []) (codes "ann") ∷ [])
    ∷ plain (events.Complete (1 ∷ 2 ∷ []) [] ∷ [])
    ∷ plain (events.Start (1 ∷ 3 ∷ []) (codes "ann") ∷ [])
    ∷ plain (events.Complete (1 ∷ 3 ∷ []) [] ∷ events.Exit (1 ∷ []) (codes "m") (Between (codes "m") (codes "z") ∷ []) ∷ [])
    ∷ []

abbrev pub empty_row : List Entry
empty_row =
    person (codes "ann") (codes "clerk" ∷ [])
    ∷ load several
    ∷ plain (events.Launch 1 (codes "r8") (values.Texts [] ∷ []) ∷ [])
    ∷ []

-- a fourth item
abbrev pub add_fourth : Event
add_fourth = events.Add (1 ∷ []) (codes "m") (values.Text (codes "s")) 5

abbrev pub leave_early : Event
leave_early = events.Exit (1 ∷ []) (codes "m") (Between (codes "m") (codes "z") ∷ [])

abbrev pub two_items : Shown
two_items =
    record nothing_shown {
      items = item (1 ∷ 2 ∷ []) (codes "m") stages.Ready None ∷ item (1 ∷ 3 ∷ []) (codes "m") stages.Ready None ∷ [];
      nets = net_row (1 ∷ []) (codes "r8") (codes "main") (record { name = codes "xs"; value = values.Texts (codes "p" ∷ codes "q" ∷ []) } ∷ []) ∷ [];
    }

abbrev pub three_items : Shown
three_items =
    record nothing_shown {
      items = item (1 ∷ 2 ∷ []) (codes "m") stages.Ready None ∷ item (1 ∷ 3 ∷ []) (codes "m") stages.Ready None ∷ item (1 ∷ 4 ∷ []) (codes "m") stages.Ready None ∷ [];
      nets = net_row (1 ∷ []) (codes "r8") (codes "main") (record { name = codes "xs"; value = values.Texts (codes "p" ∷ codes "q" ∷ []) } ∷ []) ∷ [];
    }

-- one of them is completed, which is less than the threshold
abbrev pub one_done : Shown
one_done =
    record nothing_shown {
      items = item (1 ∷ 2 ∷ []) (codes "m") stages.Completed (Some (codes "ann")) ∷ item (1 ∷ 3 ∷ []) (codes "m") stages.Ready None ∷ item (1 ∷ 4 ∷ []) (codes "m") stages.Ready None ∷ [];
      nets = net_row (1 ∷ []) (codes "r8") (codes "main") (record { name = codes "xs"; value = values.Texts (codes "p" ∷ codes "q" ∷ []) } ∷ []) ∷ [];
    }

-- two are, and the third is gone with them
abbrev pub two_done : Shown
two_done =
    record nothing_shown {
      nets = net_row (1 ∷ []) (codes "r8") (codes "main") (record { name = codes "xs"; value = values.Texts (codes "p" ∷ codes "q" ∷ []) } ∷ []) ∷ [];
      tokens = token (1 ∷ []) (Between (codes "m") (codes "z")) 1 ∷ [];
    }

abbrev pub none_entered : Shown
none_entered =
    record nothing_shown {
      nets = net_row (1 ∷ []) (codes "r8") (codes "main") (record { name = codes "xs"; value = values.Texts [] } ∷ []) ∷ [];
      tokens = token (1 ∷ []) (Named (codes "i")) 1 ∷ [];
    }
