-- A value that is undefined: 100 divided by what an item makes.
-- What is to be shown was worked out by hand from the rules of tokens, items, values and checks, and not taken from what these
-- definitions give.
use Rattle.std.specs.Prelude.{pos, List, [], ◌∷◌, ◌++◌, Some, None, codes}
use Rattle.yw_base.specs.declared.value.Sort.TheVariants as sorts
use Rattle.yw_base.specs.declared.value.Value.TheVariants as values
use Rattle.yw_expr.specs.Tree.{constant, variable, binary}
use Rattle.yw_grammar.specs.declared.symbol.Infix.TheVariants.{Divide}
use Rattle.yw_rows.specs.Play.{Entry}
use Rattle.yw_state.specs.declared.event.Event.{Event}
use Rattle.yw_rows.specs.Written.{item, load, net, net_row, nothing_shown, person, plain, spec, task, token, var}
use Rattle.yw_spec.specs.declared.spec.Net.{Net}
use Rattle.yw_spec.specs.declared.spec.Place.TheVariants.{Named}
use Rattle.yw_spec.specs.declared.spec.Spec.{Spec}
use Rattle.yw_base.specs.declared.usage.Usage.TheVariants as usages
use Rattle.yw_state.specs.declared.answer.Shown.{Shown}
use Rattle.yw_state.specs.declared.event.Event.TheVariants as events
use Rattle.yw_state.specs.declared.part.Stage.TheVariants as stages

abbrev pub mapping_net : Net
mapping_net =
    net (codes "main")
    (Named (codes "i") ∷ Named (codes "o") ∷ [])
    (var (codes "x") sorts.Int usages.Local (values.Int (pos 0)) ∷ [])
    (record (task (codes "a") (0 ∷ []) (1 ∷ [])) {
      outs = record { name = codes "den"; sort = sorts.Int; value = None } ∷ [];
      set = record { var = 0; value = binary Divide (constant (values.Int (pos 100))) (variable 0 sorts.Int) } ∷ [];
    }
    ∷ [])

abbrev pub mapping : Spec
mapping = spec (codes "r10") (mapping_net ∷ [])

abbrev pub mapping_row : List Entry
mapping_row =
    person (codes "ann") (codes "clerk" ∷ [])
    ∷ load mapping
    ∷ plain (events.Launch 1 (codes "r10") (values.Int (pos 0) ∷ []) ∷ [])
    ∷ plain (events.Enter (1 ∷ []) (codes "a") (Named (codes "i") ∷ []) 2 1 ∷ [])
    ∷ plain (events.Start (1 ∷ 2 ∷ []) (codes "ann") ∷ [])
    ∷ []

abbrev pub mapping_left : List Entry
mapping_left =
    mapping_row ++ plain (events.Complete (1 ∷ 2 ∷ []) (values.Int (pos 5) ∷ []) ∷ events.Exit (1 ∷ []) (codes "a") (Named (codes "o") ∷ []) ∷ []) ∷ []

abbrev pub mapping_over : List Entry
mapping_over = mapping_left ++ plain (events.Finish 1 ∷ []) ∷ []

abbrev pub complete_with_0 : Event
complete_with_0 = events.Complete (1 ∷ 2 ∷ []) (values.Int (pos 0) ∷ [])

abbrev pub complete_with_5 : Event
complete_with_5 = events.Complete (1 ∷ 2 ∷ []) (values.Int (pos 5) ∷ [])

abbrev pub mapping_stays : Shown
mapping_stays =
    record nothing_shown {
      items = item (1 ∷ 2 ∷ []) (codes "a") stages.Executing (Some (codes "ann")) ∷ [];
      nets = net_row (1 ∷ []) (codes "r10") (codes "main") (record { name = codes "x"; value = values.Int (pos 0) } ∷ []) ∷ [];
    }

-- 100 divided by 5
abbrev pub mapping_made : Shown
mapping_made =
    record nothing_shown {
      nets = net_row (1 ∷ []) (codes "r10") (codes "main") (record { name = codes "x"; value = values.Int (pos 20) } ∷ []) ∷ [];
      tokens = token (1 ∷ []) (Named (codes "o")) 1 ∷ [];
    }
