-- Under which identity all lies that an event removes. Our own.
use Rattle.std.specs.Prelude.{◌||◌, Bool, List, Option, Some, None}
use Rattle.std.specs.List.{list_any}
use Rattle.yw_base.specs.Identity.{under, parent}
use Rattle.yw_state.specs.Exlets.{case_above}
use Rattle.yw_state.specs.Identity.{Ident, case_ident, same}
use Rattle.yw_state.specs.Options.{is_some_and}
use Rattle.yw_idle.specs.Warms.{changes}
use Rattle.yw_state.specs.declared.event.Event.{Event}
use Rattle.yw_state.specs.declared.event.Event.TheVariants as events
use Rattle.yw_state.specs.declared.tree.Primitive.{Primitive}
use Rattle.yw_state.specs.declared.tree.Primitive.TheVariants.{RemoveCase}

abbrev pub primitive_top : Ident → Primitive → Ident
primitive_top r RemoveCase = case_above r
primitive_top r p = parent r

abbrev pub top : Event → Option Ident
top (events.Exit i t places) = Some i
top (events.Finish n) = Some (case_ident n)
top (events.Cancel n) = Some (case_ident n)
top (events.CompleteSub j) = Some j
top (events.CompleteWorklet j) = Some j
top (events.Prim r p) = Some (primitive_top r p)
top (events.Compensated r) = Some r
top e = None

-- one of the events changes what stands at j, or removes under something that j lies under
abbrev pub is_reached : List Event → Ident → Bool
is_reached es j = list_any (λ e. list_any (same j) (changes e) || is_some_and (top e) (under j)) es
