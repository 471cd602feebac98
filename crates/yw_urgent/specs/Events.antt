-- Events of checks and of runs, by what is known of these. Our own.
use Rattle.std.specs.Prelude.{◌≡◌, ◌-◌, ℕ, List, [], ◌∷◌, Option, Some, None, option_and_then, option_map, slice_get}
use Rattle.yw_rdr.specs.Rules.{Kept}
use Rattle.yw_state.specs.Identity.{Ident}
use Rattle.yw_state.specs.declared.event.Event.{Event}
use Rattle.yw_state.specs.declared.event.Event.TheVariants as events
use Rattle.yw_state.specs.declared.tree.Primitive.{Primitive}
use Rattle.yw_state.specs.declared.tree.TreeKind.{TreeKind}
use Rattle.yw_urgent.specs.Urgent.{worklet_named}

-- of a check that may begin an exlet: that of this node begins, as a run with this number, or the check passes
abbrev pub exlet_event : Ident → TreeKind → Option ℕ → ℕ → Event
exlet_event j check None number = events.Pass j check
exlet_event j check (Some node) number = events.Except j check node number

-- of a run that has these to do: it takes the first of them
abbrev pub TakesFirst : Ident → List Primitive → Event → Type 0
TakesFirst r [] e = ⊥
TakesFirst r (p ∷ ps) e = e ≡ events.Prim r p

-- the worklet that the rule with number k concludes
abbrev pub worklet_in : List Kept → ℕ → Option (List ℕ)
worklet_in ks k = option_and_then worklet_named (option_map (λ (x : Kept). x.conclusion) (slice_get ks (k - 1)))
