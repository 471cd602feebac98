-- What the start of an item does to the forest.
use Rattle.std.specs.Prelude.{ℕ, List}
use Rattle.yw_nest.specs.Does.{Does, NeedsNothing, all_else}
use Rattle.yw_state.specs.Identity.{Ident}
use Rattle.yw_state.specs.declared.event.Event.TheVariants as events
use Rattle.yw_tree.specs.declared.Forest.{Forest}

-- the person begins the item at j
abbrev pub Starts : Ident → List ℕ → Forest → Forest → Type 0
Starts j who = Does (λ names. events.Start j who) NeedsNothing all_else
