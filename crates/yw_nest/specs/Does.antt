-- What an event does to cases that are kept as boxes.
use Rattle.std.specs.Prelude.{◌≡◌, ℕ, List}
use Rattle.yw_state.specs.After.{with_sites}
use Rattle.yw_state.specs.Events.{after}
use Rattle.yw_state.specs.State.{State}
use Rattle.yw_state.specs.Texts.{Said}
use Rattle.yw_state.specs.declared.event.Event.{Event}
use Rattle.yw_tree.specs.Forest.{IsForest, sites_of}
use Rattle.yw_tree.specs.declared.Forest.{Forest}

-- Wherever a state has the map of the forest old, and what the event needs is so, the event leads to the state that has the map of the
-- forest new; all that is in no forest is then as `rest` says. Specifications have these names. The new forest is well boxed.
pub record Does (event : (ℕ → List ℕ) → Event) (Needs : (ℕ → List ℕ) → State → Type 0) (rest : State → State) (old new : Forest) : Type 0 where
  pub leads : (names : ℕ → List ℕ) (s : State) (said : Said) → s.sites ≡ sites_of names old → Needs names s
      → after s (event names) said ≡ with_sites (rest s) (sites_of names new)
  pub boxed : IsForest new

-- nothing more is needed
abbrev pub NeedsNothing : (ℕ → List ℕ) → State → Type 0
NeedsNothing names s = Unit {0}

-- what is in no forest stays
abbrev pub all_else : State → State
all_else s = s
