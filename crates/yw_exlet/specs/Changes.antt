-- What is written of a case, an item or a run, and the events that write no more.
use Rattle.std.specs.Prelude.{◌≡◌, Bool, List, ℕ}
use Rattle.yw_nest.specs.Does.{Does, NeedsNothing, all_else}
use Rattle.yw_state.specs.After.{with_sites, without_check}
use Rattle.yw_state.specs.Exlets.{end_if_over}
use Rattle.yw_state.specs.Identity.{Ident}
use Rattle.yw_state.specs.Map.{update}
use Rattle.yw_state.specs.State.{Site, State}
use Rattle.yw_state.specs.declared.event.Event.TheVariants as events
use Rattle.yw_state.specs.declared.tree.TreeKind.{TreeKind}
use Rattle.yw_tree.specs.Forest.{sites_of}
use Rattle.yw_tree.specs.declared.Forest.{Forest}
use Rattle.yw_exlet.specs.declared.own.Own.{Own}
use Rattle.yw_exlet.specs.declared.own.Own.TheVariants as own

-- the map is changed at j alone
abbrev pub Changes : Forest → Forest → Ident → (Site → Site) → Type 0
Changes old new j h = (names : ℕ → List ℕ) → sites_of names new ≡ update (sites_of names old) j h

-- it is suspended, or isn't any more
abbrev pub marked : Bool → Site → Site
marked b x = record x { suspended = b }

-- a check is due no longer
abbrev pub passed : TreeKind → Site → Site
passed kind x = record x { due = without_check kind x.due }

abbrev pub written : Own → Site → Site
written (own.Suspended b) = marked b
written (own.Passed kind) = passed kind

-- ---- events that write no more

abbrev pub Suspends : Ident → Forest → Forest → Type 0
Suspends j = Does (λ names. events.Suspend j) NeedsNothing all_else

abbrev pub Continues : Ident → Forest → Forest → Type 0
Continues j = Does (λ names. events.Continue j) NeedsNothing all_else

abbrev pub Passes : Ident → TreeKind → Forest → Forest → Type 0
Passes j kind = Does (λ names. events.Pass j kind) NeedsNothing all_else

-- ---- a run at r goes that is over
abbrev pub EndsIfOver : Ident → Forest → Forest → Type 0
EndsIfOver r old new = (names : ℕ → List ℕ) (s : State) → s.sites ≡ sites_of names old → end_if_over s r ≡ with_sites s (sites_of names new)
