-- The entry of a task, on the whole forest.
use Rattle.std.proofs.Common.{List, Some, subst, sym, true, ℕ, ◌+◌, ◌∙◌, ◌≡◌}
use Rattle.std.specs.Prelude.{slice_get}
use Rattle.yw_base.specs.Identity.{is_identity}
use Rattle.yw_mark.specs.Taking.{taken_places}
use Rattle.yw_mark.specs.declared.join.Taken.{Taken}
use Rattle.yw_spec.specs.declared.spec.Net.{Net}
use Rattle.yw_spec.specs.declared.spec.Place.{Place}
use Rattle.yw_spec.specs.declared.task.Task.{Task}
use Rattle.yw_state.proofs.Tests.{some_same}
use Rattle.yw_state.specs.Allowed.{place_numbers}
use Rattle.yw_state.specs.Events.{after}
use Rattle.yw_state.specs.Identity.{Ident}
use Rattle.yw_state.specs.State.{State}
use Rattle.yw_state.specs.Texts.{Said, nothing}
use Rattle.yw_state.specs.declared.event.Event.TheVariants as events
use Rattle.yw_state.specs.declared.part.Checks.{Checks}
use Rattle.yw_steps.proofs.NetFound.{stands_so}
use Rattle.yw_steps.specs.Enters.{Enters, StandsFor}
use Rattle.yw_steps.specs.Stands.{MayGetItems}
use Rattle.yw_task.specs.Enters.{Enters as NetEnters, MayGet, PlacesNet}
use Rattle.yw_tree.specs.Forest.{IsForest, sites_of}
use Rattle.yw_tree.specs.Places.{net_at as net_found, placed_net}
use Rattle.yw_tree.specs.declared.Forest.{Forest}
use Rattle.yw_tree.specs.declared.NetState.{NetState, out-NetState}

module _ (f : Forest) (boxed : IsForest f) (i : Ident) (identity : is_identity i ≡ true) (u : NetState) (found : net_found f i ≡ Some u) (net : Net) (t : ℕ) where
  pub may_get : (first : ℕ) (due : Checks) (names : ℕ → List ℕ) (s : State) (task : Task) → s.sites ≡ sites_of names f → slice_get net.tasks t ≡ Some task → MayGetItems net i first due task s
      → MayGet names f s i net u t first due task
  may_get first due names s task sites at needs = record {
    stands = stands_so f boxed i identity u found names s sites net needs.net_is;
    spec = needs.net_is.spec;
    within = needs.net_is.within;
    task_is = at;
    next = needs.next;
    fresh = needs.fresh;
    due_are = needs.due_are;
  }

  numbers_are : (task : Task) (taken : Taken) (places : List Place) → StandsFor f i net task taken places → place_numbers net places ≡ Some (taken_places (out-NetState u).marks task.before taken)
  numbers_are task taken places stand =
      subst (λ (z : NetState). place_numbers net places ≡ Some (taken_places (out-NetState z).marks task.before taken)) (some_same stand.state u (sym stand.found ∙ found)) stand.numbers

  module _ (taken : Taken) (first : ℕ) (due : Checks) (w : NetState) (count : ℕ) (does : NetEnters net u i t taken first due w count) where
    there : (task : Task) (places : List Place) → slice_get net.tasks t ≡ Some task → StandsFor f i net task taken places → (names : ℕ → List ℕ) (s : State) (said : Said) → s.sites ≡ sites_of names f
        → MayGetItems net i first due task s → PlacesNet names f s (after s (events.Enter i task.name places first count) said) i w (first + count)
    there task places at stand names s said sites needs = does names f s said task places (may_get first due names s task sites at needs) (numbers_are task taken places stand)

    pub enters : Enters net i t taken first due f (placed_net f i w) count
    enters = λ task places at stand names s sites needs.
        record {
          leads = λ others r said are so. (there task places at stand others r said are so).map;
          boxed = (there task places at stand names s nothing sites needs).kept;
        }
