-- What an event leads to that is allowed, and whether it is, where the state is well, whatever trees, exlets and worklets are in it.
use Rattle.std.proofs.Common.{ap, sym, ◌∙◌}
use Rattle.std.specs.Prelude.{Bool, List, false, true, ℕ, ◌≡◌}
use Rattle.yw_standing.proofs.Trying.{fails, leads_plainly}
use Rattle.yw_standing.specs.Held.{StandsHeld}
use Rattle.yw_standing.specs.State.{state_of}
use Rattle.yw_standing.specs.Tried.{IsDone, LeadsOn, TellsLeads}
use Rattle.yw_standing.specs.declared.standing.Standing.{Standing}
use Rattle.yw_library.specs.Names.{names_of}
use Rattle.yw_nest.specs.Does.{Does}
use Rattle.yw_state.specs.After.{with_sites}
use Rattle.yw_state.specs.Allowed.{WaitsNot, allows}
use Rattle.yw_state.specs.Events.{after}
use Rattle.yw_state.specs.State.{State}
use Rattle.yw_state.specs.Texts.{Said, Says, nothing}
use Rattle.yw_state.specs.declared.event.Event.{Event}
use Rattle.yw_texts.specs.Texts.{reader}
use Rattle.yw_tree.specs.Forest.{sites_of}
use Rattle.yw_worklet.specs.Stands.{StandsAll}

-- ---- whether it leads on

pub tells_by : (old : Standing) (e : Event) → Says reader (state_of old) e nothing → WaitsNot (state_of old) e → (b : Bool) → ((said : Said) → allows (state_of old) e said ≡ b)
    → TellsLeads old e b
tells_by old e says waits true test = leads_plainly old e says (test nothing, waits)
tells_by old e says waits false test = fails old e test

-- ---- what it leads to

module _ (old : Standing) (held : StandsHeld old) where
  pub stands_all : StandsAll (names_of old.known) old.forest (state_of old)
  stands_all =
      record {
        boxed = held.boxed;
        sites = held.sites;
        numbers = held.well.numbers;
        nets = held.well.nets;
        parents = held.well.parents;
        marks = held.well.marks;
      }

  -- what is done to the forest, and to all else, is what the event does
  pub done_as : (event : (ℕ → List ℕ) → Event) (Needs : (ℕ → List ℕ) → State → Type 0) (rest : State → State) (e : Event) (new : Standing) → LeadsOn old e
      → Does event Needs rest old.forest new.forest → Needs (names_of old.known) (state_of old) → event (names_of old.known) ≡ e
      → with_sites (rest (state_of old)) (sites_of (names_of old.known) new.forest) ≡ state_of new → IsDone old e new
  done_as event Needs rest e new leads does needs same placed =
      let said = leads.1.said in
      record {
        leads = record {
          said = said;
          says = leads.1.says;
          allowed = leads.1.allowed;
          then = sym (ap (λ z. after (state_of old) z said) (sym same) ∙ does.leads (names_of old.known) (state_of old) said held.sites needs ∙ placed);
        };
        boxed = does.boxed;
      }
