-- What is kept of where something may come of itself is so of the state after an event.
use Rattle.std.specs.Prelude.{◌≡◌, Bool, Err, IfOk, List, MatchOption, Ok, Option, Result, false, refl, true, ℕ}
use Rattle.std.proofs.Common.{subst, sym}
use Rattle.yw_cases.proofs.Trying.{done_stands}
use Rattle.yw_cases.specs.Rested.{StandsRested}
use Rattle.yw_cases.specs.Said.{TellsLoaded}
use Rattle.yw_library.specs.Held.{IsHeld}
use Rattle.yw_library.specs.Holdings.{Holdings}
use Rattle.yw_loose.proofs.Behind.{load_rested}
use Rattle.yw_loose.specs.Loose.{IsRested}
use Rattle.yw_loose.specs.Next.{FindsLoose, StaysRested}
use Rattle.yw_loose.specs.declared.loose.Loose.{Loose}
use Rattle.yw_standing.proofs.Trying.{next_is}
use Rattle.yw_standing.specs.State.{state_of}
use Rattle.yw_standing.specs.Tried.{IsDone}
use Rattle.yw_standing.specs.declared.standing.Standing.{Standing}
use Rattle.yw_texts.specs.Texts.{reader}
use Rattle.yw_plain.specs.Plain.{keeps_plain}
use Rattle.yw_state.specs.Automatic.{IsQuiet}
use Rattle.yw_state.specs.Events.{Leads}
use Rattle.yw_state.specs.State.{State}
use Rattle.yw_state.specs.Well.{IsWell}
use Rattle.yw_state.specs.declared.event.Event.{Event}
use Rattle.yw_state.specs.declared.event.Event.TheVariants as events
use Rattle.yw_walk.proofs.Calm.{plain_is_calm}
use Rattle.yw_walk.specs.Finds.{IsFound, StandsCalm}
use Rattle.yw_walk.specs.declared.found.Found.{Found}

module _ (old : Standing) (before : Loose) (is : StandsRested old before) where
  -- whatever says so of a state before the event and one after it
  pub rested_done : (e : Event) (new : Standing) (now : Loose) → keeps_plain e ≡ true → IsDone old e new
      → ((known : Holdings) (s t : State) → IsWell reader s → IsHeld known new.forest t → Leads reader s e t → IsRested s before → IsRested t now)
      → StandsRested new now
  rested_done e new now plain done moved =
      let stands = done_stands old is.stands e new plain done in
      record {
        stands = stands;
        rested = moved new.known (state_of old) (state_of new) is.stands.held.well stands.held done.leads is.rested;
      }

  -- a load sets nothing moving, and completes nothing
  pub rested_load : (name text : List ℕ) (new : Standing) → IsDone old (events.Load name text) new → StandsRested new before
  rested_load name text new done =
      rested_done (events.Load name text) new before refl done (λ known s t well held leads rested. load_rested known new.forest s t name text before well held leads rested)

  pub rested_same : (new : Standing) → new ≡ old → StandsRested new before
  rested_same new same = subst (λ (h : Standing). StandsRested h before) (sym same) is

  -- so it is after a load that may lead nowhere
  pub rested_loaded : (name text : List ℕ) (leads : Bool) (new : Standing) → TellsLoaded old name text leads new → StandsRested new before
  rested_loaded name text true new done = rested_load name text new done
  rested_loaded name text false new told = rested_same new told.1

  -- ---- a look

  stands_calm : (n : ℕ) → StandsCalm old.known old.forest old.next n (state_of old)
  stands_calm n = plain_is_calm old.known old.forest old.next n (state_of old) is.stands.held is.stands.plain (next_is old)

  pub rested_looked : (n : ℕ) (now : Loose) → StaysRested old.known old.forest n old.next before now → StandsRested old now
  rested_looked n now stays = record { stands = is.stands; rested = stays (state_of old) (stands_calm n) is.rested }

  pub found_so : {E : Type 0} (n : ℕ) (result : Result (Option Found) E) → IfOk result (FindsLoose old.known old.forest n old.next before)
      → IfOk result (λ found. MatchOption found (IsQuiet (state_of old) n) (IsFound (state_of old) n))
  found_so n (Ok found) finds = finds (state_of old) (stands_calm n) is.rested
  found_so n (Err fault) finds = tt
