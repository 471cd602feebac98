-- Events that are built keep states plain, and those of neither a rule tree nor an exlet are built; and what comes of itself leads to one state.
use Rattle.std.specs.Prelude.{MatchOption}
use Rattle.std.proofs.Common.{◌≡◌, ◌↔◌, ◌∙◌, Bool, Err, IfOk, IsTrue, None, Ok, Option, Result, Some, ap, false}
use Rattle.std.proofs.Common.{refl, subst, sym, true, ℕ}
use Rattle.yw_built.specs.Built.{is_built}
use Rattle.yw_cases.specs.State.{MayStand}
use Rattle.yw_cases.specs.Tried.{is_apart}
use Rattle.yw_engine.specs.Decides.{IsComing, IsDone, IsNext}
use Rattle.yw_engine.proofs.Parts.{held_by, next_of}
use Rattle.yw_library.specs.Holdings.{Holdings}
use Rattle.yw_standing.specs.State.{state_of}
use Rattle.yw_standing.specs.Tried.{LeadsOn}
use Rattle.yw_standing.specs.declared.standing.Standing.{Standing}
use Rattle.yw_texts.specs.Texts.{reader}
use Rattle.yw_plain.specs.Plain.{is_plain_event, keeps_plain}
use Rattle.yw_state.proofs.Tests.{never}
use Rattle.yw_state.specs.Automatic.{Comes, IsQuiet, is_automatic}
use Rattle.yw_state.specs.Events.{Leads, after}
use Rattle.yw_state.specs.State.{State}
use Rattle.yw_state.specs.Texts.{EventText, TextSays, nothing}
use Rattle.yw_state.specs.declared.event.Event.{Event}
use Rattle.yw_state.specs.declared.event.Event.TheVariants as events
use Rattle.yw_tree.specs.declared.Forest.{Forest}
use Rattle.yw_turns.proofs.Entries.{no_text_of}
use Rattle.yw_walk.specs.Computed.{IsComputedOf}
use Rattle.yw_walk.proofs.Calm.{plain_is_calm}
use Rattle.yw_walk.specs.Finds.{FindsNext, IsFound, StandsCalm, TellsQuiet}
use Rattle.yw_walk.specs.declared.found.Found.{Found}

-- ---- what is built

pub built_is_plain : (e : Event) → is_built e ≡ true → keeps_plain e ≡ true
built_is_plain (events.Person name roles) built = refl
built_is_plain (events.Load name text) built = refl
built_is_plain (events.Launch n spec vals) built = refl
built_is_plain (events.Enter i t places first count) built = refl
built_is_plain (events.Start j who) built = refl
built_is_plain (events.Complete j out) built = refl
built_is_plain (events.Exit i t places) built = refl
built_is_plain (events.Add i t value n) built = refl
built_is_plain (events.Finish n) built = refl
built_is_plain (events.Cancel n) built = refl
built_is_plain (events.StartSub j) built = refl
built_is_plain (events.CompleteSub j) built = refl
built_is_plain (events.CompleteEmpty j) built = refl
built_is_plain (events.Suspend j) built = refl
built_is_plain (events.Continue j) built = refl
built_is_plain (events.Advance n) built = refl
built_is_plain e built = never built

pub plain_is_built : (e : Event) → is_plain_event e ≡ true → is_built e ≡ true
plain_is_built (events.Person name roles) plain = refl
plain_is_built (events.Load name text) plain = refl
plain_is_built (events.Launch n spec vals) plain = refl
plain_is_built (events.Enter i t places first count) plain = refl
plain_is_built (events.Start j who) plain = refl
plain_is_built (events.Complete j out) plain = refl
plain_is_built (events.Exit i t places) plain = refl
plain_is_built (events.Add i t value n) plain = refl
plain_is_built (events.Finish n) plain = refl
plain_is_built (events.Cancel n) plain = refl
plain_is_built (events.StartSub j) plain = refl
plain_is_built (events.CompleteSub j) plain = refl
plain_is_built (events.CompleteEmpty j) plain = refl
plain_is_built (events.Advance n) plain = refl
plain_is_built e plain = never plain

-- ---- what comes of itself

-- it leads on
pub comes_on : (h : Standing) (n : ℕ) (e : Event) → Comes (state_of h) n e → LeadsOn h e
comes_on h n e comes =
    let s = state_of h in
    let says = subst (λ (x : EventText). TextSays reader s x nothing) (sym (no_text_of s e comes.automatic)) refl in
    (after s e nothing, record { said = nothing; says = says; allowed = comes.allowed; then = refl })

-- it is neither a load nor done by a number
not_apart : (s : State) (e : Event) → IsTrue (is_automatic s e) → is_apart e ≡ false
not_apart s (events.Load name text) automatic = never automatic
not_apart s (events.Launch n spec vals) automatic = never automatic
not_apart s (events.Add i t value n) automatic = never automatic
not_apart s e automatic = refl

-- and to no other state than the one after it
pub comes_after : (s t : State) (n : ℕ) (e : Event) → Comes s n e → Leads reader s e t → t ≡ after s e nothing
comes_after s t n e comes leads =
    let said : leads.said ≡ nothing = subst (λ (x : EventText). TextSays reader s x leads.said) (no_text_of s e comes.automatic)
    leads.says in
    leads.then ∙ ap (after s e) said

module _ (h : Standing) (may : MayStand h) (n : ℕ) where
  coming : (w : Found) → IsFound (state_of h) n w → IsComing h n w
  coming w it = record { comes = it.comes.comes; built = plain_is_built w.event (it.comes.plain may.no_worklet); computed = it.computed }

  -- what is found by the walk over the case, by the parts that are read
  module _ (known : Holdings) (f : Forest) (next : ℕ) (same : known ≡ h.known) (same_forest : f ≡ h.forest) (same_next : next ≡ h.next)
    where
      stands_calm : StandsCalm known f next n (state_of h)
      stands_calm = plain_is_calm known f next n (state_of h) (held_by h known f same same_forest may) may.plain (next_of h next same_next)

      walked : (found : Option Found) → FindsNext known f n next found → IsNext h n found
      walked None finds = (finds (state_of h) stands_calm).1
      walked (Some w) finds = coming w (finds (state_of h) stands_calm)

      pub walked_by : {E : Type 0} (result : Result (Option Found) E) → IfOk result (FindsNext known f n next) → IfOk result (IsNext h n)
      walked_by (Ok found) finds = walked found finds
      walked_by (Err fault) finds = tt

      pub quiet_by : {E : Type 0} (result : Result Bool E) → IfOk result (TellsQuiet known f n next)
          → IfOk result (λ quiet. IsTrue quiet ↔ IsQuiet (state_of h) n)
      quiet_by (Ok quiet) tells = tells (state_of h) stands_calm
      quiet_by (Err fault) tells = tt

  -- what is found by what is loose
  pub loose_by : {E : Type 0} (result : Result (Option Found) E) → IfOk result (λ found. MatchOption found (IsQuiet (state_of h) n) (IsFound (state_of h) n))
      → IfOk result (IsNext h n)
  loose_by (Ok None) quiet = quiet
  loose_by (Ok (Some w)) it = coming w it
  loose_by (Err fault) finds = tt

  -- an event that is found leads on
  pub next_on : (found : Option Found) (w : Found) → found ≡ Some w → IsNext h n found → LeadsOn h w.event
  next_on found w is next = let it = subst (IsNext h n) is next in comes_on h n w.event it.comes

  -- it is neither a load nor done by a number
  pub next_apart : (found : Option Found) (w : Found) → found ≡ Some w → IsNext h n found → is_apart w.event ≡ false
  next_apart found w is next = let it = subst (IsNext h n) is next in not_apart (state_of h) w.event it.comes.automatic

  -- this was computed of it
  pub next_computed : (found : Option Found) (w : Found) → found ≡ Some w → IsNext h n found → IsComputedOf (state_of h) w.event w.computed
  next_computed found w is next = let it = subst (IsNext h n) is next in it.computed

  -- and what it led to is the state after it
  pub stepped : (found : Option Found) (w : Found) (mid new : Standing) → found ≡ Some w → IsNext h n found → mid ≡ h → IsDone mid w.event new
      → Comes (state_of h) n w.event × (state_of new ≡ after (state_of h) w.event nothing) × (is_built w.event ≡ true)
  stepped found w mid new is next same done =
      let it = subst (IsNext h n) is next in
      let leads = subst (λ (m : Standing). Leads reader (state_of m) w.event (state_of new)) same done.leads in
      (it.comes, comes_after (state_of h) (state_of new) n w.event it.comes leads, it.built)
