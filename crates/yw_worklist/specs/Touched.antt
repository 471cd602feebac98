-- Where what is listed may be wrong behind events. Our own.
use Rattle.std.specs.BTreeSet.{BTreeSet, contains}
use Rattle.std.specs.List.{list_any, range_with_len}
use Rattle.std.specs.Prelude.{◌≡◌, ◌&&◌, ◌||◌, Bool, false, is_none, length, List, map, None, Option, Some, take, true}
use Rattle.yw_base.specs.Identity.{is_identity, child, parent, under}
use Rattle.yw_idle.specs.Warms.{warms}
use Rattle.yw_library.specs.Holdings.{Holdings}
use Rattle.yw_texts.specs.Texts.{reader}
use Rattle.yw_open.specs.Opens.{IsHeldUnchosen}
use Rattle.yw_state.specs.Events.{LeadAll}
use Rattle.yw_state.specs.Identity.{Ident, case_ident, same}
use Rattle.yw_state.specs.Judged.{is_select}
use Rattle.yw_state.specs.Map.{get, lexical}
use Rattle.yw_state.specs.Options.{is_some_and}
use Rattle.yw_state.specs.State.{State}
use Rattle.yw_state.specs.Well.{IsWell}
use Rattle.yw_state.specs.declared.event.Event.{Event}
use Rattle.yw_state.specs.declared.event.Event.TheVariants as events
use Rattle.yw_tree.specs.Spots.{part_at}
use Rattle.yw_tree.specs.declared.Forest.{Forest}
use Rattle.yw_work.specs.Tops.{top}
use Rattle.yw_worklist.specs.Lists.{IsListed, IsRightAt, Places, has_place}
use Rattle.yw_worklist.specs.declared.lists.Lists.{Lists}

-- What was in the set is still, and so is each identity that passes.
pub record Adds (old new : BTreeSet Ident) (also : Ident → Bool) : Type 0 where
  pub was : (j : Ident) → contains lexical old j ≡ true → contains lexical new j ≡ true
  pub passing : (j : Ident) → is_identity j ≡ true → also j ≡ true → contains lexical new j ≡ true

-- ---- what an event may change, and what is above that

-- j is i, or directly above it
abbrev pub is_around : Ident → Ident → Bool
is_around j i = same j i || same j (parent i)

-- the net, the item, the case or the run at which it is done, where that stood before
abbrev pub changed_at : Event → Option Ident
changed_at (events.Enter i t places first count) = Some i
changed_at (events.Start j who) = Some j
changed_at (events.Complete j out) = Some j
changed_at (events.Exit i t places) = Some i
changed_at (events.Add i t value n) = Some i
changed_at (events.StartSub j) = Some j
changed_at (events.CompleteSub j) = Some j
changed_at (events.CompleteEmpty j) = Some j
changed_at (events.Pass j check) = Some j
changed_at (events.Except j check node n) = Some j
changed_at (events.Substitute j worklet) = Some j
changed_at (events.CompleteWorklet j) = Some j
changed_at (events.Raise j kind node n) = Some j
changed_at (events.Prim r p) = Some r
changed_at (events.Compensated r) = Some r
changed_at (events.Suspend j) = Some j
changed_at (events.Continue j) = Some j
changed_at e = None

-- what lies on the way down to r
abbrev pub fronts : Ident → List Ident
fronts r = map (λ k. take k r) (range_with_len 0 (length r))

-- it makes what stands at j, or takes a step in a run below j
abbrev pub is_made : Event → Ident → Bool
is_made (events.Launch n spec vals) j = same j (case_ident n)
is_made (events.Enter i t places first count) j = list_any (same j) (map (child i) (range_with_len first count))
is_made (events.Add i t value n) j = same j (child i n)
is_made (events.Except i check node n) j = same j (child i n)
is_made (events.Raise i kind node n) j = same j (child i n)
is_made (events.Prim r p) j = list_any (same j) (fronts r)
is_made (events.Compensated r) j = list_any (same j) (fronts r)
is_made e j = false

-- ---- what an event may take away

-- it adds a rule by which worklets are chosen
abbrev pub adds_choice : Event → Bool
adds_choice (events.AddRule p at side when conclusion number) = is_select p.kind
adds_choice e = false

-- nothing stands at j
abbrev pub is_gone : Forest → Ident → Bool
is_gone f j = is_none (part_at f j)

-- what was open at j may be so no longer: worklets may be chosen for it, or it lay under what the event clears, and is gone
abbrev pub takes : Forest → Event → Ident → Bool
takes f e j = adds_choice e || (is_some_and (top e) (under j) && is_gone f j)

-- what is listed at j may be wrong behind the event
abbrev pub is_touched : Places → Forest → Event → Ident → Bool
is_touched p f e j = list_any (same j) (warms e) || (has_place p j && takes f e j)

-- each identity at which what is listed may be wrong behind these events
abbrev pub HasTouched : Places → Forest → List Event → BTreeSet Ident → Type 0
HasTouched p f es ids = (j : Ident) → is_identity j ≡ true → list_any (λ e. is_touched p f e j) es ≡ true → contains lexical ids j ≡ true

-- ---- laws

-- Where no event touches what is listed, what was right is right behind them. The forest is the one behind them.
abbrev pub StaysRight : Forest → List Event → State → State → Lists → Ident → Type 0
StaysRight f es s t l j =
    IsWell reader s → LeadAll reader s es t → IsRightAt s l j → (get t.sites j ≡ None → is_gone f j ≡ true)
    → list_any (λ e. is_touched l.places f e j) es ≡ false → IsRightAt t l j

-- in the state behind the events for which these stand, all is listed if it was before
abbrev pub Notes : Holdings → Forest → List Event → Lists → Lists → Type 0
Notes known f es old new =
    (s t : State) → IsWell reader s → LeadAll reader s es t → IsHeldUnchosen known f t → IsListed s old → IsListed t new
