-- Where an event may set something moving: where it changes what stands, and directly above that; and in all of its case, where it is of an exlet and
-- suspends nothing. Our own.
use Rattle.std.specs.List.{list_any, range_with_len}
use Rattle.std.specs.Prelude.{◌≡◌, ◌==◌, ◌&&◌, ◌||◌, ◌∷◌, [], ℕ, Bool, List, MatchOption, None, Option, Some, false, is_none, map, true}
use Rattle.yw_base.specs.Identity.{is_identity, case_number, child}
use Rattle.yw_idle.specs.Warms.{warms}
use Rattle.yw_state.specs.Identity.{Ident, same}
use Rattle.yw_state.specs.Options.{is_some_and}
use Rattle.yw_state.specs.declared.event.Event.{Event}
use Rattle.yw_state.specs.declared.event.Event.TheVariants as events

-- the net or the item at which it is done, or what it suspends
abbrev pub done_at : Event → Option Ident
done_at (events.Enter i t places first count) = Some i
done_at (events.Start j who) = Some j
done_at (events.Complete j out) = Some j
done_at (events.Exit i t places) = Some i
done_at (events.Add i t value n) = Some i
done_at (events.StartSub j) = Some j
done_at (events.CompleteSub j) = Some j
done_at (events.CompleteEmpty j) = Some j
done_at (events.Suspend j) = Some j
done_at e = None

-- the items that it makes
abbrev pub made_by : Event → List Ident
made_by (events.Enter i t places first count) = map (child i) (range_with_len first count)
made_by (events.Add i t value n) = child i n ∷ []
made_by e = []

-- the case, the item or the run at which an event of an exlet is done
abbrev pub exlet_at : Event → Option Ident
exlet_at (events.Pass j check) = Some j
exlet_at (events.Except j check node n) = Some j
exlet_at (events.Substitute j worklet) = Some j
exlet_at (events.CompleteWorklet j) = Some j
exlet_at (events.Raise j kind node n) = Some j
exlet_at (events.Prim r p) = Some r
exlet_at (events.Compensated r) = Some r
exlet_at (events.Suspend j) = Some j
exlet_at (events.Continue j) = Some j
exlet_at e = None

-- the case that begins or is over
abbrev pub begun_or_over : Event → Option ℕ
begun_or_over (events.Launch n spec vals) = Some n
begun_or_over (events.Finish n) = Some n
begun_or_over (events.Cancel n) = Some n
begun_or_over e = None

-- j lies in the case of an event of an exlet that suspends nothing
abbrev pub is_unsettled : Event → Ident → Bool
is_unsettled e j = is_none (done_at e) && is_some_and (exlet_at e) (λ i. case_number j == case_number i)

-- it may set something moving at j
abbrev pub is_moved : Event → Ident → Bool
is_moved e j = is_unsettled e j || list_any (same j) (warms e)

-- it may do so in this case alone, or nowhere
abbrev pub MovesWithin : Event → Option ℕ → Type 0
MovesWithin e found =
    MatchOption found ((j : Ident) → is_moved e j ≡ false) (λ n. (j : Ident) → is_identity j ≡ true → is_moved e j ≡ true → case_number j ≡ n)
