-- What is urgent at an identity, and the event that comes of it. That checks and exlets come before all else is after the thesis; the
-- words are our own.
use Rattle.std.specs.List.{All, Contains}
use Rattle.std.specs.Prelude.{◌≡◌, ◌==◌, ℕ, Bool, true, false, List, MatchOption, Option, Some, None, if◌then◌else◌, option_and_then}
use Rattle.yw_base.specs.Identity.{case_number, number_end}
use Rattle.yw_state.specs.Automatic.{Comes}
use Rattle.yw_state.specs.Identity.{Ident}
use Rattle.yw_state.specs.Judged.{conclusion_at, judged}
use Rattle.yw_state.specs.State.{State}
use Rattle.yw_state.specs.Words.{any_due, is_first_due, urgent}
use Rattle.yw_state.specs.declared.event.Event.{Event}
use Rattle.yw_state.specs.declared.event.Event.TheVariants as events
use Rattle.yw_state.specs.declared.part.Checks.{Checks}
use Rattle.yw_state.specs.declared.tree.Conclusion.{Conclusion}
use Rattle.yw_state.specs.declared.tree.Conclusion.TheVariants.{Exlet, Worklet}
use Rattle.yw_state.specs.declared.tree.TreeKind.{TreeKind}
use Rattle.yw_state.specs.declared.tree.TreeKind.TheVariants.{Select}
use Rattle.yw_idle.specs.Idle.{is_urgent_at}
use Rattle.yw_still.specs.Still.{compensation_ends}
use Rattle.yw_worklet.specs.Chosen.{where_shallow}

-- ---- at one identity

-- where the event is, if it is of a kind that comes where something is urgent
abbrev pub urgent_place : Event → Option Ident
urgent_place (events.Pass j check) = Some j
urgent_place (events.Except j check node n) = Some j
urgent_place (events.Substitute j worklet) = Some j
urgent_place (events.Prim r primitive) = Some r
urgent_place e = None

-- Something is urgent at j, and this event comes of itself, there.
pub record IsUrgent (s : State) (j : Ident) (e : Event) : Type 0 where
  pub urgent : is_urgent_at s j ≡ true
  pub place : urgent_place e ≡ Some j
  pub comes : Comes s (case_number j) e

-- this event does, or nothing is urgent at j
abbrev pub FindsUrgent : State → Ident → Option Event → Type 0
FindsUrgent s j found = MatchOption found (is_urgent_at s j ≡ false) (IsUrgent s j)

-- the first check that is due is of this kind, or none is due
abbrev pub IsFirstDue : Checks → Option TreeKind → Type 0
IsFirstDue due found = MatchOption found (any_due due ≡ false) (λ check. is_first_due due check ≡ true)

-- the node whose exlet begins, where the tree concludes this one and this is the number that is drawn next
abbrev pub where_left : ℕ → Option ℕ → Option ℕ
where_left next node = if next == number_end then None else node

-- the worklet that is concluded
abbrev pub worklet_named : Conclusion → Option (List ℕ)
worklet_named (Worklet name) = Some name
worklet_named (Exlet primitives) = None

-- the worklet that is chosen for the item at j, where one is and may begin
abbrev pub chosen_worklet : State → Ident → Option (List ℕ)
chosen_worklet s j =
    option_and_then (λ node. option_and_then worklet_named (conclusion_at s j Select node)) (where_shallow j (judged s j Select))

-- ---- compensations

-- The event ends the compensation of the run at r, and comes of itself.
pub record EndsCompensation (s : State) (r : Ident) (e : Event) : Type 0 where
  pub is : e ≡ events.Compensated r
  pub comes : Comes s (case_number r) e

-- the compensation of the run at r is at its end, which nothing urgent holds, and this event ends it; or it isn't
abbrev pub FindsCompensated : State → Ident → Option Event → Type 0
FindsCompensated s r found = MatchOption found (compensation_ends s r ≡ false) (EndsCompensation s r)

-- ---- a case

-- at this one of these identities something is urgent, or at none of them
abbrev pub FindsAmong : State → List Ident → Option Ident → Type 0
FindsAmong s js found = MatchOption found (All (λ j. is_urgent_at s j ≡ false) js) (λ j. Contains js j × (is_urgent_at s j ≡ true))

-- at this identity of case n something is urgent, or the case isn't urgent
abbrev pub FindsIn : State → ℕ → Option Ident → Type 0
FindsIn s n found = MatchOption found (urgent s n ≡ false) (λ j. (case_number j ≡ n) × (is_urgent_at s j ≡ true))
