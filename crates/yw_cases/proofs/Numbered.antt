-- A launch and an addition, which are done by a number.
use Rattle.std.proofs.Common.{refl, true, ℕ, ◌≡◌}
use Rattle.yw_cases.specs.Tried.{IsNumbered, is_numbered}
use Rattle.yw_plain.specs.Plain.{keeps_plain}
use Rattle.yw_standing.specs.declared.standing.Standing.{Standing}
use Rattle.yw_state.proofs.Tests.{never}
use Rattle.yw_state.specs.declared.event.Event.{Event}
use Rattle.yw_state.specs.declared.event.Event.TheVariants as events

-- no other event has a number
pub has_number : (h : Standing) (e : Event) (k : ℕ) → IsNumbered h e k → is_numbered e ≡ true
has_number h (events.Launch n name vals) k is = refl
has_number h (events.Add i name value n) k is = refl
has_number h e k is = absurd is

-- both keep states plain
pub numbered_plain : (e : Event) → is_numbered e ≡ true → keeps_plain e ≡ true
numbered_plain (events.Launch n name vals) is = refl
numbered_plain (events.Add i name value n) is = refl
numbered_plain e is = never is
