-- The numbers that an event draws. That cases, items and runs are numbered by one counter is our own.
use Rattle.std.specs.Prelude.{ℕ, Option, Some, None}
use Rattle.yw_state.specs.declared.event.Event.{Event}
use Rattle.yw_state.specs.declared.event.Event.TheVariants as events

-- the first of them, where it draws some
abbrev pub first_drawn : Event → Option ℕ
first_drawn (events.Launch n spec vals) = Some n
first_drawn (events.Enter i t places first count) = Some first
first_drawn (events.Add i t value n) = Some n
first_drawn (events.Except j check node n) = Some n
first_drawn (events.Raise j kind node n) = Some n
first_drawn e = None

-- how many it draws
abbrev pub count_drawn : Event → ℕ
count_drawn (events.Launch n spec vals) = 1
count_drawn (events.Enter i t places first count) = count
count_drawn (events.Add i t value n) = 1
count_drawn (events.Except j check node n) = 1
count_drawn (events.Raise j kind node n) = 1
count_drawn e = 0
