-- When an event of an item is allowed, by the item's stage and its task.
use Rattle.std.specs.Prelude.{Bool, is_some, not, ◌&&◌}
use Rattle.yw_cases.specs.declared.items.ItemEvent.{ItemEvent}
use Rattle.yw_cases.specs.declared.items.ItemEvent.TheVariants.{CompleteEmpty, CompleteSub, Start, StartSub}
use Rattle.yw_spec.specs.declared.task.Task.{Task}
use Rattle.yw_state.specs.Identity.{Ident}
use Rattle.yw_state.specs.Nets.{child_net, is_atomic, is_empty}
use Rattle.yw_state.specs.Options.{is_some_and}
use Rattle.yw_state.specs.State.{ItemAt, State, item_at}
use Rattle.yw_state.specs.Words.{held, is_executing, is_ready}
use Rattle.yw_state.specs.declared.part.Stage.{Stage}

-- an item of the task at this stage is one for the event
abbrev pub suits : ItemEvent → Stage → Task → Bool
suits Start stage t = is_ready stage && is_atomic t
suits StartSub stage t = is_ready stage && is_some (child_net t)
suits CompleteSub stage t = is_executing stage && is_some (child_net t)
suits CompleteEmpty stage t = is_ready stage && is_empty t

-- the item at j is
abbrev pub item_suits : State → ItemEvent → Ident → Bool
item_suits s event j = is_some_and (item_at s j) (λ (x : ItemAt). suits event x.part.stage x.of_task.task)

-- and nothing holds work there
abbrev pub item_goes : State → ItemEvent → Ident → Bool
item_goes s event j = not (held s j) && item_suits s event j
