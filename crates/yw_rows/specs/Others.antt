-- A person who started what another wants to complete.
use Rattle.std.specs.Prelude.{List, [], ◌∷◌, ◌++◌, take, codes}
use Rattle.yw_rows.specs.Play.{Entry}
use Rattle.yw_rows.specs.Seq.{seq_row}
use Rattle.yw_rows.specs.Written.{person, plain}
use Rattle.yw_state.specs.declared.event.Event.TheVariants as events

abbrev pub by_bob : List Entry
by_bob = take 4 seq_row ++ person (codes "bob") [] ∷ plain (events.Start (1 ∷ 2 ∷ []) (codes "bob") ∷ []) ∷ []

-- an item that is ready, and one that is suspended
abbrev pub suspended_item : List Entry
suspended_item = take 4 seq_row ++ plain (events.Suspend (1 ∷ 2 ∷ []) ∷ []) ∷ []
