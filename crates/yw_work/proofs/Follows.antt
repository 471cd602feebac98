-- What is looked at stays the same where an event changes nothing.
use Rattle.std.specs.Prelude.{◌≡◌, ℕ, false, List, Option, Some, None, refl, option_map, option_and_then}
use Rattle.std.specs.List.{list_any}
use Rattle.std.proofs.Common.{sym, ◌∙◌, ap}
use Rattle.yw_spec.specs.declared.task.Task.{Task}
use Rattle.yw_state.specs.Allowed.{Allowed}
use Rattle.yw_state.specs.Events.{after}
use Rattle.yw_state.specs.Identity.{Ident, same}
use Rattle.yw_base.specs.Identity.{parent}
use Rattle.yw_state.specs.Options.{is_some_and}
use Rattle.yw_state.specs.State.{ItemAt, ItemPart, NetAt, Site, State, TaskAt, item_part, net_at, task_in}
use Rattle.yw_state.specs.Texts.{Reader, Said}
use Rattle.yw_state.specs.Well.{IsWell, Stands}
use Rattle.yw_state.specs.declared.event.Event.{Event}
use Rattle.yw_state.specs.declared.part.Stage.{Stage}
use Rattle.yw_still.specs.Looked.{stage_and_task}
use Rattle.yw_idle.proofs.Staying.{stays_idle}
use Rattle.yw_idle.specs.Warms.{is_rule, warms}
use Rattle.yw_work.proofs.Same.{open_same}
use Rattle.yw_work.specs.Open.{StaysOpen}
use Rattle.yw_work.specs.Shows.{Seen, ShowsSame, item_shown, seen_of}

-- the item of a state, its task by what stands above
abbrev with_task : Option NetAt → ItemPart → Option ItemAt
with_task net x = option_and_then (λ (n : NetAt). option_map (λ (u : TaskAt). let y : ItemAt = record { part = x; of_task = u } in y) (task_in n x.task)) net

abbrev Two : Type 0
Two = Stage × Task

abbrev two_of : ItemAt → Two
two_of y = (y.part.stage, y.of_task.task)

abbrev beside : Option (List ℕ) → Two → Seen
beside who p = (p.0, who, p.1)

-- who started it is seen beside the stage and the task
abbrev with_who : Option ItemPart → Option (Stage × Task) → Option Seen
with_who (Some x) o = option_map (beside x.who) o
with_who None o = None

at_net : (x : ItemPart) (net : Option NetAt)
    → option_map seen_of (with_task net x) ≡ option_map (beside x.who) (option_map two_of (with_task net x))
at_net x None = refl
at_net x (Some n) = at_task (task_in n x.task)
  where
    at_task : (o : Option TaskAt)
        → option_map seen_of (option_map (λ (u : TaskAt). let y : ItemAt = record { part = x; of_task = u } in y) o)
        ≡ option_map (beside x.who) (option_map two_of (option_map (λ (u : TaskAt). let y : ItemAt = record { part = x; of_task = u } in y) o))
    at_task None = refl
    at_task (Some u) = refl

at_part : (o : Option ItemPart) (net : Option NetAt)
    → option_map seen_of (option_and_then (with_task net) o) ≡ with_who o (option_map two_of (option_and_then (with_task net) o))
at_part None net = refl
at_part (Some x) net = at_net x net

shown_is : (s : State) (j : Ident) → item_shown s j ≡ with_who (item_part s j) (stage_and_task s j)
shown_is s j = at_part (item_part s j) (net_at s (parent j))

module _ {reader : Reader} (s : State) (e : Event) (said : Said) (j : Ident) (x : Site) (well : IsWell reader s) (ok : Allowed s e said)
    (no_rule : is_rule e ≡ false)
    (stands : Stands (after s e said) j x) (cold : list_any (same j) (warms e) ≡ false) where
  pub shows_follows : ShowsSame s (after s e said) j
  shows_follows =
      let stays = stays_idle s e said j x well ok no_rule stands cold in
      let sees = stays.sees in
      let t = after s e said in
      record {
        part = sees.part;
        net = sees.net;
        item =
            shown_is t j ∙ ap (λ o. with_who o (stage_and_task t j)) (ap (option_and_then (λ (y : Site). y.item)) stays.site)
            ∙ ap (with_who (item_part s j)) sees.item ∙ sym (shown_is s j);
        items = sees.items;
        manual = sees.manual;
        busy = sees.busy;
      }

  pub stays_open : StaysOpen s (after s e said) j
  stays_open =
      let stays = stays_idle s e said j x well ok no_rule stands cold in
      record {
        stood = stays.stood;
        open_same = open_same s (after s e said) j shows_follows;
        suspended = ap (λ o. is_some_and o (λ (y : Site). y.suspended)) stays.site;
        run = stays.sees.run;
      }
