-- What the steps of a bench come to, counted from their entries and replies.
use Rattle.std.specs.Prelude.{ℕ, ◌+◌, ◌==◌, ◌&&◌, ◌≤◌, Bool, true, false, List, length, slice_index, count_by, sum_by, codes}
use Rattle.serde_json.specs.Data.{Data, unsigned, number, object, no_members, member}
use Rattle.std.specs.List.{list_any}
use Rattle.std.specs.Str.{bytes_eq}
use Rattle.yw_lines.specs.Replies.{line_of}
use Rattle.yw_model.specs.Run.{Entry, Step, taken_by}
use Rattle.yw_state.specs.Identity.{is_child}
use Rattle.yw_state.specs.declared.event.Event.{Event}
use Rattle.yw_state.specs.declared.event.Event.TheVariants.{CompleteEmpty, Enter, Finish}
use Rattle.yw_serve.specs.declared.plan.Plan.{Plan}
use Rattle.yw_serve.specs.declared.plan.Plan.TheVariants.{Say, Accept}
use Rattle.yw_serve.specs.declared.summary.Summary.{Summary}

-- ---- of one entry

unfoldable pub is_finish : Event → Bool
is_finish (Finish n) = true
is_finish event = false

-- the item with this number in the net
abbrev pub is_item : List ℕ → List ℕ → ℕ → Bool
is_item item net n = is_child item net && slice_index item (length net) == n

-- the event makes this item of the task `high`
unfoldable pub enters_high : List ℕ → Event → Bool
enters_high item (Enter net task places first count) = bytes_eq task (codes "high") && is_item item net first
enters_high item event = false

abbrev pub makes_high : List Event → List ℕ → Bool
makes_high entry item = list_any (enters_high item) entry

-- the event completes an item of the task `high`, which one of these makes
unfoldable pub completes_high : List Event → Event → Bool
completes_high entry (CompleteEmpty item) = makes_high entry item
completes_high entry event = false

abbrev pub finished_in : List Event → ℕ
finished_in entry = count_by is_finish entry

abbrev pub high_in : List Event → ℕ
high_in entry = count_by (completes_high entry) entry

-- ---- of steps

-- nothing is taken: a command is refused
abbrev pub takes_nothing : Step → Bool
takes_nothing step = length step.taken == 0

-- what these entries come to, beside so many refusals
abbrev pub summary_by : List Entry → ℕ → Summary
summary_by entries refused = record {
  accepted = length entries;
  ended = sum_by (λ (e : Entry). finished_in e.events) entries;
  events = sum_by (λ (e : Entry). length e.events) entries;
  high = sum_by (λ (e : Entry). high_in e.events) entries;
  refused = refused;
}

abbrev pub summary_of : List Step → Summary
summary_of steps = summary_by (taken_by steps) (count_by takes_nothing steps)

-- ---- counting

abbrev pub with_entry : Summary → List Event → Summary
with_entry s entry = record {
  accepted = s.accepted + 1;
  ended = s.ended + finished_in entry;
  events = s.events + length entry;
  high = s.high + high_in entry;
  refused = s.refused;
}

-- with what was planned and done for one line more
abbrev pub with_plan : Summary → Plan → Summary
with_plan s (Say reply) = record s { refused = s.refused + 1 }
with_plan s (Accept decided reply) = with_entry s decided.events

-- no count is above this
pub record IsWithin (most : ℕ) (s : Summary) : Type 0 where
  pub accepted : s.accepted ≤ most
  pub ended : s.ended ≤ most
  pub events : s.events ≤ most
  pub high : s.high ≤ most
  pub refused : s.refused ≤ most

-- no more events are planned than an entry may have
abbrev pub HasFew : Plan → Type 0
HasFew (Say reply) = Unit {0}
HasFew (Accept decided reply) = length decided.events ≤ 4097

-- ---- the line that says it

abbrev pub summary_data : Summary → Data
summary_data s =
    object (member (codes "accepted") (number (unsigned s.accepted))
    (member (codes "ended") (number (unsigned s.ended))
    (member (codes "events") (number (unsigned s.events))
    (member (codes "high") (number (unsigned s.high))
    (member (codes "refused") (number (unsigned s.refused)) no_members)))))

unfoldable pub summary_line : Summary → List ℕ
summary_line s = line_of (summary_data s)
