-- Where each event is allowed: one row for each kind, a test that computes, and one fact, that an OR-join doesn't wait. The rows from
-- Launch to CompleteEmpty are the paper's transitions; those from Pass on are after the thesis; all that concerns values, numbers and
-- the order of checks is our own.
use Rattle.std.specs.Prelude.{◌≡◌, ℕ, ◌+◌, ◌==◌, ◌&&◌, ◌||◌, Bool, true, false, not, List, [], ◌∷◌, map, filter, length, Option, Some, is_some, is_none, option_and_then, slice_get, nat_le, nat_lt, nat_eq, IsTrue, if◌then◌else◌}
use Rattle.std.specs.Cmp.Lexicographic.{pointwise}
use Rattle.std.specs.List.{list_all}
use Rattle.std.specs.Str.{bytes_eq}
use Rattle.yw_base.specs.Values.{may_hold}
use Rattle.yw_base.specs.Identity.{number_end, case_number, parent}
use Rattle.yw_base.specs.Spelling.{are_distinct}
use Rattle.yw_base.specs.declared.value.Value.{Value}
use Rattle.yw_spec.specs.declared.spec.Net.{Net}
use Rattle.yw_spec.specs.declared.spec.Place.{Place}
use Rattle.yw_spec.specs.declared.spec.Spec.{Spec}
use Rattle.yw_spec.specs.declared.spec.Var.{Var}
use Rattle.yw_spec.specs.declared.task.Many.{Many}
use Rattle.yw_spec.specs.declared.task.Param.{Param}
use Rattle.yw_spec.specs.declared.task.Task.{Task}
use Rattle.yw_state.specs.Identity.{Ident, case_ident}
use Rattle.yw_state.specs.Joins.{NoWait, at_output, joins}
use Rattle.yw_state.specs.Judged.{conclusion_at, is_select, is_tree_place, judged, rules_at}
use Rattle.yw_state.specs.Map.{has_key}
use Rattle.yw_base.specs.Usages.{comes_in}
use Rattle.yw_state.specs.Nets.{child_net, is_among, is_atomic, is_empty, place_number}
use Rattle.yw_state.specs.NewRule.{has_room, is_side, is_taken, may_conclude}
use Rattle.yw_state.specs.Options.{all_of, is_some_and}
use Rattle.yw_state.specs.Passing.{entry_values, given_values, is_defined, kept_values, made_rows, made_rows_with, row_fits, split_places, within_bounds}
use Rattle.yw_state.specs.State.{State, ItemAt, TaskAt, due_at, is_case, is_suspended, is_target, item_at, items_of, net_part, run_part, spec_called, task_at, tokens_on, top_called}
use Rattle.yw_state.specs.Texts.{Said, a_spec, a_test}
use Rattle.yw_state.specs.Values.{Row, same_value}
use Rattle.yw_state.specs.Words.{active, busy, clear, done, is_executing, is_first_due, is_ready, urgent}
use Rattle.yw_state.specs.declared.event.Event.{Event}
use Rattle.yw_state.specs.declared.event.Event.TheVariants as events
use Rattle.yw_state.specs.declared.tree.Conclusion.{Conclusion}
use Rattle.yw_state.specs.declared.tree.Conclusion.TheVariants.{Worklet}
use Rattle.yw_state.specs.declared.tree.Primitive.{Primitive}
use Rattle.yw_state.specs.declared.tree.Primitive.TheVariants as primitives
use Rattle.yw_state.specs.declared.tree.TreeKind.{TreeKind}
use Rattle.yw_state.specs.declared.tree.TreeKind.TheVariants as kinds
use Rattle.yw_state.specs.declared.tree.TreePlace.{TreePlace}

-- ---- numbers: so many are drawn, from the counter on

abbrev pub draws : State → ℕ → ℕ → Bool
draws s first count = first == s.next && nat_le (first + count) number_end

abbrev pub is_next : State → ℕ → Bool
is_next s n = draws s n 1

-- ---- persons, specifications and rules

abbrev pub most_roles : ℕ
most_roles = 64

-- at most 64 names, none twice
abbrev pub are_roles : List (List ℕ) → Bool
are_roles names = nat_le (length names) most_roles && are_distinct names

abbrev may_load : State → List ℕ → Said → Bool
may_load s name (a_spec spec) = bytes_eq spec.name name && not (has_key s.specs name)
may_load s name said = false

abbrev pub fits_tree : State → TreePlace → ℕ → Bool → Spec → Bool
fits_tree s p at side spec = is_tree_place spec p && is_side (length (rules_at s p)) at side && not (is_taken (rules_at s p) at side)

abbrev may_add_rule : State → TreePlace → ℕ → Bool → Conclusion → ℕ → Said → Bool
may_add_rule s p at side conclusion number (a_test test) =
    is_some_and (spec_called s p.spec) (fits_tree s p at side) && may_conclude s p conclusion && has_room s p && number == length (rules_at s p) + 1
may_add_rule s p at side conclusion number said = false

-- ---- a case begins

-- a value of each variable's sort, which is its own first value where none comes in
abbrev pub launch_fits : List Var → Row → Bool
launch_fits = pointwise (λ (x : Var) v. may_hold x.sort v && (comes_in x.usage || same_value v x.init))

abbrev may_launch : State → ℕ → List ℕ → Row → Bool
may_launch s n name vals = is_next s n && is_some_and (top_called s name) (λ (net : Net). launch_fits net.vars vals)

-- ---- a task is entered

-- the numbers of places of a net; nothing where one isn't a place of it
abbrev pub place_numbers : Net → List Place → Option (List ℕ)
place_numbers net ps = all_of (map (place_number net) ps)

abbrev pub takes_from : State → Ident → TaskAt → List Place → Bool
takes_from s i x places = is_some_and (place_numbers x.within.net places) (joins x.task.join s i x.task.before)

abbrev pub makes : TaskAt → ℕ → Bool
makes x count = is_some_and (entry_values x.task x.within.part.vals) (λ rows. length rows == count) && within_bounds x.task.many count

abbrev pub may_enter : State → Ident → List Place → ℕ → ℕ → TaskAt → Bool
may_enter s i places first count x = not (active s i x.number) && takes_from s i x places && makes x count && draws s first count

-- ---- items

abbrev pub may_complete : State → Ident → Row → ItemAt → Bool
may_complete s j out x =
    is_executing x.part.stage && is_some x.part.who && is_none (net_part s j)
    && row_fits x.of_task.task.outs out
    && is_defined x.of_task.task (made_rows_with (items_of s (parent j) x.part.task) j out) x.of_task.within.part.vals

-- the element that an item is given
abbrev pub element_param : Task → Option Param
element_param t = option_and_then (λ (m : Many). slice_get t.ins m.item) t.many

abbrev pub may_add : State → Ident → Value → TaskAt → Bool
may_add s i value x =
    active s i x.number
    && is_some_and x.task.many (λ m. m.dynamic && nat_lt (length (items_of s i x.number)) m.max)
    && is_some_and (element_param x.task) (λ p. may_hold p.sort value)
    && is_some (given_values x.task x.within.part.vals (Some value))

-- the item of a composite task, or of an atomic one, or of an empty one, is at this stage
abbrev pub composite_is : (ItemAt → Bool) → ItemAt → Bool
composite_is at_stage x = at_stage x && is_some (child_net x.of_task.task)

abbrev pub atomic_is : (ItemAt → Bool) → ItemAt → Bool
atomic_is at_stage x = at_stage x && is_atomic x.of_task.task

abbrev ready : ItemAt → Bool
ready x = is_ready x.part.stage

abbrev executing : ItemAt → Bool
executing x = is_executing x.part.stage

-- ---- a task exits

-- all items are done, or as many as the threshold
abbrev pub may_leave : State → Ident → TaskAt → Bool
may_leave s i x =
    list_all (λ e. done s e.0 e.1) (items_of s i x.number)
    || is_some_and x.task.many (λ m. nat_le m.threshold (length (filter (λ e. done s e.0 e.1) (items_of s i x.number))))

-- the net's values once the assignments are made
abbrev pub exit_values : State → Ident → TaskAt → Row
exit_values s i x = kept_values x.task (made_rows (items_of s i x.number)) x.within.part.vals

abbrev pub most_tokens : ℕ
most_tokens = 1000000

-- one token more is not too many, once the removal set is emptied
abbrev pub has_room_for : State → Ident → TaskAt → ℕ → Bool
has_room_for s i x c = is_among x.task.drop_places c || nat_lt (tokens_on s i c) most_tokens

-- the numbers are those of the places that the splits choose, and none has too many tokens then
abbrev pub puts_on : State → Ident → TaskAt → List ℕ → Bool
puts_on s i x cs = pointwise nat_eq cs (split_places x.task (exit_values s i x)) && list_all (has_room_for s i x) cs

abbrev pub may_exit : State → Ident → List Place → TaskAt → Bool
may_exit s i places x = active s i x.number && may_leave s i x && is_some_and (place_numbers x.within.net places) (puts_on s i x)

-- ---- checks, worklets and exlets

abbrev pub begins_exlet : TreeKind → Bool
begins_exlet kinds.Pre = true
begins_exlet kinds.Post = true
begins_exlet kind = false

abbrev pub is_raised : TreeKind → Bool
is_raised kinds.External = true
is_raised kinds.Timeout = true
is_raised kinds.Abort = true
is_raised kind = false

-- the check is the first that is due, and nothing is at work there
abbrev pub comes_next : State → Ident → TreeKind → Bool
comes_next s j check = is_first_due (due_at s j) check && not (busy s j)

abbrev pub concludes : State → Ident → TreeKind → ℕ → Bool
concludes s j kind node = is_some_and (judged s j kind) (λ k. k == node)

-- the most numbers of an identity at which a worklet or a compensation may begin, and one more
abbrev pub depth_end : ℕ
depth_end = 32

-- a worklet at j would stand too deep
abbrev pub is_too_deep : Ident → Bool
is_too_deep j = nat_le depth_end (length j)

-- no number is left for a run
abbrev pub none_is_left : State → Bool
none_is_left s = s.next == number_end

-- what the tree concludes can't be begun
abbrev pub cannot_begin : State → Ident → TreeKind → Bool
cannot_begin s j kind = if is_select kind then is_too_deep j else none_is_left s

abbrev pub is_worklet : List ℕ → Conclusion → Bool
is_worklet name (Worklet other) = bytes_eq other name
is_worklet name conclusion = false

abbrev chooses : State → Ident → List ℕ → Bool
chooses s j name = is_some_and (option_and_then (conclusion_at s j kinds.Select) (judged s j kinds.Select)) (is_worklet name)

abbrev pub same_primitive : Primitive → Primitive → Bool
same_primitive primitives.SuspendItem primitives.SuspendItem = true
same_primitive primitives.ContinueItem primitives.ContinueItem = true
same_primitive primitives.RestartItem primitives.RestartItem = true
same_primitive primitives.CompleteItem primitives.CompleteItem = true
same_primitive primitives.RemoveItem primitives.RemoveItem = true
same_primitive primitives.SuspendCase primitives.SuspendCase = true
same_primitive primitives.ContinueCase primitives.ContinueCase = true
same_primitive primitives.RemoveCase primitives.RemoveCase = true
same_primitive (primitives.Compensate a) (primitives.Compensate b) = bytes_eq a b
same_primitive (primitives.Unknown a) (primitives.Unknown b) = bytes_eq a b
same_primitive p q = false

abbrev pub is_first : Primitive → List Primitive → Bool
is_first p [] = false
is_first p (q ∷ qs) = same_primitive p q

-- ---- the rows

-- the event is allowed, but for an OR-join's wait
unfoldable pub allows : State → Event → Said → Bool
allows s (events.Person name roles) said = are_roles roles
allows s (events.Load name text) said = may_load s name said
allows s (events.AddRule p at side when conclusion number) said = may_add_rule s p at side conclusion number said
allows s (events.Launch n spec vals) said = may_launch s n spec vals
allows s (events.Enter i t places first count) said = clear s i && is_some_and (task_at s i t) (may_enter s i places first count)
allows s (events.Start j who) said = clear s j && not (busy s j) && is_some_and (item_at s j) (atomic_is ready)
allows s (events.Complete j out) said = clear s j && not (busy s j) && is_some_and (item_at s j) (may_complete s j out)
allows s (events.Exit i t places) said = clear s i && is_some_and (task_at s i t) (may_exit s i places)
allows s (events.Add i t value n) said = clear s i && is_some_and (task_at s i t) (may_add s i value) && is_next s n
allows s (events.Finish n) said = clear s (case_ident n) && not (busy s (case_ident n)) && at_output s (case_ident n)
allows s (events.Cancel n) said = is_case s (case_ident n)
allows s (events.StartSub j) said = clear s j && not (busy s j) && is_some_and (item_at s j) (composite_is ready)
allows s (events.CompleteSub j) said = clear s j && not (busy s j) && is_some_and (item_at s j) (composite_is executing) && at_output s j
allows s (events.CompleteEmpty j) said = clear s j && is_some_and (item_at s j) (λ x. ready x && is_empty x.of_task.task)
allows s (events.Pass j check) said = comes_next s j check && (is_none (judged s j check) || cannot_begin s j check)
allows s (events.Except j check node n) said = begins_exlet check && comes_next s j check && concludes s j check node && is_next s n
allows s (events.Substitute j worklet) said = comes_next s j kinds.Select && nat_lt (length j) depth_end && chooses s j worklet
allows s (events.CompleteWorklet j) said = clear s j && not (busy s j) && is_some_and (item_at s j) (atomic_is executing) && at_output s j
allows s (events.Raise j kind node n) said = is_target s j && is_raised kind && not (busy s j) && concludes s j kind node && is_next s n
allows s (events.Prim r primitive) said = is_some_and (run_part s r) (λ x. not x.waiting && is_first primitive x.rest)
allows s (events.Compensated r) said = is_some_and (run_part s r) (λ x. x.waiting) && at_output s r && not (urgent s (case_number r))
allows s (events.Suspend j) said = is_target s j && not (is_suspended s j)
allows s (events.Continue j) said = is_suspended s j
allows s (events.Advance n) said = is_case s (case_ident n)

-- an OR-join that is entered doesn't wait
abbrev pub WaitsNot : State → Event → Type 0
WaitsNot s (events.Enter i t places first count) = (x : TaskAt) → task_at s i t ≡ Some x → NoWait s i x
WaitsNot s e = Unit {0}

abbrev pub Allowed : State → Event → Said → Type 0
Allowed s e said = IsTrue (allows s e said) × WaitsNot s e
