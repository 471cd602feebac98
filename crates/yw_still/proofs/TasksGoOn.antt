-- A task that may be entered is entered, and one that may be left is left, by an event that is allowed.
use Rattle.std.specs.Prelude.{◌≡◌, ℕ, ◌+◌, ◌==◌, ◌&&◌, Bool, true, not, List, length, Some, nat_eq, nat_le, refl}
use Rattle.std.specs.List.{list_all}
use Rattle.std.specs.Cmp.Lexicographic.{pointwise}
use Rattle.std.proofs.Common.{sym, ◌∙◌, ap, subst}
use Rattle.std.proofs.lemmas.Bool.{and_parts, and_from, eq-eqb}
use Rattle.yw_base.specs.Identity.{number_end, case_number}
use Rattle.yw_base.specs.declared.gate.Gate.{Gate}
use Rattle.yw_base.specs.declared.gate.Gate.TheVariants.{And, Xor, Or}
use Rattle.yw_spec.specs.declared.spec.Place.{Place}
use Rattle.yw_spec.specs.declared.task.Task.{Task}
use Rattle.yw_state.proofs.Tests.{some_same, there_and}
use Rattle.yw_state.specs.Allowed.{Allowed, allows, exit_values, has_room_for, may_exit, may_leave, place_numbers, puts_on}
use Rattle.yw_state.specs.Identity.{Ident}
use Rattle.yw_state.specs.Joins.{NoWait, has_tokens, joins}
use Rattle.yw_state.specs.Judged.{is_manual}
use Rattle.yw_state.specs.Options.{is_some_and}
use Rattle.yw_state.specs.Passing.{entry_values, split_places, within_bounds}
use Rattle.yw_state.specs.State.{State, TaskAt, task_at}
use Rattle.yw_state.specs.Texts.{nothing}
use Rattle.yw_state.specs.Values.{Row}
use Rattle.yw_state.specs.Words.{active, clear}
use Rattle.yw_state.specs.declared.event.Event.TheVariants as events
use Rattle.yw_still.proofs.Joining.{can_take}
use Rattle.yw_still.proofs.Numbers.{alike, all_filtered}
use Rattle.yw_still.specs.Still.{SomethingComes, can_be_entered, is_entering, is_leaving, may_be_made, task_numbered}
use Rattle.yw_within.proofs.Finding.{OfTask, net_within, numbered_of, places_are_named, task_found}
use Rattle.yw_within.specs.Within.{HoldsWithin, has_number}

-- a split chooses among the places to which the task leads
among_after : (t : Task) (row : Row) (p : ℕ → Bool) → list_all p t.after ≡ true → list_all p (split_places t row) ≡ true
among_after t row p all = by_gate t.split
  where
    by_gate : (g : Gate) → list_all p (split_places (record t { split = g }) row) ≡ true
    by_gate And = all
    by_gate Xor = all_filtered _ p t.after all
    by_gate Or = all_filtered _ p t.after all

-- the task may be entered from these places, with so many items
abbrev pub CanEnter : State → Ident → List ℕ → Type 0
CanEnter s i t = (places : List Place) × (count : ℕ) × Allowed s (events.Enter i t places s.next count) nothing

module _ (s : State) (holds : HoldsWithin s) (i : Ident) (x : TaskAt) (of : OfTask s i x) where
  -- by whichever name the task is found
  pub enter_allowed : (t : List ℕ) → task_at s i t ≡ Some x → can_be_entered s i x ≡ true → NoWait s i x → CanEnter s i t
  unfolding allows
  enter_allowed t is_task may no_wait =
      let (spec, within) = net_within s holds i x.within of.stands in
      let made = and_parts _ (is_some_and (entry_values x.task x.within.part.vals) (may_be_made s x)) may in
      let joined = and_parts _ (has_tokens x.task.join s i x.task.before) made.0 in
      let free = and_parts (clear s i) (not (active s i x.number)) joined.0 in
      let (taken, joins_it, all) = can_take s i x.task.before x.task.join (has_number x.within.net.places) (within.each_task x.number x.task of.task).before joined.1 in
      let (places, are) = places_are_named spec x.within.net within taken all in
      let (rows, rows_are, fit) = there_and (entry_values x.task x.within.part.vals) (may_be_made s x) made.1 in
      let bounds = and_parts (within_bounds x.task.many (length rows)) (nat_le (s.next + length rows) number_end) fit in
      let takes = ap (λ o. is_some_and o (joins x.task.join s i x.task.before)) are ∙ joins_it in
      let makes = ap (λ o. is_some_and o (λ (rs : List Row). length rs == length rows)) rows_are ∙ eq-eqb (length rows) (length rows) refl in
      let draws = and_from (s.next == s.next) (nat_le (s.next + length rows) number_end) (eq-eqb s.next s.next refl) bounds.1 in (
        places,
        length rows,
        (
          and_from _ _ free.0
              (ap (λ o. is_some_and o (λ (y : TaskAt). not (active s i y.number) && is_some_and (place_numbers y.within.net places) (joins y.task.join s i y.task.before)
              && (is_some_and (entry_values y.task y.within.part.vals) (λ rs. length rs == length rows) && within_bounds y.task.many (length rows))
              && (s.next == s.next && nat_le (s.next + length rows) number_end))) is_task
              ∙ and_from _ _ (and_from _ _ (and_from _ _ free.1 takes) (and_from _ _ makes bounds.0)) draws),
          λ y is_y. subst (NoWait s i) (some_same x y (sym is_task ∙ is_y)) no_wait,
        ),
      )

  pub entered : is_entering s i x ≡ true → NoWait s i x → SomethingComes s (case_number i)
  entered may no_wait =
      let parts = and_parts (not (is_manual s x)) (can_be_entered s i x) may in
      let is_task = task_found s holds i x of in
      let (places, count, allowed) = enter_allowed x.task.name is_task parts.1 no_wait in (
        events.Enter i x.task.name places s.next count,
        record {
          here = refl;
          automatic = ap (λ o. is_some_and o (λ y. not (is_manual s y))) is_task ∙ parts.0;
          allowed = allowed;
        },
      )

  pub left : is_leaving s i x ≡ true → SomethingComes s (case_number i)
  unfolding allows
  left may =
      let (spec, within) = net_within s holds i x.within of.stands in
      let parts = and_parts (clear s i && active s i x.number && may_leave s i x) (list_all (has_room_for s i x) (split_places x.task (exit_values s i x))) may in
      let goes = and_parts (clear s i && active s i x.number) (may_leave s i x) parts.0 in
      let free = and_parts (clear s i) (active s i x.number) goes.0 in
      let cs = split_places x.task (exit_values s i x) in
      let all = among_after x.task (exit_values s i x) (has_number x.within.net.places) (within.each_task x.number x.task of.task).after in
      let (places, are) = places_are_named spec x.within.net within cs all in
      let puts = ap (λ o. is_some_and o (puts_on s i x)) are ∙ and_from _ _ (alike cs) parts.1 in (
        events.Exit i x.task.name places,
        record {
          here = refl;
          automatic = refl;
          allowed = (
            and_from _ _ free.0
                (ap (λ o. is_some_and o (may_exit s i places)) (task_found s holds i x of)
                ∙ and_from _ _ (and_from _ _ free.1 goes.1) puts),
            tt,
          );
        },
      )

-- by the task's number

module _ (s : State) (holds : HoldsWithin s) (i : Ident) (k : ℕ) (x : TaskAt) (is : task_numbered s i k ≡ Some x) where
  pub entered_comes : is_entering s i x ≡ true → NoWait s i x → SomethingComes s (case_number i)
  entered_comes may no_wait = entered s holds i x (numbered_of s i k x is) may no_wait

  pub left_comes : is_leaving s i x ≡ true → SomethingComes s (case_number i)
  left_comes may = left s holds i x (numbered_of s i k x is) may
