-- A task may be left exactly where its list of items and the tokens of its net say so.
use Rattle.std.proofs.Common.{Bool, List, None, Option, Some, ap, arith, false, length, min, refl, subst, sym, true, ℕ, ◌∙◌, ◌<◌, ◌≡◌, ◌≤◌}
use Rattle.std.proofs.lemmas.Bool.{eq-eqb, leb-false, leb-true, lt-leb, ne_eqb, or_from, or_left, or_right}
use Rattle.std.proofs.lemmas.List.Sums.{count_by-le-length}
use Rattle.std.specs.List.{list_all}
use Rattle.std.specs.Prelude.{filter, nat_le, nat_lt, option_map, slice_get, unwrap_or, ◌==◌, ◌&&◌, ◌||◌}
use Rattle.yw_base.specs.declared.gate.Gate.{Gate}
use Rattle.yw_base.specs.declared.gate.Gate.TheVariants.{And, Or, Xor}
use Rattle.yw_enabled.proofs.Counted.{all_counted, all_same, count_same}
use Rattle.yw_enabled.proofs.FreeItems.{all_done_there, task_is}
use Rattle.yw_enabled.specs.Free.{StandsFree}
use Rattle.yw_enabled.specs.Left.{FindsRoom, IsLeavingAs, LeavesAs, TellsRight, are_enough, done_count, is_done, leaves_by, needed, split_has_room}
use Rattle.yw_spec.specs.declared.spec.Net.{Net}
use Rattle.yw_spec.specs.declared.task.Many.{Many}
use Rattle.yw_spec.specs.declared.task.Task.{Task}
use Rattle.yw_state.proofs.Tests.{by_test, some_same}
use Rattle.yw_state.specs.Allowed.{exit_values, has_room_for, may_leave, most_tokens}
use Rattle.yw_state.specs.Identity.{Ident}
use Rattle.yw_state.specs.Nets.{is_among}
use Rattle.yw_state.specs.Options.{is_some_and}
use Rattle.yw_state.specs.Passing.{kept_values, made_rows, split_places}
use Rattle.yw_state.specs.State.{ItemPart, State, TaskAt}
use Rattle.yw_state.specs.Values.{Row}
use Rattle.yw_state.specs.Words.{done}
use Rattle.yw_still.proofs.Numbers.{all_filtered}
use Rattle.yw_still.specs.Still.{is_leaving}
use Rattle.yw_task.proofs.EnterAsk.{has_marks, its_active, its_items, net_with}
use Rattle.yw_task.proofs.MadeLaw.{made_rows_are}
use Rattle.yw_task.specs.Leaving.{IsOutcome}
use Rattle.yw_task.specs.Making.{rows_made}
use Rattle.yw_task.specs.declared.exits.Outcome.{Outcome}
use Rattle.yw_tree.specs.Entries.{item_part_of}
use Rattle.yw_tree.specs.Shows.{items_in}
use Rattle.yw_tree.specs.declared.Forest.{Forest}
use Rattle.yw_tree.specs.declared.NetState.{NetState, out-NetState}
use Rattle.yw_tree.specs.declared.Node.{Node, out-Node}

-- all of them are done, or as many as the threshold, exactly where as many are as have to be
by_needed : (o : Option Many) (n done : ℕ) → done ≤ n
    → (done == n || is_some_and o (λ m. nat_le m.threshold done)) ≡ nat_le (unwrap_or (option_map (λ (m : Many). min n m.threshold) o) n) done
by_needed None n done most =
    by_test (nat_le n done)
    (λ enough. let least : n ≤ done = leb-true n done enough in or_left (done == n) false (eq-eqb done n (omega arith)) ∙ sym enough)
    (λ few. let less : done < n = leb-false n done few in or_from (done == n) false (ne_eqb done n (λ all. omega arith)) refl ∙ sym few)
by_needed (Some m) n done most =
    by_test (nat_le (min n m.threshold) done)
    (λ enough.
    let least : min n m.threshold ≤ done = leb-true (min n m.threshold) done enough in
    by_test (nat_le m.threshold done)
    (λ reached. or_right (done == n) _ reached)
    (λ short.
    let far : done < m.threshold = leb-false m.threshold done short in
    or_left (done == n) _ (eq-eqb done n (omega arith)))
    ∙ sym enough)
    (λ few.
    let less : done < min n m.threshold = leb-false (min n m.threshold) done few in
    or_from (done == n) (nat_le m.threshold done) (ne_eqb done n (λ all. omega arith)) (lt-leb m.threshold done (omega arith)) ∙ sym few)

-- a split chooses among the places behind the task
pub among_after : (t : Task) (row : Row) (p : ℕ → Bool) → list_all p t.after ≡ true → list_all p (split_places t row) ≡ true
among_after t row p all = by_gate t.split
  where
    by_gate : (g : Gate) → list_all p (split_places (record t { split = g }) row) ≡ true
    by_gate And = all
    by_gate Xor = all_filtered _ p t.after all
    by_gate Or = all_filtered _ p t.after all

module _ (names : ℕ → List ℕ) (f : Forest) (s : State) (i : Ident) (net : Net) (state : NetState) (h : StandsFree names f s i net state) (t : ℕ) (task : Task) where
  abbrev counts : Ident × ItemPart → Bool
  counts e = done s e.0 e.1

  abbrev with_id : Node → Ident × ItemPart
  with_id n = ((out-Node n).id, item_part_of n)

  enough_there : may_leave s i (record { number = t; task = task; within = net_with names net state }) ≡ nat_le (needed task (length (items_in state t))) (done_count (items_in state t))
  enough_there =
      let each = all_done_there names f s i net state h t in
      ap (λ es. list_all (λ (e : Ident × ItemPart). done s e.0 e.1) es || is_some_and task.many (λ (m : Many). nat_le m.threshold (length (filter (λ (e : Ident × ItemPart). done s e.0 e.1) es)))) (its_items names f s i net state h.stands t)
      ∙ (λ j. (all_same counts is_done with_id (items_in state t) each ∙ all_counted is_done (items_in state t)) j || is_some_and task.many (λ (m : Many). nat_le m.threshold (count_same counts is_done with_id (items_in state t) each j)))
      ∙ by_needed task.many (length (items_in state t)) (done_count (items_in state t)) (count_by-le-length is_done (items_in state t))

  pub values_are : exit_values s i (record { number = t; task = task; within = net_with names net state }) ≡ kept_values task (rows_made (items_in state t)) (out-NetState state).vals
  values_are =
      ap (λ es. kept_values task (made_rows es) (out-NetState state).vals) (its_items names f s i net state h.stands t)
      ∙ ap (λ rows. kept_values task rows (out-NetState state).vals) (made_rows_are (items_in state t))

  room_there : list_all (has_room_for s i (record { number = t; task = task; within = net_with names net state })) (split_places task (exit_values s i (record { number = t; task = task; within = net_with names net state }))) ≡ split_has_room state task (items_in state t)
  room_there = λ j. list_all (λ c. is_among task.drop_places c || nat_lt (has_marks names f s i net state h.stands c j) most_tokens) (split_places task (values_are j))

  leaving_there : is_leaving s i (record { number = t; task = task; within = net_with names net state }) ≡ leaves_by state t task
  leaving_there = (λ j. h.free j && its_active names f s i net state h.stands t j && enough_there j && room_there j)

pub leaving_as : (net : Net) (state : NetState) (t : ℕ) (task : Task) → slice_get net.tasks t ≡ Some task → (answer : Bool) → answer ≡ leaves_by state t task → IsLeavingAs net state t answer
leaving_as net state t task at answer same = λ names f s i x h is.
    let y = task_is names f s i net state h t x is in
    let its_task : y.0 ≡ task = some_same y.0 task (sym y.1 ∙ at) in
    subst (λ (z : TaskAt). is_leaving s i z ≡ answer) y.2
    (leaving_there names f s i net state h t y.0 ∙ ap (leaves_by state t) its_task ∙ sym same)

-- what is told right changes no answer
told_right : (task : Task) (told : Option ℕ) (ns : List Node) → TellsRight told ns → are_enough task ns told ≡ are_enough task ns None
told_right task None ns right = refl
told_right task (Some d) ns right = ap (λ n. nat_lt 0 (length ns) && nat_le (needed task (length ns)) n) right

module _ (net : Net) (state : NetState) (t : ℕ) (task : Task) (ns : List Node) (at : slice_get net.tasks t ≡ Some task) (items : ns ≡ items_in state t)
    (told : Option ℕ) (right : TellsRight told (items_in state t)) where
  asked : are_enough task ns told ≡ are_enough task (items_in state t) None
  asked = ap (λ xs. are_enough task xs told) items ∙ told_right task told (items_in state t) right

  -- where too few have come far enough, it may not be left
  pub too_few : are_enough task ns told ≡ false → IsLeavingAs net state t false
  too_few few = leaving_as net state t task at false (ap (λ b. b && split_has_room state task (items_in state t)) (sym few ∙ asked))

  -- else it may where there is room
  by_room : are_enough task ns told ≡ true → (room : Bool) → room ≡ split_has_room state task ns → IsLeavingAs net state t room
  by_room enough room same =
      leaving_as net state t task at room
      (same ∙ ap (split_has_room state task) items ∙ ap (λ b. b && split_has_room state task (items_in state t)) (sym enough ∙ asked))

  -- what the exit leaves comes with it
  pub by_outcome : are_enough task ns told ≡ true → (found : Option Outcome) → FindsRoom state task ns found → LeavesAs net state t found
  by_outcome enough None full = by_room enough false (sym full)
  by_outcome enough (Some out) has = record {
    leaves = by_room enough true (sym has.room);
    outcome = λ u is.
        subst (λ (v : Task). IsOutcome v (items_in state t) (out-NetState state).vals out) (some_same task u (sym at ∙ is))
        (subst (λ (xs : List Node). IsOutcome task xs (out-NetState state).vals out) items has.outcome);
  }
