-- To enter a task, and to add an item to one.
use Rattle.std.specs.Prelude.{◌≡◌, ◌&&◌, ℕ, ◌+◌, true, false, not, List, [], length, Option, Some, None, codes, find, is_none, is_some, nat_le, nat_lt, option_and_then, option_map, unwrap_or, refl, if◌then◌else◌}
use Rattle.std.proofs.Common.{sym, ◌∙◌, ap}
use Rattle.std.proofs.lemmas.Bool.{and_from, eqb-true, le-leb, leb-false, lt-ltb, ltb-false, not-false}
use Rattle.yw_base.specs.Identity.{number_end}
use Rattle.yw_base.specs.Values.{may_hold}
use Rattle.yw_base.specs.declared.value.Value.{Value}
use Rattle.yw_spec.specs.declared.spec.Place.{Place}
use Rattle.yw_spec.specs.declared.task.Many.{Many}
use Rattle.yw_spec.specs.declared.task.Param.{Param}
use Rattle.yw_state.proofs.Tests.{and_left, and_right, nowhere, then_some, there_and}
use Rattle.yw_state.specs.Allowed.{Allowed, allows, element_param, may_add}
use Rattle.yw_state.specs.Broken.{checks, entry_count, is_spent, misses_bounds, undefined_entry}
use Rattle.yw_state.specs.Given.{as_sort, element_value}
use Rattle.yw_state.specs.Identity.{Ident}
use Rattle.yw_state.specs.Joins.{has_tokens}
use Rattle.yw_state.specs.Legal.{IsAsked}
use Rattle.yw_state.specs.Options.{is_some_and}
use Rattle.yw_state.specs.Passing.{elements_for, entry_values, within_bounds}
use Rattle.yw_state.specs.State.{State, TaskAt, items_of, task_at}
use Rattle.yw_state.specs.Texts.{Reader, no_text, nothing}
use Rattle.yw_state.specs.Values.{Row}
use Rattle.yw_state.specs.Well.{IsWell}
use Rattle.yw_state.specs.Words.{active}
use Rattle.yw_state.specs.declared.command.Command.TheVariants as commands
use Rattle.yw_state.specs.declared.event.Event.TheVariants as events
use Rattle.yw_still.proofs.TasksGoOn.{enter_allowed}
use Rattle.yw_still.specs.Still.{may_be_made}
use Rattle.yw_within.proofs.Finding.{named_of, net_within}
use Rattle.yw_within.specs.Within.{HoldsWithin}
use Rattle.yw_asked.proofs.Fitting.{sort_fits}
use Rattle.yw_asked.proofs.Given.{rows_there, undefined, values_there}
use Rattle.yw_asked.proofs.Unbroken.{event_without_text, is_clear, known, none_broken, one_left, passes, some_of, unmapped}
use Rattle.yw_asked.specs.Asked.{HasEventUnbroken}

-- an entry that is allowed is one that is asked for: so many items come
pub enter_is_asked : (reader : Reader) (s : State) (who : List ℕ) (i : Ident) (t : List ℕ) (places : List Place) (count : ℕ)
    → Allowed s (events.Enter i t places s.next count) nothing → IsAsked reader s (commands.Enter who i t) (events.Enter i t places s.next count)
unfolding IsAsked allows
enter_is_asked reader s who i t places count allowed =
    let (x, is, may) = there_and (task_at s i t) _ (and_right _ _ allowed.0) in
    let (rows, are, made) = there_and (entry_values x.task x.within.part.vals) _ (and_left _ _ (and_right _ _ (and_left _ _ may))) in
    let counted : entry_count x ≡ count = ap (λ (o : Option (List Row)). length (unwrap_or o [])) are ∙ eqb-true (length rows) count made in (
      places,
      sym (ap (option_map (λ (y : TaskAt). events.Enter i t places s.next (entry_count y))) is ∙ ap (λ n. Some (events.Enter i t places s.next n)) counted),
    )

module _ (reader : Reader) (s : State) (well : IsWell reader s) (holds : HoldsWithin s) (who : List ℕ) (i : Ident) (t : List ℕ) where
  pub enter_has_event : HasEventUnbroken reader s (commands.Enter who i t)
  unfolding checks IsAsked
  enter_has_event unbroken =
      let (person, f) = none_broken (checks reader s (commands.Enter who i t)) unbroken in
      let (net, f) = f in
      let (still, f) = f in
      let (task, f) = f in
      let (by_itself, f) = f in
      let (role, f) = f in
      let (loose, f) = f in
      let (idle, f) = f in
      let (tokens, f) = f in
      let (no_wait, f) = f in
      let (mapping, f) = f in
      let (bounds, f) = f in
      let (numbers, f) = f in
      let (x, is) = some_of (task_at s i t) task in
      let of = named_of s i t x is in
      let (spec, within) = net_within s holds i x.within of.stands in
      let (rows, are) = rows_there x.task x.within.part.vals (within.each_task x.number x.task of.task).element (elements_for x.task.many x.within.part.vals) refl
      (ap (option_and_then undefined_entry) (sym is) ∙ mapping) in
      let fits = fits_so x rows are (not-false _ (known is misses_bounds bounds)) (known is (λ y. is_spent s (entry_count y)) numbers) in
      let free = is_clear reader s i well still loose in
      let may = and_from _ _ (and_from _ _ (and_from _ _ free (ap not (known is (λ y. active s i y.number) idle))) (not-false _ (known is (λ y. not (has_tokens y.task.join s i y.task.before)) tokens)))
      (passes are (may_be_made s x) fits) in
      let (places, count, allowed) = enter_allowed s holds i x of t is may (λ or waits. no_wait (x, is, or, waits)) in
      event_without_text reader s (commands.Enter who i t) (events.Enter i t places s.next count) (refl {a = no_text})
      (enter_is_asked reader s who i t places count allowed) allowed
    where
      fits_so : (x : TaskAt) (rows : List Row) → entry_values x.task x.within.part.vals ≡ Some rows
          → within_bounds x.task.many (entry_count x) ≡ true → is_spent s (entry_count x) ≡ false → may_be_made s x rows ≡ true
      fits_so x rows are bounds numbers =
          let same : entry_count x ≡ length rows = ap (λ (o : Option (List Row)). length (unwrap_or o [])) are in
          and_from _ _ (ap (within_bounds x.task.many) (sym same) ∙ bounds)
          (le-leb (s.next + length rows) number_end (ltb-false number_end (s.next + length rows) (ap (is_spent s) (sym same) ∙ numbers)))

  pub add_has_event : (value : Option Value) → HasEventUnbroken reader s (commands.Add who i t value)
  unfolding checks IsAsked allows
  add_has_event value unbroken =
      let (person, f) = none_broken (checks reader s (commands.Add who i t value)) unbroken in
      let (net, f) = f in
      let (still, f) = f in
      let (task, f) = f in
      let (dynamic, f) = f in
      let (role, f) = f in
      let (loose, f) = f in
      let (stage, f) = f in
      let (most, f) = f in
      let (given_value, f) = f in
      let (mapping, f) = f in
      let (numbers, f) = f in
      let (x, is) = some_of (task_at s i t) task in
      let of = named_of s i t x is in
      let (spec, within) = net_within s holds i x.within of.stands in
      let at_work : active s i x.number ≡ true = not-false _ (known is (λ y. not (active s i y.number)) stage) in
      let grows : is_some_and x.task.many (λ (m : Many). m.dynamic) ≡ true = not-false _ (known is (λ y. not (is_some_and y.task.many (λ (m : Many). m.dynamic))) dynamic) in
      let (m, many, on) = there_and x.task.many (λ (m : Many). m.dynamic) grows in
      let few : nat_le m.max (length (items_of s i x.number)) ≡ false =
      known many (λ (k : Many). nat_le k.max (length (items_of s i x.number))) (known is (λ y. is_some_and y.task.many (λ (k : Many). nat_le k.max (length (items_of s i y.number)))) most) in
      let (v, element) = element_there (element_value x.task value) (ap (option_and_then (λ (y : TaskAt). if is_none (element_value y.task value) then Some (codes "value") else None)) (sym is) ∙ given_value) in
      let (p, p_is, of_sort) = then_some (λ (q : Param). as_sort q.sort value) (element_param x.task) v element in
      let defined : find (undefined x.within.part.vals) x.task.ins ≡ None =
      unmapped _ _ (ap (option_and_then (λ (y : TaskAt). option_map (λ (q : Param). q.name) (find (undefined y.within.part.vals) y.task.ins))) (sym is) ∙ mapping) in
      let (row, given) = values_there x.task x.within.part.vals (within.each_task x.number x.task of.task).element (Some v) (λ e. refl) defined in
      let enough = and_from _ _ on (lt-ltb (length (items_of s i x.number)) m.max (leb-false m.max (length (items_of s i x.number)) few)) in
      let may = and_from _ _ (and_from _ _ (and_from _ _ at_work (passes many (λ k. k.dynamic && nat_lt (length (items_of s i x.number)) k.max) enough))
      (passes p_is (λ q. may_hold q.sort v) (sort_fits p.sort value v of_sort))) (ap (λ (o : Option Row). is_some o) given) in
      event_without_text reader s (commands.Add who i t value) (events.Add i t v s.next) refl
      (sym (ap (option_map (λ w. events.Add i t w s.next)) (ap (option_and_then (λ (y : TaskAt). element_value y.task value)) is ∙ element)))
      (and_from _ _ (and_from _ _ (is_clear reader s i well still loose) (passes is (may_add s i v) may)) (one_left s numbers), tt)
    where
      element_there : (o : Option Value) → (if is_none o then Some (codes "value") else None) ≡ None → (v : Value) × (o ≡ Some v)
      element_there None e = nowhere (sym e)
      element_there (Some v) e = (v, refl)
