-- To start and to complete an item.
use Rattle.std.specs.Prelude.{◌≡◌, ◌&&◌, ◌||◌, ℕ, true, false, not, List, [], Option, Some, None, find, is_none, is_some, option_and_then, option_map, slice_get, unwrap_or, refl}
use Rattle.std.specs.Option.{option_map_or}
use Rattle.std.proofs.Common.{sym, ◌∙◌, ap}
use Rattle.std.proofs.lemmas.Bool.{and_from, not-false, or_parts, or_right}
use Rattle.yw_expr.specs.Meaning.{val}
use Rattle.yw_spec.specs.declared.spec.Var.{Var}
use Rattle.yw_spec.specs.declared.task.Assign.{Assign}
use Rattle.yw_state.proofs.Tests.{by_test, never, there}
use Rattle.yw_state.specs.Allowed.{allows, may_complete}
use Rattle.yw_state.specs.Broken.{checks}
use Rattle.yw_state.specs.Given.{made_values, misfit}
use Rattle.yw_state.specs.Identity.{Ident}
use Rattle.yw_base.specs.Identity.{parent}
use Rattle.yw_state.specs.Legal.{IsAsked}
use Rattle.yw_state.specs.Nets.{is_atomic}
use Rattle.yw_state.specs.Passing.{made_rows_with, set_row}
use Rattle.yw_state.specs.State.{State, ItemAt, is_item, item_at, item_part, items_of, net_part}
use Rattle.yw_state.specs.Texts.{Reader}
use Rattle.yw_state.specs.Values.{Row}
use Rattle.yw_state.specs.Well.{IsWell, wants_net}
use Rattle.yw_state.specs.Words.{is_executing, is_ready}
use Rattle.yw_state.specs.declared.command.Command.TheVariants as commands
use Rattle.yw_state.specs.declared.command.Given.{Given}
use Rattle.yw_state.specs.declared.event.Event.TheVariants as events
use Rattle.yw_asked.proofs.Fitting.{all_defined, made_there}
use Rattle.yw_asked.proofs.Unbroken.{event_without_text, is_clear, known, none_broken, none_of, passes, unmapped}
use Rattle.yw_asked.specs.Asked.{HasEventUnbroken}

module _ (reader : Reader) (s : State) (well : IsWell reader s) (who : List ℕ) (j : Ident) where
  item_there : not (is_item s j) ≡ false → (x : ItemAt) × (item_at s j ≡ Some x)
  item_there item =
      let (part, is_part) = there (item_part s j) (not-false _ item) in
      there (item_at s j) (well.parents.item_of_net j part is_part)

  pub start_has_event : HasEventUnbroken reader s (commands.Start who j)
  unfolding checks IsAsked allows
  start_has_event unbroken =
      let (person, f) = none_broken (checks reader s (commands.Start who j)) unbroken in
      let (item, f) = f in
      let (still, f) = f in
      let (by_itself, f) = f in
      let (role, f) = f in
      let (loose, f) = f in
      let (stage, f) = f in
      let (idle, f) = f in
      let (x, is) = item_there item in
      let at : is_ready x.part.stage ≡ true = not-false _ (known is (λ y. not (is_ready y.part.stage)) stage) in
      let kind : is_atomic x.of_task.task ≡ true = not-false _ (known is (λ y. not (is_atomic y.of_task.task)) by_itself) in
      let free = and_from _ _ (is_clear reader s j well still loose) (ap not idle) in
      event_without_text reader s (commands.Start who j) (events.Start j who) refl refl
      (and_from _ _ free (passes is (λ y. is_ready y.part.stage && is_atomic y.of_task.task) (and_from _ _ at kind)), tt)

  module _ (gs : List Given) where
    -- a begun item of an atomic task, at which no net stands, was begun by someone
    begun_by_someone : (x : ItemAt) → item_at s j ≡ Some x → is_atomic x.of_task.task ≡ true → is_executing x.part.stage ≡ true → is_some (net_part s j) ≡ false → is_some x.part.who ≡ true
    begun_by_someone x is atomic at none = by_test (is_some x.part.who) (λ e. e) (λ nobody.
        let wants : wants_net x ≡ true = and_from _ _ at (or_right _ _ (and_from _ _ atomic (none_of x.part.who nobody))) in
        never (sym none ∙ well.nets.item_has j x is wants))

    -- as `undefined_set` has it
    abbrev undefined_assign : Row → ItemAt → Option Assign
    undefined_assign out x =
        find (λ (a : Assign). is_none (val a.value (set_row x.of_task.task (made_rows_with (items_of s (parent j) x.part.task) j out) x.of_task.within.part.vals))) x.of_task.task.set

    abbrev undefined_name : Row → ItemAt → Option (List ℕ)
    undefined_name out x = option_map (λ (a : Assign). option_map_or (λ (v : Var). v.name) (slice_get x.of_task.within.net.vars a.var) []) (undefined_assign out x)

    pub complete_has_event : HasEventUnbroken reader s (commands.Complete who j gs)
    unfolding checks IsAsked allows
    complete_has_event unbroken =
        let (person, f) = none_broken (checks reader s (commands.Complete who j gs)) unbroken in
        let (item, f) = f in
        let (still, f) = f in
        let (by_itself, f) = f in
        let (loose, f) = f in
        let (stage, f) = f in
        let (others, f) = f in
        let (idle, f) = f in
        let (output, f) = f in
        let (mapping, f) = f in
        let (x, is) = item_there item in
        let kind = or_parts (not (is_atomic x.of_task.task)) (is_some (net_part s j)) (known is (λ y. not (is_atomic y.of_task.task) || is_some (net_part s j)) by_itself) in
        let at : is_executing x.part.stage ≡ true = not-false _ (known is (λ y. not (is_executing y.part.stage)) stage) in
        let (out, made, fits) = made_there x.of_task.task.outs gs (ap (option_and_then (λ (y : ItemAt). misfit y.of_task.task.outs gs)) (sym is) ∙ output) in
        let defined : undefined_assign out x ≡ None = unmapped _ _ (ap (λ o. undefined_name (unwrap_or o []) x) (sym made)
        ∙ ap (option_and_then (λ (y : ItemAt). undefined_name (unwrap_or (made_values y.of_task.task.outs gs) []) y)) (sym is) ∙ mapping) in
        let someone = begun_by_someone x is (not-false _ kind.0) at kind.1 in
        let may = and_from _ _ (and_from _ _ (and_from _ _ (and_from _ _ at someone) (none_of (net_part s j) kind.1)) fits) (all_defined _ x.of_task.task.set defined) in
        let free = and_from _ _ (is_clear reader s j well still loose) (ap not idle) in
        event_without_text reader s (commands.Complete who j gs) (events.Complete j out) refl
        (sym (ap (option_map (events.Complete j)) (ap (option_and_then (λ (y : ItemAt). made_values y.of_task.task.outs gs)) is ∙ made)))
        (and_from _ _ free (passes is (may_complete s j out) may), tt)
