-- Items of a task come one behind the other, and one comes where a person adds it: what is well stays well.
use Rattle.std.specs.Prelude.{◌≡◌, ◌≤◌, ◌<◌, ◌+◌, ◌&&◌, ℕ, suc, Bool, true, List, [], ◌∷◌, length, fold, Option, Some, None, is_some, slice_get, nat_lt, refl}
use Rattle.std.specs.List.{All, range_with_len, zip}
use Rattle.std.proofs.Common.{sym, ◌∙◌, ap, subst, arith}
use Rattle.std.proofs.lemmas.Bool.{and_parts, ltb-true}
use Rattle.std.proofs.lemmas.List.Elements.{All-head, All-tail}
use Rattle.yw_base.specs.Identity.{most_numbers, number_end, child}
use Rattle.yw_base.specs.Values.{may_hold}
use Rattle.yw_base.specs.declared.value.Value.{Value}
use Rattle.yw_spec.specs.declared.task.Many.{Many}
use Rattle.yw_spec.specs.declared.task.Param.{Param}
use Rattle.yw_invariant.proofs.Children.{child_is_new, draws_next, parent_child}
use Rattle.yw_invariant.proofs.Given.{given_row_fits}
use Rattle.yw_invariant.proofs.ItemComes.{ItemMayCome, item_come_is_well, net_at_same, one_more_at_most}
use Rattle.yw_invariant.proofs.Levels.{net_is_short}
use Rattle.yw_invariant.proofs.Tasks.{OfTask, task_there}
use Rattle.yw_invariant.proofs.Tasks as tasks
use Rattle.yw_sound.specs.Sound.{ReadsSound}
use Rattle.yw_state.proofs.MapLemmas.{by_option, never}
use Rattle.yw_state.proofs.Standing.{Standing, at_net}
use Rattle.yw_state.specs.After.{add, add_item, item_checks, where_some, with_next}
use Rattle.yw_state.specs.Allowed.{Allowed, allows, element_param, is_next}
use Rattle.yw_state.specs.Events.{after}
use Rattle.yw_state.specs.Identity.{Ident}
use Rattle.yw_state.specs.Judged.{has_rules, task_place}
use Rattle.yw_state.specs.Nets.{is_atomic}
use Rattle.yw_state.specs.Options.{is_some_and}
use Rattle.yw_state.specs.Passing.{given_values, row_fits}
use Rattle.yw_state.specs.State.{State, TaskAt, items_of, net_at, task_at}
use Rattle.yw_state.specs.Texts.{Reader, Said}
use Rattle.yw_state.specs.Values.{Row}
use Rattle.yw_state.specs.Well.{IsWell, item_limit}
use Rattle.yw_state.specs.Words.{active, clear, has_check}
use Rattle.yw_state.specs.declared.event.Event.TheVariants as events
use Rattle.yw_state.specs.declared.part.Checks.{Checks}
use Rattle.yw_state.specs.declared.tree.TreeKind.{TreeKind}
use Rattle.yw_state.specs.declared.tree.TreeKind.TheVariants.{Pre, Post, Select}

-- ---- one item, and more

-- So many items more of the task may come with these checks, numbered from m on.
pub record MayAdd (reader : Reader) (s : State) (m : ℕ) (i : Ident) (x : TaskAt) (due : Checks) (more : ℕ) : Type 0 where
  pub well : IsWell reader (with_next s m)
  pub within : net_at s i ≡ Some x.within
  pub task : slice_get x.within.net.tasks x.number ≡ Some x.task
  pub few : length (items_of s i x.number) + more ≤ item_limit x.task.many
  pub room : m + more ≤ number_end
  pub checks : (kind : TreeKind) → has_check due kind ≡ true → has_rules s (task_place x kind) ≡ true

-- the checks with which items of the task come are by trees that have rules
pub checks_have_rules : (s : State) (x : TaskAt) (kind : TreeKind) → has_check (item_checks s x) kind ≡ true → has_rules s (task_place x kind) ≡ true
checks_have_rules s x Pre e = e
checks_have_rules s x Select e = (and_parts (is_atomic x.task) (has_rules s (task_place x Select)) e).1
checks_have_rules s x Post e = never e
checks_have_rules s x kind e = never e

module _ (reader : Reader) (i : Ident) (short : length i < most_numbers) (x : TaskAt) (due : Checks) where
  module _ (s : State) (m more : ℕ) (may : MayAdd reader s m i x due (suc more)) (given : Row) (fits : row_fits x.task.ins given ≡ true) where
    abbrev now : State
    now = with_next s m

    abbrev j : Ident
    j = child i m

    net_stands : Standing now i
    net_stands = at_net now i x.within may.within

    may_come : ItemMayCome now j x given due (m + 1)
    may_come =
        record {
          fresh = child_is_new now may.well.numbers i net_stands.0 net_stands.1 short m refl (let all = may.room in omega (arith, all));
          within = ap (net_at s) (parent_child i m) ∙ may.within;
          task = may.task;
          fits = fits;
          few = subst (λ k. length (items_of s k x.number) < item_limit x.task.many) (sym (parent_child i m)) (let few = may.few in omega (arith, few));
          checks = may.checks;
        }

    one_added : MayAdd reader (add_item x i due s (m, given)) (m + 1) i x due more
    one_added =
        let few = may.few in
        let all = may.room in
        let one = one_more_at_most now j x given due (m + 1) may_come may.well.numbers i x.number in
        record {
          well = item_come_is_well now j x given due (m + 1) may_come may.well.numbers reader may.well;
          within = net_at_same now j x given due (m + 1) may_come may.well.numbers i ∙ may.within;
          task = may.task;
          few = omega (arith, one, few);
          room = omega (arith, all);
          checks = may.checks;
        }

  pub all_added : (rows : List Row) → All (λ given. row_fits x.task.ins given ≡ true) rows → (s : State) (m : ℕ) → MayAdd reader s m i x due (length rows)
      → IsWell reader (with_next (fold (add_item x i due) s (zip (range_with_len m (length rows)) rows)) (m + length rows))
  all_added [] fit s m may = let same : m ≡ m + 0 = omega arith in subst (λ n. IsWell reader (with_next s n)) same may.well
  all_added (given ∷ rows) fit s m may =
      let Fits : Row → Type 0 = λ row. row_fits x.task.ins row ≡ true in
      let same : m + 1 + length rows ≡ m + length (given ∷ rows) = omega arith in
      subst (λ n. IsWell reader (with_next (fold (add_item x i due) s (zip (range_with_len m (length (given ∷ rows))) (given ∷ rows))) n)) same
      (all_added rows (All-tail Fits given rows fit) (add_item x i due s (m, given)) (m + 1) (one_added s m (length rows) may given (All-head Fits given rows fit)))

-- ---- a person adds an item

module _ (reader : Reader) (sound : ReadsSound reader) (s : State) (well : IsWell reader s) (i : Ident) (x : TaskAt) (of : OfTask s i x) where
  pub short : length i < most_numbers
  short = let less = net_is_short reader s well sound i x.within of.within in omega (arith, less)

  module _ (value : Value) (n : ℕ) (element : is_some_and (element_param x.task) (λ p. may_hold p.sort value) ≡ true) (given : Row) (given_is : given_values x.task x.within.part.vals (Some value) ≡ Some given) where
    given_fits : row_fits x.task.ins given ≡ true
    given_fits =
        let net = tasks.net_sound reader sound s well i x.within of.within in
        given_row_fits x.within.net x.task x.within.part.vals (well.content.net i x.within of.within).vals (tasks.of_spec s i x.within of.within).spec (net.tasks x.number x.task of.task) (Some value)
        (λ p is. ap (λ o. is_some_and o (λ (q : Param). may_hold q.sort value)) (sym is) ∙ element) given given_is

    added_is_well : is_next s n ≡ true → length (items_of s i x.number) < item_limit x.task.many → IsWell reader (with_next (add_item x i (item_checks s x) s (n, given)) (n + 1))
    added_is_well next few =
        let (is_counter, room) = draws_next s n 1 next in
        (one_added reader i short x (item_checks s x) s n 0
        (record {
          well = subst (λ k. IsWell reader (with_next s k)) (sym is_counter) well;
          within = of.within;
          task = of.task;
          few = omega (arith, few);
          room = room;
          checks = checks_have_rules s x;
        })
        given given_fits).well

module _ (reader : Reader) (sound : ReadsSound reader) (s : State) (i : Ident) (t : List ℕ) (value : Value) (n : ℕ) (said : Said) (well : IsWell reader s) where
  abbrev fewer : TaskAt → Many → Bool
  fewer x m = m.dynamic && nat_lt (length (items_of s i x.number)) m.max

  abbrev holds : Param → Bool
  holds p = may_hold p.sort value

  abbrev gives : TaskAt → Option Row
  gives x = given_values x.task x.within.part.vals (Some value)

  abbrev may_be_added : TaskAt → Bool
  may_be_added x = active s i x.number && is_some_and x.task.many (fewer x) && is_some_and (element_param x.task) holds && is_some (gives x)

  few_stand : (x : TaskAt) (many : Option Many) → is_some_and many (fewer x) ≡ true → length (items_of s i x.number) < item_limit many
  few_stand x None e = never e
  few_stand x (Some m) e = ltb-true (length (items_of s i x.number)) m.max (and_parts m.dynamic (nat_lt (length (items_of s i x.number)) m.max) e).1

  added_to_task : (x : TaskAt) → OfTask s i x → may_be_added x ≡ true → is_next s n ≡ true → IsWell reader (add s i value n x)
  added_to_task x of may next =
      let fits = and_parts (active s i x.number && is_some_and x.task.many (fewer x) && is_some_and (element_param x.task) holds) (is_some (gives x)) may in
      let element = and_parts (active s i x.number && is_some_and x.task.many (fewer x)) (is_some_and (element_param x.task) holds) fits.0 in
      let few = few_stand x x.task.many (and_parts (active s i x.number) (is_some_and x.task.many (fewer x)) element.0).1 in
      by_option (gives x)
      (λ none. never (ap is_some (sym none) ∙ fits.1))
      (λ given given_is.
      subst (λ o. IsWell reader (where_some o s (λ row. with_next (add_item x i (item_checks s x) s (n, row)) (n + 1)))) (sym given_is)
      (added_is_well reader sound s well i x of value n element.1 given given_is next few))

  pub add_keeps_well : Allowed s (events.Add i t value n) said → IsWell reader (after s (events.Add i t value n) said)
  unfolding allows after
  add_keeps_well allowed =
      let drawn = and_parts (clear s i && is_some_and (task_at s i t) may_be_added) (is_next s n) allowed.0 in
      let may = (and_parts (clear s i) (is_some_and (task_at s i t) may_be_added) drawn.0).1 in
      by_option (task_at s i t)
      (λ none. subst (λ o. IsWell reader (where_some o s (add s i value n))) (sym none) well)
      (λ x task_is.
      subst (λ o. IsWell reader (where_some o s (add s i value n))) (sym task_is)
      (added_to_task x (task_there s i t x task_is) (ap (λ o. is_some_and o may_be_added) (sym task_is) ∙ may) drawn.1))
