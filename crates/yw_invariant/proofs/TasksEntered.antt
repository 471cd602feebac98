-- A task is entered: tokens are taken, and items come for all elements of its list, or the one that it has. What is well stays well.
use Rattle.std.specs.Prelude.{◌≡◌, ◌≤◌, ◌+◌, ◌==◌, ◌&&◌, ℕ, Bool, true, false, not, List, [], ◌∷◌, length, fold, map, Option, Some, None, option_and_then, option_map, unwrap_or, nat_le, nat_lt, refl}
use Rattle.std.proofs.Common.{sym, ◌∙◌, ap, subst, arith}
use Rattle.std.proofs.lemmas.Bool.{and_parts, eqb-true, leb-true, ltb-false, not-true}
use Rattle.yw_base.specs.Identity.{number_end}
use Rattle.yw_spec.specs.declared.spec.Place.{Place}
use Rattle.yw_spec.specs.declared.task.Many.{Many}
use Rattle.yw_spec.specs.declared.task.Task.{Task}
use Rattle.yw_invariant.proofs.Given.{entry_fits}
use Rattle.yw_invariant.proofs.Children.{draws_next}
use Rattle.yw_invariant.proofs.ItemsCome.{all_added, checks_have_rules, short}
use Rattle.yw_invariant.proofs.NetGoesOn.{KeepsNet, count_same, goes_on_is_well, net_there_now, rebased}
use Rattle.yw_invariant.proofs.Tasks.{OfTask, task_there}
use Rattle.yw_invariant.proofs.Tasks as tasks
use Rattle.yw_invariant.proofs.TokensFit.{one_less, taken_few, taken_length}
use Rattle.yw_sound.specs.Sound.{ReadsSound}
use Rattle.yw_state.proofs.MapLemmas.{by_option, by_test, never, some_same}
use Rattle.yw_state.proofs.Tests.{map_some, then_some}
use Rattle.yw_state.specs.After.{add_items, enter, item_checks, take, where_some, with_next}
use Rattle.yw_state.specs.Allowed.{Allowed, allows, place_numbers}
use Rattle.yw_state.specs.Events.{after}
use Rattle.yw_state.specs.Identity.{Ident}
use Rattle.yw_state.specs.Joins.{joins}
use Rattle.yw_state.specs.Options.{all_of, is_some_and}
use Rattle.yw_state.specs.Passing.{elements_for, entry_values, given_values, within_bounds}
use Rattle.yw_state.specs.State.{State, NetPart, NetAt, TaskAt, items_of, net_at, task_at}
use Rattle.yw_state.specs.Texts.{Reader, Said}
use Rattle.yw_state.specs.Values.{Row}
use Rattle.yw_state.specs.Well.{IsWell, NetFits, item_limit}
use Rattle.yw_state.specs.Words.{active, clear}
use Rattle.yw_state.specs.declared.event.Event.TheVariants as events

-- ---- how many items come

as_many : {A B : Type 0} (f : A → Option B) (xs : List A) (ys : List B) → all_of (map f xs) ≡ Some ys → length ys ≡ length xs
as_many f [] ys e = ap (λ zs. length zs) (sym (some_same [] ys e))
as_many {A} {B} f (x ∷ xs) ys e =
    let (z, here, rest) = then_some (λ (z : B). option_map (λ (zs : List B). z ∷ zs) (all_of (map f xs))) (f x) ys e in
    let (zs, there, made) = map_some (λ (zs : List B). z ∷ zs) (all_of (map f xs)) ys rest in
    let rest_as_many = as_many f xs zs there in
    let whole = ap (λ (vs : List B). length vs) made in
    omega (arith, rest_as_many, whole)

within_most : (t : Task) (row : Row) (many : Option Many) (rows : List Row) → option_and_then (λ es. all_of (map (given_values t row) es)) (elements_for many row) ≡ Some rows → within_bounds many (length rows) ≡ true → length rows ≤ item_limit many
within_most t row None rows e within = let one = as_many (given_values t row) (None ∷ []) rows e in omega (arith, one)
within_most t row (Some m) rows e within = leb-true (length rows) m.max (and_parts (nat_le m.min (length rows)) (nat_le (length rows) m.max) within).1

module _ (reader : Reader) (sound : ReadsSound reader) (s : State) (well : IsWell reader s) (i : Ident) (x : TaskAt) (of : OfTask s i x) (cs : List ℕ) where
  abbrev without : NetPart → NetPart
  without n = record n { tokens = fold one_less n.tokens cs }

  keeps : KeepsNet without
  keeps = record { spec = λ n. refl; net = λ n. refl }

  fits : (w : NetAt) → net_at s i ≡ Some w → NetFits (rebased without w)
  fits w net =
      let fit = well.content.net i w net in
      record { vals = fit.vals; places = taken_length cs w.part.tokens ∙ fit.places; counts = taken_few cs w.part.tokens fit.counts }

  -- the task, in the net from which tokens are taken
  abbrev task_then : TaskAt
  task_then = record x { within = rebased without x.within }

  module _ (first : ℕ) (rows : List Row) (rows_are : entry_values x.task x.within.part.vals ≡ Some rows) (within : within_bounds x.task.many (length rows) ≡ true) (none : active s i x.number ≡ false) where
    few : length (items_of (take s i cs) i x.number) + length rows ≤ item_limit x.task.many
    few =
        let same = count_same s i without keeps fits i x.number in
        let most = within_most x.task x.within.part.vals x.task.many rows rows_are within in
        by_test (nat_lt 0 (length (items_of s i x.number)))
        (λ some. never (sym none ∙ some))
        (λ idle. none_before (length (items_of s i x.number)) idle same most)
      where
        none_before : {now more bound : ℕ} (before : ℕ) → nat_lt 0 before ≡ false → now ≡ before → more ≤ bound → now + more ≤ bound
        none_before before idle same most = let zero_before = ltb-false 0 before idle in omega (arith, zero_before, same, most)

    entered_is_well : first ≡ s.next → first + length rows ≤ number_end → IsWell reader (add_items x i first rows (take s i cs))
    entered_is_well is_counter room =
        let net = tasks.net_sound reader sound s well i x.within of.within in
        let fit = entry_fits x.within.net x.task x.within.part.vals (well.content.net i x.within of.within).vals (tasks.of_spec s i x.within of.within).spec (net.tasks x.number x.task of.task) rows rows_are in
        all_added reader i (short reader sound s well i x of) task_then (item_checks (take s i cs) x) rows fit (take s i cs) first
        (record {
          well = subst (λ n. IsWell reader (with_next (take s i cs) n)) (sym is_counter) (goes_on_is_well s i without keeps fits reader well);
          within = net_there_now s i without keeps fits x.within of.within;
          task = of.task;
          few = few;
          room = room;
          checks = checks_have_rules (take s i cs) x;
        })

module _ (reader : Reader) (sound : ReadsSound reader) (s : State) (i : Ident) (t : List ℕ) (places : List Place) (first count : ℕ) (said : Said) (well : IsWell reader s) where
  -- the places, the items and their numbers are as `allows` demands
  abbrev makes : TaskAt → Bool
  makes x = is_some_and (entry_values x.task x.within.part.vals) (λ rows. length rows == count) && within_bounds x.task.many count

  abbrev takes : TaskAt → Bool
  takes x = is_some_and (place_numbers x.within.net places) (joins x.task.join s i x.task.before)

  abbrev draws : Bool
  draws = first == s.next && nat_le (first + count) number_end

  abbrev may_enter : TaskAt → Bool
  may_enter x = not (active s i x.number) && takes x && makes x && draws

  entered_task : (x : TaskAt) → OfTask s i x → may_enter x ≡ true → IsWell reader (enter s i places first x)
  entered_task x of may =
      let drawn = and_parts (not (active s i x.number) && takes x && makes x) draws may in
      let made = and_parts (not (active s i x.number) && takes x) (makes x) drawn.0 in
      let free = and_parts (not (active s i x.number)) (takes x) made.0 in
      let bounds = and_parts (is_some_and (entry_values x.task x.within.part.vals) (λ rows. length rows == count)) (within_bounds x.task.many count) made.1 in
      let (is_counter, room) = draws_next s first count drawn.1 in
      by_option (entry_values x.task x.within.part.vals)
      (λ none. never (ap (λ o. is_some_and o (λ (rows : List Row). length rows == count)) (sym none) ∙ bounds.0))
      (λ rows rows_are.
      let as_counted : length rows ≡ count = eqb-true (length rows) count (ap (λ o. is_some_and o (λ (rs : List Row). length rs == count)) (sym rows_are) ∙ bounds.0) in
      subst (λ o. IsWell reader (add_items x i first (unwrap_or o []) (take s i (unwrap_or (place_numbers x.within.net places) [])))) (sym rows_are)
      (entered_is_well reader sound s well i x of (unwrap_or (place_numbers x.within.net places) []) first rows rows_are (ap (within_bounds x.task.many) as_counted ∙ bounds.1) (not-true _ free.0) is_counter (omega (arith, as_counted, room))))

  pub enter_keeps_well : Allowed s (events.Enter i t places first count) said → IsWell reader (after s (events.Enter i t places first count) said)
  unfolding allows after
  enter_keeps_well allowed =
      let may = (and_parts (clear s i) (is_some_and (task_at s i t) may_enter) allowed.0).1 in
      by_option (task_at s i t)
      (λ none. subst (λ o. IsWell reader (where_some o s (enter s i places first))) (sym none) well)
      (λ x task_is.
      subst (λ o. IsWell reader (where_some o s (enter s i places first))) (sym task_is)
      (entered_task x (task_there s i t x task_is) (ap (λ o. is_some_and o may_enter) (sym task_is) ∙ may)))
