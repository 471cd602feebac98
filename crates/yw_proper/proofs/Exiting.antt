-- Where a task exits, its net gets no heavier: the task is active no longer, and what its split puts weighs as much as the task, or less.
use Rattle.std.specs.Prelude.{◌≡◌, ◌≤◌, ◌+◌, ◌*◌, ◌&&◌, ◌||◌, ℕ, Bool, true, false, List, [], ◌∷◌, fold, length, Some, None, nat_eq, option_and_then, option_map, slice_get, unwrap_or, refl, if◌then◌else◌}
use Rattle.std.specs.Cmp.Lexicographic.{pointwise}
use Rattle.std.specs.List.{list_all}
use Rattle.std.proofs.Common.{sym, ◌∙◌, ap, subst, arith, le_trans}
use Rattle.std.proofs.Math.Nat.{mul-le-mul_right}
use Rattle.std.proofs.lemmas.Bool.{and_parts, eq-eqb, eqb-true, leb-true}
use Rattle.std.proofs.lemmas.Option.{slice_get_within}
use Rattle.yw_base.specs.Identity.{under}
use Rattle.yw_base.specs.declared.gate.Gate.{Gate}
use Rattle.yw_base.specs.declared.gate.Gate.TheVariants.{And, Xor, Or}
use Rattle.yw_invariant.proofs.Changes.{at_each}
use Rattle.yw_invariant.proofs.Places.{under_itself}
use Rattle.yw_invariant.proofs.Tasks.{OfTask, net_sound, task_there}
use Rattle.yw_proper.proofs.Active.{active_item}
use Rattle.yw_proper.proofs.Calm.{due-leaves}
use Rattle.yw_proper.proofs.Entering.{within_is}
use Rattle.yw_proper.proofs.Lighter.{Holds, ItemFrom, Leaves, Lighter, NetFrom, active_before, changed_from, counted, item_itself, leaves-change, leaves-drop_all, leaves-if, leaves-same, leaves-then, net-then, net_before, net_itself, net_mapped, item-then, still_holds, weighs_less}
use Rattle.yw_proper.proofs.NetsComing.{some_holds}
use Rattle.yw_proper.proofs.Sums.{total_falls, total_less}
use Rattle.yw_proper.proofs.Tokens.{emptied_fewer, filter_weighs, one_weighs, put_each, weigh_less}
use Rattle.yw_proper.specs.Load.{IsNetOf, load, tasks_weigh, tokens_weigh}
use Rattle.yw_proper.specs.Proper.{IsProper, split_weighs, weight_of_each, weight_of_place, weight_of_task}
use Rattle.yw_sound.specs.Sound.{ReadsSound, are_apart}
use Rattle.yw_spec.specs.declared.spec.Net.{Net}
use Rattle.yw_spec.specs.declared.spec.Place.{Place}
use Rattle.yw_spec.specs.declared.spec.Spec.{Spec}
use Rattle.yw_spec.specs.declared.task.Task.{Task}
use Rattle.yw_state.proofs.Absent.{idents_of}
use Rattle.yw_state.proofs.Entries.{entry-found, mapped_in, passes}
use Rattle.yw_state.proofs.Leaving.{without_items-gone}
use Rattle.yw_state.proofs.MapLemmas.{by_name, get-update_other}
use Rattle.yw_state.proofs.Tests.{by_test, map_some, never, nowhere, same_numbers, then_some, there_and}
use Rattle.yw_state.proofs.Updated.{made_here}
use Rattle.yw_state.specs.After.{count_on, exit, exit_to, items_gone, make_due, no_more, one_more, produce, region_emptied, values_assigned, where_some, wipe, with_net, without_items}
use Rattle.yw_state.specs.Allowed.{Allowed, allows, exit_values, has_room_for, may_exit, may_leave, place_numbers, puts_on}
use Rattle.yw_state.specs.Gone.{under_item}
use Rattle.yw_state.specs.Identity.{Ident, is_case_ident, is_child}
use Rattle.yw_state.specs.Judged.{case_place}
use Rattle.yw_state.specs.Map.{entries, get}
use Rattle.yw_state.specs.Nets.{is_among}
use Rattle.yw_state.specs.Options.{is_some_and}
use Rattle.yw_state.specs.Passing.{split_places, true_places}
use Rattle.yw_state.specs.State.{State, Site, NetPart, ItemPart, TaskAt, if_of_task, item_of_task, item_part, items_of, net_part, spec_called, task_at, tokens_on}
use Rattle.yw_state.specs.Texts.{Reader, Said}
use Rattle.yw_state.specs.Values.{Row}
use Rattle.yw_state.specs.Well.{IsWell}
use Rattle.yw_state.specs.Words.{active, clear}
use Rattle.yw_state.specs.declared.event.Event.TheVariants as events
use Rattle.yw_state.specs.declared.loaded.Loaded.{Loaded}
use Rattle.yw_state.specs.declared.tree.TreeKind.TheVariants.{Post}

-- ---- the places to which a task goes on

-- the first of them, as splits have it
abbrev front : List ℕ → List ℕ
front [] = []
front (c ∷ cs) = c ∷ []

module _ (w : List ℕ) (own : ℕ) (t : Task) (row : Row) (once : are_apart t.after ≡ true) where
  first_alone : (ds : List ℕ) (c d : ℕ) → is_among (front ds) c ≡ true → is_among (front ds) d ≡ true → c ≡ d
  first_alone [] c d one other = never one
  first_alone (e ∷ ds) c d one other = eqb-true c e (only (nat_eq c e) one) ∙ sym (eqb-true d e (only (nat_eq d e) other))
    where
      only : (b : Bool) → (b || false) ≡ true → b ≡ true
      only true f = refl
      only false f = f

  split_puts : (gate : Gate) → split_weighs gate w t.after own ≡ true → weight_of_each w (split_places (record t { split = gate }) row) ≤ own
  split_puts And light = leb-true (weight_of_each w t.after) own light
  split_puts Xor light = one_weighs w 0 (is_among (front (true_places t.branch row))) own t.after once (first_alone (true_places t.branch row)) light
  split_puts Or light = le_trans (filter_weighs w 0 (is_among (true_places t.branch row)) t.after) (leb-true (weight_of_each w t.after) own light)

-- ---- what goes as a task exits

leaves-each : (i : Ident) (ks : List ℕ) (s : State) → Leaves s (fold (without_items i) s ks)
leaves-each i [] s = leaves-same s
leaves-each i (n ∷ ks) s = leaves-then s (without_items i s n) (fold (without_items i) (without_items i s n) ks) (leaves-drop_all (idents_of s i n) s) (leaves-each i ks (without_items i s n))

module _ (s : State) (i : Ident) (x : TaskAt) where
  abbrev gone : State
  gone = items_gone s i x

  abbrev assigned : State
  assigned = values_assigned s i x

  abbrev wiped : State
  wiped = wipe assigned i x.task.drop_places

  abbrev emptied : State
  emptied = region_emptied s i x

  gone-leaves : Leaves s gone
  gone-leaves = leaves-drop_all (idents_of s i x.number) s

  assigned-leaves : Leaves gone assigned
  assigned-leaves =
      leaves-change gone i (with_net (λ n. record n { vals = exit_values s i x }))
      (λ y. net_mapped (λ n. record n { vals = exit_values s i x }) (λ n. record { spec = refl; net = refl; fewer = λ c. omega arith }) y.net) (λ y. item_itself y.item)

  wiped-leaves : Leaves assigned wiped
  wiped-leaves =
      leaves-change assigned i (with_net (λ n. record n { tokens = fold no_more n.tokens x.task.drop_places }))
      (λ y. net_mapped (λ n. record n { tokens = fold no_more n.tokens x.task.drop_places }) (λ n. record { spec = refl; net = refl; fewer = emptied_fewer x.task.drop_places n.tokens }) y.net) (λ y. item_itself y.item)

  behind-leaves : Leaves gone emptied
  behind-leaves = leaves-then gone assigned emptied assigned-leaves (leaves-then assigned wiped emptied wiped-leaves (leaves-each i x.task.drop_tasks wiped))

  emptied-leaves : Leaves s emptied
  emptied-leaves = leaves-then s gone emptied gone-leaves behind-leaves

  -- no item of the task is left
  none_left : (q : Ident) (y : ItemPart) → item_part gone q ≡ Some y → is_child q i ≡ true → ¬ (y.task ≡ x.number)
  none_left q y stands below of_task =
      let (before, stood, task) = gone-leaves.items q y stands in
      let (site, here, item) = then_some (λ (z : Site). z.item) (get s.sites q) before stood in
      let listed = is_listed site before here item (sym task ∙ of_task) in
      nowhere (sym (ap (option_and_then (λ (z : Site). z.item)) (without_items-gone s i x.number q listed)) ∙ stands)
    where
      is_listed : (site : Site) (z : ItemPart) → get s.sites q ≡ Some site → site.item ≡ Some z → z.task ≡ x.number → under_item s i q x.number ≡ true
      is_listed site z here item same =
          passes (λ (e : Ident × ItemPart). under q e.0) (items_of s i x.number) (q, z)
          (mapped_in (λ (e : Ident × Site). item_of_task i x.number e.0 e.1) (entries s.sites) (q, site) (q, z) (entry-found by_name (entries s.sites) q site here)
          (ap (λ b. if b then option_and_then (if_of_task x.number q) site.item else None) below
          ∙ ap (option_and_then (if_of_task x.number q)) item
          ∙ ap (λ b. if b then Some (q, z) else None) (eq-eqb z.task x.number same)))
          (under_itself q)

  -- ---- and each of the places gets a token

  module _ (cs : List ℕ) where
    abbrev put_on : NetPart → NetPart
    put_on n = record n { tokens = fold one_more n.tokens cs }

    abbrev given : State
    given = produce emptied i cs

    abbrev late : State
    late = exit_to s i x cs

    late-leaves : Leaves given late
    late-leaves = leaves-if given (is_case_ident i && is_among cs x.within.net.output) (make_due given i (case_place x.within.part.spec Post)) given (due-leaves given i (case_place x.within.part.spec Post)) (leaves-same given)

    given_items : (q : Ident) → ItemFrom (item_part emptied q) (item_part given q)
    given_items q = changed_from (λ (y : Site). y.item) ItemFrom item_itself emptied i (with_net put_on) (λ y. item_itself y.item) q

    late_items : (q : Ident) → ItemFrom (item_part emptied q) (item_part late q)
    late_items q = item-then (item_part emptied q) (item_part given q) (item_part late q) (given_items q) (late-leaves.items q)

    late_specs : late.specs ≡ s.specs
    late_specs = late-leaves.specs ∙ emptied-leaves.specs

    was_active : (j : Ident) (c : ℕ) → active late j c ≡ true → active s j c ≡ true
    was_active j c e = active_before s late (λ q. item-then (item_part s q) (item_part emptied q) (item_part late q) (emptied-leaves.items q) (late_items q)) j c e

    is_left : active late i x.number ≡ false
    is_left =
        by_test (active late i x.number)
        (λ e.
        let has = active_item late i x.number e in
        let (y, stands, task) = item-then (item_part gone has.at) (item_part emptied has.at) (item_part late has.at) (behind-leaves.items has.at) (late_items has.at) has.item has.stands in
        absurd (none_left has.at y stands has.below (sym task ∙ has.of_task)))
        (λ e. e)

    -- elsewhere no net gets a token
    other_net : (j : Ident) → ¬ (j ≡ i) → NetFrom (net_part s j) (net_part late j)
    other_net j other =
        net-then (net_part s j) (net_part emptied j) (net_part late j) (emptied-leaves.nets j)
        (net-then (net_part emptied j) (net_part given j) (net_part late j)
        (subst (λ o. NetFrom (net_part emptied j) (option_and_then (λ (y : Site). y.net) o)) (sym (get-update_other by_name emptied.sites i (with_net put_on) j other)) (net_itself (net_part emptied j)))
        (late-leaves.nets j))

    -- the net that is left, as it was once its removal set was emptied
    module _ (m : NetPart) (stands : net_part late i ≡ Some m) where
      pub record Emptied : Type 0 where
        pub part : NetPart
        pub there : net_part emptied i ≡ Some part
        pub light : Lighter (put_on part) m

      pub emptied_there : Emptied
      emptied_there =
          let (p, here, light) = late-leaves.nets i m stands in
          let (n, there, is) = map_some put_on (net_part emptied i) p (sym (made_here emptied i (with_net put_on) (λ y. y.net) put_on (λ y. refl)) ∙ here) in
          record { part = n; there = there; light = subst (λ (q : NetPart). Lighter q m) (sym is) light }

-- ---- all of it

module _ (spec : Spec) (k : ℕ) (net : Net) (at : slice_get spec.nets k ≡ Some net) (w : List ℕ) (proper : IsProper net w) (reader : Reader) (sound : ReadsSound reader) (s : State) (well : IsWell reader s) (holds : Holds spec k net w s) where
  module _ (i : Ident) (x : TaskAt) (of : OfTask s i x) (goes_on : active s i x.number ≡ true) (cs : List ℕ) (puts : puts_on s i x cs ≡ true) where
    abbrev behind : State
    behind = exit_to s i x cs

    module _ (of_late : IsNetOf behind i spec k) where
      abbrev then_emptied : Emptied s i x cs of_late.part of_late.stands
      then_emptied = emptied_there s i x cs of_late.part of_late.stands

      abbrev tokens : List ℕ
      tokens = then_emptied.part.tokens

      abbrev of_emptied : IsNetOf (region_emptied s i x) i spec k
      of_emptied =
          record {
            part = then_emptied.part;
            stands = then_emptied.there;
            called = subst (λ name. spec_called (region_emptied s i x) name ≡ Some spec) then_emptied.light.spec
                (ap (λ m. option_map (λ (l : Loaded). l.spec) (get m of_late.part.spec)) (sym (late-leaves s i x cs).specs) ∙ of_late.called);
            number = sym then_emptied.light.net ∙ of_late.number;
          }

      abbrev was : IsNetOf s i spec k
      was = (net_before spec k net w s (region_emptied s i x) (emptied-leaves s i x).specs i ((emptied-leaves s i x).nets i) of_emptied).0

      was_heavier : Lighter was.part then_emptied.part
      was_heavier = (net_before spec k net w s (region_emptied s i x) (emptied-leaves s i x).specs i ((emptied-leaves s i x).nets i) of_emptied).1

      abbrev own : ℕ
      own = weight_of_task net w x.number

      task_is : slice_get net.tasks x.number ≡ Some x.task
      task_is = subst (λ (y : Net). slice_get y.tasks x.number ≡ Some x.task) (within_is spec k net at w proper s i x.within of.within was).0 of.task

      puts_little : weight_of_each w cs ≤ own
      puts_little =
          subst (λ ds. weight_of_each w ds ≤ own)
          (sym (same_numbers cs (split_places x.task (exit_values s i x)) (and_parts (pointwise nat_eq cs (split_places x.task (exit_values s i x))) (list_all (has_room_for s i x) cs) puts).0))
          (split_puts w own x.task (exit_values s i x) ((net_sound reader sound s well i x.within of.within).tasks x.number x.task of.task).apart x.task.split (proper.tasks x.number x.task task_is).split)

      tokens_rise : tokens_weigh net w behind i ≤ tokens_weigh net w s i + own
      tokens_rise =
          let now = total_less (λ c. tokens_on behind i c * weight_of_place w c) (λ c. count_on (fold one_more tokens cs) c * weight_of_place w c) (length net.places)
          (λ c within. mul-le-mul_right (weight_of_place w c) (let here = counted behind i of_late.part of_late.stands c in let light = then_emptied.light.fewer c in omega (arith, here, light))) in
          let more = put_each w (length net.places) cs tokens in
          let less = weigh_less w (length net.places) tokens was.part.tokens was_heavier.fewer in
          let before = total_less (λ c. count_on was.part.tokens c * weight_of_place w c) (λ c. tokens_on s i c * weight_of_place w c) (length net.places)
          (λ c within. mul-le-mul_right (weight_of_place w c) (let is = counted s i was.part was.stands c in omega (arith, is))) in
          omega (arith, now, more, less, before, puts_little)

      tasks_fall : tasks_weigh net w behind i + own ≤ tasks_weigh net w s i
      tasks_fall =
          total_falls (λ c. if active behind i c then weight_of_task net w c else 0) (λ c. if active s i c then weight_of_task net w c else 0) x.number own
          (λ c other. weighs_less (active behind i c) (active s i c) (weight_of_task net w c) (was_active s i x cs i c))
          (by_one (active behind i x.number) (active s i x.number) own (is_left s i x cs) goes_on) (length net.tasks) (slice_get_within net.tasks x.number x.task task_is)
        where
          by_one : (a b : Bool) (m : ℕ) → a ≡ false → b ≡ true → (if a then m else 0) + m ≤ (if b then m else 0)
          by_one true b m e f = never (sym e)
          by_one false true m e f = omega arith
          by_one false false m e f = never f

      exited_here : load net w behind i ≤ weight_of_place w net.input
      exited_here = let a = tokens_rise in let b = tasks_fall in let before = holds i was in omega (arith, a, b, before)

    exited_holds : Holds spec k net w behind
    exited_holds =
        at_each i (λ j. IsNetOf behind j spec k → load net w behind j ≤ weight_of_place w net.input) exited_here
        (λ j other of_late. still_holds spec k net w s behind (late_specs s i x cs) holds j (other_net s i x cs j other) (was_active s i x cs j) of_late)

  pub exit_holds : (i : Ident) (t : List ℕ) (places : List Place) (said : Said) → Allowed s (events.Exit i t places) said → Holds spec k net w (where_some (task_at s i t) s (exit s i places))
  unfolding allows
  exit_holds i t places said allowed =
      some_holds spec k net w (task_at s i t) s (exit s i places) holds (λ x is.
      let may = ap (λ o. is_some_and o (may_exit s i places)) (sym is) ∙ (and_parts (clear s i) (is_some_and (task_at s i t) (may_exit s i places)) allowed.0).1 in
      let parts = and_parts (active s i x.number && may_leave s i x) (is_some_and (place_numbers x.within.net places) (puts_on s i x)) may in
      let goes_on = (and_parts (active s i x.number) (may_leave s i x) parts.0).0 in
      let (cs, numbers, puts) = there_and (place_numbers x.within.net places) (puts_on s i x) parts.1 in
      subst (λ o. Holds spec k net w (exit_to s i x (unwrap_or o []))) (sym numbers) (exited_holds i x (task_there s i t x is) goes_on cs puts))
