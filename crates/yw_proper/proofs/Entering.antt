-- Where items come, no net gets heavier: an entry takes tokens that weigh as much as the task, or more; and an item more of a task that is
-- active changes nothing.
use Rattle.std.specs.Prelude.{◌≡◌, ◌⊎◌, ◌≤◌, ◌<◌, ◌+◌, ◌*◌, ◌==◌, ◌&&◌, ◌||◌, ℕ, zero, suc, Bool, true, false, not, List, [], ◌∷◌, cond, filter, fold, length, Some, nat_eq, nat_le, nat_lt, option_and_then, option_map, slice_get, unwrap_or, refl, if◌then◌else◌}
use Rattle.std.specs.Cmp.Lexicographic.{pointwise}
use Rattle.std.specs.List.{list_all, range_with_len, zip}
use Rattle.std.specs.Ordering.{eq_by_cmp}
use Rattle.std.proofs.Common.{sym, ◌∙◌, ap, subst, inl, inr, arith}
use Rattle.std.proofs.Math.Nat.{mul-le-mul_right}
use Rattle.std.proofs.lemmas.Bool.{and_parts, eq-eqb, eqb-true, leb-true, ltb-true}
use Rattle.yw_base.specs.declared.gate.Gate.{Gate}
use Rattle.yw_base.specs.declared.gate.Gate.TheVariants.{And, Xor, Or}
use Rattle.yw_base.specs.declared.value.Value.{Value}
use Rattle.yw_invariant.proofs.Changes.{at_each}
use Rattle.yw_invariant.proofs.Children.{parent_child}
use Rattle.yw_invariant.proofs.Places.{parent_of_child}
use Rattle.yw_invariant.proofs.Tasks.{OfTask, of_spec, part_of, task_there}
use Rattle.yw_proper.proofs.Active.{active_item, item_active}
use Rattle.yw_proper.proofs.Lighter.{Holds, Leaves, NetFrom, active_before, counted, item_itself, leaves-change, net-then, net_before, net_gone, net_itself, net_mapped, put_from, still_holds, weighs_less}
use Rattle.yw_proper.proofs.NetsComing.{some_holds}
use Rattle.yw_proper.proofs.Sums.{total_less, total_rises}
use Rattle.yw_proper.proofs.Tokens.{taken_each, taken_fewer, taken_some, weigh}
use Rattle.yw_proper.specs.Load.{IsNetOf, JoinsApart, load, tasks_weigh, tokens_weigh}
use Rattle.yw_proper.specs.Proper.{IsProper, join_weighs, weight_of_each, weight_of_place, weight_of_task}
use Rattle.yw_sound.specs.Sound.{are_apart}
use Rattle.yw_spec.specs.declared.spec.Net.{Net}
use Rattle.yw_spec.specs.declared.spec.Place.{Place}
use Rattle.yw_spec.specs.declared.spec.Spec.{Spec}
use Rattle.yw_state.proofs.Alike.{net_by}
use Rattle.yw_state.proofs.MapLemmas.{by_name, get-insert, tied}
use Rattle.yw_state.proofs.Tests.{by_test, never, same_numbers, some_same, then_some, there_and}
use Rattle.yw_state.proofs.Updated.{made_here}
use Rattle.yw_state.specs.After.{add, add_item, add_items, count_on, enter, item_checks, new_item, one_less, take, where_some, with_net}
use Rattle.yw_state.specs.Allowed.{Allowed, allows, makes, may_add, may_enter, place_numbers, takes_from}
use Rattle.yw_state.specs.Identity.{Ident}
use Rattle.yw_base.specs.Identity.{child, parent}
use Rattle.yw_state.specs.Joins.{joins, marked}
use Rattle.yw_state.specs.Map.{get, lexical}
use Rattle.yw_state.specs.Nets.{is_among}
use Rattle.yw_state.specs.Options.{is_some_and}
use Rattle.yw_state.specs.Passing.{entry_values, given_values}
use Rattle.yw_state.specs.State.{State, Site, NetAt, NetPart, ItemPart, TaskAt, item_part, net_at, net_part, spec_called, task_at, tokens_on}
use Rattle.yw_state.specs.Texts.{Reader, Said}
use Rattle.yw_state.specs.Values.{Row}
use Rattle.yw_state.specs.Well.{IsWell}
use Rattle.yw_state.specs.Words.{active, clear}
use Rattle.yw_state.specs.declared.event.Event.TheVariants as events
use Rattle.yw_state.specs.declared.part.Checks.{Checks}

-- ---- items of one task come

-- Each item of t stood in s, or is one of task n in the net at i. Nets and specifications are the same, or nets go.
pub record Comes (s t : State) (i : Ident) (n : ℕ) : Type 0 where
  pub nets : (q : Ident) → NetFrom (net_part s q) (net_part t q)
  pub items : (q : Ident) (y : ItemPart) → item_part t q ≡ Some y → ((x : ItemPart) × (item_part s q ≡ Some x) × (y.task ≡ x.task)) ⊎ (parent q ≡ i) × (y.task ≡ n)
  pub specs : t.specs ≡ s.specs

module _ (x : TaskAt) (i : Ident) (due : Checks) (s : State) where
  one_comes : (e : ℕ × Row) (t : State) → Comes s t i x.number → Comes s (add_item x i due t e) i x.number
  one_comes e t before =
      record {
        nets = λ q. net-then (net_part s q) (net_part t q) (net_part (add_item x i due t e) q) (before.nets q)
            (put_from (λ (y : Site). y.net) NetFrom net_itself net_gone t (child i e.0) (new_item x.number e.1 due) refl q);
        items = λ q y is.
            by_test (eq_by_cmp lexical q (child i e.0))
            (λ here.
            inr (
              ap parent (tied by_name q (child i e.0) here) ∙ parent_child i e.0,
              ap (λ (z : ItemPart). z.task) (sym (some_same _ y (sym (ap (λ b. option_and_then (λ (z : Site). z.item) (cond b (Some (new_item x.number e.1 due)) (get t.sites q))) here) ∙ ap (option_and_then (λ (z : Site). z.item)) (sym (get-insert by_name t.sites (child i e.0) (new_item x.number e.1 due) q)) ∙ is))),
            ))
            (λ other.
            before.items q y
            (sym (ap (λ b. option_and_then (λ (z : Site). z.item) (cond b (Some (new_item x.number e.1 due)) (get t.sites q))) other)
            ∙ ap (option_and_then (λ (z : Site). z.item)) (sym (get-insert by_name t.sites (child i e.0) (new_item x.number e.1 due) q))
            ∙ is));
        specs = before.specs;
      }

  each_comes : (es : List (ℕ × Row)) (t : State) → Comes s t i x.number → Comes s (fold (add_item x i due) t es) i x.number
  each_comes [] t before = before
  each_comes (e ∷ es) t before = each_comes es (add_item x i due t e) (one_comes e t before)

items_come : (x : TaskAt) (i : Ident) (first : ℕ) (rows : List Row) (s : State) → Comes s (add_items x i first rows s) i x.number
items_come x i first rows s =
    let all = each_comes x i (item_checks s x) s (zip (range_with_len first (length rows)) rows) s
    (record { nets = λ q. net_itself (net_part s q); items = λ q y is. inl (y, is, refl); specs = refl }) in
    record { nets = all.nets; items = all.items; specs = all.specs }

-- a task that is active then was so, or is the one
comes_active : (s t : State) (i : Ident) (n : ℕ) → Comes s t i n → (j : Ident) (k : ℕ) → active t j k ≡ true → (active s j k ≡ true) ⊎ (j ≡ i) × (k ≡ n)
comes_active s t i n comes j k e =
    let has = active_item t j k e in
    elim (comes.items has.at has.item has.stands) [
      | inl old ↦ inl (item_active s j k (record { at = has.at; item = old.0; stands = old.1; below = has.below; of_task = sym old.2 ∙ has.of_task }))
      | inr new ↦ inr (sym (parent_of_child has.at j has.below) ∙ new.0, sym has.of_task ∙ new.1)
    ]

-- ---- the tokens that a join takes

-- as `joins` has it
abbrev is_one_of : List ℕ → List ℕ → Bool
is_one_of cs [] = false
is_one_of cs (b ∷ bs) = is_among cs b && length bs == 0

abbrev marked_in : List ℕ → ℕ → Bool
marked_in tokens c = nat_lt 0 (count_on tokens c)

all_of_them : (p : ℕ → Bool) (cs : List ℕ) → list_all p cs ≡ true → (c : ℕ) → is_among cs c ≡ true → p c ≡ true
all_of_them p [] all c among = never among
all_of_them p (d ∷ cs) all c among =
    let parts = and_parts (p d) (list_all p cs) all in
    by_test (nat_eq c d)
    (λ here. ap p (eqb-true c d here) ∙ parts.0)
    (λ other. all_of_them p cs parts.1 c (ap (λ b. b || is_among cs c) (sym other) ∙ among))

first_passes : (p : ℕ → Bool) (bs : List ℕ) (c : ℕ) (cs : List ℕ) → c ∷ cs ≡ filter p bs → (p c ≡ true) × (is_among bs c ≡ true)
first_passes p [] c cs e = cc
first_passes p (b ∷ bs) c cs e =
    by_test (p b)
    (λ here.
    let same : c ≡ b = first_same (e ∙ ap (λ t. cond t (b ∷ filter p bs) (filter p bs)) here) in
    (ap p same ∙ here, ap (λ t. t || is_among bs c) (eq-eqb c b same)))
    (λ gone.
    let rest = first_passes p bs c cs (e ∙ ap (λ t. cond t (b ∷ filter p bs) (filter p bs)) gone) in
    (rest.0, behind (nat_eq c b) rest.1))
  where
    first_same : {ds : List ℕ} → c ∷ cs ≡ b ∷ ds → c ≡ b
    first_same f = cc

    behind : (a : Bool) → is_among bs c ≡ true → (a || is_among bs c) ≡ true
    behind true among = refl
    behind false among = among

pub within_tokens : (tokens : List ℕ) (c : ℕ) → 1 ≤ count_on tokens c → c < length tokens
within_tokens [] c some = absurd (omega (arith, some))
within_tokens (n ∷ tokens) zero some = omega arith
within_tokens (n ∷ tokens) (suc c) some = let rest = within_tokens tokens c some in omega (arith, rest)

module _ (w : List ℕ) (tokens : List ℕ) (own : ℕ) (before : List ℕ) (once : are_apart before ≡ true) where
  abbrev take_each : List ℕ → ℕ
  take_each cs = weigh w (length tokens) (fold one_less tokens cs) + own

  there : (c : ℕ) → marked_in tokens c ≡ true → (c < length tokens) × (1 ≤ count_on tokens c)
  there c e = let some = ltb-true 0 (count_on tokens c) e in (within_tokens tokens c (omega (arith, some)), omega (arith, some))

  from_one : (c : ℕ) (cs : List ℕ) → marked_in tokens c ≡ true → is_among before c ≡ true → list_all (λ d. nat_le own (weight_of_place w d)) before ≡ true → take_each (c ∷ cs) ≤ weigh w (length tokens) tokens
  from_one c cs has among all =
      let (within, some) = there c has in
      let enough = leb-true own (weight_of_place w c) (all_of_them (λ d. nat_le own (weight_of_place w d)) before all c among) in
      let taken = taken_some w (length tokens) c cs tokens within some in
      omega (arith, enough, taken)

  from_marked : (cs : List ℕ) → (pointwise nat_eq cs (filter (marked_in tokens) before) && nat_lt 0 (length cs)) ≡ true → list_all (λ d. nat_le own (weight_of_place w d)) before ≡ true → take_each cs ≤ weigh w (length tokens) tokens
  from_marked [] taken all = never (and_parts (pointwise nat_eq [] (filter (marked_in tokens) before)) false taken).1
  from_marked (c ∷ cs) taken all =
      let (has, among) = first_passes (marked_in tokens) before c cs (same_numbers (c ∷ cs) (filter (marked_in tokens) before) (and_parts (pointwise nat_eq (c ∷ cs) (filter (marked_in tokens) before)) _ taken).0) in
      from_one c cs has among all

  from_all : (cs : List ℕ) → cs ≡ before → list_all (marked_in tokens) before ≡ true → own ≤ weight_of_each w before → take_each cs ≤ weigh w (length tokens) tokens
  from_all cs same all enough =
      let taken = taken_each w (length tokens) before tokens once (λ c among. there c (all_of_them (marked_in tokens) before all c among)) in
      subst (λ ds. take_each ds ≤ weigh w (length tokens) tokens) (sym same) (omega (arith, enough, taken))

  from_xor : (cs : List ℕ) → (is_one_of before cs && list_all (marked_in tokens) cs) ≡ true → list_all (λ d. nat_le own (weight_of_place w d)) before ≡ true → take_each cs ≤ weigh w (length tokens) tokens
  from_xor [] taken all = never (and_parts false true taken).0
  from_xor (c ∷ cs) taken all =
      let parts = and_parts (is_one_of before (c ∷ cs)) (list_all (marked_in tokens) (c ∷ cs)) taken in
      from_one c cs (and_parts (marked_in tokens c) (list_all (marked_in tokens) cs) parts.1).0 (and_parts (is_among before c) (length cs == 0) parts.0).0 all

  -- as `joins` has it, over marks
  abbrev joins_by : Gate → (ℕ → Bool) → List ℕ → Bool
  joins_by And p cs = pointwise nat_eq cs before && list_all p before
  joins_by Xor p cs = is_one_of before cs && list_all p cs
  joins_by Or p cs = pointwise nat_eq cs (filter p before) && nat_lt 0 (length cs)

  -- what a join takes weighs as much as the task, or more
  pub join_takes : (gate : Gate) (cs : List ℕ) → join_weighs gate w before own ≡ true → joins_by gate (marked_in tokens) cs ≡ true → take_each cs ≤ weigh w (length tokens) tokens
  join_takes And cs enough taken =
      let parts = and_parts (pointwise nat_eq cs before) (list_all (marked_in tokens) before) taken in
      from_all cs (same_numbers cs before parts.0) parts.1 (leb-true own (weight_of_each w before) enough)
  join_takes Xor cs all taken = from_xor cs taken all
  join_takes Or cs all taken = from_marked cs taken all

joins_same : (gate : Gate) (s : State) (i : Ident) (w tokens : List ℕ) (own : ℕ) (before : List ℕ) (once : are_apart before ≡ true) (cs : List ℕ) → joins gate s i before cs ≡ joins_by w tokens own before once gate (marked s i) cs
joins_same And s i w tokens own before once [] = refl
joins_same And s i w tokens own before once (c ∷ cs) = refl
joins_same Xor s i w tokens own before once [] = refl
joins_same Xor s i w tokens own before once (c ∷ cs) = refl
joins_same Or s i w tokens own before once [] = refl
joins_same Or s i w tokens own before once (c ∷ cs) = refl

-- ---- entries and items that are added

module _ (spec : Spec) (k : ℕ) (net : Net) (at : slice_get spec.nets k ≡ Some net) (w : List ℕ) (proper : IsProper net w) (s : State) where
  -- the net at i is the one of which it is said
  pub within_is : (i : Ident) (a : NetAt) → net_at s i ≡ Some a → (was : IsNetOf s i spec k) → (a.net ≡ net) × (a.part ≡ was.part)
  within_is i a is was =
      let of = of_spec s i a is in
      let (part, stands, made) = then_some (net_by s) (net_part s i) a is in
      let same : a.part ≡ was.part = part_of s part a made ∙ some_same part was.part (sym stands ∙ was.stands) in
      let its_spec : of.spec ≡ spec = some_same of.spec spec (sym of.called ∙ ap (λ (p : NetPart). spec_called s p.spec) same ∙ was.called) in
      (some_same a.net net (sym of.at ∙ ap (λ (y : Spec). slice_get y.nets a.part.net) its_spec ∙ ap (λ (p : NetPart). slice_get spec.nets p.net) same ∙ ap (slice_get spec.nets) was.number ∙ at), same)

  module _ (reader : Reader) (well : IsWell reader s) (holds : Holds spec k net w s) where
    module _ (apart : JoinsApart net) (i : Ident) (x : TaskAt) (of : OfTask s i x) (cs : List ℕ) (taken : joins x.task.join s i x.task.before cs ≡ true) (first : ℕ) (rows : List Row) where
      abbrev without : NetPart → NetPart
      without n = record n { tokens = fold one_less n.tokens cs }

      abbrev mid : State
      mid = take s i cs

      abbrev late : State
      late = add_items x i first rows mid

      comes : Comes mid late i x.number
      comes = items_come x i first rows mid

      mid-leaves : Leaves s mid
      mid-leaves = leaves-change s i (with_net without) (λ y. net_mapped without (λ n. record { spec = refl; net = refl; fewer = taken_fewer cs n.tokens }) y.net) (λ y. item_itself y.item)

      nets_from : (q : Ident) → NetFrom (net_part s q) (net_part late q)
      nets_from q = net-then (net_part s q) (net_part mid q) (net_part late q) (mid-leaves.nets q) (comes.nets q)

      was_active : (j : Ident) (c : ℕ) → active late j c ≡ true → (active s j c ≡ true) ⊎ (j ≡ i) × (c ≡ x.number)
      was_active j c e =
          elim (comes_active mid late i x.number comes j c e) [
            | inl old ↦ inl (active_before s mid mid-leaves.items j c old)
            | inr new ↦ inr new
          ]

      module _ (of_late : IsNetOf late i spec k) where
        abbrev was : IsNetOf s i spec k
        was = (net_before spec k net w s late comes.specs i (nets_from i) of_late).0

        abbrev own : ℕ
        own = weight_of_task net w x.number

        same : (x.within.net ≡ net) × (x.within.part ≡ was.part)
        same = within_is i x.within of.within was

        task_is : slice_get net.tasks x.number ≡ Some x.task
        task_is = subst (λ (y : Net). slice_get y.tasks x.number ≡ Some x.task) same.0 of.task

        -- as many counts as places
        counts : length was.part.tokens ≡ length net.places
        counts = ap (λ (n : NetPart). length n.tokens) (sym same.1) ∙ (well.content.net i x.within of.within).places ∙ ap (λ (y : Net). length y.places) same.0

        at_mid : net_part mid i ≡ Some (without was.part)
        at_mid = made_here s i (with_net without) (λ y. y.net) without (λ y. refl) ∙ ap (option_map without) was.stands

        fewer : (c : ℕ) → tokens_on late i c ≤ count_on (fold one_less was.part.tokens cs) c
        fewer c =
            let (p, stands, light) = comes.nets i of_late.part of_late.stands in
            let here = counted late i of_late.part of_late.stands c in
            let less = light.fewer c in
            let is : count_on p.tokens c ≡ count_on (fold one_less was.part.tokens cs) c = ap (λ (n : NetPart). count_on n.tokens c) (some_same p (without was.part) (sym stands ∙ at_mid)) in
            omega (arith, here, less, is)

        enough : weigh w (length was.part.tokens) (fold one_less was.part.tokens cs) + own ≤ weigh w (length was.part.tokens) was.part.tokens
        enough =
            join_takes w was.part.tokens own x.task.before (apart x.number x.task task_is) x.task.join cs (proper.tasks x.number x.task task_is).join
            (subst (λ p. joins_by w was.part.tokens own x.task.before (apart x.number x.task task_is) x.task.join p cs ≡ true) (λ e c. nat_lt 0 (counted s i was.part was.stands c e))
            (sym (joins_same x.task.join s i w was.part.tokens own x.task.before (apart x.number x.task task_is) cs) ∙ taken))

        tokens_fall : tokens_weigh net w late i + own ≤ tokens_weigh net w s i
        tokens_fall =
            let now = total_less (λ c. tokens_on late i c * weight_of_place w c) (λ c. count_on (fold one_less was.part.tokens cs) c * weight_of_place w c) (length net.places) (λ c within. mul-le-mul_right (weight_of_place w c) (fewer c)) in
            let before = total_less (λ c. count_on was.part.tokens c * weight_of_place w c) (λ c. tokens_on s i c * weight_of_place w c) (length net.places)
            (λ c within. mul-le-mul_right (weight_of_place w c) (let is = counted s i was.part was.stands c in omega (arith, is))) in
            let between : weigh w (length net.places) (fold one_less was.part.tokens cs) + own ≤ weigh w (length net.places) was.part.tokens =
            subst (λ places. weigh w places (fold one_less was.part.tokens cs) + own ≤ weigh w places was.part.tokens) counts enough in
            omega (arith, now, before, between)

        tasks_rise : tasks_weigh net w late i ≤ tasks_weigh net w s i + own
        tasks_rise =
            total_rises (λ c. if active late i c then weight_of_task net w c else 0) (λ c. if active s i c then weight_of_task net w c else 0) x.number own
            (λ c other. weighs_less (active late i c) (active s i c) (weight_of_task net w c) (λ e. elim (was_active i c e) [ inl old ↦ old | inr new ↦ absurd (other new.1) ]))
            (at_most (active late i x.number) (active s i x.number) own) (length net.tasks)
          where
            at_most : (a b : Bool) (m : ℕ) → (if a then m else 0) ≤ (if b then m else 0) + m
            at_most true b m = omega arith
            at_most false b m = omega arith

        entered_here : load net w late i ≤ weight_of_place w net.input
        entered_here = let tokens = tokens_fall in let tasks = tasks_rise in let before = holds i was in omega (arith, tokens, tasks, before)

      entered_holds : Holds spec k net w late
      entered_holds =
          at_each i (λ j. IsNetOf late j spec k → load net w late j ≤ weight_of_place w net.input) entered_here
          (λ j other of_late. still_holds spec k net w s late comes.specs holds j (nets_from j) (λ c e. elim (was_active j c e) [ inl old ↦ old | inr new ↦ absurd (other new.0) ]) of_late)

    pub enter_holds : (apart : JoinsApart net) (i : Ident) (t : List ℕ) (places : List Place) (first count : ℕ) (said : Said) → Allowed s (events.Enter i t places first count) said
        → Holds spec k net w (where_some (task_at s i t) s (enter s i places first))
    unfolding allows
    enter_holds apart i t places first count said allowed =
        some_holds spec k net w (task_at s i t) s (enter s i places first) holds (λ x is.
        let may = ap (λ o. is_some_and o (may_enter s i places first count)) (sym is) ∙ (and_parts (clear s i) (is_some_and (task_at s i t) (may_enter s i places first count)) allowed.0).1 in
        let made = and_parts (not (active s i x.number) && takes_from s i x places && makes x count) _ may in
        let takes = and_parts (not (active s i x.number) && takes_from s i x places) (makes x count) made.0 in
        let (cs, numbers, taken) = there_and (place_numbers x.within.net places) (joins x.task.join s i x.task.before) (and_parts (not (active s i x.number)) (takes_from s i x places) takes.0).1 in
        subst (λ o. Holds spec k net w (add_items x i first (unwrap_or (entry_values x.task x.within.part.vals) []) (take s i (unwrap_or o [])))) (sym numbers)
        (entered_holds apart i x (task_there s i t x is) cs taken first (unwrap_or (entry_values x.task x.within.part.vals) [])))

    pub add_holds : (i : Ident) (t : List ℕ) (value : Value) (n : ℕ) (said : Said) → Allowed s (events.Add i t value n) said → Holds spec k net w (where_some (task_at s i t) s (add s i value n))
    unfolding allows
    add_holds i t value n said allowed =
        let may = (and_parts (clear s i) (is_some_and (task_at s i t) (may_add s i value)) (and_parts (clear s i && is_some_and (task_at s i t) (may_add s i value)) _ allowed.0).0).1 in
        some_holds spec k net w (task_at s i t) s (add s i value n) holds (λ x is.
        let goes_on = is_active x (ap (λ o. is_some_and o (may_add s i value)) (sym is) ∙ may) in
        some_holds spec k net w (given_values x.task x.within.part.vals (Some value)) s (λ given. add_items x i n (given ∷ []) s) holds (λ given there.
        let comes = items_come x i n (given ∷ []) s in
        λ j of. still_holds spec k net w s (add_items x i n (given ∷ []) s) comes.specs holds j (comes.nets j)
        (λ c e. elim (comes_active s (add_items x i n (given ∷ []) s) i x.number comes j c e) [ inl old ↦ old | inr new ↦ ap (λ b. active s b c) new.0 ∙ ap (active s i) new.1 ∙ goes_on ]) of))
      where
        is_active : (x : TaskAt) → may_add s i value x ≡ true → active s i x.number ≡ true
        is_active x may = (and_parts (active s i x.number) _ (and_parts (active s i x.number && _) _ (and_parts (active s i x.number && _ && _) _ may).0).0).0
