-- An item comes with its checks, under a number that wasn't drawn, in a net that has its task: what is well stays well.
use Rattle.std.specs.Prelude.{◌≡◌, ◌≤◌, ◌<◌, ◌+◌, ℕ, ◌&&◌, ◌||◌, ◌==◌, Bool, true, false, List, [], length, Option, Some, None, is_some, option_map, option_and_then, unwrap_or, nat_lt, refl, slice_get, if◌then◌else◌}
use Rattle.std.specs.List.{cons_option, list_all}
use Rattle.std.specs.Ordering.{eq_by_cmp}
use Rattle.std.proofs.Common.{sym, ◌∙◌, ap, subst, arith}
use Rattle.std.proofs.lemmas.Bool.{eqb-true, lt-ltb, ltb-true}
use Rattle.yw_base.specs.Identity.{is_identity, case_number, parent}
use Rattle.yw_spec.specs.declared.task.Task.{Task}
use Rattle.yw_invariant.proofs.Children.{IsNew}
use Rattle.yw_invariant.proofs.EntryComes.{length-insert_new}
use Rattle.yw_invariant.proofs.Places.{parent_of_child}
use Rattle.yw_state.proofs.Alike.{all_weaker, asked_of, item_in, net_by}
use Rattle.yw_state.proofs.MapLemmas.{by_name, by_option, by_test, get-insert_other, get-insert_same, never, nowhere, some_same, tied, tied_self}
use Rattle.yw_state.proofs.TreePlaces.{item_has_rule, item_is_target}
use Rattle.yw_state.proofs.NetLevels.{deep_as_before}
use Rattle.yw_state.proofs.Unchanged.{content_stays}
use Rattle.yw_state.specs.After.{new_item, put, with_next}
use Rattle.yw_state.specs.Identity.{Ident, is_case_ident, is_child}
use Rattle.yw_state.specs.Judged.{has_rule, has_rules, task_place}
use Rattle.yw_state.specs.Map.{get, insert, lexical}
use Rattle.yw_state.specs.Options.{is_some_and}
use Rattle.yw_state.specs.Passing.{row_fits}
use Rattle.yw_state.specs.State.{State, Site, Sites, NetPart, ItemPart, RunPart, ItemAt, NetAt, TaskAt, due_at, is_suspended, is_target, item_at, item_of_task, item_part, items_of, net_at, net_part, no_checks, run_part}
use Rattle.yw_state.specs.Texts.{Reader}
use Rattle.yw_state.specs.Values.{Row}
use Rattle.yw_state.specs.Well.{NumbersFit, NetsStand, ParentsStand, MarksStand, ContentFits, IsWell, ItemFits, DepthFits, is_composite, item_limit, wants_net}
use Rattle.yw_state.specs.Words.{has_check, is_ready}
use Rattle.yw_state.specs.declared.part.Checks.{Checks}
use Rattle.yw_state.specs.declared.part.Stage.TheVariants.{Ready}
use Rattle.yw_state.specs.declared.tree.TreeKind.{TreeKind}
use Rattle.yw_state.specs.declared.tree.TreeKind.TheVariants.{Select}

-- An item of the task may come at j, which is given these and judged by these, and the counter is this then.
pub record ItemMayCome (s : State) (j : Ident) (x : TaskAt) (given : Row) (due : Checks) (next : ℕ) : Type 0 where
  pub fresh : IsNew s j next
  pub within : net_at s (parent j) ≡ Some x.within
  pub task : slice_get x.within.net.tasks x.number ≡ Some x.task
  pub fits : row_fits x.task.ins given ≡ true
  pub few : length (items_of s (parent j) x.number) < item_limit x.task.many
  pub checks : (kind : TreeKind) → has_check due kind ≡ true → has_rules s (task_place x kind) ≡ true

no_item : (part : Option ItemPart) → item_in part None ≡ None
no_item None = refl
no_item (Some x) = refl

module _ (s : State) (j : Ident) (x : TaskAt) (given : Row) (due : Checks) (next : ℕ) (may : ItemMayCome s j x given due next) (numbers : NumbersFit s) where
  abbrev site : Site
  site = new_item x.number given due

  abbrev part : ItemPart
  part = record { task = x.number; stage = Ready; given = given; made = []; who = None }

  abbrev new : ItemAt
  new = record { part = part; of_task = x }

  abbrev sites : Sites
  sites = insert s.sites j site

  abbrev t : State
  t = with_next (put s j site) next

  -- ---- what is new, and what is old

  new_or_old : {G : Type 0} (k : Ident) → (k ≡ j → get sites k ≡ Some site → G) → (¬ (k ≡ j) → get sites k ≡ get s.sites k → G) → G
  new_or_old k new old =
      by_test (eq_by_cmp lexical k j)
      (λ e. let same = tied by_name k j e in new same (ap (get sites) same ∙ get-insert_same by_name s.sites j site))
      (λ e.
      let other : ¬ (k ≡ j) = λ same. never (sym e ∙ ap (λ q. eq_by_cmp lexical q j) same ∙ tied_self by_name j) in
      old other (get-insert_other by_name s.sites j site k other))

  nothing_at : get s.sites j ≡ None
  nothing_at = by_option (get s.sites j) (λ none. none) (λ y stands. never (sym may.fresh.undrawn ∙ numbers.drawn j y stands))

  -- what is read alike of an item and of nothing is as before
  read_same : {A : Type 0} (read : Option Site → A) → read (Some site) ≡ read None → (k : Ident) → read (get sites k) ≡ read (get s.sites k)
  read_same read alike k =
      new_or_old k
      (λ same here. ap read here ∙ alike ∙ sym (ap read (ap (get s.sites) same ∙ nothing_at)))
      (λ other there. ap read there)

  net_same : (k : Ident) → net_part t k ≡ net_part s k
  net_same = read_same (option_and_then (λ (y : Site). y.net)) refl

  run_same : (k : Ident) → run_part t k ≡ run_part s k
  run_same = read_same (option_and_then (λ (y : Site). y.run)) refl

  suspended_same : (k : Ident) → is_suspended t k ≡ is_suspended s k
  suspended_same = read_same (λ o. is_some_and o (λ (y : Site). y.suspended)) refl

  abbrev due_in : Option Site → Checks
  due_in o = unwrap_or (option_map (λ (y : Site). y.due) o) no_checks

  due_here : due_at t j ≡ due
  due_here = ap due_in (get-insert_same by_name s.sites j site)

  due_same : (k : Ident) → ¬ (k ≡ j) → due_at t k ≡ due_at s k
  due_same k other = ap due_in (get-insert_other by_name s.sites j site k other)

  pub net_at_same : (k : Ident) → net_at t k ≡ net_at s k
  net_at_same k = ap (option_and_then (net_by s)) (net_same k)

  -- nothing is read at j before
  nothing_read : {A : Type 0} (read : Site → Option A) → option_and_then read (get s.sites j) ≡ None
  nothing_read read = ap (option_and_then read) nothing_at

  part_here : item_part t j ≡ Some part
  part_here = ap (option_and_then (λ (y : Site). y.item)) (get-insert_same by_name s.sites j site)

  part_same : (k : Ident) → ¬ (k ≡ j) → item_part t k ≡ item_part s k
  part_same k other = ap (option_and_then (λ (y : Site). y.item)) (get-insert_other by_name s.sites j site k other)

  item_here : item_at t j ≡ Some new
  item_here =
      ap (λ o. item_in o (net_at t (parent j))) part_here
      ∙ ap (item_in (Some part)) (net_at_same (parent j) ∙ may.within)
      ∙ ap (λ o. option_map (λ (u : TaskAt). record { part = part; of_task = u }) (option_map (λ (u : Task). record { number = x.number; task = u; within = x.within }) o)) may.task

  item_same : (k : Ident) → ¬ (k ≡ j) → item_at t k ≡ item_at s k
  item_same k other = ap (λ o. item_in o (net_at t (parent k))) (part_same k other) ∙ ap (item_in (item_part s k)) (net_at_same (parent k))

  -- at j, and elsewhere
  of_each : (P : Ident → Type 0) → P j → ((k : Ident) → ¬ (k ≡ j) → P k) → (k : Ident) → P k
  of_each P here elsewhere k = new_or_old k (λ same stands. subst P (sym same) here) (λ other there. elsewhere k other)

  -- no net is at j
  no_net : {G : Type 0} (n : NetPart) → net_part t j ≡ Some n → G
  no_net n e = nowhere (sym (nothing_read (λ y. y.net)) ∙ sym (net_same j) ∙ e)

  no_run : {G : Type 0} (r : RunPart) → run_part t j ≡ Some r → G
  no_run r e = nowhere (sym (nothing_read (λ y. y.run)) ∙ sym (run_same j) ∙ e)

  target_kept : (k : Ident) → is_target s k ≡ true → is_target t k ≡ true
  target_kept =
      of_each (λ k. is_target s k ≡ true → is_target t k ≡ true)
      (λ e. item_is_target t j new item_here)
      (λ k other e. ap (λ o. is_case_ident k && is_some o || is_some (item_part t k)) (net_same k) ∙ ap (λ o. is_case_ident k && is_some (net_part s k) || is_some o) (part_same k other) ∙ e)

  has_rule_same : (k : Ident) (kind : TreeKind) → ¬ (k ≡ j) → has_rule t k kind ≡ has_rule s k kind
  has_rule_same k kind other =
      ap (λ o. asked_of (is_case_ident k) s o (item_at t k) kind) (net_same k) ∙ ap (λ y. asked_of (is_case_ident k) s (net_part s k) y kind) (item_same k other)

  -- ---- the parts

  numbers_kept : NumbersFit t
  numbers_kept =
      record {
        least = omega (arith, numbers.least, may.fresh.later);
        most = may.fresh.most;
        identities = λ k y e. new_or_old k (λ same here. ap is_identity same ∙ may.fresh.identity) (λ other there. numbers.identities k y (sym there ∙ e));
        drawn = λ k y e.
            new_or_old k (λ same here. ap (list_all (λ n. nat_lt n next)) same ∙ may.fresh.drawn)
            (λ other there. all_weaker (λ n. nat_lt n s.next) (λ n. nat_lt n next) (λ n less. lt-ltb n next (omega (arith, ltb-true n s.next less, may.fresh.later))) k (numbers.drawn k y (sym there ∙ e)));
        ended_some = numbers.ended_some;
        ended_drawn = λ n way e. omega (arith, numbers.ended_drawn n way e, may.fresh.later);
        over = λ k y e. new_or_old k (λ same here. ap (λ i. is_some (get s.ended (case_number i))) same ∙ may.fresh.over) (λ other there. numbers.over k y (sym there ∙ e));
      }

  nets_kept : NetsStand s → NetsStand t
  nets_kept nets =
      record {
        of_case = λ k n e. nets.of_case k n (sym (net_same k) ∙ e);
        of_item = λ k n y e f.
            new_or_old k
            (λ same here. no_net n (ap (net_part t) (sym same) ∙ e))
            (λ other there. nets.of_item k n y (sym (net_same k) ∙ e) (sym (item_same k other) ∙ f));
        of_run = λ k n r e f. nets.of_run k n r (sym (net_same k) ∙ e) (sym (run_same k) ∙ f);
        at_something = λ k n e.
            new_or_old k
            (λ same here. no_net n (ap (net_part t) (sym same) ∙ e))
            (λ other there.
            ap (λ o. is_case_ident k || is_some o || is_some (run_part t k)) (part_same k other)
            ∙ ap (λ o. is_case_ident k || is_some (item_part s k) || is_some o) (run_same k)
            ∙ nets.at_something k n (sym (net_same k) ∙ e));
        item_has = λ k y e wants.
            new_or_old k
            (λ same here. not_yet y (some_same new y (sym item_here ∙ ap (item_at t) (sym same) ∙ e)) wants)
            (λ other there. ap is_some (net_same k) ∙ nets.item_has k y (sym (item_same k other) ∙ e) wants);
        run_has = λ k r e waits. ap is_some (net_same k) ∙ nets.run_has k r (sym (run_same k) ∙ e) waits;
      }
    where
      not_yet : {G : Type 0} (y : ItemAt) → new ≡ y → wants_net y ≡ true → G
      not_yet y is wants = never (ap wants_net is ∙ wants)

  parents_kept : ParentsStand s → ParentsStand t
  parents_kept parents =
      record {
        item_depth = of_each (λ k. (y : ItemPart) → item_part t k ≡ Some y → 2 ≤ length k) (λ y e. may.fresh.deep) (λ k other y e. parents.item_depth k y (sym (part_same k other) ∙ e));
        item_of_net =
            of_each (λ k. (y : ItemPart) → item_part t k ≡ Some y → is_some (item_at t k) ≡ true)
            (λ y e. ap is_some item_here)
            (λ k other y e. ap is_some (item_same k other) ∙ parents.item_of_net k y (sym (part_same k other) ∙ e));
        run_depth = λ k r e. parents.run_depth k r (sym (run_same k) ∙ e);
        run_of_target = λ k r e. target_kept (parent k) (parents.run_of_target k r (sym (run_same k) ∙ e));
        run_works = λ k r e. parents.run_works k r (sym (run_same k) ∙ e);
        one_run = λ k l a b. parents.one_run k l (ap is_some (sym (run_same k)) ∙ a) (ap is_some (sym (run_same l)) ∙ b);
        not_both =
            of_each (λ k. is_some (item_part t k) ≡ true → is_some (run_part t k) ≡ false)
            (λ a. ap is_some (run_same j ∙ nothing_read (λ y. y.run)))
            (λ k other a. ap is_some (run_same k) ∙ parents.not_both k (ap is_some (sym (part_same k other)) ∙ a));
        something = λ k y e.
            new_or_old k
            (λ same here. ap (λ (z : Site). is_some z.net || is_some z.item || is_some z.run) (some_same y site (sym e ∙ here)))
            (λ other there. parents.something k y (sym there ∙ e));
      }

  marks_kept : ParentsStand s → MarksStand s → MarksStand t
  marks_kept parents marks =
      record {
        suspended = λ k e. target_kept k (marks.suspended k (sym (suspended_same k) ∙ e));
        due =
            of_each (λ k. (kind : TreeKind) → has_check (due_at t k) kind ≡ true → is_target t k ≡ true)
            (λ kind e. item_is_target t j new item_here)
            (λ k other kind e. target_kept k (marks.due k kind (was_due k other kind e)));
        due_has_rule =
            of_each (λ k. (kind : TreeKind) → has_check (due_at t k) kind ≡ true → has_rule t k kind ≡ true)
            (λ kind e. item_has_rule t j new item_here (parents_kept parents) kind ∙ may.checks kind (ap (λ c. has_check c kind) (sym due_here) ∙ e))
            (λ k other kind e. has_rule_same k kind other ∙ marks.due_has_rule k kind (was_due k other kind e));
        select =
            of_each (λ k. has_check (due_at t k) Select ≡ true → is_some_and (item_part t k) (λ z. is_ready z.stage) ≡ true)
            (λ e. ap (λ o. is_some_and o (λ (z : ItemPart). is_ready z.stage)) part_here)
            (λ k other e. ap (λ o. is_some_and o (λ (z : ItemPart). is_ready z.stage)) (part_same k other) ∙ marks.select k (was_due k other Select e));
      }
    where
      was_due : (k : Ident) → ¬ (k ≡ j) → (kind : TreeKind) → has_check (due_at t k) kind ≡ true → has_check (due_at s k) kind ≡ true
      was_due k other kind e = ap (λ c. has_check c kind) (sym (due_same k other)) ∙ e

  -- ---- depth

  nested_same : (k : Ident) → ¬ (k ≡ j) → is_some_and (item_at t k) is_composite ≡ is_some_and (item_at s k) is_composite
  nested_same k other = ap (λ o. is_some_and o is_composite) (item_same k other)

  -- a net isn't at j, and no more is one above it
  apart : (k : Ident) → is_some (net_part s k) ≡ true → ¬ (k ≡ j)
  apart k e same = never (sym (ap is_some (ap (net_part s) same ∙ nothing_read (λ y. y.net))) ∙ e)

  net_above : (k : Ident) → is_some_and (item_at s k) is_composite ≡ true → is_some (net_part s (parent k)) ≡ true
  net_above k e =
      by_option (net_part s (parent k))
      (λ none. never (ap (λ o. is_some_and o is_composite) (sym (ap (λ o. item_in (item_part s k) (option_and_then (net_by s) o)) none ∙ no_item (item_part s k))) ∙ e))
      (λ n some. ap is_some some)

  depth_kept : DepthFits s → DepthFits t
  depth_kept depth k n e =
      let was = sym (net_same k) ∙ e in
      deep_as_before s t (λ i. is_some (net_part s i) ≡ true) (λ i net. nested_same i (apart i net)) (λ i net. net_above i) k (ap is_some was) (depth k n was)

  -- ---- items of a task

  if_one : {A : Type 0} (b c : Bool) (a : A) → is_some (if b then (if c then Some a else None) else None) ≡ true → (b ≡ true) × (c ≡ true)
  if_one true true a e = (refl, refl)
  if_one true false a e = never e
  if_one false c a e = never e

  pub count_now : (i : Ident) (n : ℕ) → length (items_of t i n) ≡ length (cons_option (item_of_task i n j site) (items_of s i n))
  count_now i n = length-insert_new by_name (λ e. item_of_task i n e.0 e.1) j site s.sites nothing_at

  longer : {A : Type 0} (o : Option A) (xs : List A) → length (cons_option o xs) ≤ length xs + 1
  longer None xs = omega arith
  longer (Some a) xs = omega arith

  -- at most one more
  pub one_more_at_most : (i : Ident) (n : ℕ) → length (items_of t i n) ≤ length (items_of s i n) + 1
  one_more_at_most i n = let now = count_now i n in let more = longer (item_of_task i n j site) (items_of s i n) in omega (arith, now, more)

  count_kept : (i : Ident) (a : NetAt) (n : ℕ) (task : Task) → net_at s i ≡ Some a → slice_get a.net.tasks n ≡ Some task → length (items_of s i n) ≤ item_limit task.many → length (items_of t i n) ≤ item_limit task.many
  count_kept i a n task e at before =
      by_option (item_of_task i n j site)
      (λ none. subst (λ c. c ≤ item_limit task.many) (sym (count_now i n ∙ ap (λ o. length (cons_option o (items_of s i n))) none)) before)
      (λ y some.
      let (below, number) = if_one (is_child j i) (x.number == n) (j, part) (ap is_some some) in
      let net : i ≡ parent j = sym (parent_of_child j i below) in
      let same = eqb-true x.number n number in
      let one : a ≡ x.within = some_same a x.within (sym e ∙ ap (net_at s) net ∙ may.within) in
      let task_is : task ≡ x.task = some_same task x.task (sym at ∙ ap (λ (b : NetAt). slice_get b.net.tasks n) one ∙ ap (slice_get x.within.net.tasks) (sym same) ∙ may.task) in
      let here : length (items_of s i n) ≡ length (items_of s (parent j) x.number) = ap (λ k. length (items_of s k n)) net ∙ ap (λ m. length (items_of s (parent j) m)) (sym same) in
      let bound : item_limit task.many ≡ item_limit x.task.many = ap (λ (u : Task). item_limit u.many) task_is in
      let few = may.few in
      let more = one_more_at_most i n in
      omega (arith, here, bound, few, more))

  content_kept : (reader : Reader) → ContentFits reader s → ContentFits reader t
  content_kept reader content =
      content_stays reader s sites next s.ended content (record {
        of_spec = λ k n e. ap is_some (net_at_same k) ∙ content.of_spec k n (sym (net_same k) ∙ e);
        net = λ k a e. content.net k a (sym (net_at_same k) ∙ e);
        item =
            of_each (λ k. (y : ItemAt) → item_at t k ≡ Some y → ItemFits y)
            (λ y e. subst ItemFits (some_same new y (sym item_here ∙ e)) new_fits)
            (λ k other y e. content.item k y (sym (item_same k other) ∙ e));
        count = λ i a n task e f. let was = sym (net_at_same i) ∙ e in count_kept i a n task was f (content.count i a n task was f);
        run_length = λ k r e. content.run_length k r (sym (run_same k) ∙ e);
        run_fit = λ k r e. content.run_fit k r (sym (run_same k) ∙ e);
      })
    where
      new_fits : ItemFits new
      new_fits = record { given = may.fits; made = λ e. never e; not_made = λ e. refl; who_atomic = λ e. never e; who_begun = λ e. never e }

  pub item_come_is_well : (reader : Reader) → IsWell reader s → IsWell reader t
  item_come_is_well reader well =
      record {
        numbers = numbers_kept;
        nets = nets_kept well.nets;
        parents = parents_kept well.parents;
        marks = marks_kept well.parents well.marks;
        content = content_kept reader well.content;
        depth = depth_kept well.depth;
      }
