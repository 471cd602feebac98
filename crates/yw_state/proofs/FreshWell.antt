-- A net of a case or a run comes, under a number that wasn't drawn: what is well stays well.
use Rattle.std.specs.Prelude.{◌≡◌, ◌≤◌, ◌+◌, ℕ, ◌&&◌, ◌||◌, ◌==◌, Bool, true, false, length, Option, Some, None, is_some, option_map, option_and_then, unwrap_or, nat_lt, refl, IsNone, if◌then◌else◌}
use Rattle.std.specs.List.{list_all}
use Rattle.std.specs.Ordering.{eq_by_cmp}
use Rattle.std.proofs.Common.{sym, ◌∙◌, ap, subst, arith}
use Rattle.std.proofs.lemmas.Bool.{and_parts, eqb-true, false_from_ne_true, lt-ltb, ltb-true, or_left}
use Rattle.yw_base.specs.Identity.{is_identity, number_end, under, case_number, parent}
use Rattle.yw_state.proofs.Alike.{all_weaker, asked_of, item_in, net_by}
use Rattle.yw_state.proofs.EntryCounts.{length-insert_other, length-none}
use Rattle.yw_state.proofs.MapLemmas.{by_name, by_option, by_test, get-insert_other, get-insert_same, never, nowhere, some_same, tied, tied_self}
use Rattle.yw_state.proofs.TreePlaces.{case_has_rule, case_is_target}
use Rattle.yw_state.proofs.Under.{all_above, all_parent}
use Rattle.yw_state.proofs.NetLevels.{deep_alike}
use Rattle.yw_state.proofs.Unchanged.{content_stays}
use Rattle.yw_state.specs.After.{put, with_next}
use Rattle.yw_state.specs.Identity.{Ident, is_case_ident, is_child}
use Rattle.yw_state.specs.Judged.{case_place, has_rule, has_rules, is_select}
use Rattle.yw_state.specs.Map.{get, insert, lexical}
use Rattle.yw_state.specs.NewRule.{are_fit, most_primitives}
use Rattle.yw_state.specs.Options.{is_some_and}
use Rattle.yw_state.specs.State.{State, Site, Sites, NetPart, ItemPart, RunPart, ItemAt, NetAt, due_at, is_target, item_at, item_of_task, item_part, items_of, net_at, net_part, no_checks, run_part}
use Rattle.yw_state.specs.Texts.{Reader}
use Rattle.yw_state.specs.Well.{NumbersFit, NetsStand, ParentsStand, MarksStand, ContentFits, IsWell, NetFits, DepthFits, has_work, is_composite, is_drawn, is_top, item_limit, net_level}
use Rattle.yw_state.specs.Words.{has_check, is_ready}
use Rattle.yw_state.specs.declared.tree.TreeKind.{TreeKind}
use Rattle.yw_state.specs.declared.tree.TreeKind.TheVariants.{Select}

-- A run that may come at j.
pub record RunMayCome (s : State) (j : Ident) (r : RunPart) : Type 0 where
  pub deep : 2 ≤ length j
  pub target : is_target s (parent j) ≡ true
  pub works : has_work r ≡ true
  pub at_work : r.waiting ≡ false
  pub short : length r.rest ≤ most_primitives
  pub fit : are_fit s (is_case_ident (parent j)) r.rest ≡ true
  pub alone : (k : Ident) → is_some (run_part s k) ≡ true → ¬ (parent k ≡ parent j)

-- A net that may come at j, as a case.
pub record CaseMayCome (s : State) (j : Ident) (n : NetPart) : Type 0 where
  pub is_case : is_case_ident j ≡ true
  pub top : is_top s n ≡ true
  pub found : NetAt
  pub of_spec : net_by s n ≡ Some found
  pub fits : NetFits found

-- What is due as it comes is due at a case, by a tree that has a rule, and is no choice of a worklet.
pub record DueAsComes (s : State) (x : Site) (kind : TreeKind) : Type 0 where
  pub net : NetPart
  pub here : x.net ≡ Some net
  pub rule : has_rules s (case_place net.spec kind) ≡ true
  pub other : is_select kind ≡ false

-- what comes at j, and the counter then
pub record MayCome (s : State) (j : Ident) (x : Site) (next : ℕ) : Type 0 where
  pub undrawn : is_drawn s j ≡ false
  pub later : s.next ≤ next
  pub most : next ≤ number_end
  pub identity : is_identity j ≡ true
  pub drawn : list_all (λ n. nat_lt n next) j ≡ true
  pub over : IsNone (get s.ended (case_number j))
  pub no_item : x.item ≡ None
  pub not_suspended : x.suspended ≡ false
  pub due : (kind : TreeKind) → has_check x.due kind ≡ true → DueAsComes s x kind
  pub something : (is_some x.net || is_some x.item || is_some x.run) ≡ true
  pub net : (n : NetPart) → x.net ≡ Some n → CaseMayCome s j n
  pub run : (r : RunPart) → x.run ≡ Some r → RunMayCome s j r
  pub not_both : (n : NetPart) → x.net ≡ Some n → x.run ≡ None

module _ (s : State) (j : Ident) (x : Site) (next : ℕ) (may : MayCome s j x next) (numbers : NumbersFit s) where
  abbrev sites : Sites
  sites = insert s.sites j x

  abbrev t : State
  t = with_next (put s j x) next

  -- ---- what is new, and what is old

  new_or_old : {G : Type 0} (k : Ident) → (k ≡ j → get sites k ≡ Some x → G) → (get sites k ≡ get s.sites k → G) → G
  new_or_old k new old =
      by_test (eq_by_cmp lexical k j)
      (λ e. let same = tied by_name k j e in new same (ap (get sites) same ∙ get-insert_same by_name s.sites j x))
      (λ e. old (get-insert_other by_name s.sites j x k (λ same. never (sym e ∙ ap (λ q. eq_by_cmp lexical q j) same ∙ tied_self by_name j))))

  nothing_at : get s.sites j ≡ None
  nothing_at = by_option (get s.sites j) (λ none. none) (λ y stands. never (sym may.undrawn ∙ numbers.drawn j y stands))

  -- something is read there, so it stands, and its numbers are drawn
  drawn_where : {A : Type 0} (read : Site → Option A) (k : Ident) (a : A) → option_and_then read (get s.sites k) ≡ Some a → is_drawn s k ≡ true
  drawn_where read k a e =
      by_option (get s.sites k)
      (λ none. nowhere (ap (option_and_then read) (sym none) ∙ e))
      (λ y stands. numbers.drawn k y stands)

  -- a fact of what is read at each identity
  read_now : {A : Type 0} (read : Site → Option A) (P : Ident → A → Type 0) → ((a : A) → read x ≡ Some a → P j a) → ((k : Ident) (a : A) → option_and_then read (get s.sites k) ≡ Some a → P k a) → (k : Ident) (a : A) → option_and_then read (get sites k) ≡ Some a → P k a
  read_now read P new old k a e =
      new_or_old k
      (λ same here. subst (λ i. P i a) (sym same) (new a (ap (option_and_then read) (sym here) ∙ e)))
      (λ there. old k a (ap (option_and_then read) (sym there) ∙ e))

  part_same : (k : Ident) → item_part t k ≡ item_part s k
  part_same k =
      new_or_old k
      (λ same here. ap (option_and_then (λ (y : Site). y.item)) here ∙ may.no_item ∙ sym (ap (option_and_then (λ (y : Site). y.item)) (ap (get s.sites) same ∙ nothing_at)))
      (λ there. ap (option_and_then (λ (y : Site). y.item)) there)

  net_at_same : (k : Ident) → get sites k ≡ get s.sites k → net_at t k ≡ net_at s k
  net_at_same k there = ap (λ o. option_and_then (net_by s) (option_and_then (λ (y : Site). y.net) o)) there

  item_at_same : (k : Ident) → item_at t k ≡ item_at s k
  item_at_same k =
      ap (λ o. item_in o (net_at t (parent k))) (part_same k)
      ∙ by_option (item_part s k)
      (λ none. ap (λ o. item_in o (net_at t (parent k))) none ∙ sym (ap (λ o. item_in o (net_at s (parent k))) none))
      (λ y some.
      new_or_old (parent k)
      (λ same here. never (sym may.undrawn ∙ ap (is_drawn s) (sym same) ∙ all_parent (λ n. nat_lt n s.next) k (drawn_where (λ (y : Site). y.item) k y some)))
      (λ there. ap (item_in (item_part s k)) (net_at_same (parent k) there)))

  target_kept : (k : Ident) → is_target s k ≡ true → is_target t k ≡ true
  target_kept k e =
      new_or_old k
      (λ same here. never (sym (ap (target_in k) (ap (get s.sites) same ∙ nothing_at) ∙ none_there (is_case_ident k)) ∙ e))
      (λ there. ap (target_in k) there ∙ e)
    where
      target_in : Ident → Option Site → Bool
      target_in i o = is_case_ident i && is_some (option_and_then (λ (y : Site). y.net) o) || is_some (option_and_then (λ (y : Site). y.item) o)

      none_there : (b : Bool) → (b && false || false) ≡ false
      none_there true = refl
      none_there false = refl

  has_rule_kept : (k : Ident) (kind : TreeKind) → get sites k ≡ get s.sites k → has_rule s k kind ≡ true → has_rule t k kind ≡ true
  has_rule_kept k kind there e =
      ap (λ o. asked_of (is_case_ident k) s (option_and_then (λ (y : Site). y.net) o) (item_at t k) kind) there
      ∙ ap (λ y. asked_of (is_case_ident k) s (net_part s k) y kind) (item_at_same k)
      ∙ e

  -- ---- the parts

  numbers_kept : NumbersFit t
  numbers_kept =
      record {
        least = omega (arith, numbers.least, may.later);
        most = may.most;
        identities = λ k y e. new_or_old k (λ same here. ap is_identity same ∙ may.identity) (λ there. numbers.identities k y (sym there ∙ e));
        drawn = λ k y e.
            new_or_old k (λ same here. ap (list_all (λ n. nat_lt n next)) same ∙ may.drawn)
            (λ there. all_weaker (λ n. nat_lt n s.next) (λ n. nat_lt n next) (λ n less. lt-ltb n next (omega (arith, ltb-true n s.next less, may.later))) k (numbers.drawn k y (sym there ∙ e)));
        ended_some = numbers.ended_some;
        ended_drawn = λ n way e. omega (arith, numbers.ended_drawn n way e, may.later);
        over = λ k y e. new_or_old k (λ same here. ap (λ i. is_some (get s.ended (case_number i))) same ∙ may.over) (λ there. numbers.over k y (sym there ∙ e));
      }

  nets_kept : NetsStand s → NetsStand t
  nets_kept nets =
      record {
        of_case = read_now (λ y. y.net) (λ k n. is_case_ident k ≡ true → is_top s n ≡ true) (λ n e is_case. (may.net n e).top) nets.of_case;
        of_item = λ k n y e f.
            new_or_old k
            (λ same here. never (sym may.undrawn ∙ ap (is_drawn s) (sym same) ∙ drawn_item k y (sym (item_at_same k) ∙ f)))
            (λ there. nets.of_item k n y (ap (option_and_then (λ (z : Site). z.net)) (sym there) ∙ e) (sym (item_at_same k) ∙ f));
        of_run = λ k n r e f.
            new_or_old k
            (λ same here.
            nowhere (sym (may.not_both n (ap (option_and_then (λ (z : Site). z.net)) (sym here) ∙ e)) ∙ ap (option_and_then (λ (z : Site). z.run)) (sym here) ∙ f))
            (λ there. nets.of_run k n r (ap (option_and_then (λ (z : Site). z.net)) (sym there) ∙ e) (ap (option_and_then (λ (z : Site). z.run)) (sym there) ∙ f));
        at_something = λ k n e.
            new_or_old k
            (λ same here.
            let case : is_case_ident k ≡ true = ap is_case_ident same ∙ (may.net n (ap (option_and_then (λ (z : Site). z.net)) (sym here) ∙ e)).is_case in
            or_left (is_case_ident k || is_some (item_part t k)) (is_some (run_part t k)) (or_left (is_case_ident k) (is_some (item_part t k)) case))
            (λ there.
            ap (λ o. is_case_ident k || is_some (option_and_then (λ (z : Site). z.item) o) || is_some (option_and_then (λ (z : Site). z.run) o)) there
            ∙ nets.at_something k n (ap (option_and_then (λ (z : Site). z.net)) (sym there) ∙ e));
        item_has = λ k y e wants.
            new_or_old k
            (λ same here. never (sym may.undrawn ∙ ap (is_drawn s) (sym same) ∙ drawn_item k y (sym (item_at_same k) ∙ e)))
            (λ there. ap (λ o. is_some (option_and_then (λ (z : Site). z.net) o)) there ∙ nets.item_has k y (sym (item_at_same k) ∙ e) wants);
        run_has = λ k r e waits.
            new_or_old k
            (λ same here. never (sym (may.run r (ap (option_and_then (λ (z : Site). z.run)) (sym here) ∙ e)).at_work ∙ waits))
            (λ there. ap (λ o. is_some (option_and_then (λ (z : Site). z.net) o)) there ∙ nets.run_has k r (ap (option_and_then (λ (z : Site). z.run)) (sym there) ∙ e) waits);
      }
    where
      drawn_item : (k : Ident) (y : ItemAt) → item_at s k ≡ Some y → is_drawn s k ≡ true
      drawn_item k y e =
          by_option (item_part s k)
          (λ none. nowhere (ap (λ o. item_in o (net_at s (parent k))) (sym none) ∙ e))
          (λ part some. drawn_where (λ (z : Site). z.item) k part some)

  parents_kept : ParentsStand s → ParentsStand t
  parents_kept parents =
      record {
        item_depth = λ k y e. parents.item_depth k y (sym (part_same k) ∙ e);
        item_of_net = λ k y e. ap is_some (item_at_same k) ∙ parents.item_of_net k y (sym (part_same k) ∙ e);
        run_depth = read_now (λ z. z.run) (λ k r. 2 ≤ length k) (λ r e. (may.run r e).deep) parents.run_depth;
        run_of_target = λ k r e. target_kept (parent k) (read_now (λ z. z.run) (λ i y. is_target s (parent i) ≡ true) (λ y f. (may.run y f).target) parents.run_of_target k r e);
        run_works = read_now (λ z. z.run) (λ k r. has_work r ≡ true) (λ r e. (may.run r e).works) parents.run_works;
        one_run = λ k l a b same.
            new_or_old k
            (λ k_same k_here.
            new_or_old l (λ l_same l_here. k_same ∙ sym l_same)
            (λ l_there. absurd (alone (ap run_in (sym k_here) ∙ a) l (ap run_in (sym l_there) ∙ b) (sym same ∙ ap parent k_same))))
            (λ k_there.
            new_or_old l (λ l_same l_here. absurd (alone (ap run_in (sym l_here) ∙ b) k (ap run_in (sym k_there) ∙ a) (same ∙ ap parent l_same)))
            (λ l_there. parents.one_run k l (ap run_in (sym k_there) ∙ a) (ap run_in (sym l_there) ∙ b) same));
        not_both = λ k a.
            let stood : is_some (item_part s k) ≡ true = ap is_some (sym (part_same k)) ∙ a in
            new_or_old k
            (λ same here. never (sym (ap is_some (ap (option_and_then (λ (z : Site). z.item)) (ap (get s.sites) same ∙ nothing_at))) ∙ stood))
            (λ there. ap (λ o. is_some (option_and_then (λ (z : Site). z.run) o)) there ∙ parents.not_both k stood);
        something = λ k y e.
            new_or_old k
            (λ same here. ap part_of (some_same y x (sym e ∙ here)) ∙ may.something)
            (λ there. parents.something k y (sym there ∙ e));
      }
    where
      run_in : Option Site → Bool
      run_in o = is_some (option_and_then (λ (z : Site). z.run) o)

      part_of : Site → Bool
      part_of z = is_some z.net || is_some z.item || is_some z.run

      alone : is_some x.run ≡ true → (k : Ident) → is_some (run_part s k) ≡ true → ¬ (parent k ≡ parent j)
      alone has k runs = by_option x.run (λ none. never (ap is_some (sym none) ∙ has)) (λ r some. (may.run r some).alone k runs)

  marks_kept : MarksStand s → MarksStand t
  marks_kept marks =
      record {
        suspended = λ k e.
            new_or_old k
            (λ same here. never (sym may.not_suspended ∙ ap (λ o. is_some_and o (λ (z : Site). z.suspended)) (sym here) ∙ e))
            (λ there. target_kept k (marks.suspended k (ap (λ o. is_some_and o (λ (z : Site). z.suspended)) (sym there) ∙ e)));
        due = λ k kind e. due_now k kind e (λ due of_case net. case_is_target t k due.net of_case net) (λ there was. target_kept k (marks.due k kind was));
        due_has_rule = λ k kind e.
            due_now k kind e (λ due of_case net. case_has_rule t k due.net of_case net kind ∙ due.rule) (λ there was. has_rule_kept k kind there (marks.due_has_rule k kind was));
        select = λ k e.
            due_now k Select e (λ due of_case net. never (sym due.other)) (λ there was. ap (λ o. is_some_and o (λ (z : ItemPart). is_ready z.stage)) (part_same k) ∙ marks.select k was);
      }
    where
      due_in : TreeKind → Option Site → Bool
      due_in kind o = has_check (unwrap_or (option_map (λ (z : Site). z.due) o) no_checks) kind

      -- due as it comes, or before
      due_now : {G : Type 0} (k : Ident) (kind : TreeKind) → has_check (due_at t k) kind ≡ true → ((due : DueAsComes s x kind) → is_case_ident k ≡ true → net_part t k ≡ Some due.net → G)
          → (get sites k ≡ get s.sites k → has_check (due_at s k) kind ≡ true → G) → G
      due_now k kind e new old =
          new_or_old k
          (λ same here.
          let due = may.due kind (ap (due_in kind) (sym here) ∙ e) in
          new due (ap is_case_ident same ∙ (may.net due.net due.here).is_case) (ap (option_and_then (λ (z : Site). z.net)) here ∙ due.here))
          (λ there. old there (ap (due_in kind) (sym there) ∙ e))

  nested_same : (k : Ident) → is_some_and (item_at t k) is_composite ≡ is_some_and (item_at s k) is_composite
  nested_same k = ap (λ o. is_some_and o is_composite) (item_at_same k)

  depth_kept : DepthFits s → DepthFits t
  depth_kept depth k n e =
      deep_alike s t nested_same k
      (read_now (λ z. z.net) (λ i y. length i ≤ 30 + net_level s i) (λ y f. one_number (eqb-true (length j) 1 (may.net y f).is_case)) (λ i y f. depth i y f) k n e)
    where
      one_number : length j ≡ 1 → length j ≤ 30 + net_level s j
      one_number e = omega (arith, e)

  -- ---- items of a task

  not_item : (i : Ident) (n : ℕ) (k : Ident) → is_some (item_of_task i n k x) ≡ false
  not_item i n k = ap (λ o. is_some (item_of_task i n k (record x { item = o }))) may.no_item ∙ either (is_child k i)
    where
      either : (b : Bool) → is_some {T = Ident × ItemPart} (if b then None else None) ≡ false
      either true = refl
      either false = refl

  count_same : (i : Ident) (n : ℕ) → length (items_of t i n) ≡ length (items_of s i n)
  count_same i n = length-insert_other by_name (λ e. item_of_task i n e.0 e.1) s.sites j x (not_item i n) nothing_at

  -- no item stands in what comes
  no_items : (n : ℕ) → length (items_of s j n) ≡ 0
  no_items n = length-none by_name (λ e. item_of_task j n e.0 e.1) s.sites.list s.sites.sorted (λ k y stands. out_of k y (numbers.drawn k y stands))
    where
      out_of : (k : Ident) (y : Site) → is_drawn s k ≡ true → is_some (item_of_task j n k y) ≡ false
      out_of k y drawn =
          let apart : is_child k j ≡ false =
          false_from_ne_true (is_child k j) (λ child. never (sym may.undrawn ∙ all_above (λ m. nat_lt m s.next) k j (and_parts (under k j) (length k == length j + 1) child).0 drawn)) in
          ap (λ b. is_some {T = Ident × ItemPart} (if b then option_and_then (λ (z : ItemPart). if z.task == n then Some (k, z) else None) y.item else None)) apart

  content_kept : (reader : Reader) → ContentFits reader s → ContentFits reader t
  content_kept reader content =
      content_stays reader s sites next s.ended content (record {
        of_spec = λ k n e.
            ap is_some (ap (option_and_then (net_by s)) e) ∙ read_now (λ z. z.net) (λ i y. is_some (net_by s y) ≡ true) (λ y f. ap is_some (may.net y f).of_spec) old_spec k n e;
        net = λ k a e. fits_now k a e;
        item = λ k y e. content.item k y (sym (item_at_same k) ∙ e);
        count = λ i a n task e f.
            new_or_old i
            (λ same here. subst (λ c. c ≤ item_limit task.many) (sym (count_same i n ∙ ap (λ k. length (items_of s k n)) same ∙ no_items n)) (omega arith))
            (λ there. subst (λ c. c ≤ item_limit task.many) (sym (count_same i n)) (content.count i a n task (sym (net_at_same i there) ∙ e) f));
        run_length = read_now (λ z. z.run) (λ k r. length r.rest ≤ most_primitives) (λ r e. (may.run r e).short) content.run_length;
        run_fit = read_now (λ z. z.run) (λ k r. are_fit s (is_case_ident (parent k)) r.rest ≡ true) (λ r e. (may.run r e).fit) content.run_fit;
      })
    where
      old_spec : (k : Ident) (n : NetPart) → net_part s k ≡ Some n → is_some (net_by s n) ≡ true
      old_spec k n e = ap is_some (sym (ap (option_and_then (net_by s)) e)) ∙ content.of_spec k n e

      fits_now : (k : Ident) (a : NetAt) → net_at t k ≡ Some a → NetFits a
      fits_now k a e =
          new_or_old k
          (λ same here. new_fits (ap (λ o. option_and_then (net_by s) (option_and_then (λ (z : Site). z.net) o)) (sym here) ∙ e))
          (λ there. content.net k a (sym (net_at_same k there) ∙ e))
        where
          new_fits : option_and_then (net_by s) x.net ≡ Some a → NetFits a
          new_fits f =
              by_option x.net
              (λ none. nowhere (ap (option_and_then (net_by s)) (sym none) ∙ f))
              (λ n some.
              let case = may.net n some in
              subst NetFits (some_same case.found a (sym case.of_spec ∙ ap (option_and_then (net_by s)) (sym some) ∙ f)) case.fits)

pub come_is_well : (reader : Reader) (s : State) (j : Ident) (x : Site) (next : ℕ) → MayCome s j x next → IsWell reader s → IsWell reader (with_next (put s j x) next)
come_is_well reader s j x next may well =
    record {
      numbers = numbers_kept s j x next may well.numbers;
      nets = nets_kept s j x next may well.numbers well.nets;
      parents = parents_kept s j x next may well.numbers well.parents;
      marks = marks_kept s j x next may well.numbers well.marks;
      content = content_kept s j x next may well.numbers reader well.content;
      depth = depth_kept s j x next may well.numbers well.depth;
    }
