-- A net goes on with other values or other tokens: what is well stays well.
use Rattle.std.specs.Prelude.{◌≡◌, ◌≤◌, ℕ, ◌&&◌, ◌||◌, ◌==◌, Bool, true, false, List, length, Option, Some, None, is_some, option_map, option_and_then, refl, slice_get, nat_lt, if◌then◌else◌}
use Rattle.std.specs.Ordering.{eq_by_cmp}
use Rattle.std.specs.Str.{bytes_eq}
use Rattle.std.proofs.Common.{sym, ◌∙◌, ap, subst}
use Rattle.yw_spec.specs.declared.spec.Net.{Net}
use Rattle.yw_spec.specs.declared.spec.Spec.{Spec}
use Rattle.yw_spec.specs.declared.task.Task.{Task}
use Rattle.yw_invariant.proofs.Turning.{same_option}
use Rattle.yw_state.proofs.Alike.{asked_of, due_test, item_in, net_by}
use Rattle.yw_state.proofs.ChangeWell.{read_kept}
use Rattle.yw_state.proofs.EntryCounts.{length-update}
use Rattle.yw_state.proofs.MapLemmas.{by_name, by_test, get-update_other, never, tied, tied_self}
use Rattle.yw_state.proofs.Tests.{map_some}
use Rattle.yw_state.proofs.NetLevels.{deep_alike}
use Rattle.yw_state.proofs.Unchanged.{content_stays}
use Rattle.yw_state.proofs.Updated.{made_here, marks_kept, numbers_kept, parents_kept, some_mapped, stands_right}
use Rattle.yw_state.specs.After.{change, with_net}
use Rattle.yw_state.specs.Identity.{Ident, is_case_ident}
use Rattle.yw_base.specs.Identity.{parent}
use Rattle.yw_state.specs.Judged.{has_rule, rules_at}
use Rattle.yw_state.specs.Map.{get, lexical, update}
use Rattle.yw_state.specs.Nets.{child_net}
use Rattle.yw_state.specs.Options.{is_some_and}
use Rattle.yw_state.specs.State.{State, Site, Sites, NetPart, ItemPart, ItemAt, NetAt, TaskAt, due_at, is_target, item_at, item_of_task, item_part, items_of, net_at, net_part, run_part, spec_called}
use Rattle.yw_state.specs.Texts.{Reader}
use Rattle.yw_state.specs.Well.{NetsStand, MarksStand, ContentFits, IsWell, ItemFits, NetFits, Stands, is_child_of, is_composite, is_top, item_limit, wants_net}
use Rattle.yw_state.specs.Words.{has_check, is_ready}
use Rattle.yw_state.specs.declared.tree.TreeKind.{TreeKind}
use Rattle.yw_state.specs.declared.tree.TreeKind.TheVariants.{Select}

-- the same net with this part in place of its own, and an item in it
abbrev pub rebased : (NetPart → NetPart) → NetAt → NetAt
rebased g n = record n { part = g n.part }

abbrev pub moved : (NetPart → NetPart) → ItemAt → ItemAt
moved g x = record x { of_task = record x.of_task { within = rebased g x.of_task.within } }

-- Specification and number stay.
pub record KeepsNet (f : NetPart → NetPart) : Type 0 where
  pub spec : (n : NetPart) → (f n).spec ≡ n.spec
  pub net : (n : NetPart) → (f n).net ≡ n.net

module _ (s : State) (g : NetPart → NetPart) (keeps : KeepsNet g) where
  abbrev found_by : NetPart → Option Net → Option NetAt
  found_by n o = option_map (λ net. record { part = n; net = net }) o

  by_part : (n : NetPart) (o : Option Net) → found_by (g n) o ≡ option_map (rebased g) (found_by n o)
  by_part n None = refl
  by_part n (Some net) = refl

  net_by_same : (o : Option NetPart) → option_and_then (net_by s) (option_map g o) ≡ option_map (rebased g) (option_and_then (net_by s) o)
  net_by_same None = refl
  net_by_same (Some n) =
      ap (λ name. found_by (g n) (option_and_then (λ (x : Spec). slice_get x.nets (g n).net) (spec_called s name))) (keeps.spec n)
      ∙ ap (λ k. found_by (g n) (option_and_then (λ (x : Spec). slice_get x.nets k) (spec_called s n.spec))) (keeps.net n)
      ∙ by_part n (option_and_then (λ (x : Spec). slice_get x.nets n.net) (spec_called s n.spec))

  of_task : (x : ItemPart) (n : NetAt) (o : Option Task)
      → option_map (λ (t : TaskAt). record { part = x; of_task = t }) (option_map (λ (u : Task). record { number = x.task; task = u; within = rebased g n }) o)
      ≡ option_map (moved g) (option_map (λ (t : TaskAt). record { part = x; of_task = t }) (option_map (λ (u : Task). record { number = x.task; task = u; within = n }) o))
  of_task x n None = refl
  of_task x n (Some u) = refl

  item_in_same : (part : Option ItemPart) (o : Option NetAt) → item_in part (option_map (rebased g) o) ≡ option_map (moved g) (item_in part o)
  item_in_same None o = refl
  item_in_same (Some x) None = refl
  item_in_same (Some x) (Some n) = of_task x n (slice_get n.net.tasks x.task)

  -- ---- what is asked of it is as before

  abbrev top_of : List ℕ → ℕ → Bool
  top_of name k = is_some_and (spec_called s name) (λ (x : Spec). k == x.top)

  top_same : (n : NetPart) → is_top s (g n) ≡ is_top s n
  top_same n = ap (λ name. top_of name (g n).net) (keeps.spec n) ∙ ap (top_of n.spec) (keeps.net n)

  abbrev child_by : ItemAt → ℕ → List ℕ → List ℕ → Bool
  child_by x k name above = is_some_and (child_net x.of_task.task) (λ c. k == c) && bytes_eq name above

  child_of_moved : (x : ItemAt) (n : NetPart) → is_child_of (moved g x) n ≡ is_child_of x n
  child_of_moved x n = ap (child_by x n.net n.spec) (keeps.spec x.of_task.within.part)

  child_same : (x : ItemAt) (n : NetPart) → is_child_of x (g n) ≡ is_child_of x n
  child_same x n =
      ap (λ k. child_by x k (g n).spec x.of_task.within.part.spec) (keeps.net n) ∙ ap (λ name. child_by x n.net name x.of_task.within.part.spec) (keeps.spec n)

  asked_moved : (b : Bool) (n : Option NetPart) (o : Option ItemAt) (kind : TreeKind) → asked_of b s n (option_map (moved g) o) kind ≡ asked_of b s n o kind
  asked_moved true n o kind = refl
  asked_moved false n None kind = refl
  asked_moved false n (Some x) kind =
      ap (λ name. nat_lt 0 (length (rules_at s (record { spec = name; net = Some x.of_task.within.net.name; task = Some x.of_task.task.name; kind = kind })))) (keeps.spec x.of_task.within.part)

  asked_same : (b : Bool) (n : Option NetPart) (o : Option ItemAt) (kind : TreeKind) → asked_of b s (option_map g n) o kind ≡ asked_of b s n o kind
  asked_same false n o kind = refl
  asked_same true None o kind = refl
  asked_same true (Some n) o kind = ap (λ name. nat_lt 0 (length (rules_at s (record { spec = name; net = None; task = None; kind = kind })))) (keeps.spec n)

moved_fits : (g : NetPart → NetPart) (x : ItemAt) → ItemFits x → ItemFits (moved g x)
moved_fits g x fits = record { given = fits.given; made = fits.made; not_made = fits.not_made; who_atomic = fits.who_atomic; who_begun = fits.who_begun }

module _ (s : State) (i : Ident) (f : NetPart → NetPart) (keeps : KeepsNet f) (fits : (n : NetAt) → net_at s i ≡ Some n → NetFits (rebased f n)) where
  abbrev sites : Sites
  sites = update s.sites i (with_net f)

  abbrev t : State
  t = change s i (with_net f)

  -- what becomes of the net at k
  abbrev chosen : Bool → NetPart → NetPart
  chosen b = if b then f else (λ n. n)

  abbrev goes : Ident → NetPart → NetPart
  goes k = chosen (eq_by_cmp lexical k i)

  goes_keeps : (k : Ident) → KeepsNet (goes k)
  goes_keeps k = elim (eq_by_cmp lexical k i) as (λ b. KeepsNet (chosen b)) [
    | true ↦ keeps
    | false ↦ record { spec = λ n. refl; net = λ n. refl }
  ]

  net_now : (k : Ident) → net_part t k ≡ option_map (goes k) (net_part s k)
  net_now k =
      by_test (eq_by_cmp lexical k i)
      (λ e.
      let here = tied by_name k i e in
      ap (net_part t) here
      ∙ made_here s i (with_net f) (λ x. x.net) f (λ x. refl)
      ∙ ap (λ j. option_map f (net_part s j)) (sym here)
      ∙ ap (λ b. option_map (chosen b) (net_part s k)) (sym e))
      (λ e.
      ap (option_and_then (λ (x : Site). x.net)) (get-update_other by_name s.sites i (with_net f) k (λ same. never (sym e ∙ ap (λ q. eq_by_cmp lexical q i) same ∙ tied_self by_name i)))
      ∙ same_option (net_part s k)
      ∙ ap (λ b. option_map (chosen b) (net_part s k)) (sym e))

  part_same : (k : Ident) → item_part t k ≡ item_part s k
  part_same k = read_kept s.sites i (with_net f) (λ x. x.item) (λ x. refl) k

  run_same : (k : Ident) → run_part t k ≡ run_part s k
  run_same k = read_kept s.sites i (with_net f) (λ x. x.run) (λ x. refl) k

  net_at_now : (k : Ident) → net_at t k ≡ option_map (rebased (goes k)) (net_at s k)
  net_at_now k = ap (option_and_then (net_by s)) (net_now k) ∙ net_by_same s (goes k) (goes_keeps k) (net_part s k)

  item_now : (k : Ident) → item_at t k ≡ option_map (moved (goes (parent k))) (item_at s k)
  item_now k =
      ap (λ o. item_in o (net_at t (parent k))) (part_same k)
      ∙ ap (item_in (item_part s k)) (net_at_now (parent k))
      ∙ item_in_same s (goes (parent k)) (goes_keeps (parent k)) (item_part s k) (net_at s (parent k))

  -- ---- what was there before

  net_before : (k : Ident) (n : NetPart) → net_part t k ≡ Some n → (m : NetPart) × (net_part s k ≡ Some m) × (goes k m ≡ n)
  net_before k n e = map_some (goes k) (net_part s k) n (sym (net_now k) ∙ e)

  net_at_before : (k : Ident) (n : NetAt) → net_at t k ≡ Some n → (m : NetAt) × (net_at s k ≡ Some m) × (rebased (goes k) m ≡ n)
  net_at_before k n e = map_some (rebased (goes k)) (net_at s k) n (sym (net_at_now k) ∙ e)

  item_before : (k : Ident) (x : ItemAt) → item_at t k ≡ Some x → (y : ItemAt) × (item_at s k ≡ Some y) × (moved (goes (parent k)) y ≡ x)
  item_before k x e = map_some (moved (goes (parent k))) (item_at s k) x (sym (item_now k) ∙ e)

  has_net_same : (k : Ident) → is_some (net_part t k) ≡ is_some (net_part s k)
  has_net_same k = ap is_some (net_now k) ∙ some_mapped (goes k) (net_part s k)

  -- a test of items that doesn't look at the net's values
  item_test_same : (test : Option ItemAt → Bool) → ((g : NetPart → NetPart) (o : Option ItemAt) → test (option_map (moved g) o) ≡ test o) → (k : Ident) → test (item_at t k) ≡ test (item_at s k)
  item_test_same test kept k = ap test (item_now k) ∙ kept (goes (parent k)) (item_at s k)

  has_item_same : (k : Ident) → is_some (item_at t k) ≡ is_some (item_at s k)
  has_item_same = item_test_same is_some (λ g. some_mapped (moved g))

  target_same : (k : Ident) → is_target t k ≡ is_target s k
  target_same k =
      ap (λ b. is_case_ident k && b || is_some (item_part t k)) (has_net_same k)
      ∙ ap (λ o. is_case_ident k && is_some (net_part s k) || is_some o) (part_same k)

  has_rule_same : (k : Ident) (kind : TreeKind) → has_rule t k kind ≡ has_rule s k kind
  has_rule_same k kind =
      let b = is_case_ident k in
      ap (λ n. asked_of b s n (item_at t k) kind) (net_now k)
      ∙ asked_same s (goes k) (goes_keeps k) b (net_part s k) (item_at t k) kind
      ∙ ap (λ x. asked_of b s (net_part s k) x kind) (item_now k)
      ∙ asked_moved s (goes (parent k)) (goes_keeps (parent k)) b (net_part s k) (item_at s k) kind

  -- ---- the parts

  top_kept : (k : Ident) (m n : NetPart) → goes k m ≡ n → is_top s n ≡ is_top s m
  top_kept k m n is = ap (is_top s) (sym is) ∙ top_same s (goes k) (goes_keeps k) m

  right_kept : (k : Ident) (m n : NetPart) (y x : ItemAt) → goes k m ≡ n → moved (goes (parent k)) y ≡ x → stands_right s n x ≡ stands_right s m y
  right_kept k m n y x is was =
      ap (stands_right s n) (sym was)
      ∙ ap (λ b. wants_net y && (if is_composite y then b else is_top s n)) (child_of_moved s (goes (parent k)) (goes_keeps (parent k)) y n ∙ ap (is_child_of y) (sym is) ∙ child_same s (goes k) (goes_keeps k) y m)
      ∙ ap (λ b. wants_net y && (if is_composite y then is_child_of y m else b)) (top_kept k m n is)

  nets_kept : NetsStand s → NetsStand t
  nets_kept nets =
      record {
        of_case = λ k n e is_case. let (m, some, is) = net_before k n e in top_kept k m n is ∙ nets.of_case k m some is_case;
        of_item = λ k n x e h.
            let (m, some, is) = net_before k n e in
            let (y, there, was) = item_before k x h in
            right_kept k m n y x is was ∙ nets.of_item k m y some there;
        of_run = λ k n r e h.
            let (m, some, is) = net_before k n e in
            ap (λ b. r.waiting && b) (top_kept k m n is) ∙ nets.of_run k m r some (sym (run_same k) ∙ h);
        at_something = λ k n e.
            let (m, some, is) = net_before k n e in
            ap (λ o. is_case_ident k || is_some o || is_some (run_part t k)) (part_same k)
            ∙ ap (λ o. is_case_ident k || is_some (item_part s k) || is_some o) (run_same k)
            ∙ nets.at_something k m some;
        item_has = λ k x e wants.
            let (y, there, was) = item_before k x e in
            has_net_same k ∙ nets.item_has k y there (ap wants_net was ∙ wants);
        run_has = λ k r e waits. has_net_same k ∙ nets.run_has k r (sym (run_same k) ∙ e) waits;
      }

  same_marks : MarksStand s → MarksStand t
  same_marks marks =
      marks_kept s i (with_net f) target_same has_rule_same
      (λ x stands d. marks.suspended i (ap (λ o. is_some_and o (λ (y : Site). y.suspended)) stands ∙ d))
      (λ x stands kind d. let due = due_before x stands kind d in (marks.due i kind due, marks.due_has_rule i kind due))
      (λ x stands d. ap (λ o. is_some_and (option_and_then (λ (y : Site). y.item) o) (λ (y : ItemPart). is_ready y.stage)) (sym stands) ∙ marks.select i (due_before x stands Select d))
      marks
    where
      due_before : (x : Site) → Stands s i x → (kind : TreeKind) → has_check x.due kind ≡ true → has_check (due_at s i) kind ≡ true
      due_before x stands kind d = due_test kind (get s.sites i) ∙ ap (λ o. is_some_and o (λ (y : Site). has_check y.due kind)) stands ∙ d

  nested_same : (k : Ident) → is_some_and (item_at t k) is_composite ≡ is_some_and (item_at s k) is_composite
  nested_same = item_test_same (λ o. is_some_and o is_composite) kept
    where
      kept : (g : NetPart → NetPart) (o : Option ItemAt) → is_some_and (option_map (moved g) o) is_composite ≡ is_some_and o is_composite
      kept g None = refl
      kept g (Some x) = refl

  fits_now : (k : Ident) (m : NetAt) → NetFits m → net_at s k ≡ Some m → NetFits (rebased (goes k) m)
  fits_now k m fit some =
      by_test (eq_by_cmp lexical k i)
      (λ e. subst (λ b. NetFits (rebased (chosen b) m)) (sym e) (fits m (ap (net_at s) (sym (tied by_name k i e)) ∙ some)))
      (λ e. subst (λ b. NetFits (rebased (chosen b) m)) (sym e) (record { vals = fit.vals; places = fit.places; counts = fit.counts }))

  -- as many items are of each task
  pub count_same : (k : Ident) (n : ℕ) → length (items_of t k n) ≡ length (items_of s k n)
  count_same k n = length-update by_name (λ e. item_of_task k n e.0 e.1) s.sites i (with_net f) (λ q x. refl)

  content_kept : (reader : Reader) → ContentFits reader s → ContentFits reader t
  content_kept reader content =
      content_stays reader s sites s.next s.ended content (record {
        of_spec = λ k n e.
            let (m, some, is) = net_before k n e in
            ap is_some (net_at_now k) ∙ some_mapped (rebased (goes k)) (net_at s k) ∙ content.of_spec k m some;
        net = λ k n e. let (m, some, is) = net_at_before k n e in subst NetFits is (fits_now k m (content.net k m some) some);
        item = λ k x e. let (y, some, is) = item_before k x e in subst ItemFits is (moved_fits (goes (parent k)) y (content.item k y some));
        count = λ k n number task e d.
            let (m, some, is) = net_at_before k n e in
            subst (λ count. count ≤ item_limit task.many) (sym (count_same k number)) (content.count k m number task some (ap (λ (x : NetAt). slice_get x.net.tasks number) is ∙ d));
        run_length = λ k r e. content.run_length k r (sym (run_same k) ∙ e);
        run_fit = λ k r e. content.run_fit k r (sym (run_same k) ∙ e);
      })

  pub goes_on_is_well : (reader : Reader) → IsWell reader s → IsWell reader t
  goes_on_is_well reader well =
      record {
        numbers = numbers_kept s i (with_net f) well.numbers;
        nets = nets_kept well.nets;
        parents = parents_kept s i (with_net f) has_net_same (λ k. ap is_some (part_same k)) has_item_same run_same target_same well.parents;
        marks = same_marks well.marks;
        content = content_kept reader well.content;
        depth = λ k n e. let (m, some, is) = net_before k n e in deep_alike s t nested_same k (well.depth k m some);
      }

  -- the net at i is the one before, gone on
  net_at_here : net_at t i ≡ option_map (rebased f) (net_at s i)
  net_at_here = net_at_now i ∙ ap (λ b. option_map (rebased (chosen b)) (net_at s i)) (tied_self by_name i)

  pub net_here_now : (n : NetAt) → net_at t i ≡ Some n → (m : NetAt) × (net_at s i ≡ Some m) × (rebased f m ≡ n)
  net_here_now n e = map_some (rebased f) (net_at s i) n (sym net_at_here ∙ e)

  pub net_there_now : (n : NetAt) → net_at s i ≡ Some n → net_at t i ≡ Some (rebased f n)
  net_there_now n e = net_at_here ∙ ap (option_map (rebased f)) e
