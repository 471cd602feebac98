-- Some of what stands goes, and with it all under it: what is well stays well.
use Rattle.std.specs.Prelude.{◌≡◌, ◌≤◌, ◌&&◌, ◌||◌, Bool, true, false, cond, List, [], ◌∷◌, length, Option, Some, None, is_some, option_and_then, refl}
use Rattle.std.specs.List.{cons_option, filter, filter_map}
use Rattle.std.specs.Ordering.{nat_cmp}
use Rattle.std.proofs.Common.{sym, ◌∙◌, ap, arith, le_trans}
use Rattle.yw_state.proofs.Alike.{asked_of, due_test, item_in, net_by}
use Rattle.yw_state.proofs.MapLemmas.{by_name, by_test, get-retain_gone, get-retain_kept, never, nowhere, retain_stands}
use Rattle.yw_state.proofs.NetLevels.{deep_as_before}
use Rattle.yw_state.proofs.Unchanged.{content_stays}
use Rattle.yw_state.specs.Identity.{Ident, is_case_ident}
use Rattle.yw_base.specs.Identity.{parent}
use Rattle.yw_state.specs.Judged.{has_rule}
use Rattle.yw_state.specs.Map.{Map, get, retain}
use Rattle.yw_state.specs.Options.{is_some_and}
use Rattle.yw_state.specs.State.{State, Site, NetPart, ItemPart, RunPart, ItemAt, NetAt, due_at, is_target, item_at, item_of_task, item_part, net_at, net_part, run_part}
use Rattle.yw_state.specs.Texts.{Reader}
use Rattle.yw_state.specs.Well.{NumbersFit, NetsStand, ParentsStand, MarksStand, ContentFits, IsWell, DepthFits, is_composite}
use Rattle.yw_state.specs.Words.{has_check, is_ready}
use Rattle.yw_state.specs.declared.part.Way.{Way}
use Rattle.yw_state.specs.declared.tree.TreeKind.{TreeKind}
use Rattle.yw_state.specs.declared.tree.TreeKind.TheVariants.{Select}

-- ---- no more entries of a kind

length-cons : {B : Type 0} (o : Option B) (xs ys : List B) → length xs ≤ length ys → length (cons_option o xs) ≤ length (cons_option o ys)
length-cons None xs ys e = e
length-cons (Some x) xs ys e = omega arith

length-skipped : {B : Type 0} (o : Option B) (xs ys : List B) → length xs ≤ length ys → length xs ≤ length (cons_option o ys)
length-skipped None xs ys e = e
length-skipped (Some x) xs ys e = omega arith

length-where : {K X B : Type 0} (g : K × X → Option B) (p : K → Bool) (es : List (K × X)) → length (filter_map g (filter (λ e. p e.0) es)) ≤ length (filter_map g es)
length-where g p [] = omega arith
length-where g p (e ∷ es) =
    elim (p e.0) as (λ b. length (filter_map g (cond b (e ∷ filter (λ e. p e.0) es) (filter (λ e. p e.0) es))) ≤ length (filter_map g (e ∷ es))) [
      | true ↦ length-cons (g e) _ _ (length-where g p es)
      | false ↦ length-skipped (g e) _ _ (length-where g p es)
    ]

-- ---- what stays

module _ (s : State) (p : Ident → Bool) (ended : Map nat_cmp Way) where
  abbrev pub retained : State
  retained = record s { sites = retain s.sites p; ended = ended }

  abbrev t : State
  t = retained

  at_kept : (k : Ident) → p k ≡ true → get t.sites k ≡ get s.sites k
  at_kept k e = get-retain_kept by_name s.sites p k e

  at_gone : (k : Ident) → p k ≡ false → get t.sites k ≡ None
  at_gone k e = get-retain_gone by_name s.sites p k e

  -- what is read there now was read there before
  read_before : {A : Type 0} (read : Site → Option A) (k : Ident) (x : A) → option_and_then read (get t.sites k) ≡ Some x → (p k ≡ true) × (option_and_then read (get s.sites k) ≡ Some x)
  read_before read k x e =
      by_test (p k)
      (λ b. (b, ap (option_and_then read) (sym (at_kept k b)) ∙ e))
      (λ b. nowhere (ap (option_and_then read) (sym (at_gone k b)) ∙ e))

  test_before : (test : Option Site → Bool) → test None ≡ false → (k : Ident) → test (get t.sites k) ≡ true → (p k ≡ true) × (test (get s.sites k) ≡ true)
  test_before test none k e =
      by_test (p k)
      (λ b. (b, ap test (sym (at_kept k b)) ∙ e))
      (λ b. never (sym none ∙ ap test (sym (at_gone k b)) ∙ e))

  net_before : (k : Ident) (n : NetPart) → net_part t k ≡ Some n → (p k ≡ true) × (net_part s k ≡ Some n)
  net_before = read_before (λ x. x.net)

  part_before : (k : Ident) (x : ItemPart) → item_part t k ≡ Some x → (p k ≡ true) × (item_part s k ≡ Some x)
  part_before = read_before (λ x. x.item)

  run_before : (k : Ident) (r : RunPart) → run_part t k ≡ Some r → (p k ≡ true) × (run_part s k ≡ Some r)
  run_before = read_before (λ x. x.run)

  net_kept : (k : Ident) → p k ≡ true → net_part t k ≡ net_part s k
  net_kept k e = ap (option_and_then (λ (x : Site). x.net)) (at_kept k e)

  part_kept : (k : Ident) → p k ≡ true → item_part t k ≡ item_part s k
  part_kept k e = ap (option_and_then (λ (x : Site). x.item)) (at_kept k e)

  run_kept : (k : Ident) → p k ≡ true → run_part t k ≡ run_part s k
  run_kept k e = ap (option_and_then (λ (x : Site). x.run)) (at_kept k e)

  net_at_kept : (k : Ident) → p k ≡ true → net_at t k ≡ net_at s k
  net_at_kept k e = ap (option_and_then (net_by s)) (net_kept k e)

  net_at_before : (k : Ident) (n : NetAt) → net_at t k ≡ Some n → (p k ≡ true) × (net_at s k ≡ Some n)
  net_at_before k n e =
      by_test (p k)
      (λ b. (b, sym (net_at_kept k b) ∙ e))
      (λ b. nowhere (ap (λ o. option_and_then (net_by s) (option_and_then (λ (x : Site). x.net) o)) (sym (at_gone k b)) ∙ e))

  target_kept : (k : Ident) → p k ≡ true → is_target t k ≡ is_target s k
  target_kept k e = ap (λ o. is_case_ident k && is_some (option_and_then (λ (x : Site). x.net) o) || is_some (option_and_then (λ (x : Site). x.item) o)) (at_kept k e)

  -- what stays, stays with what it stands at
  module _ (closed : (k : Ident) → p k ≡ true → p (parent k) ≡ true) where
    item_at_kept : (k : Ident) → p k ≡ true → item_at t k ≡ item_at s k
    item_at_kept k e = ap (λ o. item_in o (net_at t (parent k))) (part_kept k e) ∙ ap (item_in (item_part s k)) (net_at_kept (parent k) (closed k e))

    item_at_before : (k : Ident) (x : ItemAt) → item_at t k ≡ Some x → (p k ≡ true) × (item_at s k ≡ Some x)
    item_at_before k x e =
        by_test (p k)
        (λ b. (b, sym (item_at_kept k b) ∙ e))
        (λ b. nowhere (ap (λ o. item_in (option_and_then (λ (y : Site). y.item) o) (net_at t (parent k))) (sym (at_gone k b)) ∙ e))

    has_rule_kept : (k : Ident) (kind : TreeKind) → p k ≡ true → has_rule t k kind ≡ has_rule s k kind
    has_rule_kept k kind e =
        ap (λ n. asked_of (is_case_ident k) s n (item_at t k) kind) (net_kept k e) ∙ ap (λ x. asked_of (is_case_ident k) s (net_part s k) x kind) (item_at_kept k e)

    nets_kept : NetsStand s → NetsStand t
    nets_kept nets =
        record {
          of_case = λ k n e is_case. nets.of_case k n (net_before k n e).1 is_case;
          of_item = λ k n x e f. nets.of_item k n x (net_before k n e).1 (item_at_before k x f).1;
          of_run = λ k n r e f. nets.of_run k n r (net_before k n e).1 (run_before k r f).1;
          at_something = λ k n e.
              let before = net_before k n e in
              ap (λ o. is_case_ident k || is_some (option_and_then (λ (x : Site). x.item) o) || is_some (option_and_then (λ (x : Site). x.run) o)) (at_kept k before.0)
              ∙ nets.at_something k n before.1;
          item_has = λ k x e wants. let before = item_at_before k x e in ap is_some (net_kept k before.0) ∙ nets.item_has k x before.1 wants;
          run_has = λ k r e waits. let before = run_before k r e in ap is_some (net_kept k before.0) ∙ nets.run_has k r before.1 waits;
        }

    parents_kept : ParentsStand s → ParentsStand t
    parents_kept parents =
        record {
          item_depth = λ k x e. parents.item_depth k x (part_before k x e).1;
          item_of_net = λ k x e. let before = part_before k x e in ap is_some (item_at_kept k before.0) ∙ parents.item_of_net k x before.1;
          run_depth = λ k r e. parents.run_depth k r (run_before k r e).1;
          run_of_target = λ k r e. let before = run_before k r e in target_kept (parent k) (closed k before.0) ∙ parents.run_of_target k r before.1;
          run_works = λ k r e. parents.run_works k r (run_before k r e).1;
          one_run = λ k l a b.
              parents.one_run k l (test_before (λ o. is_some (option_and_then (λ (x : Site). x.run) o)) refl k a).1 (test_before (λ o. is_some (option_and_then (λ (x : Site). x.run) o)) refl l b).1;
          not_both = λ k a.
              let before = test_before (λ o. is_some (option_and_then (λ (x : Site). x.item) o)) refl k a in
              ap is_some (run_kept k before.0) ∙ parents.not_both k before.1;
          something = λ k x e. parents.something k x (retain_stands by_name s.sites p k x e).0;
        }

    marks_kept : MarksStand s → MarksStand t
    marks_kept marks =
        record {
          suspended = λ k e.
              let before = test_before (λ o. is_some_and o (λ (x : Site). x.suspended)) refl k e in
              target_kept k before.0 ∙ marks.suspended k before.1;
          due = λ k kind e. let before = due_before k kind e in target_kept k before.0 ∙ marks.due k kind before.1;
          due_has_rule = λ k kind e. let before = due_before k kind e in has_rule_kept k kind before.0 ∙ marks.due_has_rule k kind before.1;
          select = λ k e.
              let before = due_before k Select e in
              ap (λ o. is_some_and o (λ (x : ItemPart). is_ready x.stage)) (part_kept k before.0) ∙ marks.select k before.1;
        }
      where
        due_before : (k : Ident) (kind : TreeKind) → has_check (due_at t k) kind ≡ true → (p k ≡ true) × (has_check (due_at s k) kind ≡ true)
        due_before k kind e =
            let before = test_before (λ o. is_some_and o (λ (x : Site). has_check x.due kind)) refl k (sym (due_test kind (get t.sites k)) ∙ e) in
            (before.0, due_test kind (get s.sites k) ∙ before.1)

    depth_kept : DepthFits s → DepthFits t
    depth_kept depth k n e =
        let before = net_before k n e in
        deep_as_before s t (λ i. p i ≡ true) (λ i here. ap (λ o. is_some_and o is_composite) (item_at_kept i here)) (λ i here nested. closed i here) k before.0 (depth k n before.1)

    content_kept : (reader : Reader) → ContentFits reader s → ContentFits reader t
    content_kept reader content =
        content_stays reader s (retain s.sites p) s.next ended content (record {
          of_spec = λ k n e. let before = net_before k n e in ap is_some (net_at_kept k before.0) ∙ content.of_spec k n before.1;
          net = λ k n e. content.net k n (net_at_before k n e).1;
          item = λ k x e. content.item k x (item_at_before k x e).1;
          count = λ i n k task e f.
              le_trans (length-where (λ e. item_of_task i k e.0 e.1) p s.sites.list) (content.count i n k task (net_at_before i n e).1 f);
          run_length = λ k r e. content.run_length k r (run_before k r e).1;
          run_fit = λ k r e. content.run_fit k r (run_before k r e).1;
        })

    pub retained_is_well : (reader : Reader) → NumbersFit t → IsWell reader s → IsWell reader t
    retained_is_well reader numbers well =
        record {
          numbers = numbers;
          nets = nets_kept well.nets;
          parents = parents_kept well.parents;
          marks = marks_kept well.marks;
          content = content_kept reader well.content;
          depth = depth_kept well.depth;
        }
