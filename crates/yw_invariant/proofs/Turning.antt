-- A net begins or goes at j where no item's net is, and the item or run there goes on with it or without: what is well stays well.
use Rattle.std.specs.Prelude.{◌≡◌, ◌≤◌, ℕ, ◌&&◌, ◌||◌, Bool, true, false, ◌+◌, length, Option, Some, None, is_some, option_map, option_and_then, refl, slice_get, if◌then◌else◌}
use Rattle.std.specs.Ordering.{eq_by_cmp}
use Rattle.std.proofs.Common.{sym, ◌∙◌, ap, subst, arith}
use Rattle.std.proofs.lemmas.Bool.{and_from}
use Rattle.yw_spec.specs.declared.task.Task.{Task}
use Rattle.yw_invariant.proofs.Places.{parent_of_child}
use Rattle.yw_state.proofs.Alike.{asked_of, has_part, net_by}
use Rattle.yw_state.proofs.EntryCounts.{length-none}
use Rattle.yw_state.proofs.MapLemmas.{by_name, by_option, by_test, get-update_other, get-update_same, never, nowhere, some_same, tied, tied_self}
use Rattle.yw_state.proofs.ItemsAlike.{as_many_items, of_task}
use Rattle.yw_state.proofs.NetLevels.{deep_alike}
use Rattle.yw_state.proofs.Unchanged.{content_stays}
use Rattle.yw_state.proofs.Updated.{Renews, asked_same, has_item_same, made_here, marks_kept, nested_same, numbers_kept, renewed, renewed_here, same_in, stands_right, there_same, was_there}
use Rattle.yw_state.specs.After.{change}
use Rattle.yw_state.specs.Identity.{Ident, is_case_ident, is_child}
use Rattle.yw_base.specs.Identity.{parent}
use Rattle.yw_state.specs.Judged.{has_rule}
use Rattle.yw_state.specs.NewRule.{are_fit, most_primitives}
use Rattle.yw_state.specs.Map.{get, lexical, update}
use Rattle.yw_state.specs.Options.{is_some_and}
use Rattle.yw_state.specs.State.{State, Site, Sites, NetPart, ItemPart, RunPart, ItemAt, NetAt, is_target, item_at, item_of_task, item_part, items_of, net_at, net_part, run_part}
use Rattle.yw_state.specs.Texts.{Reader}
use Rattle.yw_state.specs.Well.{NetsStand, ParentsStand, ContentFits, IsWell, ItemFits, NetFits, Stands, has_work, is_child_of, is_composite, is_top, item_limit, net_level, wants_net}
use Rattle.yw_state.specs.Words.{has_check, is_ready}
use Rattle.yw_state.specs.declared.tree.TreeKind.{TreeKind}
use Rattle.yw_state.specs.declared.tree.TreeKind.TheVariants.{Select}

-- the run may stand at j
pub record RunFits (s : State) (j : Ident) (r : RunPart) : Type 0 where
  pub works : has_work r ≡ true
  pub most : length r.rest ≤ most_primitives
  pub fit : are_fit s (is_case_ident (parent j)) r.rest ≡ true

-- The net may stand at j: it is of a specification that is loaded, and the one that is wanted there, and isn't too deep.
pub record Begins (s : State) (j : Ident) (n : NetPart) : Type 0 where
  pub at : NetAt
  pub is : net_by s n ≡ Some at
  pub fits : NetFits at
  pub of_item : (x : ItemAt) → item_at s j ≡ Some x → (if is_composite x then is_child_of x n else is_top s n) ≡ true
  pub of_run : (r : RunPart) → run_part s j ≡ Some r → is_top s n ≡ true
  pub deep : length j ≤ 30 + net_level s j

-- At j the net becomes this one, or goes; the item becomes g of it, and the run h of it.
pub record Turns (s : State) (j : Ident) (net : Option NetPart) (f : Site → Site) (g : ItemPart → ItemPart) (h : RunPart → RunPart) : Type 0 where
  -- no item has its net there
  pub apart : (k : Ident) (x : ItemPart) → item_part s k ≡ Some x → ¬ (parent k ≡ j)
  pub no_case : is_case_ident j ≡ false
  pub stays : (is_some (item_part s j) || is_some (run_part s j)) ≡ true
  pub to_net : (x : Site) → Stands s j x → (f x).net ≡ net
  pub to_item : (x : Site) → (f x).item ≡ option_map g x.item
  pub to_run : (x : Site) → (f x).run ≡ option_map h x.run
  pub task : (x : ItemPart) → (g x).task ≡ x.task
  -- what is marked and due may be so
  pub suspended : (x : Site) → Stands s j x → (f x).suspended ≡ true → is_target s j ≡ true
  pub due : (x : Site) → Stands s j x → (kind : TreeKind) → has_check (f x).due kind ≡ true → (is_target s j ≡ true) × (has_rule s j kind ≡ true)
  pub select : (x : Site) → Stands s j x → has_check (f x).due Select ≡ true → is_some_and (f x).item (λ y. is_ready y.stage) ≡ true
  -- the item or run wants a net exactly where one is there then
  pub wants : (x : ItemAt) → item_at s j ≡ Some x → wants_net (renewed g x) ≡ is_some net
  pub waits : (r : RunPart) → run_part s j ≡ Some r → (h r).waiting ≡ is_some net
  pub item_fits : (x : ItemAt) → item_at s j ≡ Some x → ItemFits (renewed g x)
  pub run_fits : (r : RunPart) → run_part s j ≡ Some r → RunFits s j (h r)
  pub begins : (n : NetPart) → net ≡ Some n → Begins s j n

pub same_option : {A : Type 0} (o : Option A) → o ≡ option_map (λ x. x) o
same_option None = refl
same_option (Some x) = refl

third : (a b c : Bool) → (b || c) ≡ true → (a || b || c) ≡ true
third true b c e = refl
third false b c e = e

module _ (s : State) (j : Ident) (net : Option NetPart) (f : Site → Site) (g : ItemPart → ItemPart) (h : RunPart → RunPart) (turns : Turns s j net f g h) (parents : ParentsStand s) where
  abbrev sites : Sites
  sites = update s.sites j f

  abbrev t : State
  t = change s j f

  -- ---- at j, and elsewhere

  of_each : (P : Ident → Type 0) → P j → ((k : Ident) → ¬ (k ≡ j) → P k) → (k : Ident) → P k
  of_each P here elsewhere k =
      by_test (eq_by_cmp lexical k j)
      (λ e. subst P (sym (tied by_name k j e)) here)
      (λ e. elsewhere k (λ same. never (sym e ∙ ap (λ q. eq_by_cmp lexical q j) same ∙ tied_self by_name j)))

  at_here : get sites j ≡ option_map f (get s.sites j)
  at_here = get-update_same by_name s.sites j f

  at_kept : (k : Ident) → ¬ (k ≡ j) → get sites k ≡ get s.sites k
  at_kept k other = get-update_other by_name s.sites j f k other

  site : (x : Site) × (get s.sites j ≡ Some x)
  site =
      by_option (get s.sites j)
      (λ none. never (ap (λ (o : Option Site). is_some (option_and_then (λ (x : Site). x.item) o) || is_some (option_and_then (λ (x : Site). x.run) o)) (sym none) ∙ turns.stays))
      (λ x some. (x, some))

  net_here : net_part t j ≡ net
  net_here = ap (option_and_then (λ (x : Site). x.net)) (at_here ∙ ap (option_map f) site.1) ∙ turns.to_net site.0 site.1

  pub part_here : item_part t j ≡ option_map g (item_part s j)
  part_here = made_here s j f (λ x. x.item) g turns.to_item

  run_here : run_part t j ≡ option_map h (run_part s j)
  run_here = made_here s j f (λ x. x.run) h turns.to_run

  net_kept : (k : Ident) → ¬ (k ≡ j) → net_part t k ≡ net_part s k
  net_kept k other = ap (option_and_then (λ (x : Site). x.net)) (at_kept k other)

  net_at_kept : (k : Ident) → ¬ (k ≡ j) → net_at t k ≡ net_at s k
  net_at_kept k other = ap (option_and_then (net_by s)) (net_kept k other)

  part_kept : (k : Ident) → ¬ (k ≡ j) → item_part t k ≡ item_part s k
  part_kept k other = ap (option_and_then (λ (x : Site). x.item)) (at_kept k other)

  run_kept : (k : Ident) → ¬ (k ≡ j) → run_part t k ≡ run_part s k
  run_kept k other = ap (option_and_then (λ (x : Site). x.run)) (at_kept k other)

  -- ---- items

  -- an item's net stays
  renews : Renews s j f g
  renews = record { item = turns.to_item; task = turns.task; net = λ k x e. net_at_kept (parent k) (turns.apart k x e) }

  pub item_here : item_at t j ≡ option_map (renewed g) (item_at s j)
  item_here = renewed_here renews

  item_kept : (k : Ident) → ¬ (k ≡ j) → item_at t k ≡ item_at s k
  item_kept k other = same_in renews k (part_kept k other)

  is_item_same : (k : Ident) → is_some (item_part t k) ≡ is_some (item_part s k)
  is_item_same = there_same s j f (λ x. x.item) g turns.to_item

  is_run_same : (k : Ident) → is_some (run_part t k) ≡ is_some (run_part s k)
  is_run_same = there_same s j f (λ x. x.run) h turns.to_run

  -- ---- cases and items

  pub target_same : (k : Ident) → is_target t k ≡ is_target s k
  target_same =
      of_each (λ k. is_target t k ≡ is_target s k)
      (ap (λ b. b && is_some (net_part t j) || is_some (item_part t j)) turns.no_case
      ∙ is_item_same j
      ∙ sym (ap (λ b. b && is_some (net_part s j) || is_some (item_part s j)) turns.no_case))
      (λ k other. ap (λ o. is_case_ident k && is_some o || is_some (item_part t k)) (net_kept k other) ∙ ap (λ b. is_case_ident k && is_some (net_part s k) || b) (is_item_same k))

  has_rule_same : (k : Ident) (kind : TreeKind) → has_rule t k kind ≡ has_rule s k kind
  has_rule_same k kind = of_either (is_case_ident k) refl ∙ asked_same renews (is_case_ident k) (net_part s k) k kind
    where
      of_either : (b : Bool) → is_case_ident k ≡ b → asked_of b s (net_part t k) (item_at t k) kind ≡ asked_of b s (net_part s k) (item_at t k) kind
      of_either true e = ap (λ n. asked_of true s n (item_at t k) kind) (net_kept k (λ same. never (sym turns.no_case ∙ ap is_case_ident (sym same) ∙ e)))
      of_either false e = refl

  -- ---- the parts

  -- the item at j is g of the one before, and the run h of it
  of_item_here : (P : ItemAt → Type 0) → ((y : ItemAt) → item_at s j ≡ Some y → P (renewed g y)) → (x : ItemAt) → item_at t j ≡ Some x → P x
  of_item_here P new x e =
      by_option (item_at s j)
      (λ none. nowhere (ap (option_map (renewed g)) (sym none) ∙ sym item_here ∙ e))
      (λ y some. subst P (sym (some_same x (renewed g y) (sym e ∙ item_here ∙ ap (option_map (renewed g)) some))) (new y some))

  of_run_here : (P : RunPart → Type 0) → ((r : RunPart) → run_part s j ≡ Some r → P (h r)) → (r : RunPart) → run_part t j ≡ Some r → P r
  of_run_here P new r e =
      by_option (run_part s j)
      (λ none. nowhere (ap (option_map h) (sym none) ∙ sym run_here ∙ e))
      (λ y some. subst P (sym (some_same r (h y) (sym e ∙ run_here ∙ ap (option_map h) some))) (new y some))

  -- the net that stands at j then
  begun : (n : NetPart) → net_part t j ≡ Some n → Begins s j n
  begun n e = turns.begins n (sym net_here ∙ e)

  some_net : (n : NetPart) → net_part t j ≡ Some n → is_some net ≡ true
  some_net n e = ap is_some (sym net_here ∙ e)

  something_here : (is_some (item_part t j) || is_some (run_part t j)) ≡ true
  something_here = ap (λ b. b || is_some (run_part t j)) (is_item_same j) ∙ ap (λ b. is_some (item_part s j) || b) (is_run_same j) ∙ turns.stays

  nets_kept : NetsStand s → NetsStand t
  nets_kept nets =
      record {
        of_case =
            of_each (λ k. (n : NetPart) → net_part t k ≡ Some n → is_case_ident k ≡ true → is_top s n ≡ true)
            (λ n e is_case. never (sym turns.no_case ∙ is_case))
            (λ k other n e. nets.of_case k n (sym (net_kept k other) ∙ e));
        of_item =
            of_each (λ k. (n : NetPart) (x : ItemAt) → net_part t k ≡ Some n → item_at t k ≡ Some x → stands_right s n x ≡ true)
            (λ n x e. of_item_here (λ y. stands_right s n y ≡ true) (λ y some. and_from _ _ (turns.wants y some ∙ some_net n e) ((begun n e).of_item y some)) x)
            (λ k other n x e i. nets.of_item k n x (sym (net_kept k other) ∙ e) (sym (item_kept k other) ∙ i));
        of_run =
            of_each (λ k. (n : NetPart) (r : RunPart) → net_part t k ≡ Some n → run_part t k ≡ Some r → (r.waiting && is_top s n) ≡ true)
            (λ n r e. of_run_here (λ y. (y.waiting && is_top s n) ≡ true) (λ y some. and_from _ _ (turns.waits y some ∙ some_net n e) ((begun n e).of_run y some)) r)
            (λ k other n r e i. nets.of_run k n r (sym (net_kept k other) ∙ e) (sym (run_kept k other) ∙ i));
        at_something =
            of_each (λ k. (n : NetPart) → net_part t k ≡ Some n → (is_case_ident k || is_some (item_part t k) || is_some (run_part t k)) ≡ true)
            (λ n e. third (is_case_ident j) (is_some (item_part t j)) (is_some (run_part t j)) something_here)
            (λ k other n e.
            ap (λ b. is_case_ident k || b || is_some (run_part t k)) (is_item_same k)
            ∙ ap (λ b. is_case_ident k || is_some (item_part s k) || b) (is_run_same k)
            ∙ nets.at_something k n (sym (net_kept k other) ∙ e));
        item_has =
            of_each (λ k. (x : ItemAt) → item_at t k ≡ Some x → wants_net x ≡ true → is_some (net_part t k) ≡ true)
            (of_item_here (λ y. wants_net y ≡ true → is_some (net_part t j) ≡ true) (λ y some wants. ap is_some net_here ∙ sym (turns.wants y some) ∙ wants))
            (λ k other x e wants. ap is_some (net_kept k other) ∙ nets.item_has k x (sym (item_kept k other) ∙ e) wants);
        run_has =
            of_each (λ k. (r : RunPart) → run_part t k ≡ Some r → r.waiting ≡ true → is_some (net_part t k) ≡ true)
            (of_run_here (λ y. y.waiting ≡ true → is_some (net_part t j) ≡ true) (λ y some waits. ap is_some net_here ∙ sym (turns.waits y some) ∙ waits))
            (λ k other r e waits. ap is_some (net_kept k other) ∙ nets.run_has k r (sym (run_kept k other) ∙ e) waits);
      }

  parents_kept : ParentsStand t
  parents_kept =
      record {
        item_depth = λ k x e. let y = was_there _ _ (is_item_same k) x e in parents.item_depth k y.0 y.1;
        item_of_net = λ k x e. let y = was_there _ _ (is_item_same k) x e in has_item_same renews k ∙ parents.item_of_net k y.0 y.1;
        run_depth = λ k r e. let y = was_there _ _ (is_run_same k) r e in parents.run_depth k y.0 y.1;
        run_of_target = λ k r e. let y = was_there _ _ (is_run_same k) r e in target_same (parent k) ∙ parents.run_of_target k y.0 y.1;
        run_works =
            of_each (λ k. (r : RunPart) → run_part t k ≡ Some r → has_work r ≡ true)
            (of_run_here (λ r. has_work r ≡ true) (λ r e. (turns.run_fits r e).works))
            (λ k other r e. parents.run_works k r (sym (run_kept k other) ∙ e));
        one_run = λ k l a b. parents.one_run k l (sym (is_run_same k) ∙ a) (sym (is_run_same l) ∙ b);
        not_both = λ k a. is_run_same k ∙ parents.not_both k (sym (is_item_same k) ∙ a);
        something =
            of_each (λ k. (y : Site) → get t.sites k ≡ Some y → (is_some y.net || is_some y.item || is_some y.run) ≡ true)
            (λ y e. sym (ap has_part e) ∙ third (is_some (net_part t j)) (is_some (item_part t j)) (is_some (run_part t j)) something_here)
            (λ k other y e. parents.something k y (sym (at_kept k other) ∙ e));
      }

  -- no item is of the net at j
  none_of_net : (k : ℕ) → length (items_of t j k) ≡ 0
  none_of_net k =
      length-none by_name (λ e. item_of_task j k e.0 e.1) t.sites.list t.sites.sorted (λ q y found.
      by_test (is_child q j)
      (λ below. by_option y.item
      (λ none. ap (λ b. is_some (if b then option_and_then (of_task k q) y.item else None)) below ∙ ap (λ o. is_some (option_and_then (of_task k q) o)) none)
      (λ x some.
      let there = was_there _ _ (is_item_same q) x (ap (option_and_then (λ (z : Site). z.item)) found ∙ some) in
      absurd (turns.apart q there.0 there.1 (parent_of_child q j below))))
      (λ aside. ap (λ b. is_some (if b then option_and_then (of_task k q) y.item else None)) aside))

  content_kept : (reader : Reader) → ContentFits reader s → ContentFits reader t
  content_kept reader content =
      content_stays reader s sites s.next s.ended content (record {
        of_spec =
            of_each (λ k. (n : NetPart) → net_part t k ≡ Some n → is_some (net_at t k) ≡ true)
            (λ n e. ap is_some (ap (option_and_then (net_by s)) e ∙ (begun n e).is))
            (λ k other n e. ap is_some (net_at_kept k other) ∙ content.of_spec k n (sym (net_kept k other) ∙ e));
        net =
            of_each (λ k. (n : NetAt) → net_at t k ≡ Some n → NetFits n)
            (λ n e.
            by_option (net_part t j)
            (λ none. nowhere (ap (option_and_then (net_by s)) (sym none) ∙ e))
            (λ part some.
            let new = begun part some in
            subst NetFits (some_same new.at n (sym new.is ∙ ap (option_and_then (net_by s)) (sym some) ∙ e)) new.fits))
            (λ k other n e. content.net k n (sym (net_at_kept k other) ∙ e));
        item = of_each (λ k. (x : ItemAt) → item_at t k ≡ Some x → ItemFits x) (of_item_here ItemFits turns.item_fits) (λ k other x e. content.item k x (sym (item_kept k other) ∙ e));
        count =
            of_each (λ i. (n : NetAt) (k : ℕ) (task : Task) → net_at t i ≡ Some n → slice_get n.net.tasks k ≡ Some task → length (items_of t i k) ≤ item_limit task.many)
            (λ n k task e d. subst (λ count. count ≤ item_limit task.many) (sym (none_of_net k)) (omega arith))
            (λ i other n k task e d.
            subst (λ count. count ≤ item_limit task.many) (sym (as_many_items f g turns.to_item turns.task s j i k)) (content.count i n k task (sym (net_at_kept i other) ∙ e) d));
        run_length =
            of_each (λ k. (r : RunPart) → run_part t k ≡ Some r → length r.rest ≤ most_primitives)
            (of_run_here (λ r. length r.rest ≤ most_primitives) (λ r e. (turns.run_fits r e).most))
            (λ k other r e. content.run_length k r (sym (run_kept k other) ∙ e));
        run_fit =
            of_each (λ k. (r : RunPart) → run_part t k ≡ Some r → are_fit s (is_case_ident (parent k)) r.rest ≡ true)
            (of_run_here (λ r. are_fit s (is_case_ident (parent j)) r.rest ≡ true) (λ r e. (turns.run_fits r e).fit))
            (λ k other r e. content.run_fit k r (sym (run_kept k other) ∙ e));
      })

  pub turned_is_well : (reader : Reader) → IsWell reader s → IsWell reader t
  turned_is_well reader well =
      record {
        numbers = numbers_kept s j f well.numbers;
        nets = nets_kept well.nets;
        parents = parents_kept;
        marks = marks_kept s j f target_same has_rule_same turns.suspended turns.due turns.select well.marks;
        content = content_kept reader well.content;
        depth =
            of_each (λ k. (n : NetPart) → net_part t k ≡ Some n → length k ≤ 30 + net_level t k)
            (λ n e. deep_alike s t (nested_same renews) j (begun n e).deep)
            (λ k other n e. deep_alike s t (nested_same renews) k (well.depth k n (sym (net_kept k other) ∙ e)));
      }
