-- Behind the exit of a task: of each task of the net no item is left, or as many are done as before.
use Rattle.std.specs.List.{cons_option, filter_map, list_any}
use Rattle.std.specs.Prelude.{◌≡◌, ◌⊎◌, ◌==◌, ℕ, Bool, true, false, List, [], ◌∷◌, Option, Some, None, option_and_then, refl}
use Rattle.std.proofs.Common.{sym, ◌∙◌, ap, inl, inr, not, subst}
use Rattle.std.proofs.lemmas.Bool.{and_parts, eq-eqb, eqb-true, false_from_ne_true}
use Rattle.yw_base.specs.Identity.{under}
use Rattle.yw_moved.proofs.Parents.{itself_or_above, not_under_child, parent_of_child, under_itself}
use Rattle.yw_moved.proofs.Sites.{left_alone}
use Rattle.yw_progress.proofs.Counting.{CountsBy, as_many, by_part, done_item, done_part, done_there, not_below, not_of_task}
use Rattle.yw_progress.proofs.Items.{is_item}
use Rattle.yw_progress.specs.Progress.{done_in}
use Rattle.yw_sites.proofs.Prefix.{child_strictly}
use Rattle.yw_spec.specs.declared.spec.Place.{Place}
use Rattle.yw_state.proofs.Entries.{IsIn, comes_from, entry-found, find-entry, mapped_in, passes, passing}
use Rattle.yw_state.proofs.Gone.{removed-gone}
use Rattle.yw_state.proofs.MapLemmas.{by_name}
use Rattle.yw_state.proofs.Tests.{by_option, by_test, never, nowhere, some_same, there_and}
use Rattle.yw_state.specs.Allowed.{Allowed}
use Rattle.yw_state.specs.Events.{after}
use Rattle.yw_state.specs.Gone.{exit_removes, removes, under_item}
use Rattle.yw_state.specs.Identity.{Ident, is_child, same}
use Rattle.yw_state.specs.Map.{entries, get}
use Rattle.yw_state.specs.Options.{is_some_and}
use Rattle.yw_state.specs.State.{State, Site, ItemPart, TaskAt, item_of_task, item_part, items_of, task_at}
use Rattle.yw_state.specs.Texts.{Said}
use Rattle.yw_state.specs.declared.event.Event.{Event}
use Rattle.yw_state.specs.declared.event.Event.TheVariants as events

-- no entry is one
none_picked : {A B : Type 0} (f : A → Option B) (es : List A) → ((e : A) → IsIn es e → f e ≡ None) → filter_map f es ≡ []
none_picked f [] none = refl
none_picked f (e ∷ es) none =
    ap (λ o. cons_option o (filter_map f es)) (none e (inl refl)) ∙ none_picked f es (λ d within. none d (inr within))

module _ (s : State) (i : Ident) (name : List ℕ) (places : List Place) (said : Said) (ok : Allowed s (events.Exit i name places) said)
    (x : TaskAt) (found : task_at s i name ≡ Some x) (free : Ident → Bool) (before : CountsBy free s i)
    (now : CountsBy free (after s (events.Exit i name places) said) i) where
  abbrev e : Event
  e = events.Exit i name places

  abbrev t : State
  t = after s e said

  -- the tasks that lose their items
  abbrev left : List ℕ
  left = x.number ∷ x.task.drop_tasks

  -- it isn't where the event is done
  apart : (q : Ident) → is_child q i ≡ true → same q i ≡ false
  apart q below =
      false_from_ne_true _ (λ here. never (sym (ap not here) ∙ (and_parts (under q i) (not (same q i)) (child_strictly q i below)).1))

  kept : (q : Ident) → is_child q i ≡ true → removes s e q ≡ false → get t.sites q ≡ get s.sites q
  kept q below stays = left_alone q s e said refl ok stays (apart q below) refl

  -- what is removed directly below the net is an item of one of these tasks
  of_left : (q : Ident) → is_child q i ≡ true → removes s e q ≡ true
      → (n : ℕ) × IsIn left n × (part : ItemPart) × (item_part s q ≡ Some part) × ((part.task == n) ≡ true)
  unfolding removes
  of_left q below gone =
      let (z, at, some) = there_and (task_at s i name) (exit_removes s i q) gone in
      let (n, of_task, among) = passing (under_item s i q) (z.number ∷ z.task.drop_tasks) some in
      let (d, y, within, is, above) = comes_from (λ (c : Ident × Site). item_of_task i n c.0 c.1) (λ (c : Ident × ItemPart). under q c.0)
      (entries s.sites) among in
      let here : get s.sites d.0 ≡ Some d.1 = find-entry by_name (entries s.sites) d s.sites.sorted within in
      let item = is_item i n d.0 d.1.item y is in
      let at_it : q ≡ d.0 =
      elim (itself_or_above q d.0 (ap (under q) (ap (λ (z : Ident × ItemPart). z.0) item.its) ∙ above)) [
        | inl same_place ↦ same_place
        | inr higher ↦ never (sym (not_under_child d.0 i item.below) ∙ ap (λ l. under l d.0) (sym (parent_of_child q i below)) ∙ higher)
      ] in
      let task : z ≡ x = some_same z x (sym at ∙ found) in (
        n,
        subst (λ (w : TaskAt). IsIn (w.number ∷ w.task.drop_tasks) n) task of_task,
        item.part,
        ap (item_part s) at_it ∙ ap (option_and_then (λ (c : Site). c.item)) here ∙ item.has,
        item.of_task,
      )

  -- an item of one of these tasks is removed
  item_goes : (k : ℕ) (q : Ident) (c : Site) (y : Ident × ItemPart) → IsIn left k → get s.sites q ≡ Some c → item_of_task i k q c ≡ Some y
      → removes s e q ≡ true
  unfolding removes
  item_goes k q c y within here is =
      let item = is_item i k q c.item y is in
      ap (λ o. is_some_and o (exit_removes s i q)) found
      ∙ passes (under_item s i q) left k within
      (passes (λ (d : Ident × ItemPart). under q d.0) (items_of s i k) y
      (mapped_in (λ (d : Ident × Site). item_of_task i k d.0 d.1) (entries s.sites) (q, c) y (entry-found by_name (entries s.sites) q c here) is)
      (ap (under q) (sym (ap (λ (z : Ident × ItemPart). z.0) item.its)) ∙ under_itself q))

  none_left : (k : ℕ) → IsIn left k → items_of t i k ≡ []
  none_left k within =
      none_picked (λ (d : Ident × Site). item_of_task i k d.0 d.1) (entries t.sites) (λ d is_entry.
      by_option (item_of_task i k d.0 d.1)
      (λ none. none)
      (λ y is.
      let here : get t.sites d.0 ≡ Some d.1 = find-entry by_name (entries t.sites) d t.sites.sorted is_entry in
      let item = is_item i k d.0 d.1.item y is in
      by_test (removes s e d.0)
      (λ gone. nowhere (sym (removed-gone d.0 s e said ok gone) ∙ here))
      (λ stays. never (sym stays ∙ item_goes k d.0 d.1 y within (sym (kept d.0 item.below stays) ∙ here) is))))

  module _ (k : ℕ) (other : list_any (λ n. n == k) left ≡ false) where
    abbrev SameAt : Ident → Type 0
    SameAt q = done_there free i k q t.sites ≡ done_there free i k q s.sites

    removed_same : (q : Ident) → is_child q i ≡ true → removes s e q ≡ true → SameAt q
    removed_same q below gone =
        let (n, within, part, stood, of_task) = of_left q below gone in
        let not_k : (part.task == k) ≡ false =
        false_from_ne_true _ (λ here.
        let n_is : n ≡ k = sym (eqb-true part.task n of_task) ∙ eqb-true part.task k here in
        never (sym other ∙ passes (λ m. m == k) left n within (eq-eqb n k n_is))) in
        ap (option_and_then (done_item free i k q)) (removed-gone q s e said ok gone)
        ∙ sym (by_part free i k q (get s.sites q) ∙ ap (done_part free i k q) stood ∙ not_of_task free i k q part not_k)

    same_at : (q : Ident) → SameAt q
    same_at q =
        by_test (is_child q i)
        (λ below.
        by_test (removes s e q) (removed_same q below) (λ stays. ap (option_and_then (done_item free i k q)) (kept q below stays)))
        (λ out.
        by_part free i k q (get t.sites q) ∙ not_below free i k q (item_part t q) out
        ∙ sym (by_part free i k q (get s.sites q) ∙ not_below free i k q (item_part s q) out))

    pub same_count : done_in t i k ≡ done_in s i k
    same_count = as_many free i k s t before now same_at

  pub none_or_same : (k : ℕ) → (items_of t i k ≡ []) ⊎ (done_in t i k ≡ done_in s i k)
  none_or_same k =
      by_test (list_any (λ n. n == k) left)
      (λ some.
      let (n, within, is) = passing (λ n. n == k) left some in
      inl (none_left k (subst (IsIn left) (eqb-true n k is) within)))
      (λ none. inr (same_count k none))
