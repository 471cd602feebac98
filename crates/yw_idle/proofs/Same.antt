-- Where the same is looked at in two states, an identity that is idle in the one is idle in the other.
use Rattle.std.specs.Prelude.{◌≡◌, ℕ, ◌+◌, ◌&&◌, ◌||◌, Bool, true, not, List, [], ◌∷◌, length, filter, Option, Some, None, is_some, nat_le, nat_lt, option_and_then, option_map, unwrap_or, slice_get, refl, cond}
use Rattle.std.specs.List.{All, list_all, list_any}
use Rattle.std.proofs.Common.{sym, ◌∙◌, ap, arith}
use Rattle.std.proofs.lemmas.List.Elements.{All-head, All-tail}
use Rattle.std.proofs.lemmas.Bool.{and_parts, and_from, le-leb, leb-true}
use Rattle.yw_base.specs.Identity.{number_end}
use Rattle.yw_base.specs.declared.gate.Gate.{Gate}
use Rattle.yw_base.specs.declared.gate.Gate.TheVariants.{And, Xor, Or}
use Rattle.yw_spec.specs.Net.{Node, at_place, at_task}
use Rattle.yw_spec.specs.declared.task.Many.{Many}
use Rattle.yw_spec.specs.declared.task.Task.{Task}
use Rattle.yw_state.proofs.Elsewhere.{children}
use Rattle.yw_state.proofs.Tests.{there_and}
use Rattle.yw_state.specs.Allowed.{exit_values, has_room_for, may_leave, most_tokens}
use Rattle.yw_state.specs.Identity.{Ident, is_case_ident, is_child}
use Rattle.yw_state.specs.Joins.{Waits, at_output, has_tokens, holds_token, marked}
use Rattle.yw_state.specs.Judged.{is_manual}
use Rattle.yw_state.specs.Nets.{child_net, is_among, is_atomic, is_empty}
use Rattle.yw_state.specs.Options.{is_some_and}
use Rattle.yw_state.specs.Passing.{entry_values, kept_values, made_rows, split_places, within_bounds}
use Rattle.yw_state.specs.State.{State, ItemAt, ItemPart, NetAt, NetPart, RunPart, TaskAt, item_at, items_of, net_at, run_part, task_in, tokens_on}
use Rattle.yw_state.specs.Words.{active, busy, done, is_executing, is_ready}
use Rattle.yw_state.specs.declared.part.Stage.{Stage}
use Rattle.yw_still.specs.Looked.{stage_and_task}
use Rattle.yw_still.specs.Still.{item_begins, item_ends, may_be_made, task_numbered}
use Rattle.yw_idle.specs.Idle.{IsIdle, compensation_would_end, item_would_go_on, would_enter, would_leave}
use Rattle.yw_idle.specs.Looked.{SeesSame}

-- ---- tests that answer alike

module _ {A : Type 0} (P : A → Type 0) (p q : A → Bool) (e : (x : A) → P x → p x ≡ q x) where
  all_alike : (xs : List A) → All P xs → list_all p xs ≡ list_all q xs
  all_alike [] have = refl
  all_alike (x ∷ xs) have = ap (λ b. b && list_all p xs) (e x (All-head P x xs have)) ∙ ap (λ b. q x && b) (all_alike xs (All-tail P x xs have))

  filter_alike : (xs : List A) → All P xs → filter p xs ≡ filter q xs
  filter_alike [] have = refl
  filter_alike (x ∷ xs) have =
      ap (λ b. cond b (x ∷ filter p xs) (filter p xs)) (e x (All-head P x xs have)) ∙ ap (λ ys. cond (q x) (x ∷ ys) ys) (filter_alike xs (All-tail P x xs have))

pub any_alike : {A : Type 0} (p q : A → Bool) → ((x : A) → p x ≡ q x) → (xs : List A) → list_any p xs ≡ list_any q xs
any_alike p q e [] = refl
any_alike p q e (x ∷ xs) = ap (λ b. b || list_any p xs) (e x) ∙ ap (λ b. q x || b) (any_alike p q e xs)

any_number : {A : Type 0} (xs : List A) → All (λ x. Unit {0}) xs
any_number xs i d lt = tt

-- ---- what the tests look at

module _ (s t : State) (j : Ident) (same : SeesSame s t j) where
  tokens_same : (c : ℕ) → tokens_on t j c ≡ tokens_on s j c
  tokens_same c = ap (λ o. unwrap_or (option_and_then (λ (n : NetPart). slice_get n.tokens c) o) 0) same.part

  marked_same : (c : ℕ) → marked t j c ≡ marked s j c
  marked_same c = ap (nat_lt 0) (tokens_same c)

  output_same : at_output t j ≡ at_output s j
  output_same = by_net (net_at s j) same.net
    where
      by_net : (o : Option NetAt) → net_at t j ≡ o → at_output t j ≡ is_some_and o (λ n. marked s j n.net.output)
      by_net None e = ap (λ o. is_some_and o (λ (n : NetAt). marked t j n.net.output)) e
      by_net (Some n) e = ap (λ o. is_some_and o (λ (m : NetAt). marked t j m.net.output)) e ∙ marked_same n.net.output

  active_same : (k : ℕ) → active t j k ≡ active s j k
  active_same k = ap (λ es. nat_lt 0 (length es)) (same.items k)

  has_tokens_same : (g : Gate) (before : List ℕ) → has_tokens g t j before ≡ has_tokens g s j before
  has_tokens_same And before = all_alike (λ c. Unit {0}) (marked t j) (marked s j) (λ c u. marked_same c) before (any_number before)
  has_tokens_same Xor before = any_alike (marked t j) (marked s j) marked_same before
  has_tokens_same Or before = any_alike (marked t j) (marked s j) marked_same before

  -- ---- a task that may be left

  abbrev IsBelow : Ident × ItemPart → Type 0
  IsBelow e = is_child e.0 j ≡ true

  -- as `may_leave` has it
  abbrev enough_done : State → List (Ident × ItemPart) → TaskAt → Bool
  enough_done u es x =
      list_all (λ e. done u e.0 e.1) es || is_some_and x.task.many (λ (m : Many). nat_le m.threshold (length (filter (λ e. done u e.0 e.1) es)))

  leave_same : (x : TaskAt) → may_leave t j x ≡ may_leave s j x
  leave_same x =
      ap (λ es. enough_done t es x) (same.items x.number)
      ∙ ap (λ b. b || is_some_and x.task.many (λ (m : Many). nat_le m.threshold (length (filter (λ e. done t e.0 e.1) (items_of s j x.number)))))
      (all_alike IsBelow (λ e. done t e.0 e.1) (λ e. done s e.0 e.1) (λ e. same.done e.0 e.1) (items_of s j x.number) (children s j x.number))
      ∙ ap (λ es. list_all (λ e. done s e.0 e.1) (items_of s j x.number) || is_some_and x.task.many (λ (m : Many). nat_le m.threshold (length es)))
      (filter_alike IsBelow (λ e. done t e.0 e.1) (λ e. done s e.0 e.1) (λ e. same.done e.0 e.1) (items_of s j x.number) (children s j x.number))

  room_same : (x : TaskAt)
      → list_all (has_room_for t j x) (split_places x.task (exit_values t j x)) ≡ list_all (has_room_for s j x) (split_places x.task (exit_values s j x))
  room_same x =
      let cs = split_places x.task (exit_values s j x) in
      ap (λ es. list_all (has_room_for t j x) (split_places x.task (kept_values x.task (made_rows es) x.within.part.vals))) (same.items x.number)
      ∙ all_alike (λ c. Unit {0}) (has_room_for t j x) (has_room_for s j x)
      (λ c u. ap (λ k. is_among x.task.drop_places c || nat_lt k most_tokens) (tokens_same c)) cs (any_number cs)

  leaving_same : (x : TaskAt) → would_leave t j x ≡ would_leave s j x
  leaving_same x =
      ap (λ b. b && may_leave t j x && list_all (has_room_for t j x) (split_places x.task (exit_values t j x))) (active_same x.number)
      ∙ ap (λ b. active s j x.number && b && list_all (has_room_for t j x) (split_places x.task (exit_values t j x))) (leave_same x)
      ∙ ap (λ b. active s j x.number && may_leave s j x && b) (room_same x)

  -- ---- a task that may be entered

  -- fewer numbers are left, so it could be entered before
  entering_before : (x : TaskAt) → would_enter t j x ≡ true → would_enter s j x ≡ true
  entering_before x may =
      let by_itself = and_parts (not (is_manual t x)) _ may in
      let made = and_parts _ (is_some_and (entry_values x.task x.within.part.vals) (may_be_made t x)) by_itself.1 in
      let free = and_parts (not (active t j x.number)) (has_tokens x.task.join t j x.task.before) made.0 in
      let (rows, are, fit) = there_and (entry_values x.task x.within.part.vals) (may_be_made t x) made.1 in
      let bounds = and_parts (within_bounds x.task.many (length rows)) (nat_le (t.next + length rows) number_end) fit in
      let left = leb-true (t.next + length rows) number_end bounds.1 in
      let later = same.next in
      let fits = ap (λ o. is_some_and o (may_be_made s x)) are
      ∙ and_from _ _ bounds.0 (le-leb (s.next + length rows) number_end (omega (arith, left, later))) in
      and_from _ _ (ap not (sym (same.manual x)) ∙ by_itself.0)
      (and_from _ _ (and_from _ _ (ap not (sym (active_same x.number)) ∙ free.0) (sym (has_tokens_same x.task.join x.task.before) ∙ free.1)) fits)

  holds_same : (n : Node) → holds_token t j n ≡ holds_token s j n
  holds_same (at_place c) = marked_same c
  holds_same (at_task k) = active_same k

  waits_on : (x : TaskAt) → Waits s j x → Waits t j x
  waits_on x w = record {
    input = w.input;
    of_task = w.of_task;
    empty = ap not (marked_same w.input) ∙ w.empty;
    source = w.source;
    holds = holds_same w.source ∙ w.holds;
    path = w.path;
  }

  -- ---- all of it

  task_same : (k : ℕ) (x : TaskAt) → task_numbered t j k ≡ Some x → task_numbered s j k ≡ Some x
  task_same k x is = ap (option_and_then (λ (n : NetAt). task_in n k)) (sym same.net) ∙ is

  -- as `item_goes_on` has it
  abbrev goes : Bool → Bool → Stage × Task → Bool
  goes at_work out x =
      is_ready x.0 && (is_empty x.1 || is_some (child_net x.1) && not at_work)
      || is_executing x.0 && (is_some (child_net x.1) || is_atomic x.1) && not at_work && out

  -- only the stage and the task are looked at
  goes_on_by : (u : State) → item_would_go_on u j ≡ is_some_and (stage_and_task u j) (goes (busy u j) (at_output u j))
  goes_on_by u = by_item (item_at u j)
    where
      by_item : (o : Option ItemAt)
          → is_some_and o (λ x. item_begins u j x || item_ends u j x)
          ≡ is_some_and (option_map (λ (x : ItemAt). (x.part.stage, x.of_task.task)) o) (goes (busy u j) (at_output u j))
      by_item None = refl
      by_item (Some x) = refl

  pub compensation_same : compensation_would_end t j ≡ compensation_would_end s j
  compensation_same =
      ap (λ o. is_some_and o (λ (x : RunPart). x.waiting) && at_output t j) same.run
      ∙ ap (λ b. is_some_and (run_part s j) (λ (x : RunPart). x.waiting) && b) output_same

  pub idle_stays : IsIdle s j → IsIdle t j
  idle_stays idle = record {
    compensation = compensation_same ∙ idle.compensation;
    item = goes_on_by t
        ∙ ap (λ o. is_some_and o (goes (busy t j) (at_output t j))) same.item
        ∙ ap (λ b. is_some_and (stage_and_task s j) (goes b (at_output t j))) same.busy
        ∙ ap (λ b. is_some_and (stage_and_task s j) (goes (busy s j) b)) output_same ∙ sym (goes_on_by s) ∙ idle.item;
    case = ap (λ b. is_case_ident j && not b && at_output t j) same.busy
        ∙ ap (λ b. is_case_ident j && not (busy s j) && b) output_same ∙ idle.case;
    left = λ k x is. leaving_same x ∙ idle.left k x (task_same k x is);
    entered = λ k x is may. let w = idle.entered k x (task_same k x is) (entering_before x may) in (w.0, waits_on x w.1);
  }
