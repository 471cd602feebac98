-- Where the same is looked at, the same is open.
use Rattle.std.specs.Prelude.{◌≡◌, ℕ, ◌&&◌, ◌||◌, Bool, not, List, [], ◌∷◌, length, Option, Some, is_none, unwrap_or, refl, option_map, option_and_then, nat_lt, slice_get, IsTrue}
use Rattle.std.specs.List.{list_all, list_any}
use Rattle.std.proofs.Common.{sym, ◌∙◌, ap, subst}
use Rattle.yw_base.specs.declared.gate.Gate.{Gate}
use Rattle.yw_base.specs.declared.gate.Gate.TheVariants.{And, Xor, Or}
use Rattle.yw_spec.specs.Net.{Node, at_place, at_task}
use Rattle.yw_spec.specs.declared.task.Task.{Task}
use Rattle.yw_state.proofs.Tests.{map_some}
use Rattle.yw_state.specs.Identity.{Ident}
use Rattle.yw_state.specs.Joins.{Waits, has_tokens, holds_token, marked}
use Rattle.yw_state.specs.Judged.{is_manual}
use Rattle.yw_state.specs.Nets.{is_atomic, task_number}
use Rattle.yw_state.specs.State.{ItemAt, NetAt, NetPart, State, TaskAt, item_at, net_part, task_in, tokens_on}
use Rattle.yw_state.specs.Words.{active, busy, is_executing, is_ready}
use Rattle.yw_state.specs.declared.answer.What.{What}
use Rattle.yw_state.specs.declared.answer.What.TheVariants.{Enter, Start, Complete}
use Rattle.yw_work.specs.Open.{IsOpen, OpenSame, by_person, by_role, may_complete, may_enter, may_start}
use Rattle.yw_work.specs.Shows.{Seen, ShowsSame, seen_of}
use Rattle.yw_work.specs.declared.open.By.{By}

all_alike : {A : Type 0} (p q : A → Bool) → ((x : A) → p x ≡ q x) → (xs : List A) → list_all p xs ≡ list_all q xs
all_alike p q e [] = refl
all_alike p q e (x ∷ xs) = ap (λ b. b && list_all p xs) (e x) ∙ ap (λ b. q x && b) (all_alike p q e xs)

any_alike : {A : Type 0} (p q : A → Bool) → ((x : A) → p x ≡ q x) → (xs : List A) → list_any p xs ≡ list_any q xs
any_alike p q e [] = refl
any_alike p q e (x ∷ xs) = ap (λ b. b || list_any p xs) (e x) ∙ ap (λ b. q x || b) (any_alike p q e xs)

module _ (s t : State) (j : Ident) (same : ShowsSame s t j) where
  tokens_same : (c : ℕ) → tokens_on t j c ≡ tokens_on s j c
  tokens_same c = ap (λ o. unwrap_or (option_and_then (λ (n : NetPart). slice_get n.tokens c) o) 0) same.part

  marked_same : (c : ℕ) → marked t j c ≡ marked s j c
  marked_same c = ap (nat_lt 0) (tokens_same c)

  active_same : (k : ℕ) → active t j k ≡ active s j k
  active_same k = ap (λ es. nat_lt 0 (length es)) (same.items k)

  has_tokens_same : (g : Gate) (before : List ℕ) → has_tokens g t j before ≡ has_tokens g s j before
  has_tokens_same And before = all_alike (marked t j) (marked s j) marked_same before
  has_tokens_same Xor before = any_alike (marked t j) (marked s j) marked_same before
  has_tokens_same Or before = any_alike (marked t j) (marked s j) marked_same before

  holds_same : (n : Node) → holds_token t j n ≡ holds_token s j n
  holds_same (at_place c) = marked_same c
  holds_same (at_task k) = active_same k

  waited : (x : TaskAt) → Waits t j x → Waits s j x
  waited x w = record {
    input = w.input;
    of_task = w.of_task;
    empty = subst (λ (b : Bool). IsTrue (not b)) (marked_same w.input) w.empty;
    source = w.source;
    holds = subst IsTrue (holds_same w.source) w.holds;
    path = w.path;
  }

  entry_same : (x : TaskAt) → may_enter t j x ≡ may_enter s j x
  entry_same x =
      ap (λ b. b && (not (active t j x.number) && has_tokens x.task.join t j x.task.before)) (same.manual x)
      ∙ ap (λ b. is_manual s x && (not b && has_tokens x.task.join t j x.task.before)) (active_same x.number)
      ∙ ap (λ b. is_manual s x && (not (active s j x.number) && b)) (has_tokens_same x.task.join x.task.before)

  -- what is seen of an item that stands there is seen of one before
  found : (x : ItemAt) → item_at s j ≡ Some x → (y : ItemAt) × (item_at t j ≡ Some y) × (seen_of y ≡ seen_of x)
  found x here =
      map_some seen_of (item_at t j) (seen_of x)
      (same.item ∙ ap (option_map seen_of) here)

  module _ (x y : ItemAt) (alike : seen_of y ≡ seen_of x) where
    its_stage : y.part.stage ≡ x.part.stage
    its_stage = ap (λ (p : Seen). p.0) alike

    its_who : y.part.who ≡ x.part.who
    its_who = ap (λ (p : Seen). p.1) alike

    its_task : y.of_task.task ≡ x.of_task.task
    its_task = ap (λ (p : Seen). p.2) alike

    start_same : may_start t j y ≡ may_start s j x
    start_same =
        ap (λ u. is_atomic u && (is_ready y.part.stage && not (busy t j))) its_task
        ∙ ap (λ g. is_atomic x.of_task.task && (is_ready g && not (busy t j))) its_stage
        ∙ ap (λ b. is_atomic x.of_task.task && (is_ready x.part.stage && not b)) same.busy

    complete_same : may_complete t j y ≡ may_complete s j x
    complete_same =
        ap (λ u. is_atomic u && (is_none (net_part t j) && (is_executing y.part.stage && not (busy t j)))) its_task
        ∙ ap (λ o. is_atomic x.of_task.task && (is_none o && (is_executing y.part.stage && not (busy t j)))) same.part
        ∙ ap (λ g. is_atomic x.of_task.task && (is_none (net_part s j) && (is_executing g && not (busy t j)))) its_stage
        ∙ ap (λ b. is_atomic x.of_task.task && (is_none (net_part s j) && (is_executing x.part.stage && not b))) same.busy

  pub open_stays : (name : List ℕ) (what : What) (by : By) → IsOpen s j name what by → IsOpen t j name what by
  open_stays name Enter by o = record {
    of_task = o.of_task;
    here = ap (λ (n : Option NetAt). option_and_then (λ (m : NetAt). option_and_then (task_in m) (task_number m.net name)) n) same.net ∙ o.here;
    may = entry_same o.of_task ∙ o.may;
    goes = λ is waits. o.goes is (waited o.of_task waits);
    whom = o.whom;
  }
  open_stays name Start by o =
      let (y, there, alike) = found o.item o.here in
      record {
        item = y;
        here = there;
        may = start_same o.item y alike ∙ o.may;
        named = ap (λ (u : Task). u.name) (its_task o.item y alike) ∙ o.named;
        whom = o.whom ∙ ap (λ (u : Task). by_role u.role) (sym (its_task o.item y alike));
      }
  open_stays name Complete by o =
      let (y, there, alike) = found o.item o.here in
      record {
        item = y;
        here = there;
        may = complete_same o.item y alike ∙ o.may;
        named = ap (λ (u : Task). u.name) (its_task o.item y alike) ∙ o.named;
        whom = o.whom ∙ ap by_person (sym (its_who o.item y alike));
      }

turned : (s t : State) (j : Ident) → ShowsSame s t j → ShowsSame t s j
turned s t j same = record {
  part = sym same.part;
  net = sym same.net;
  item = sym same.item;
  items = λ k. sym (same.items k);
  manual = λ x. sym (same.manual x);
  busy = sym same.busy;
}

pub open_same : (s t : State) (j : Ident) → ShowsSame s t j → OpenSame s t j
open_same s t j same = λ name what by. (open_stays s t j same name what by, open_stays t s j (turned s t j same) name what by)
