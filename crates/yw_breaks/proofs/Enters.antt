-- What an entry breaks first behind the check that the case is quiet.
use Rattle.std.proofs.Common.{Bool, List, None, Option, Some, [], ap, length, refl, subst, sym, ℕ, ◌+◌, ◌∙◌, ◌∷◌, ◌≡◌}
use Rattle.std.specs.Prelude.{drop, is_none, nat_lt, not, option_and_then, option_map, slice_get, take, unwrap_or, if◌then◌else◌}
use Rattle.yw_base.specs.Identity.{number_end}
use Rattle.yw_breaks.proofs.Held.{role_is}
use Rattle.yw_breaks.proofs.Joining.{behind, in_front}
use Rattle.yw_breaks.proofs.Rows.{broken_row, idle_row, place_row, rule_row, worker_rows}
use Rattle.yw_breaks.specs.Enter.{EnterBreaks, EnterFinds}
use Rattle.yw_breaks.specs.Finds.{ByHeld}
use Rattle.yw_breaks.specs.Nets.{IsTaskNamed}
use Rattle.yw_breaks.specs.Persons.{HasRoles, PersonsDoAtomic, worker_rule}
use Rattle.yw_breaks.specs.Tables.{enter_rest}
use Rattle.yw_library.specs.Held.{IsHeld}
use Rattle.yw_known.specs.Here.{IsNetHere, as_net_at}
use Rattle.yw_library.specs.Names.{names_of}
use Rattle.yw_known.specs.declared.here.NetHere.{NetHere}
use Rattle.yw_library.specs.Holdings.{Holdings}
use Rattle.yw_spec.specs.declared.task.Task.{Task}
use Rattle.yw_state.proofs.Tests.{some_same}
use Rattle.yw_state.specs.Broken as table
use Rattle.yw_state.specs.Broken.{First, enter_checks, has_role, is_spent, misses_bounds, placeless, test}
use Rattle.yw_state.specs.Identity.{Ident}
use Rattle.yw_state.specs.Judged.{is_manual}
use Rattle.yw_state.specs.Map.{get}
use Rattle.yw_state.specs.Nets.{task_number}
use Rattle.yw_state.specs.Options.{is_some_and}
use Rattle.yw_state.specs.Passing.{within_bounds}
use Rattle.yw_state.specs.State.{NetAt, State, TaskAt, task_at, task_in}
use Rattle.yw_state.specs.Words as word
use Rattle.yw_state.specs.declared.rule.Refusal.{Refusal}
use Rattle.yw_state.specs.declared.rule.Rule.{Rule}
use Rattle.yw_state.specs.declared.rule.Rule.TheVariants as rules
use Rattle.yw_task.proofs.EnterAsk.{net_with, task_stands}
use Rattle.yw_task.specs.Asked.{AsksEnter}
use Rattle.yw_task.specs.Giving.{count_rule, entry_fault, entry_rows, undefined_entry}
use Rattle.yw_tree.specs.declared.Forest.{Forest}
use Rattle.yw_tree.specs.declared.NetState.{out-NetState}

-- ---- the net has no such task

pub no_task : (known : Holdings) (f : Forest) (s : State) (i : Ident) (h : NetHere) (name : List ℕ) → IsNetHere known f s i h → task_number h.net.now name ≡ None → task_at s i name ≡ None
no_task known f s i h name here e =
    ap (option_and_then (λ (n : NetAt). option_and_then (task_in n) (task_number n.net name))) here.at ∙ ap (option_and_then (task_in (as_net_at known h))) e

pub unknown_task : (s : State) (who : List ℕ) (i : Ident) (name : List ℕ) → task_at s i name ≡ None → First (enter_rest s who i name) (Some (placeless rules.UnknownTask))
unknown_task s who i name e = broken_row (is_none (task_at s i name)) (ap is_none e) rules.UnknownTask (drop 4 (enter_checks s who i name))

-- ---- it has it

abbrev by_itself : State → TaskAt → Bool
by_itself s x = not (is_manual s x)

abbrev lacks : State → List ℕ → TaskAt → Bool
lacks s who x = not (has_role (unwrap_or (get s.persons who) []) x.task.role)

abbrev spent : State → TaskAt → Bool
spent s x = is_spent s (length (entry_rows x.task x.within.part.vals))

module _ (known : Holdings) (f : Forest) (s : State) (who : List ℕ) (roles : List (List ℕ)) (has : HasRoles known who roles) (i : Ident) (x : NetHere) (t next : ℕ) (task : Task) (h : IsHeld known f s) (manual : PersonsDoAtomic s) (drawn : s.next ≡ next) (here : IsNetHere known f s i x) (at : slice_get x.net.now.tasks t ≡ Some task) where
  abbrev its : TaskAt
  its = record { number = t; task = task; within = net_with (names_of known) x.net.now x.state.now }

  stands : task_at s i task.name ≡ Some (record { number = t; task = task; within = net_with (names_of known) x.net.now x.state.now })
  stands = task_stands (names_of known) f s i x.net.now x.state.now here.stands x.spec.now here.within t task at

  told : (p : TaskAt → Bool) → is_some_and (task_at s i task.name) p ≡ p (record { number = t; task = task; within = net_with (names_of known) x.net.now x.state.now })
  told p = ap (λ o. is_some_and o p) stands

  worker : First (take 3 (drop 4 (enter_checks s who i task.name))) (option_map placeless (worker_rule roles task (word.held s i)))
  worker =
      worker_rows roles task (word.held s i) (is_some_and (task_at s i task.name) (by_itself s)) (is_some_and (task_at s i task.name) (lacks s who))
      (told (by_itself s) ∙ ap not (manual its))
      (told (lacks s who) ∙ role_is known f s h who roles has task)

  shown : (o : Option Rule) → AsksEnter x.net.now x.state.now t o → First (take 3 (drop 7 (enter_checks s who i task.name))) (option_map placeless o)
  shown o asks = asks (names_of known) f s i who x.spec.now task here.stands here.within at

  later : First (drop 10 (enter_checks s who i task.name)) (entry_fault task (out-NetState x.state.now).vals next)
  later =
      let vals = (out-NetState x.state.now).vals in
      let count = length (entry_rows task vals) in
      place_row (option_and_then table.undefined_entry (task_at s i task.name)) (undefined_entry task vals) (ap (option_and_then table.undefined_entry) stands) rules.Mapping
      (test (is_some_and (task_at s i task.name) misses_bounds) rules.Count ∷ test (is_some_and (task_at s i task.name) (spent s)) rules.Numbers ∷ []) (option_map placeless (count_rule task next count))
      (rule_row (is_some_and (task_at s i task.name) misses_bounds) (not (within_bounds task.many count)) (told misses_bounds) rules.Count
      (test (is_some_and (task_at s i task.name) (spent s)) rules.Numbers ∷ []) (if nat_lt number_end (next + count) then Some rules.Numbers else None)
      (rule_row (is_some_and (task_at s i task.name) (spent s)) (nat_lt number_end (next + count)) (told (spent s) ∙ ap (λ n. nat_lt number_end (n + count)) drawn) rules.Numbers [] None refl))

  by_worker : (r : Rule) → worker_rule roles task (word.held s i) ≡ Some r → First (drop 4 (enter_checks s who i task.name)) (Some (placeless r))
  by_worker r e =
      in_front (take 3 (drop 4 (enter_checks s who i task.name))) (drop 7 (enter_checks s who i task.name)) (placeless r)
      (subst (λ (o : Option Rule). First (take 3 (drop 4 (enter_checks s who i task.name))) (option_map placeless o)) e worker)

  past_worker : worker_rule roles task (word.held s i) ≡ None → (found : Option Refusal) → First (drop 7 (enter_checks s who i task.name)) found
      → First (drop 4 (enter_checks s who i task.name)) found
  past_worker e found g =
      behind (take 3 (drop 4 (enter_checks s who i task.name))) (drop 7 (enter_checks s who i task.name)) found
      (subst (λ (o : Option Rule). First (take 3 (drop 4 (enter_checks s who i task.name))) (option_map placeless o)) e worker) g

  by_net : (r : Rule) → AsksEnter x.net.now x.state.now t (Some r) → First (drop 7 (enter_checks s who i task.name)) (Some (placeless r))
  by_net r asks = in_front (take 3 (drop 7 (enter_checks s who i task.name))) (drop 10 (enter_checks s who i task.name)) (placeless r) (shown (Some r) asks)

  by_values : AsksEnter x.net.now x.state.now t None → First (drop 7 (enter_checks s who i task.name)) (entry_fault task (out-NetState x.state.now).vals next)
  by_values asks = behind (take 3 (drop 7 (enter_checks s who i task.name))) (drop 10 (enter_checks s who i task.name)) (entry_fault task (out-NetState x.state.now).vals next) (shown None asks) later

  pub known_task : (found : Option Refusal) → First (drop 4 (enter_checks s who i task.name)) found → First (enter_rest s who i task.name) found
  known_task found g = idle_row (is_none (task_at s i task.name)) (ap is_none stands) rules.UnknownTask (drop 4 (enter_checks s who i task.name)) found g

-- ---- whatever the state

module _ (f : Forest) (i : Ident) (roles : List (List ℕ)) (x : NetHere) (t next : ℕ) where
  module _ (u : Task) (mine : slice_get x.net.now.tasks t ≡ Some u) where
    same : (task : Task) → slice_get x.net.now.tasks t ≡ Some task → task ≡ u
    same task at = sym (some_same u task (sym mine ∙ at))

    -- what the task asks of the person, where it stands
    asked : (o : Option Rule) → ByHeld f i (λ held. o ≡ worker_rule roles u held) → (task : Task) → slice_get x.net.now.tasks t ≡ Some task
        → (known : Holdings) (s : State) → IsHeld known f s → worker_rule roles task (word.held s i) ≡ o
    asked o asks task at known s h = ap (λ (z : Task). worker_rule roles z (word.held s i)) (same task at) ∙ sym (asks known s h)

    pub worker_breaks : (r : Rule) → ByHeld f i (λ held. Some r ≡ worker_rule roles u held) → EnterBreaks f i roles x t next (Some (placeless r))
    worker_breaks r asks = λ known who has s task h manual drawn here at.
        by_worker known f s who roles has i x t next task h manual drawn here at r (asked (Some r) asks task at known s h)

    module _ (free : ByHeld f i (λ held. None ≡ worker_rule roles u held)) where
      pub net_breaks : (r : Rule) → AsksEnter x.net.now x.state.now t (Some r) → EnterBreaks f i roles x t next (Some (placeless r))
      net_breaks r asks = λ known who has s task h manual drawn here at.
          past_worker known f s who roles has i x t next task h manual drawn here at (asked None free task at known s h) (Some (placeless r))
          (by_net known f s who roles has i x t next task h manual drawn here at r asks)

      pub values_break : AsksEnter x.net.now x.state.now t None → EnterBreaks f i roles x t next (entry_fault u (out-NetState x.state.now).vals next)
      values_break asks = λ known who has s task h manual drawn here at.
          subst (λ (z : Task). First (drop 4 (enter_checks s who i task.name)) (entry_fault z (out-NetState x.state.now).vals next)) (same task at)
          (past_worker known f s who roles has i x t next task h manual drawn here at (asked None free task at known s h) (entry_fault task (out-NetState x.state.now).vals next)
          (by_values known f s who roles has i x t next task h manual drawn here at asks))

  -- by the task's name
  pub named_breaks : (name : List ℕ) → IsTaskNamed x.net.now name t → (found : Option Refusal) → EnterBreaks f i roles x t next found
      → EnterFinds f roles x next i name found
  named_breaks name is found breaks = λ known who has says s h manual drawn.
      let here = says s h in
      subst (λ n. First (enter_rest s who i n) found) is.named
      (known_task known f s who roles has i x t next is.task h manual drawn here is.at found (breaks known who has s is.task h manual drawn here is.at))
