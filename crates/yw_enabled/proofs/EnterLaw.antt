-- A task may be entered exactly where its net says so, but for an OR-join that waits.
use Rattle.std.proofs.Common.{Bool, List, None, Option, Some, [], ap, false, get_or, inl, inr, length, refl, subst, suc, sym, true, zero, ℕ, ◌+◌, ◌∙◌, ◌∷◌, ◌≡◌}
use Rattle.std.proofs.lemmas.Bool.{and_from, and_parts}
use Rattle.std.specs.Prelude.{Err, IfOk, IfSome, IsTrue, Ok, Result, nat_le, not, slice_get, unwrap_or, ◌&&◌}
use Rattle.yw_base.specs.Gates.{is_or}
use Rattle.yw_base.specs.Identity.{number_end}
use Rattle.yw_enabled.proofs.FreeItems.{task_is}
use Rattle.yw_enabled.specs.Entered.{ComesIn, EntersFrom, EntersWith, MayEnter, MayNotEnter, StaysOut, is_chosen, is_manual, may_be_made}
use Rattle.yw_enabled.specs.Free.{MayDraw}
use Rattle.yw_enabled.specs.declared.entered.Entering.{Entering}
use Rattle.yw_mark.specs.Taking.{Chooses, HasTokens, OfTask, taken_places}
use Rattle.yw_mark.specs.declared.join.Taken.{Taken}
use Rattle.yw_path.proofs.WaitLemmas.{fills, waits}
use Rattle.yw_spec.specs.declared.spec.Net.{Net}
use Rattle.yw_spec.specs.declared.task.Task.{Task}
use Rattle.yw_state.proofs.Tests.{never, some_same}
use Rattle.yw_state.specs.Identity.{Ident}
use Rattle.yw_state.specs.Joins.{NoWait, Waits, has_tokens}
use Rattle.yw_state.specs.Options.{is_some_and}
use Rattle.yw_state.specs.Passing.{entry_values, within_bounds}
use Rattle.yw_state.specs.State.{State, TaskAt}
use Rattle.yw_still.specs.Still.{can_be_entered}
use Rattle.yw_task.proofs.EnterAsk.{has_marks, its_active, net_with}
use Rattle.yw_task.specs.Asked.{OrWaitsAs, is_active}
use Rattle.yw_tree.specs.declared.Forest.{Forest}
use Rattle.yw_tree.specs.declared.NetState.{NetState, out-NetState}

read_or : (xs : List Bool) (k : ℕ) → get_or xs k false ≡ unwrap_or (slice_get xs k) false
read_or [] k = refl
read_or (x ∷ xs) zero = refl
read_or (x ∷ xs) (suc k) = read_or xs k

module _ (names : ℕ → List ℕ) (f : Forest) (s : State) (i : Ident) (net : Net) (state : NetState) (first : ℕ) (h : MayDraw names f s i net state first) (t : ℕ) (task : Task) where
  entering_there : can_be_entered s i (record { number = t; task = task; within = net_with names net state })
      ≡ (not (is_active state t) && has_tokens task.join s i task.before && may_be_made task (out-NetState state).vals first)
  entering_there = λ j. h.free.free j && not (its_active names f s i net state h.free.stands t j) && has_tokens task.join s i task.before
      && is_some_and (entry_values task (out-NetState state).vals) (λ rows. within_bounds task.many (length rows) && nat_le (h.next j + length rows) number_end)

  -- what it needs
  needs : can_be_entered s i (record { number = t; task = task; within = net_with names net state }) ≡ true
      → (is_active state t ≡ true → ⊥) × (has_tokens task.join s i task.before ≡ true) × (may_be_made task (out-NetState state).vals first ≡ true)
  needs e =
      let all = and_parts (not (is_active state t) && has_tokens task.join s i task.before) (may_be_made task (out-NetState state).vals first) (sym entering_there ∙ e) in
      let two = and_parts (not (is_active state t)) (has_tokens task.join s i task.before) all.0 in
      (λ a. never (ap not (sym a) ∙ two.0), two.1, all.1)

  waits_there : OrWaitsAs net state task true → IsTrue (is_or task.join) × Waits s i (record { number = t; task = task; within = net_with names net state })
  waits_there answer =
      let a = answer.1 in (
        answer.0,
        waits s i (record { number = t; task = task; within = net_with names net state }) (out-NetState state).marks a.actives (has_marks names f s i net state h.free.stands)
            (λ k l. its_active names f s i net state h.free.stands k ∙ a.active k l ∙ read_or a.actives k) (a.same.0 refl),
      )

  no_wait_there : OrWaitsAs net state task false → NoWait s i (record { number = t; task = task; within = net_with names net state })
  no_wait_there answer is_join w =
      elim answer [
        | inl other ↦ never (sym other ∙ is_join)
        | inr a ↦
            never (a.same.1 (fills s i (record { number = t; task = task; within = net_with names net state }) (out-NetState state).marks a.actives (has_marks names f s i net state h.free.stands)
            (λ k l. its_active names f s i net state h.free.stands k ∙ a.active k l ∙ read_or a.actives k) w))
      ]

-- what keeps the task with this number from being entered, wherever the net stands
abbrev Keeps : Net → NetState → ℕ → ℕ → Task → Type 0
Keeps net state t first task =
    (names : ℕ → List ℕ) (f : Forest) (s : State) (i : Ident) → MayDraw names f s i net state first
    → can_be_entered s i (record { number = t; task = task; within = net_with names net state }) ≡ true → IsTrue (is_or task.join) × Waits s i (record { number = t; task = task; within = net_with names net state })

keeps_out : (net : Net) (state : NetState) (t first : ℕ) → ((task : Task) → slice_get net.tasks t ≡ Some task → Keeps net state t first task) → MayNotEnter net state t first
keeps_out net state t first keeps = λ names f s i x h is.
    let y = task_is names f s i net state h.free t x is in
    subst (λ (z : TaskAt). can_be_entered s i z ≡ true → IsTrue (is_or z.task.join) × Waits s i z) y.2 (keeps y.0 y.1 names f s i h)

module _ (net : Net) (state : NetState) (t first : ℕ) where
  pub out_active : is_active state t ≡ true → MayNotEnter net state t first
  out_active a = keeps_out net state t first (λ task at names f s i h e. absurd ((needs names f s i net state first h t task e).0 a))

  pub out_without : (has : Bool) → OfTask net t (λ task. HasTokens (out-NetState state).marks task has) → has ≡ false → MayNotEnter net state t first
  out_without has tokens lacks = keeps_out net state t first (λ task at names f s i h e.
      never (sym lacks ∙ sym (tokens task at s i (has_marks names f s i net state h.free.stands)) ∙ (needs names f s i net state first h t task e).1))

  module _ (own : Task) (is : slice_get net.tasks t ≡ Some own) where
    pub out_waiting : OrWaitsAs net state own true → MayNotEnter net state t first
    out_waiting answer = keeps_out net state t first (λ task at names f s i h e.
        waits_there names f s i net state first h t task (subst (λ (u : Task). OrWaitsAs net state u true) (some_same own task (sym is ∙ at)) answer))

    pub out_unmade : may_be_made own (out-NetState state).vals first ≡ false → MayNotEnter net state t first
    out_unmade none = keeps_out net state t first (λ task at names f s i h e.
        let same : own ≡ task = some_same own task (sym is ∙ at) in
        let all = (needs names f s i net state first h t task e).2 in
        never (sym none ∙ ap (λ (u : Task). may_be_made u (out-NetState state).vals first) same ∙ all))

    pub comes_in : (taken : Taken) → is_active state t ≡ false → OfTask net t (λ task. Chooses (out-NetState state).marks task taken) → OfTask net t (λ task. HasTokens (out-NetState state).marks task true)
        → OrWaitsAs net state own false → may_be_made own (out-NetState state).vals first ≡ true → MayEnter net state t first taken
    comes_in taken idle chooses tokens answer may = λ names f s i x h at.
        let y = task_is names f s i net state h.free t x at in
        let same : own ≡ y.0 = some_same own y.0 (sym is ∙ y.1) in
        let marks = has_marks names f s i net state h.free.stands in
        let its_made : may_be_made y.0 (out-NetState state).vals first ≡ true =
        ap (λ (u : Task). may_be_made u (out-NetState state).vals first) (sym same) ∙ may in
        let enters : EntersFrom s i (record { number = t; task = y.0; within = net_with names net state }) (taken_places (out-NetState state).marks y.0.before taken) = record {
          may = entering_there names f s i net state first h t y.0
              ∙ and_from _ _ (and_from _ _ (ap not idle) (tokens y.0 y.1 s i marks)) its_made;
          no_wait = no_wait_there names f s i net state first h t y.0 (subst (λ (u : Task). OrWaitsAs net state u false) same answer);
          takes = (chooses y.0 y.1).joins s i marks;
        } in
        subst (λ (z : TaskAt). EntersFrom s i z (taken_places (out-NetState state).marks z.task.before taken)) y.2 enters

-- ---- by nobody

-- it is told of the task at this number
pub manual_as : (net : Net) (t : ℕ) (own : Task) → slice_get net.tasks t ≡ Some own → (chosen : List Bool) (answer : Bool)
    → is_manual own (is_chosen chosen t) ≡ answer → OfTask net t (λ task. is_manual task (is_chosen chosen t) ≡ answer)
manual_as net t own is chosen answer e = λ task at. ap (λ (u : Task). is_manual u (is_chosen chosen t)) (some_same task own (sym at ∙ is)) ∙ e

module _ (net : Net) (state : NetState) (first : ℕ) (chosen : List Bool) (t : ℕ) {E : Type 0} where
  pub comes_by_itself : OfTask net t (λ task. is_manual task (is_chosen chosen t) ≡ false)
      → (r : Result (Option Entering) E) → IfOk r (λ o. IfSome o (EntersWith net state t first)) → IfOk r (λ o. IfSome o (ComesIn net state first chosen t))
  comes_by_itself kind (Ok None) enters = enters
  comes_by_itself kind (Ok (Some x)) enters = record { kind = kind; entering = enters }
  comes_by_itself kind (Err fault) enters = enters

  pub stays_out : (r : Result (Option Entering) E) → IfOk r (λ o. o ≡ None → MayNotEnter net state t first) → IfOk r (λ o. o ≡ None → StaysOut net state first chosen t)
  stays_out (Ok o) out = λ none. inr (out none)
  stays_out (Err fault) out = out
