-- In a state that rests no event comes of itself: one clause for each kind of event.
use Rattle.std.specs.Prelude.{◌≡◌, ℕ, ◌==◌, ◌&&◌, Bool, true, false, not, List, [], length, Some, is_some, unwrap_or, nat_lt, refl}
use Rattle.std.proofs.Common.{sym, ap}
use Rattle.yw_rows.proofs.Resting.{IsStill, and_both, and_left, and_right, atomic_task, clash, item_still, no_due, no_run, none_leaves, some_and, task_still, unmarked}
use Rattle.yw_spec.specs.declared.task.Kind.{Kind}
use Rattle.yw_spec.specs.declared.task.Kind.TheVariants.{Atomic, Empty, Sub}
use Rattle.yw_spec.specs.declared.task.Task.{Task}
use Rattle.yw_state.specs.Allowed.{allows, depth_end, may_leave}
use Rattle.yw_state.specs.Automatic.{IsQuiet, is_automatic}
use Rattle.yw_state.specs.Identity.{Ident, case_ident}
use Rattle.yw_state.specs.Joins.{at_output}
use Rattle.yw_state.specs.Judged.{is_manual, judged, place_key, rules_at, task_place}
use Rattle.yw_state.specs.Map.{lexical_each}
use Rattle.yw_state.specs.Nets.{child_net, is_atomic, is_empty}
use Rattle.yw_state.specs.Options.{is_some_and}
use Rattle.yw_state.specs.RuleTree.{TreeRule}
use Rattle.yw_state.specs.State.{State, ItemAt, TaskAt, RunPart, due_at, item_at, run_part, task_at}
use Rattle.yw_state.specs.Texts.{nothing}
use Rattle.yw_state.specs.Words.{active, any_due, busy, clear, is_executing, is_first_due, is_ready}
use Rattle.std.specs.FinMap.Entries as finmap
use Rattle.yw_state.specs.declared.event.Event.{Event}
use Rattle.yw_state.specs.declared.event.Event.TheVariants as events
use Rattle.yw_state.specs.declared.part.Checks.{Checks}
use Rattle.yw_state.specs.declared.tree.TreeKind.{TreeKind}
use Rattle.yw_state.specs.declared.tree.TreeKind.TheVariants as kinds
use Rattle.yw_state.specs.declared.tree.TreePlace.{TreePlace}

-- ---- kinds of tasks

no_child_of : (t : Task) (k : Kind) → is_atomic (record t { kind = k }) ≡ true → is_some (child_net (record t { kind = k })) ≡ true → ⊥
no_child_of t Atomic a c = clash false refl c
no_child_of t Empty a c = clash false refl a
no_child_of t (Sub k) a c = clash false refl a

no_child : (t : Task) → is_atomic t ≡ true → is_some (child_net t) ≡ true → ⊥
no_child t a c = no_child_of t t.kind a c

not_empty_of : (t : Task) (k : Kind) → is_atomic (record t { kind = k }) ≡ true → is_empty (record t { kind = k }) ≡ true → ⊥
not_empty_of t Atomic a c = clash false refl c
not_empty_of t Empty a c = clash false refl a
not_empty_of t (Sub k) a c = clash false refl a

not_empty : (t : Task) → is_atomic t ≡ true → is_empty t ≡ true → ⊥
not_empty t a c = not_empty_of t t.kind a c

no_rules : (s : State) → IsStill s → (p : TreePlace) → rules_at s p ≡ []
no_rules s still p = ap (λ (es : List (List (List ℕ) × List TreeRule)). unwrap_or (finmap.find lexical_each (place_key p) es) []) still.rules

manual : (s : State) → IsStill s → (x : TaskAt) → is_atomic x.task ≡ true → is_manual s x ≡ true
manual s still x a = and_both (is_atomic x.task) _ a (ap (λ (rs : List TreeRule). length rs == 0) (no_rules s still (task_place x kinds.Select)))

-- ---- checks

none_first : (c : Checks) (kind : TreeKind) → any_due c ≡ false → is_first_due c kind ≡ true → ⊥
none_first c kind n f = of_parts c.pre c.select c.post kind n f
  where
    of_parts : (a b d : Bool) (k : TreeKind) → any_due (record { pre = a; select = b; post = d }) ≡ false
        → is_first_due (record { pre = a; select = b; post = d }) k ≡ true → ⊥
    of_parts true b d k n f = clash true (sym n) refl
    of_parts false true d k n f = clash true (sym n) refl
    of_parts false false true k n f = clash true (sym n) refl
    of_parts false false false kinds.Pre n f = clash false refl f
    of_parts false false false kinds.Select n f = clash false refl f
    of_parts false false false kinds.Post n f = clash false refl f
    of_parts false false false kinds.External n f = clash false refl f
    of_parts false false false kinds.Timeout n f = clash false refl f
    of_parts false false false kinds.Abort n f = clash false refl f

none_next : (s : State) → IsStill s → (j : Ident) (kind : TreeKind) → (is_first_due (due_at s j) kind && not (busy s j)) ≡ true → ⊥
none_next s still j kind e = none_first (due_at s j) kind (no_due s still j) (and_left (is_first_due (due_at s j) kind) (not (busy s j)) e)

-- ---- items and runs

no_run_that : (s : State) → IsStill s → (r : Ident) (p : RunPart → Bool) → is_some_and (run_part s r) p ≡ true → ⊥
no_run_that s still r p e =
    let x : (y : RunPart) × (run_part s r ≡ Some y) × (p y ≡ true) = some_and (run_part s r) p e in
    no_run s still r x.0 x.1

no_composite : (s : State) → IsStill s → (j : Ident) (p : ItemAt → Bool)
    → is_some_and (item_at s j) (λ (x : ItemAt). p x && is_some (child_net x.of_task.task)) ≡ true → ⊥
no_composite s still j p e =
    let x : (y : ItemAt) × (item_at s j ≡ Some y) × ((p y && is_some (child_net y.of_task.task)) ≡ true)
    = some_and (item_at s j) (λ (y : ItemAt). p y && is_some (child_net y.of_task.task)) e in
    no_child x.0.of_task.task (atomic_task x.0.of_task.task (item_still s still j x.0 x.1)) (and_right (p x.0) (is_some (child_net x.0.of_task.task)) x.2)

no_empty : (s : State) → IsStill s → (j : Ident) (p : ItemAt → Bool) → is_some_and (item_at s j) (λ (x : ItemAt). p x && is_empty x.of_task.task) ≡ true → ⊥
no_empty s still j p e =
    let x : (y : ItemAt) × (item_at s j ≡ Some y) × ((p y && is_empty y.of_task.task) ≡ true)
    = some_and (item_at s j) (λ (y : ItemAt). p y && is_empty y.of_task.task) e in
    not_empty x.0.of_task.task (atomic_task x.0.of_task.task (item_still s still j x.0 x.1)) (and_right (p x.0) (is_empty x.0.of_task.task) x.2)

no_exit : (s : State) → IsStill s → (i : Ident) (t : List ℕ) (q : TaskAt → Bool)
    → is_some_and (task_at s i t) (λ (x : TaskAt). active s i x.number && may_leave s i x && q x) ≡ true → ⊥
no_exit s still i t q e =
    let x : (y : TaskAt) × (task_at s i t ≡ Some y) × ((active s i y.number && may_leave s i y && q y) ≡ true)
    = some_and (task_at s i t) (λ (y : TaskAt). active s i y.number && may_leave s i y && q y) e in
    let both : (active s i x.0.number && may_leave s i x.0) ≡ true = and_left (active s i x.0.number && may_leave s i x.0) (q x.0) x.2 in
    none_leaves s still i x.0 (task_still s still i t x.0 x.1) (and_left (active s i x.0.number) (may_leave s i x.0) both)
    (and_right (active s i x.0.number) (may_leave s i x.0) both)

-- ---- events

nothing_comes : (s : State) → IsStill s → (e : Event) → is_automatic s e ≡ true → allows s e nothing ≡ true → ⊥
unfolding allows
nothing_comes s still (events.Person name roles) auto ok = clash false refl auto
nothing_comes s still (events.Load name text) auto ok = clash false refl auto
nothing_comes s still (events.AddRule p at side when conclusion number) auto ok = clash false refl auto
nothing_comes s still (events.Launch n spec vals) auto ok = clash false refl auto
nothing_comes s still (events.Enter i t places first count) auto ok =
    let x : (y : TaskAt) × (task_at s i t ≡ Some y) × (not (is_manual s y) ≡ true) = some_and (task_at s i t) (λ (y : TaskAt). not (is_manual s y)) auto in
    clash (is_manual s x.0) x.2 (manual s still x.0 (atomic_task x.0.task (task_still s still i t x.0 x.1)))
nothing_comes s still (events.Start j who) auto ok = clash false refl auto
nothing_comes s still (events.Complete j out) auto ok = clash false refl auto
nothing_comes s still (events.Exit i t places) auto ok = no_exit s still i t _ (and_right (clear s i) _ ok)
nothing_comes s still (events.Add i t value n) auto ok = clash false refl auto
nothing_comes s still (events.Finish n) auto ok =
    unmarked s still (case_ident n) (and_right (clear s (case_ident n) && not (busy s (case_ident n))) (at_output s (case_ident n)) ok)
nothing_comes s still (events.Cancel n) auto ok = clash false refl auto
nothing_comes s still (events.StartSub j) auto ok =
    no_composite s still j (λ (x : ItemAt). is_ready x.part.stage) (and_right (clear s j && not (busy s j)) _ ok)
nothing_comes s still (events.CompleteSub j) auto ok =
    unmarked s still j
    (and_right (clear s j && not (busy s j) && is_some_and (item_at s j) (λ (x : ItemAt). is_executing x.part.stage && is_some (child_net x.of_task.task))) (at_output s j) ok)
nothing_comes s still (events.CompleteEmpty j) auto ok = no_empty s still j (λ (x : ItemAt). is_ready x.part.stage) (and_right (clear s j) _ ok)
nothing_comes s still (events.Pass j check) auto ok = none_next s still j check (and_left (is_first_due (due_at s j) check && not (busy s j)) _ ok)
nothing_comes s still (events.Except j kinds.Pre node n) auto ok =
    none_next s still j kinds.Pre (and_left (is_first_due (due_at s j) kinds.Pre && not (busy s j)) (is_some_and (judged s j kinds.Pre) (λ (k : ℕ). k == node))
    (and_left (is_first_due (due_at s j) kinds.Pre && not (busy s j) && is_some_and (judged s j kinds.Pre) (λ (k : ℕ). k == node)) _ ok))
nothing_comes s still (events.Except j kinds.Post node n) auto ok =
    none_next s still j kinds.Post (and_left (is_first_due (due_at s j) kinds.Post && not (busy s j)) (is_some_and (judged s j kinds.Post) (λ (k : ℕ). k == node))
    (and_left (is_first_due (due_at s j) kinds.Post && not (busy s j) && is_some_and (judged s j kinds.Post) (λ (k : ℕ). k == node)) _ ok))
nothing_comes s still (events.Except j kinds.Select node n) auto ok = clash false refl ok
nothing_comes s still (events.Except j kinds.External node n) auto ok = clash false refl ok
nothing_comes s still (events.Except j kinds.Timeout node n) auto ok = clash false refl ok
nothing_comes s still (events.Except j kinds.Abort node n) auto ok = clash false refl ok
nothing_comes s still (events.Substitute j worklet) auto ok =
    none_next s still j kinds.Select (and_left (is_first_due (due_at s j) kinds.Select && not (busy s j)) (nat_lt (length j) depth_end)
    (and_left (is_first_due (due_at s j) kinds.Select && not (busy s j) && nat_lt (length j) depth_end) _ ok))
nothing_comes s still (events.CompleteWorklet j) auto ok =
    unmarked s still j
    (and_right (clear s j && not (busy s j) && is_some_and (item_at s j) (λ (x : ItemAt). is_executing x.part.stage && is_atomic x.of_task.task)) (at_output s j) ok)
nothing_comes s still (events.Raise j kind node n) auto ok = clash false refl auto
nothing_comes s still (events.Prim r p) auto ok = no_run_that s still r _ ok
nothing_comes s still (events.Compensated r) auto ok =
    no_run_that s still r (λ (x : RunPart). x.waiting) (and_left (is_some_and (run_part s r) (λ (x : RunPart). x.waiting)) (at_output s r)
    (and_left (is_some_and (run_part s r) (λ (x : RunPart). x.waiting) && at_output s r) _ ok))
nothing_comes s still (events.Suspend j) auto ok = clash false refl auto
nothing_comes s still (events.Continue j) auto ok = clash false refl auto
nothing_comes s still (events.Advance n) auto ok = clash false refl auto

pub rests : (s : State) → IsStill s → (n : ℕ) → IsQuiet s n
rests s still n e comes = nothing_comes s still e comes.automatic comes.allowed.0
