-- What is urgent at an identity gives an event that comes of itself.
use Rattle.std.specs.Prelude.{◌≡◌, ◌<◌, ◌≤◌, ℕ, ◌+◌, ◌==◌, ◌&&◌, ◌||◌, Bool, true, false, not, List, [], ◌∷◌, length, Option, Some, None, is_none, option_and_then, refl, if◌then◌else◌}
use Rattle.std.proofs.Common.{sym, ◌∙◌, ap, subst, arith}
use Rattle.std.proofs.lemmas.Bool.{and_from, and_parts, eq-eqb, eqb-false, leb-false, lt-ltb, ltb-true, or_left, or_right}
use Rattle.std.proofs.lemmas.Slice.Eq.{bytes_eq-Decides}
use Rattle.yw_base.specs.Identity.{number_end}
use Rattle.yw_state.proofs.Tests.{by_option, by_test, never, nowhere, some_same, then_some}
use Rattle.yw_state.specs.Allowed.{allows, begins_exlet, cannot_begin, comes_next, depth_end, is_first, is_too_deep, is_worklet, none_is_left, same_primitive}
use Rattle.yw_state.specs.Identity.{Ident}
use Rattle.yw_state.specs.Judged.{conclusion_at, is_select, judged}
use Rattle.yw_state.specs.Options.{is_some_and}
use Rattle.yw_state.specs.State.{RunPart, State, due_at, run_part}
use Rattle.yw_state.specs.Texts.{Reader}
use Rattle.yw_state.specs.Well.{IsWell}
use Rattle.yw_state.specs.Words.{any_due, busy, is_at_work, is_first_due}
use Rattle.yw_state.specs.declared.event.Event.{Event}
use Rattle.yw_state.specs.declared.event.Event.TheVariants as events
use Rattle.yw_state.specs.declared.part.Checks.{Checks}
use Rattle.yw_state.specs.declared.tree.Conclusion.{Conclusion}
use Rattle.yw_state.specs.declared.tree.Conclusion.TheVariants.{Exlet, Worklet}
use Rattle.yw_state.specs.declared.tree.Primitive.{Primitive}
use Rattle.yw_state.specs.declared.tree.Primitive.TheVariants as primitives
use Rattle.yw_state.specs.declared.tree.TreeKind.{TreeKind}
use Rattle.yw_state.specs.declared.tree.TreeKind.TheVariants as kinds
use Rattle.yw_still.proofs.Urgent.{number_left}
use Rattle.yw_still.specs.Still.{check_waits, compensation_ends}
use Rattle.yw_urgent.proofs.Concluded.{worklet_chosen}
use Rattle.yw_urgent.specs.Events.{TakesFirst, exlet_event}
use Rattle.yw_idle.specs.Idle.{is_urgent_at}
use Rattle.yw_urgent.specs.Urgent.{EndsCompensation, IsUrgent, chosen_worklet, where_left, worklet_named}
use Rattle.yw_worklet.specs.Chosen.{where_shallow}

-- ---- the first check that is due

second : (a b c : Bool) → (b && not a) ≡ true → (a || b || c) ≡ true
second true b c e = refl
second false true c e = refl
second false false c e = never e

third : (a b c : Bool) → (c && not a && not b) ≡ true → (a || b || c) ≡ true
third true b c e = refl
third false true c e = refl
third false false true e = refl
third false false false e = never e

-- it is due
pub first_due : (c : Checks) (k : TreeKind) → is_first_due c k ≡ true → any_due c ≡ true
first_due c kinds.Pre e = or_left _ _ (or_left _ _ e)
first_due c kinds.Select e = second c.pre c.select c.post e
first_due c kinds.Post e = third c.pre c.select c.post e
first_due c k e = never e

-- it begins an exlet, where it doesn't choose a worklet
begins_by : (c : Checks) (k : TreeKind) → is_first_due c k ≡ true → is_select k ≡ false → begins_exlet k ≡ true
begins_by c kinds.Pre e other = refl
begins_by c kinds.Select e other = never (sym other)
begins_by c kinds.Post e other = refl
begins_by c k e other = never e

pub not_select : (k : TreeKind) → (k ≡ kinds.Select → ⊥) → is_select k ≡ false
not_select kinds.Select other = absurd (other refl)
not_select k other = refl

primitive_itself : (p : Primitive) → same_primitive p p ≡ true
primitive_itself primitives.SuspendItem = refl
primitive_itself primitives.ContinueItem = refl
primitive_itself primitives.RestartItem = refl
primitive_itself primitives.CompleteItem = refl
primitive_itself primitives.RemoveItem = refl
primitive_itself primitives.SuspendCase = refl
primitive_itself primitives.ContinueCase = refl
primitive_itself primitives.RemoveCase = refl
primitive_itself (primitives.Compensate a) = (bytes_eq-Decides a a).1 refl
primitive_itself (primitives.Unknown a) = (bytes_eq-Decides a a).1 refl

-- ---- what a tree concludes, where that may begin

-- the node is concluded, and a number is left for its run
pub left_node : (next : ℕ) (o : Option ℕ) (node : ℕ) → where_left next o ≡ Some node → (o ≡ Some node) × ((next == number_end) ≡ false)
left_node next o node some =
    by_test (next == number_end)
    (λ spent. nowhere (sym (ap (λ b. if b then None else o) spent) ∙ some))
    (λ left. (sym (ap (λ b. if b then None else o) left) ∙ some, left))

pub shallow_node : (j : Ident) (o : Option ℕ) (node : ℕ) → where_shallow j o ≡ Some node → o ≡ Some node
shallow_node j o node some =
    by_test (is_too_deep j)
    (λ deep. nowhere (sym (ap (λ b. if b then None else o) deep) ∙ some))
    (λ high. sym (ap (λ b. if b then None else o) high) ∙ some)

named_worklet : (c : Conclusion) (name : List ℕ) → worklet_named c ≡ Some name → c ≡ Worklet name
named_worklet (Worklet other) name e = ap Worklet (some_same other name e)
named_worklet (Exlet ps) name e = nowhere e

module _ (s : State) (j : Ident) where
  -- ---- what is urgent

  pub check_is_urgent : (k : TreeKind) → comes_next s j k ≡ true → is_urgent_at s j ≡ true
  check_is_urgent k next =
      let parts = and_parts (is_first_due (due_at s j) k) (not (busy s j)) next in
      or_left _ _ (and_from _ _ (first_due (due_at s j) k parts.0) parts.1)

  pub run_is_urgent : (x : RunPart) → run_part s j ≡ Some x → x.waiting ≡ false → is_urgent_at s j ≡ true
  run_is_urgent x here works = or_right (check_waits s j) _ (ap is_at_work here ∙ ap not works)

  -- ---- a check

  passes : (k : TreeKind) → comes_next s j k ≡ true → (is_none (judged s j k) || cannot_begin s j k) ≡ true → IsUrgent s j (events.Pass j k)
  unfolding allows
  passes k next may =
      record { urgent = check_is_urgent k next; place = refl; comes = record { here = refl; automatic = refl; allowed = (and_from _ _ next may, tt) } }

  module _ (k : TreeKind) (next : comes_next s j k ≡ true) (other : is_select k ≡ false) where
    -- no exlet begins
    check_passes : where_left s.next (judged s j k) ≡ None → IsUrgent s j (events.Pass j k)
    check_passes none =
        by_test (s.next == number_end)
        (λ spent. passes k next (or_right _ _ (ap (λ b. if b then is_too_deep j else none_is_left s) other ∙ spent)))
        (λ left. passes k next (or_left _ _ (ap is_none (sym (ap (λ b. if b then None else judged s j k) left) ∙ none))))

    -- one does
    exlet_begins : {reader : Reader} → IsWell reader s → (node : ℕ) → where_left s.next (judged s j k) ≡ Some node → IsUrgent s j (events.Except j k node s.next)
    unfolding allows
    exlet_begins well node some =
        let parts = and_parts (is_first_due (due_at s j) k) (not (busy s j)) next in
        let begins = begins_by (due_at s j) k parts.0 other in
        let left = left_node s.next (judged s j k) node some in
        let concludes_it = ap (λ o. is_some_and o (λ m. m == node)) left.0 ∙ eq-eqb node node refl in
        let drawn = number_left s (room well.numbers.most (eqb-false s.next number_end left.1)) in
        record {
          urgent = check_is_urgent k next;
          place = refl;
          comes = record { here = refl; automatic = refl; allowed = (and_from _ _ (and_from _ _ (and_from _ _ begins next) concludes_it) drawn, tt) };
        }
      where
        room : s.next ≤ number_end → ¬ (s.next ≡ number_end) → s.next + 1 ≤ number_end
        room most other = omega arith

    pub exlet_comes : {reader : Reader} → IsWell reader s → IsUrgent s j (exlet_event j k (where_left s.next (judged s j k)) s.next)
    exlet_comes well =
        by_option (where_left s.next (judged s j k))
        (λ none. subst (λ o. IsUrgent s j (exlet_event j k o s.next)) (sym none) (check_passes none))
        (λ node some. subst (λ o. IsUrgent s j (exlet_event j k o s.next)) (sym some) (exlet_begins well node some))

  -- ---- the choice of a worklet

  module _ (next : comes_next s j kinds.Select ≡ true) where
    choice_passes : where_shallow j (judged s j kinds.Select) ≡ None → IsUrgent s j (events.Pass j kinds.Select)
    choice_passes none =
        by_test (is_too_deep j)
        (λ deep. passes kinds.Select next (or_right _ _ deep))
        (λ high. passes kinds.Select next (or_left _ _ (ap is_none (sym (ap (λ b. if b then None else judged s j kinds.Select) high) ∙ none))))

    worklet_begins : (node : ℕ) → where_shallow j (judged s j kinds.Select) ≡ Some node → (name : List ℕ)
        → conclusion_at s j kinds.Select node ≡ Some (Worklet name) → IsUrgent s j (events.Substitute j name)
    unfolding allows
    worklet_begins node some name concludes_it =
        by_test (is_too_deep j)
        (λ deep. nowhere (sym (ap (λ b. if b then None else judged s j kinds.Select) deep) ∙ some))
        (λ high.
        let is : judged s j kinds.Select ≡ Some node = sym (ap (λ b. if b then None else judged s j kinds.Select) high) ∙ some in
        let chosen = ap (λ o. is_some_and (option_and_then (conclusion_at s j kinds.Select) o) (is_worklet name)) is ∙ ap (λ o. is_some_and o (is_worklet name)) concludes_it
        ∙ (bytes_eq-Decides name name).1 refl in
        record {
          urgent = check_is_urgent kinds.Select next;
          place = refl;
          comes = record {
            here = refl;
            automatic = refl;
            allowed = (and_from _ _ (and_from _ _ next (lt-ltb (length j) depth_end (leb-false depth_end (length j) high))) chosen, tt);
          };
        })

    -- one begins
    pub choice_begins : (name : List ℕ) → chosen_worklet s j ≡ Some name → IsUrgent s j (events.Substitute j name)
    choice_begins name is =
        let node = then_some (λ k. option_and_then worklet_named (conclusion_at s j kinds.Select k)) (where_shallow j (judged s j kinds.Select)) name is in
        let c = then_some worklet_named (conclusion_at s j kinds.Select node.0) name node.2 in
        worklet_begins node.0 node.1 name (c.1 ∙ ap Some (named_worklet c.0 name c.2))

    -- none is chosen, or none may begin
    pub choice_ends : {reader : Reader} → IsWell reader s → chosen_worklet s j ≡ None → IsUrgent s j (events.Pass j kinds.Select)
    choice_ends {reader} well none =
        by_option (where_shallow j (judged s j kinds.Select)) choice_passes
        (λ node some.
        let name = worklet_chosen reader s well j kinds.Select node (shallow_node j (judged s j kinds.Select) node some) refl in
        nowhere (sym none ∙ ap (option_and_then (λ k. option_and_then worklet_named (conclusion_at s j kinds.Select k))) some
        ∙ ap (option_and_then worklet_named) name.1))

  -- ---- a run

  module _ (x : RunPart) (here : run_part s j ≡ Some x) (works : x.waiting ≡ false) where
    primitive_comes : (p : Primitive) → is_first p x.rest ≡ true → IsUrgent s j (events.Prim j p)
    unfolding allows
    primitive_comes p first =
        let may = ap (λ o. is_some_and o (λ (y : RunPart). not y.waiting && is_first p y.rest)) here ∙ and_from _ _ (ap not works) first in
        record { urgent = run_is_urgent x here works; place = refl; comes = record { here = refl; automatic = refl; allowed = (may, tt) } }

    pub first_comes : (e : Event) → TakesFirst j x.rest e → IsUrgent s j e
    first_comes e takes = let p = first_of x.rest e takes in subst (IsUrgent s j) (sym p.2) (primitive_comes p.0 p.1)
      where
        first_of : (ps : List Primitive) (e : Event) → TakesFirst j ps e → (p : Primitive) × (is_first p ps ≡ true) × (e ≡ events.Prim j p)
        first_of [] e takes = absurd takes
        first_of (p ∷ ps) e takes = (p, primitive_itself p, takes)

    -- it has one to take
    pub has_first : {reader : Reader} → IsWell reader s → 0 < length x.rest
    has_first well = ltb-true 0 (length x.rest) (has_rest x.waiting works (well.parents.run_works j x here))
      where
        has_rest : {rest : Bool} (b : Bool) → b ≡ false → (b || rest) ≡ true → rest ≡ true
        has_rest true is e = never (sym is)
        has_rest false is e = e

  -- ---- a compensation

  pub compensation_comes : compensation_ends s j ≡ true → EndsCompensation s j (events.Compensated j)
  unfolding allows
  compensation_comes may = record { is = refl; comes = record { here = refl; automatic = refl; allowed = (may, tt) } }
