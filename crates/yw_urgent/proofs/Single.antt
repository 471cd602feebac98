-- At an identity one event comes of what is urgent there, and no other.
use Rattle.std.specs.Prelude.{◌≡◌, ◌<◌, ◌≤◌, ◌⊎◌, ℕ, ◌+◌, ◌==◌, ◌&&◌, ◌||◌, Bool, true, false, not, List, [], ◌∷◌, length, Option, Some, None, is_none, is_some, nat_lt, option_and_then, refl, if◌then◌else◌}
use Rattle.std.proofs.Common.{sym, ◌∙◌, ap, subst, arith, inl, inr}
use Rattle.std.proofs.lemmas.Bool.{eqb-true, leb-true, ltb-true}
use Rattle.std.proofs.lemmas.Slice.Eq.{bytes_eq-Decides}
use Rattle.yw_base.specs.Identity.{number_end}
use Rattle.yw_state.proofs.Tests.{and_left, and_right, by_test, never, nowhere, or_cases, some_same, then_some, there_and}
use Rattle.yw_state.specs.Allowed.{allows, begins_exlet, cannot_begin, comes_next, concludes, depth_end, is_first, is_next, is_too_deep, is_worklet, none_is_left, same_primitive}
use Rattle.yw_state.specs.Identity.{Ident, is_case_ident}
use Rattle.yw_state.specs.Judged.{conclusion_at, is_select, judged}
use Rattle.yw_state.specs.Options.{is_some_and}
use Rattle.yw_state.specs.State.{RunPart, State, due_at, is_case, is_item, run_part}
use Rattle.yw_state.specs.Texts.{Reader}
use Rattle.yw_state.specs.Well.{IsWell}
use Rattle.yw_state.specs.Words.{has_check, is_first_due}
use Rattle.yw_state.specs.declared.event.Event.{Event}
use Rattle.yw_state.specs.declared.event.Event.TheVariants as events
use Rattle.yw_state.specs.declared.part.Checks.{Checks}
use Rattle.yw_state.specs.declared.tree.Conclusion.{Conclusion}
use Rattle.yw_state.specs.declared.tree.Conclusion.TheVariants.{Exlet, Worklet}
use Rattle.yw_state.specs.declared.tree.Primitive.{Primitive}
use Rattle.yw_state.specs.declared.tree.Primitive.TheVariants as primitives
use Rattle.yw_state.specs.declared.tree.TreeKind.{TreeKind}
use Rattle.yw_state.specs.declared.tree.TreeKind.TheVariants as kinds
use Rattle.yw_urgent.specs.Urgent.{IsUrgent, where_left, worklet_named}

-- ---- the first check that is due is one

abbrev kind_in : Checks → TreeKind
kind_in c = if c.pre then kinds.Pre else if c.select then kinds.Select else kinds.Post

second_kind : (a b : Bool) → (b && not a) ≡ true → kinds.Select ≡ (if a then kinds.Pre else if b then kinds.Select else kinds.Post)
second_kind true true e = never e
second_kind true false e = never e
second_kind false true e = refl
second_kind false false e = never e

third_kind : (a b c : Bool) → (c && not a && not b) ≡ true → kinds.Post ≡ (if a then kinds.Pre else if b then kinds.Select else kinds.Post)
third_kind false false c e = refl
third_kind true b true e = never e
third_kind true b false e = never e
third_kind false true true e = never e
third_kind false true false e = never e

kind_is : (c : Checks) (k : TreeKind) → is_first_due c k ≡ true → k ≡ kind_in c
kind_is c kinds.Pre e = sym (ap (λ b. if b then kinds.Pre else if c.select then kinds.Select else kinds.Post) e)
kind_is c kinds.Select e = second_kind c.pre c.select e
kind_is c kinds.Post e = third_kind c.pre c.select c.post e
kind_is c k e = never e

-- it is due
first_is_due : (c : Checks) (k : TreeKind) → is_first_due c k ≡ true → has_check c k ≡ true
first_is_due c kinds.Pre e = e
first_is_due c kinds.Select e = and_left _ _ e
first_is_due c kinds.Post e = and_left _ _ (and_left _ _ e)
first_is_due c k e = never e

select_is : (k : TreeKind) → is_select k ≡ true → k ≡ kinds.Select
select_is kinds.Select e = refl
select_is k e = never e

begins_other : (k : TreeKind) → begins_exlet k ≡ true → is_select k ≡ false
begins_other kinds.Select e = never e
begins_other k e = refl

-- ---- primitives, worklets and nodes

primitive_is : (p q : Primitive) → same_primitive p q ≡ true → p ≡ q
primitive_is primitives.SuspendItem primitives.SuspendItem e = refl
primitive_is primitives.ContinueItem primitives.ContinueItem e = refl
primitive_is primitives.RestartItem primitives.RestartItem e = refl
primitive_is primitives.CompleteItem primitives.CompleteItem e = refl
primitive_is primitives.RemoveItem primitives.RemoveItem e = refl
primitive_is primitives.SuspendCase primitives.SuspendCase e = refl
primitive_is primitives.ContinueCase primitives.ContinueCase e = refl
primitive_is primitives.RemoveCase primitives.RemoveCase e = refl
primitive_is (primitives.Compensate a) (primitives.Compensate b) e = ap primitives.Compensate ((bytes_eq-Decides a b).0 e)
primitive_is (primitives.Unknown a) (primitives.Unknown b) e = ap primitives.Unknown ((bytes_eq-Decides a b).0 e)
primitive_is p q e = never e

named_is : (name : List ℕ) (c : Conclusion) → is_worklet name c ≡ true → worklet_named c ≡ Some name
named_is name (Worklet other) e = ap Some ((bytes_eq-Decides other name).0 e)
named_is name (Exlet ps) e = never e

either_none : (b : Bool) (o : Option ℕ) → (is_none o || b) ≡ true → (if b then None else o) ≡ None
either_none true o e = refl
either_none false None e = refl
either_none false (Some x) e = never e

module _ (s : State) (j : Ident) where
  -- ---- which event it is

  abbrev exlet_as : TreeKind → Option ℕ → Event
  exlet_as k None = events.Pass j k
  exlet_as k (Some node) = events.Except j k node s.next

  abbrev choice_as : Option (List ℕ) → Event
  choice_as None = events.Pass j kinds.Select
  choice_as (Some name) = events.Substitute j name

  abbrev worklet_at : ℕ → Option (List ℕ)
  worklet_at node = option_and_then worklet_named (conclusion_at s j kinds.Select node)

  abbrev chosen_node : Option ℕ
  chosen_node = if is_too_deep j then None else judged s j kinds.Select

  -- that of a check of this kind
  abbrev of_kind : TreeKind → Event
  of_kind k = if is_select k then choice_as (option_and_then worklet_at chosen_node) else exlet_as k (where_left s.next (judged s j k))

  exlet_is : (k : TreeKind) → is_select k ≡ false → of_kind k ≡ exlet_as k (where_left s.next (judged s j k))
  exlet_is k other = ap (λ b. if b then choice_as (option_and_then worklet_at chosen_node) else exlet_as k (where_left s.next (judged s j k))) other

  abbrev IsOfCheck : Event → Type 0
  IsOfCheck e = (k : TreeKind) × (comes_next s j k ≡ true) × (e ≡ of_kind k)

  -- that of a run which has this to do
  abbrev OfRest : List Primitive → Event → Type 0
  OfRest [] e = ⊥
  OfRest (p ∷ ps) e = e ≡ events.Prim j p

  abbrev IsOfRun : Event → Type 0
  IsOfRun e = (x : RunPart) × (run_part s j ≡ Some x) × OfRest x.rest e

  -- ---- each event is one of these

  pass_is : (k : TreeKind) → (is_none (judged s j k) || cannot_begin s j k) ≡ true → events.Pass j k ≡ of_kind k
  pass_is k may =
      by_test (is_select k)
      (λ select. subst (λ z. events.Pass j z ≡ of_kind z) (sym (select_is k select))
      (chosen (subst (λ z. (is_none (judged s j z) || cannot_begin s j z) ≡ true) (select_is k select) may)))
      (λ other.
      let left = subst (λ b. (is_none (judged s j k) || (if b then is_too_deep j else none_is_left s)) ≡ true) other may in
      sym (exlet_is k other ∙ ap (exlet_as k) (either_none (s.next == number_end) (judged s j k) left)))
    where
      chosen : (is_none (judged s j kinds.Select) || cannot_begin s j kinds.Select) ≡ true → events.Pass j kinds.Select ≡ of_kind kinds.Select
      chosen none = sym (ap (λ o. choice_as (option_and_then worklet_at o)) (either_none (is_too_deep j) (judged s j kinds.Select) none))

  except_is : (k : TreeKind) (node n : ℕ) → begins_exlet k ≡ true → concludes s j k node ≡ true → is_next s n ≡ true → events.Except j k node n ≡ of_kind k
  except_is k node n begins concludes_it drawn =
      let found = there_and (judged s j k) (λ m. m == node) concludes_it in
      let is : judged s j k ≡ Some node = found.1 ∙ ap Some (eqb-true found.0 node found.2) in
      let next : n ≡ s.next = eqb-true n s.next (and_left _ _ drawn) in
      let fits : n + 1 ≤ number_end = leb-true (n + 1) number_end (and_right (n == s.next) _ drawn) in
      let left : (s.next == number_end) ≡ false = by_test (s.next == number_end) (λ end. absurd (too_far next fits (eqb-true s.next number_end end))) (λ left. left) in
      ap (λ m. events.Except j k node m) next
      ∙ sym (exlet_is k (begins_other k begins) ∙ ap (exlet_as k) (ap (λ b. if b then None else judged s j k) left ∙ is))
    where
      too_far : n ≡ s.next → n + 1 ≤ number_end → s.next ≡ number_end → ⊥
      too_far next fits end = omega (arith, next, fits, end)

  substitute_is : (name : List ℕ) → nat_lt (length j) depth_end ≡ true
      → is_some_and (option_and_then (conclusion_at s j kinds.Select) (judged s j kinds.Select)) (is_worklet name) ≡ true
      → events.Substitute j name ≡ of_kind kinds.Select
  substitute_is name short chosen =
      let c = there_and (option_and_then (conclusion_at s j kinds.Select) (judged s j kinds.Select)) (is_worklet name) chosen in
      let k = then_some (conclusion_at s j kinds.Select) (judged s j kinds.Select) c.0 c.1 in
      let high : is_too_deep j ≡ false = by_test (is_too_deep j) (λ deep. absurd (too_deep (ltb-true (length j) depth_end short) (leb-true depth_end (length j) deep))) (λ high. high) in
      let node : chosen_node ≡ Some k.0 = ap (λ b. if b then None else judged s j kinds.Select) high ∙ k.1 in
      sym (ap choice_as (ap (option_and_then worklet_at) node ∙ ap (option_and_then worklet_named) k.2 ∙ named_is name c.0 c.2))
    where
      too_deep : length j < depth_end → depth_end ≤ length j → ⊥
      too_deep short deep = omega (arith, short, deep)

  prim_is : (p : Primitive) (ps : List Primitive) → is_first p ps ≡ true → OfRest ps (events.Prim j p)
  prim_is p [] e = never e
  prim_is p (q ∷ qs) e = ap (events.Prim j) (primitive_is p q e)

  module _ (i : Ident) (same : i ≡ j) where
    of_pass : (k : TreeKind) → comes_next s i k ≡ true → (is_none (judged s i k) || cannot_begin s i k) ≡ true → IsOfCheck (events.Pass i k)
    of_pass k next may = (
      k,
      subst (λ z. comes_next s z k ≡ true) same next,
      ap (λ z. events.Pass z k) same ∙ pass_is k (subst (λ z. (is_none (judged s z k) || cannot_begin s z k) ≡ true) same may),
    )

    of_except : (k : TreeKind) (node n : ℕ) → begins_exlet k ≡ true → comes_next s i k ≡ true → concludes s i k node ≡ true → is_next s n ≡ true
        → IsOfCheck (events.Except i k node n)
    of_except k node n begins next concludes_it drawn = (
      k,
      subst (λ z. comes_next s z k ≡ true) same next,
      ap (λ z. events.Except z k node n) same ∙ except_is k node n begins (subst (λ z. concludes s z k node ≡ true) same concludes_it) drawn,
    )

    of_substitute : (name : List ℕ) → comes_next s i kinds.Select ≡ true → nat_lt (length i) depth_end ≡ true
        → is_some_and (option_and_then (conclusion_at s i kinds.Select) (judged s i kinds.Select)) (is_worklet name) ≡ true
        → IsOfCheck (events.Substitute i name)
    of_substitute name next short chosen = (
      kinds.Select,
      subst (λ z. comes_next s z kinds.Select ≡ true) same next,
      ap (λ z. events.Substitute z name) same
          ∙ substitute_is name (subst (λ z. nat_lt (length z) depth_end ≡ true) same short)
          (subst (λ z. is_some_and (option_and_then (conclusion_at s z kinds.Select) (judged s z kinds.Select)) (is_worklet name) ≡ true) same chosen),
    )

    of_prim : (p : Primitive) → is_some_and (run_part s i) (λ x. not x.waiting && is_first p x.rest) ≡ true → IsOfRun (events.Prim i p)
    of_prim p may =
        let x = there_and (run_part s i) (λ (y : RunPart). not y.waiting && is_first p y.rest) may in
        let rest = prim_is p x.0.rest (and_right (not x.0.waiting) _ x.2) in
        (x.0, ap (run_part s) (sym same) ∙ x.1, subst (λ z. OfRest x.0.rest (events.Prim z p)) (sym same) rest)

  form : (e : Event) → IsUrgent s j e → IsOfCheck e ⊎ IsOfRun e
  unfolding allows
  form (events.Pass i k) u =
      let may = u.comes.allowed.0 in
      inl (of_pass i (some_same i j u.place) k (and_left _ _ may) (and_right (comes_next s i k) _ may))
  form (events.Except i k node n) u =
      let may = u.comes.allowed.0 in
      let three = and_left _ _ may in
      let two = and_left _ _ three in
      inl (of_except i (some_same i j u.place) k node n (and_left _ _ two) (and_right (begins_exlet k) _ two)
      (and_right (begins_exlet k && comes_next s i k) _ three) (and_right (begins_exlet k && comes_next s i k && concludes s i k node) _ may))
  form (events.Substitute i name) u =
      let may = u.comes.allowed.0 in
      let two = and_left _ _ may in
      inl (of_substitute i (some_same i j u.place) name (and_left _ _ two) (and_right (comes_next s i kinds.Select) _ two)
      (and_right (comes_next s i kinds.Select && nat_lt (length i) depth_end) _ may))
  form (events.Prim i p) u = inr (of_prim i (some_same i j u.place) p u.comes.allowed.0)
  form e u = nowhere u.place

  -- ---- there is one

  one_of_checks : (e f : Event) → IsOfCheck e → IsOfCheck f → e ≡ f
  one_of_checks e f x y =
      let first = and_left (is_first_due (due_at s j) x.0) _ x.1 in
      let other = and_left (is_first_due (due_at s j) y.0) _ y.1 in
      let same : x.0 ≡ y.0 = kind_is (due_at s j) x.0 first ∙ sym (kind_is (due_at s j) y.0 other) in
      x.2 ∙ ap of_kind same ∙ sym y.2

  of_one_rest : (ps : List Primitive) (e f : Event) → OfRest ps e → OfRest ps f → e ≡ f
  of_one_rest [] e f x y = absurd x
  of_one_rest (p ∷ ps) e f x y = x ∙ sym y

  one_of_runs : (e f : Event) → IsOfRun e → IsOfRun f → e ≡ f
  one_of_runs e f x y =
      let same : y.0 ≡ x.0 = some_same y.0 x.0 (sym y.1 ∙ x.1) in
      of_one_rest x.0.rest e f x.2 (subst (λ (z : RunPart). OfRest z.rest f) same y.2)

  module _ (reader : Reader) (well : IsWell reader s) where
    -- a run is judged by nothing
    never_both : {A : Type 0} (e f : Event) → IsOfCheck e → IsOfRun f → A
    never_both e f x y =
        let due = first_is_due (due_at s j) x.0 (and_left (is_first_due (due_at s j) x.0) _ x.1) in
        let deep = well.parents.run_depth j y.0 y.1 in
        elim (or_cases (is_case s j) (is_item s j) (well.marks.due j x.0 due)) [
          | inl case ↦ let one = eqb-true (length j) 1 (and_left (is_case_ident j) _ case) in absurd (omega (arith, deep, one))
          | inr item ↦ never (sym (well.parents.not_both j item) ∙ ap is_some y.1)
        ]

    pub one_comes : (e f : Event) → IsUrgent s j e → IsUrgent s j f → e ≡ f
    one_comes e f x y = by (form e x) (form f y)
      where
        by : IsOfCheck e ⊎ IsOfRun e → IsOfCheck f ⊎ IsOfRun f → e ≡ f
        by (inl a) (inl b) = one_of_checks e f a b
        by (inl a) (inr b) = never_both e f a b
        by (inr a) (inl b) = never_both f e b a
        by (inr a) (inr b) = one_of_runs e f a b
