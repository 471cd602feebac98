-- An urgent case isn't quiet: a check that is due passes or begins something, and a run that doesn't wait takes a primitive.
use Rattle.std.specs.Prelude.{◌≡◌, ◌≤◌, ◌⊎◌, ℕ, ◌+◌, ◌-◌, ◌==◌, ◌&&◌, ◌||◌, Bool, true, false, not, List, [], ◌∷◌, length, Some, is_none, nat_le, nat_lt, option_and_then, option_map, slice_get, unwrap_or, refl, if◌then◌else◌}
use Rattle.std.specs.List.{All}
use Rattle.std.proofs.Common.{sym, ◌∙◌, ap, subst, arith, inl, inr}
use Rattle.std.proofs.lemmas.Bool.{and_parts, and_from, eq-eqb, eqb-false, eqb-true, le-leb, leb-false, lt-ltb, not-true, or_cases, or_right, or_left}
use Rattle.std.proofs.lemmas.List.Elements.{All-get_or}
use Rattle.std.proofs.lemmas.Option.{get_or_from_slice_get, slice_get_within}
use Rattle.std.proofs.lemmas.Slice.Eq.{bytes_eq-Decides}
use Rattle.yw_base.specs.Identity.{number_end, case_number}
use Rattle.yw_state.proofs.Entries.{find-entry, passing}
use Rattle.yw_state.proofs.MapLemmas.{by_name}
use Rattle.yw_state.proofs.RuleNumbers.{rule_concluded}
use Rattle.yw_state.proofs.Tests.{by_option, by_test, map_some, never, nowhere, then_some, there_and}
use Rattle.yw_state.proofs.TreePlaces.{one_place}
use Rattle.yw_state.specs.Allowed.{allows, begins_exlet, cannot_begin, comes_next, depth_end, is_first, is_next, is_too_deep, is_worklet, none_is_left, same_primitive}
use Rattle.yw_state.specs.Identity.{Ident, is_case_ident}
use Rattle.yw_state.specs.Judged.{Question, case_place, conclusion_at, is_select, item_values, judged, place_key, question, rules_at, task_place}
use Rattle.yw_state.specs.Map.{entries, get}
use Rattle.yw_state.specs.NewRule.{may_conclude}
use Rattle.yw_state.specs.Options.{is_some_and}
use Rattle.yw_state.specs.RuleTree.{TreeRule, concluded}
use Rattle.yw_state.specs.State.{State, Site, NetPart, RunPart, due_at, item_at, net_part, no_checks, run_part}
use Rattle.yw_state.specs.Texts.{Reader}
use Rattle.yw_state.specs.Well.{IsWell, Stands}
use Rattle.yw_state.specs.Words.{any_due, busy, is_at_work, is_first_due, urgent}
use Rattle.yw_state.specs.declared.event.Event.TheVariants as events
use Rattle.yw_state.specs.declared.part.Checks.{Checks}
use Rattle.yw_state.specs.declared.tree.Conclusion.{Conclusion}
use Rattle.yw_state.specs.declared.tree.Conclusion.TheVariants.{Exlet, Worklet}
use Rattle.yw_state.specs.declared.tree.Primitive.{Primitive}
use Rattle.yw_state.specs.declared.tree.Primitive.TheVariants as primitives
use Rattle.yw_state.specs.declared.tree.TreeKind.{TreeKind}
use Rattle.yw_state.specs.declared.tree.TreeKind.TheVariants.{Pre, Post, Select}
use Rattle.yw_state.specs.declared.tree.TreePlace.{TreePlace}
use Rattle.yw_still.specs.Still.{SomethingComes, check_waits, run_is_at_work}

-- ---- which check comes next

-- it begins an exlet, or chooses a worklet
abbrev BeginsOrChooses : TreeKind → Type 0
BeginsOrChooses k = (begins_exlet k ≡ true) × (is_select k ≡ false) ⊎ (k ≡ Select)

first_check : (c : Checks) → any_due c ≡ true → (k : TreeKind) × (is_first_due c k ≡ true) × BeginsOrChooses k
first_check c any =
    by_test c.pre
    (λ pre. (Pre, pre, inl (refl, refl)))
    (λ none. by_test c.select
    (λ select. (Select, and_from _ _ select (ap not none), inr refl))
    (λ no_select. (Post, and_from _ _ (and_from _ _ (last none no_select) (ap not none)) (ap not no_select), inl (refl, refl))))
  where
    last : c.pre ≡ false → c.select ≡ false → c.post ≡ true
    last none no_select = ap (λ b. b || c.post) (sym (ap (λ b. b || c.select) none ∙ no_select)) ∙ any

primitive_itself : (p : Primitive) → same_primitive p p ≡ true
primitive_itself primitives.SuspendItem = refl
primitive_itself primitives.ContinueItem = refl
primitive_itself primitives.RestartItem = refl
primitive_itself primitives.CompleteItem = refl
primitive_itself primitives.RemoveItem = refl
primitive_itself primitives.SuspendCase = refl
primitive_itself primitives.ContinueCase = refl
primitive_itself primitives.RemoveCase = refl
primitive_itself (primitives.Compensate a) = (bytes_eq-Decides a a).1 refl
primitive_itself (primitives.Unknown a) = (bytes_eq-Decides a a).1 refl

pub number_left : (s : State) → s.next + 1 ≤ number_end → is_next s s.next ≡ true
number_left s left = and_from (s.next == s.next) _ (eq-eqb s.next s.next refl) (le-leb (s.next + 1) number_end left)

module _ (reader : Reader) (s : State) (well : IsWell reader s) where
  -- ---- what a tree that chooses worklets concludes

  rule_may : (p : TreePlace) (i : ℕ) (r : TreeRule) → slice_get (rules_at s p) i ≡ Some r → may_conclude s p r.conclusion ≡ true
  rule_may p i r here =
      by_option (get s.rules (place_key p))
      (λ none. nowhere (sym (ap (λ o. slice_get (unwrap_or o []) i) none) ∙ here))
      (λ rs some.
      let fit = well.content.rules (place_key p) rs some in
      let at_place = subst (λ q. All (λ (x : TreeRule). may_conclude s q x.conclusion ≡ true) rs) (one_place fit.place p fit.here) fit.conclude in
      let found : slice_get rs i ≡ Some r = sym (ap (λ o. slice_get (unwrap_or o []) i) some) ∙ here in
      subst (λ (x : TreeRule). may_conclude s p x.conclusion ≡ true) (get_or_from_slice_get rs i r r found)
      (All-get_or (λ (x : TreeRule). may_conclude s p x.conclusion ≡ true) rs i r (slice_get_within rs i r found) at_place))

  a_worklet : (p : TreePlace) (c : Conclusion) → p.kind ≡ Select → may_conclude s p c ≡ true → (name : List ℕ) × (c ≡ Worklet name)
  a_worklet p (Worklet name) is may = (name, refl)
  a_worklet p (Exlet ps) is may =
      let some = and_parts (not (is_select p.kind)) _ (and_parts (not (is_select p.kind) && nat_lt 0 (length ps)) _ (and_parts _ _ may).0).0 in
      never (sym (ap (λ k. not (is_select k)) is) ∙ some.0)

  -- the tree that is asked is one that chooses worklets
  abbrev AsksSelect : Question → Type 0
  AsksSelect q = (p : TreePlace) × (p.kind ≡ Select) × (q.rules ≡ rules_at s p)

  asks_select : (j : Ident) (q : Question) → question s j Select ≡ Some q → AsksSelect q
  asks_select j q is = by (is_case_ident j) is
    where
      by : (b : Bool) → (if b then option_map (λ (n : NetPart). record { rules = rules_at s (case_place n.spec Select); row = n.vals }) (net_part s j)
          else option_map (λ x. record { rules = rules_at s (task_place x.of_task Select); row = item_values x }) (item_at s j)) ≡ Some q → AsksSelect q
      by true is = let (n, at, made) = map_some _ (net_part s j) q is in (case_place n.spec Select, refl, sym (ap (λ (u : Question). u.rules) made))
      by false is = let (x, at, made) = map_some _ (item_at s j) q is in (task_place x.of_task Select, refl, sym (ap (λ (u : Question). u.rules) made))

  worklet_chosen : (j : Ident) (node : ℕ) → judged s j Select ≡ Some node → (name : List ℕ) × (conclusion_at s j Select node ≡ Some (Worklet name))
  worklet_chosen j node is =
      let (q, asked, concludes_it) = then_some (λ (u : Question). concluded u.rules u.row) (question s j Select) node is in
      let (r, at) = rule_concluded q.rules q.row node concludes_it in
      let (p, select, rules) = asks_select j q asked in
      let (name, worklet) = a_worklet p r.conclusion select (rule_may p (node - 1) r (ap (λ rs. slice_get rs (node - 1)) (sym rules) ∙ at)) in (
        name,
        ap (option_and_then (λ (u : Question). option_map (λ (x : TreeRule). x.conclusion) (slice_get u.rules (node - 1)))) asked
            ∙ ap (option_map (λ (x : TreeRule). x.conclusion)) at ∙ ap Some worklet,
      )

  module _ (j : Ident) where
    -- ---- a check that is due

    passes : (k : TreeKind) → comes_next s j k ≡ true → (is_none (judged s j k) || cannot_begin s j k) ≡ true → SomethingComes s (case_number j)
    unfolding allows
    passes k next may = (events.Pass j k, record { here = refl; automatic = refl; allowed = (and_from _ _ next may, tt) })

    begins_a_run : (k : TreeKind) → comes_next s j k ≡ true → begins_exlet k ≡ true → is_select k ≡ false → SomethingComes s (case_number j)
    unfolding allows
    begins_a_run k next begins other =
        by_option (judged s j k)
        (λ none. passes k next (or_left _ _ (ap (λ o. is_none o) none)))
        (λ node is. by_test (s.next == number_end)
        (λ spent. passes k next (or_right _ _ (ap (λ b. if b then is_too_deep j else none_is_left s) other ∙ spent)))
        (λ left.
        let concludes_it = ap (λ o. is_some_and o (λ m. m == node)) is ∙ eq-eqb node node refl in
        let drawn = number_left s (room well.numbers.most (eqb-false s.next number_end left)) in
        (events.Except j k node s.next, record { here = refl; automatic = refl; allowed = (and_from _ _ (and_from _ _ (and_from _ _ begins next) concludes_it) drawn, tt) })))
      where
        room : s.next ≤ number_end → ¬ (s.next ≡ number_end) → s.next + 1 ≤ number_end
        room most other = omega arith

    chooses_a_worklet : comes_next s j Select ≡ true → SomethingComes s (case_number j)
    unfolding allows
    chooses_a_worklet next =
        by_option (judged s j Select)
        (λ none. passes Select next (or_left _ _ (ap (λ o. is_none o) none)))
        (λ node is. by_test (nat_le depth_end (length j))
        (λ deep. passes Select next (or_right _ _ deep))
        (λ high.
        let (name, concludes_it) = worklet_chosen j node is in
        let chosen = ap (λ o. is_some_and (option_and_then (conclusion_at s j Select) o) (is_worklet name)) is ∙ ap (λ o. is_some_and o (is_worklet name)) concludes_it
        ∙ (bytes_eq-Decides name name).1 refl in
        (events.Substitute j name, record { here = refl; automatic = refl; allowed = (and_from _ _ (and_from _ _ next (lt-ltb (length j) depth_end (leb-false depth_end (length j) high))) chosen, tt) })))

    pub check_comes : check_waits s j ≡ true → SomethingComes s (case_number j)
    check_comes due =
        let parts = and_parts (any_due (due_at s j)) (not (busy s j)) due in
        let (k, first, kind) = first_check (due_at s j) parts.0 in
        by_kind k (and_from _ _ first parts.1) kind
      where
        by_kind : (k : TreeKind) → comes_next s j k ≡ true → BeginsOrChooses k → SomethingComes s (case_number j)
        by_kind k next (inl h) = begins_a_run k next h.0 h.1
        by_kind k next (inr h) = chooses_a_worklet (subst (λ m. comes_next s j m ≡ true) h next)

    -- ---- a run that doesn't wait

    pub primitive_comes : run_is_at_work s j ≡ true → SomethingComes s (case_number j)
    unfolding allows
    primitive_comes works =
        let (x, is, at_work) = there_and (run_part s j) (λ (y : RunPart). not y.waiting) works in
        let (p, first) = some_first x.rest (has_rest x.waiting (not-true _ at_work) (well.parents.run_works j x is)) in
        let may = ap (λ o. is_some_and o (λ (y : RunPart). not y.waiting && is_first p y.rest)) is ∙ and_from _ _ at_work first in
        (events.Prim j p, record { here = refl; automatic = refl; allowed = (may, tt) })
      where
        some_first : (ps : List Primitive) → nat_lt 0 (length ps) ≡ true → (p : Primitive) × (is_first p ps ≡ true)
        some_first [] some = never some
        some_first (p ∷ ps) some = (p, primitive_itself p)

        has_rest : {rest : Bool} (b : Bool) → b ≡ false → (b || rest) ≡ true → rest ≡ true
        has_rest true is e = never (sym is)
        has_rest false is e = e

  -- ---- an urgent case

  pub urgent_moves : (n : ℕ) → urgent s n ≡ true → SomethingComes s n
  urgent_moves n hurry =
      let (e, within, passes_it) = passing _ (entries s.sites) hurry in
      let stands : get s.sites e.0 ≡ Some e.1 = find-entry by_name (entries s.sites) e s.sites.sorted within in
      let parts = and_parts (case_number e.0 == n) _ passes_it in
      subst (SomethingComes s) (eqb-true (case_number e.0) n parts.0) (by_kind e.0 e.1 stands (or_cases _ _ parts.1))
    where
      by_kind : (j : Ident) (x : Site) → Stands s j x → ((any_due x.due && not (busy s j)) ≡ true) ⊎ (is_at_work x.run ≡ true) → SomethingComes s (case_number j)
      by_kind j x stands (inl due) = check_comes j (ap (λ o. any_due (unwrap_or (option_map (λ (y : Site). y.due) o) no_checks) && not (busy s j)) stands ∙ due)
      by_kind j x stands (inr run) = primitive_comes j (ap (λ o. is_at_work (option_and_then (λ (y : Site). y.run) o)) stands ∙ run)
