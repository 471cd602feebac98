-- To raise what happened outside, and to add a rule to a tree.
use Rattle.std.specs.Prelude.{◌≡◌, ℕ, ◌+◌, ◌==◌, Bool, true, not, List, Some, Ok, length, option_map, refl}
use Rattle.std.proofs.Common.{sym, ◌∙◌, ap}
use Rattle.std.proofs.lemmas.Bool.{and_from, and_parts, eq-eqb, not-false}
use Rattle.yw_expr.specs.Tree.{Tree}
use Rattle.yw_spec.specs.declared.spec.Spec.{Spec}
use Rattle.yw_state.specs.Allowed.{allows, fits_tree, is_raised}
use Rattle.yw_state.specs.Broken.{checks}
use Rattle.yw_state.specs.Events.{after}
use Rattle.yw_state.specs.Identity.{Ident}
use Rattle.yw_state.specs.Judged.{is_tree_place, judged, rules_at}
use Rattle.yw_state.specs.Legal.{IsAsked}
use Rattle.yw_state.specs.NewRule.{is_side, tree_scope}
use Rattle.yw_state.specs.Options.{is_some_and}
use Rattle.yw_state.specs.State.{State, spec_called}
use Rattle.yw_state.specs.Texts.{Reader, a_test}
use Rattle.yw_state.specs.declared.command.Command.TheVariants as commands
use Rattle.yw_state.specs.declared.event.Event.TheVariants as events
use Rattle.yw_state.specs.declared.tree.Conclusion.{Conclusion}
use Rattle.yw_state.specs.declared.tree.TreeKind.{TreeKind}
use Rattle.yw_state.specs.declared.tree.TreePlace.{TreePlace}
use Rattle.yw_asked.proofs.CasesAsked.{is_a_target}
use Rattle.yw_asked.proofs.Unbroken.{event_without_text, none_broken, one_left, passes, some_of}
use Rattle.yw_asked.specs.Asked.{HasEventUnbroken}

module _ (reader : Reader) (s : State) where
  pub raise_has_event : (j : Ident) (kind : TreeKind) → is_raised kind ≡ true → HasEventUnbroken reader s (commands.Raise j kind)
  unfolding checks IsAsked allows
  raise_has_event j kind raised unbroken =
      let (no_case, f) = none_broken (checks reader s (commands.Raise j kind)) unbroken in
      let (no_item, f) = f in
      let (still, f) = f in
      let (idle, f) = f in
      let (trigger, f) = f in
      let (exlet, f) = f in
      let (numbers, f) = f in
      let (node, is) = some_of (judged s j kind) exlet in
      event_without_text reader s (commands.Raise j kind) (events.Raise j kind node s.next) refl (sym (ap (option_map (λ k. events.Raise j kind k s.next)) is))
      (and_from _ _ (and_from _ _ (and_from _ _ (and_from _ _ (is_a_target reader s j no_case no_item) raised) (ap not idle)) (passes is (λ k. k == node) (eq-eqb node node refl))) (one_left s numbers), tt)

  -- its condition spells an expression that is true or false
  module _ (p : TreePlace) (at : ℕ) (side : Bool) (when : List ℕ) (conclusion : Conclusion) (spec : Spec) (test : Tree)
      (called : spec_called s p.spec ≡ Some spec) (spells : reader.condition when (tree_scope spec p) (Ok test)) where
    pub rule_has_event : HasEventUnbroken reader s (commands.Rule p.spec p.net p.task p.kind at side when conclusion)
    unfolding checks IsAsked allows
    rule_has_event unbroken =
        let (loaded, f) = none_broken (checks reader s (commands.Rule p.spec p.net p.task p.kind at side when conclusion)) unbroken in
        let (place, f) = f in
        let (free, f) = f in
        let (misspelt, f) = f in
        let (may, f) = f in
        let (room, f) = f in
        let there = and_parts (is_some_and (spec_called s p.spec) (λ u. is_tree_place u p)) (is_side (length (rules_at s p)) at side) (not-false _ place) in
        let here : is_tree_place spec p ≡ true = ap (λ o. is_some_and o (λ u. is_tree_place u p)) (sym called) ∙ there.0 in
        let fits = passes called (fits_tree s p at side) (and_from _ _ (and_from _ _ here there.1) (ap not free)) in
        let e = events.AddRule p at side when conclusion (length (rules_at s p) + 1) in (
          e,
          after s e (a_test test),
          (p, refl, refl),
          record {
            said = a_test test;
            says = (spec, test, called, spells, refl);
            allowed = (and_from _ _ (and_from _ _ (and_from _ _ fits (not-false _ may)) (not-false _ room)) (eq-eqb (length (rules_at s p) + 1) _ refl), tt);
            then = refl;
          },
        )
