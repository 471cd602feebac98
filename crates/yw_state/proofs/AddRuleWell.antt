-- What is well stays well when a rule is attached to a tree.
use Rattle.std.specs.Prelude.{◌≡◌, ◌⊎◌, ℕ, ◌+◌, ◌&&◌, ◌==◌, Bool, true, false, cond, not, List, [], ◌∷◌, ◌++◌, length, Some, Ok, nat_lt, unwrap_or, refl, IsTrue, All}
use Rattle.std.specs.Ordering.{eq_by_cmp}
use Rattle.std.proofs.Common.{sym, ◌∙◌, ap, subst, inl, inr, arith, length-append}
use Rattle.std.proofs.lemmas.Bool.{and_from, and_parts, lt-ltb, ltb-true, not-true, not_from_false, or_from, or_parts}
use Rattle.std.proofs.lemmas.List.Elements.{All-nil, All-push}
use Rattle.yw_expr.specs.Tree.{Tree}
use Rattle.yw_spec.specs.declared.spec.Spec.{Spec}
use Rattle.yw_state.proofs.Alike.{KnowsMore, later, later_is_well, untouched}
use Rattle.yw_state.proofs.MapLemmas.{by_names, by_option, by_test, get-insert, insert_stands, some_same}
use Rattle.yw_state.proofs.TreePlaces.{one_place}
use Rattle.yw_state.specs.Allowed.{Allowed, allows, fits_tree}
use Rattle.std.specs.Bool.{beq}
use Rattle.yw_state.specs.Events.{after}
use Rattle.yw_state.specs.Judged.{is_tree_place, place_key, rules_at}
use Rattle.yw_state.specs.Map.{get, insert, lexical_each}
use Rattle.yw_state.specs.NewRule.{has_room, is_side, is_taken, may_conclude, most_rules, tree_scope}
use Rattle.yw_state.specs.Options.{is_some_and}
use Rattle.yw_state.specs.RuleTree.{TreeRule}
use Rattle.yw_state.specs.State.{State, spec_called}
use Rattle.yw_state.specs.Texts.{Reader, Said, Says, a_test}
use Rattle.yw_state.specs.Well.{IsWell, RulesFit, stand_free}
use Rattle.yw_state.specs.declared.event.Event.TheVariants as events
use Rattle.yw_state.specs.declared.tree.Conclusion.{Conclusion}
use Rattle.yw_state.specs.declared.tree.TreePlace.{TreePlace}

-- ---- one rule more

free_push : (before rs : List TreeRule) (r : TreeRule) (n : ℕ) → n ≡ length before + length rs → stand_free before rs ≡ true → is_side n r.at r.side ≡ true → is_taken before r.at r.side ≡ false → is_taken rs r.at r.side ≡ false → stand_free before (rs ++ r ∷ []) ≡ true
free_push before [] r n e free side before_free rest_free =
    and_from _ _ (and_from _ _ (subst (λ k. is_side k r.at r.side ≡ true) (omega arith) side) (not_from_false _ before_free)) refl
free_push before (x ∷ rs) r n e free side before_free rest_free =
    let parts = and_parts (is_side (length before) x.at x.side && not (is_taken before x.at x.side)) (stand_free (x ∷ before) rs) free in
    let taken = or_parts (x.at == r.at && beq x.side r.side) (is_taken rs r.at r.side) rest_free in
    and_from _ _ parts.0 (free_push (x ∷ before) rs r n (omega arith) parts.1 side (or_from _ _ taken.0 before_free) taken.1)

-- The rules of the tree at this place are as they should be.
record AreRight (reader : Reader) (s : State) (p : TreePlace) (spec : Spec) (rs : List TreeRule) : Type 0 where
  free : IsTrue (stand_free [] rs)
  conclude : All (λ (r : TreeRule). IsTrue (may_conclude s p r.conclusion)) rs
  spelt : All (λ (r : TreeRule). reader.condition r.when (tree_scope spec p) (Ok r.test)) rs

module _ (reader : Reader) (s : State) (p : TreePlace) (spec : Spec) (called : spec_called s p.spec ≡ Some spec) where
  right_at : (rs : List TreeRule) → RulesFit reader s (place_key p) rs → AreRight reader s p spec rs
  right_at rs fit =
      let here = one_place fit.place p fit.here in
      let is_spec = some_same fit.spec spec (sym fit.of_spec ∙ ap (λ (q : TreePlace). spec_called s q.spec) here ∙ called) in
      record {
        free = fit.free;
        conclude = subst (λ q. All (λ (r : TreeRule). IsTrue (may_conclude s q r.conclusion)) rs) here fit.conclude;
        spelt = subst (λ x. All (λ (r : TreeRule). reader.condition r.when (tree_scope x p) (Ok r.test)) rs) is_spec
            (subst (λ q. All (λ (r : TreeRule). reader.condition r.when (tree_scope fit.spec q) (Ok r.test)) rs) here fit.spelt);
      }

  are_right : IsWell reader s → AreRight reader s p spec (rules_at s p)
  are_right well =
      by_option (get s.rules (place_key p))
      (λ none. subst (λ o. AreRight reader s p spec (unwrap_or o [])) (sym none) (record { free = refl; conclude = All-nil _; spelt = All-nil _ }))
      (λ rs some. subst (λ o. AreRight reader s p spec (unwrap_or o [])) (sym some) (right_at rs (well.content.rules (place_key p) rs some)))

  module _ (r : TreeRule) where
    abbrev grown : List TreeRule
    grown = rules_at s p ++ r ∷ []

    abbrev t : State
    t = later s s.specs s.persons (insert s.rules (place_key p) grown) s.sites

    some_grown : (rs : List TreeRule) → nat_lt 0 (length (rs ++ r ∷ [])) ≡ true
    some_grown rs = lt-ltb 0 (length (rs ++ r ∷ [])) (omega (arith, length-append rs (r ∷ [])))

    knows : KnowsMore s t
    knows =
        record {
          specs = λ name l e. e;
          rules = λ q e.
              by_test (eq_by_cmp lexical_each (place_key q) (place_key p))
              (λ b. ap (λ o. nat_lt 0 (length (unwrap_or o []))) (get-insert by_names s.rules (place_key p) grown (place_key q) ∙ ap (λ c. cond c (Some grown) (get s.rules (place_key q))) b) ∙ some_grown (rules_at s p))
              (λ b. ap (λ o. nat_lt 0 (length (unwrap_or o []))) (get-insert by_names s.rules (place_key p) grown (place_key q) ∙ ap (λ c. cond c (Some grown) (get s.rules (place_key q))) b) ∙ e);
        }

    -- ---- the tree with one rule more

    module _ (fits : fits_tree s p r.at r.side spec ≡ true) (may : may_conclude s p r.conclusion ≡ true) (room : has_room s p ≡ true) (reads : reader.condition r.when (tree_scope spec p) (Ok r.test)) where
      grown_fits : AreRight reader s p spec (rules_at s p) → RulesFit reader t (place_key p) grown
      grown_fits right =
          let parts = and_parts (is_tree_place spec p && is_side (length (rules_at s p)) r.at r.side) (not (is_taken (rules_at s p) r.at r.side)) fits in
          let place = and_parts (is_tree_place spec p) (is_side (length (rules_at s p)) r.at r.side) parts.0 in
          record {
            place = p;
            spec = spec;
            here = refl;
            of_spec = called;
            is_place = place.0;
            some = omega (arith, length-append (rules_at s p) (r ∷ []));
            most = omega (arith, length-append (rules_at s p) (r ∷ []), ltb-true (length (rules_at s p)) most_rules room);
            free = free_push [] (rules_at s p) r (length (rules_at s p)) (omega arith) right.free place.1 refl (not-true _ parts.1);
            conclude = All-push (λ (x : TreeRule). IsTrue (may_conclude s p x.conclusion)) (rules_at s p) r right.conclude may;
            spelt = All-push (λ (x : TreeRule). reader.condition x.when (tree_scope spec p) (Ok x.test)) (rules_at s p) r right.spelt reads;
          }

      rules_right : AreRight reader s p spec (rules_at s p) → (key : List (List ℕ)) (rs : List TreeRule) → get (insert s.rules (place_key p) grown) key ≡ Some rs → (get s.rules key ≡ Some rs) ⊎ RulesFit reader t key rs
      rules_right right key rs e = old_or_new (insert_stands by_names s.rules (place_key p) grown key rs e)
        where
          old_or_new : (key ≡ place_key p) × (grown ≡ rs) ⊎ (get s.rules key ≡ Some rs) → (get s.rules key ≡ Some rs) ⊎ RulesFit reader t key rs
          old_or_new (inl here) = inr (subst (λ k. RulesFit reader t k rs) (sym here.0) (subst (RulesFit reader t (place_key p)) here.1 (grown_fits right)))
          old_or_new (inr there) = inl there

      grown_is_well : IsWell reader s → IsWell reader t
      grown_is_well well =
          let rules = insert s.rules (place_key p) grown in
          later_is_well s s.specs s.persons rules s.sites reader knows (untouched s s.specs s.persons rules s.sites well.marks)
          (record { spec_text = λ name l e. inl e; spec_name = λ name l e. inl e; person = λ name roles e. inl e; rules = rules_right (are_right well) }) well

attached_is_well : (reader : Reader) (s : State) (p : TreePlace) (at : ℕ) (side : Bool) (when : List ℕ) (conclusion : Conclusion) (number : ℕ) (test : Tree) (spec : Spec) → spec_called s p.spec ≡ Some spec → reader.condition when (tree_scope spec p) (Ok test) → IsWell reader s → Allowed s (events.AddRule p at side when conclusion number) (a_test test) → IsWell reader (after s (events.AddRule p at side when conclusion number) (a_test test))
unfolding allows after
attached_is_well reader s p at side when conclusion number test spec called reads well allowed =
    let fits = is_some_and (spec_called s p.spec) (fits_tree s p at side) in
    let numbered = and_parts (fits && may_conclude s p conclusion && has_room s p) (number == length (rules_at s p) + 1) allowed.0 in
    let room = and_parts (fits && may_conclude s p conclusion) (has_room s p) numbered.0 in
    let may = and_parts fits (may_conclude s p conclusion) room.0 in
    grown_is_well reader s p spec called (record { at = at; side = side; when = when; test = test; conclusion = conclusion })
    (ap (λ o. is_some_and o (fits_tree s p at side)) (sym called) ∙ may.0) may.1 room.1 reads well

pub add_rule_keeps_well : (reader : Reader) (s : State) (p : TreePlace) (at : ℕ) (side : Bool) (when : List ℕ) (conclusion : Conclusion) (number : ℕ) (said : Said) → IsWell reader s → Says reader s (events.AddRule p at side when conclusion number) said → Allowed s (events.AddRule p at side when conclusion number) said → IsWell reader (after s (events.AddRule p at side when conclusion number) said)
add_rule_keeps_well reader s p at side when conclusion number said well says =
    subst (λ x. Allowed s (events.AddRule p at side when conclusion number) x → IsWell reader (after s (events.AddRule p at side when conclusion number) x)) (sym says.4)
    (attached_is_well reader s p at side when conclusion number says.1 says.0 says.2 says.3 well)
