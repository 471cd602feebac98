-- What the tree concludes by which a case or an item is judged, in a state that is well.
use Rattle.std.specs.Prelude.{◌≡◌, ◌≤◌, ℕ, ◌-◌, ◌&&◌, Bool, true, false, not, List, [], length, Some, nat_lt, option_and_then, option_map, slice_get, unwrap_or, refl, if◌then◌else◌}
use Rattle.std.specs.List.{All}
use Rattle.std.proofs.Common.{sym, ◌∙◌, ap, subst, arith}
use Rattle.std.proofs.lemmas.Bool.{and_parts}
use Rattle.std.proofs.lemmas.List.Elements.{All-get_or}
use Rattle.std.proofs.lemmas.Option.{get_or_from_slice_get, slice_get_within}
use Rattle.yw_state.proofs.RuleNumbers.{rule_concluded}
use Rattle.yw_state.proofs.Tests.{by_option, map_some, never, nowhere, then_some}
use Rattle.yw_state.proofs.TreePlaces.{one_place}
use Rattle.yw_state.specs.Identity.{Ident, is_case_ident}
use Rattle.yw_state.specs.Judged.{Question, case_place, conclusion_at, is_select, item_values, judged, place_key, question, rules_at, task_place}
use Rattle.yw_state.specs.Map.{get}
use Rattle.yw_state.specs.NewRule.{may_conclude, most_rules}
use Rattle.yw_state.specs.RuleTree.{TreeRule, concluded}
use Rattle.yw_state.specs.State.{ItemAt, NetPart, State, item_at, net_part}
use Rattle.yw_state.specs.Texts.{Reader}
use Rattle.yw_state.specs.Well.{IsWell, RulesFit}
use Rattle.yw_state.specs.declared.tree.Conclusion.{Conclusion}
use Rattle.yw_state.specs.declared.tree.Conclusion.TheVariants.{Exlet, Worklet}
use Rattle.yw_state.specs.declared.tree.TreeKind.{TreeKind}
use Rattle.yw_state.specs.declared.tree.TreeKind.TheVariants.{Select}
use Rattle.yw_state.specs.declared.tree.TreePlace.{TreePlace}

module _ (reader : Reader) (s : State) (well : IsWell reader s) where
  -- ---- the place of the tree

  -- the rules that are asked stand at a place of this kind
  abbrev StandAt : TreeKind → Question → Type 0
  StandAt kind q = (p : TreePlace) × (p.kind ≡ kind) × (q.rules ≡ rules_at s p)

  asked_at : (j : Ident) (kind : TreeKind) (q : Question) → question s j kind ≡ Some q → StandAt kind q
  asked_at j kind q is = by (is_case_ident j) is
    where
      by : (b : Bool) → (if b then option_map (λ (n : NetPart). record { rules = rules_at s (case_place n.spec kind); row = n.vals }) (net_part s j)
          else option_map (λ (x : ItemAt). record { rules = rules_at s (task_place x.of_task kind); row = item_values x }) (item_at s j)) ≡ Some q → StandAt kind q
      by true e = let (n, at, made) = map_some _ (net_part s j) q e in (case_place n.spec kind, refl, sym (ap (λ (u : Question). u.rules) made))
      by false e = let (x, at, made) = map_some _ (item_at s j) q e in (task_place x.of_task kind, refl, sym (ap (λ (u : Question). u.rules) made))

  -- where one of them is there, all are fit
  fit_at : (p : TreePlace) (k : ℕ) (r : TreeRule) → slice_get (rules_at s p) k ≡ Some r → RulesFit reader s (place_key p) (rules_at s p)
  fit_at p k r here =
      by_option (get s.rules (place_key p))
      (λ none. nowhere (sym (ap (λ o. slice_get (unwrap_or o []) k) none) ∙ here))
      (λ rs some. subst (λ o. RulesFit reader s (place_key p) (unwrap_or o [])) (sym some) (well.content.rules (place_key p) rs some))

  -- ---- the rule that is concluded

  -- It is one of those at a place of this kind.
  record IsConcluded (j : Ident) (kind : TreeKind) (node : ℕ) : Type 0 where
    asked : Question
    asks : question s j kind ≡ Some asked
    place : TreePlace
    of_kind : place.kind ≡ kind
    rules : asked.rules ≡ rules_at s place
    rule : TreeRule
    is : slice_get (rules_at s place) (node - 1) ≡ Some rule

  concluded_by : (j : Ident) (kind : TreeKind) (node : ℕ) → judged s j kind ≡ Some node → IsConcluded j kind node
  concluded_by j kind node e =
      let (q, asks, concludes) = then_some (λ (u : Question). concluded u.rules u.row) (question s j kind) node e in
      let (r, here) = rule_concluded q.rules q.row node concludes in
      let (p, of_kind, rules) = asked_at j kind q asks in
      record { asked = q; asks = asks; place = p; of_kind = of_kind; rules = rules; rule = r; is = ap (λ rs. slice_get rs (node - 1)) (sym rules) ∙ here }

  module _ (j : Ident) (kind : TreeKind) (node : ℕ) (e : judged s j kind ≡ Some node) where
    pub node_fits : node ≤ most_rules
    node_fits =
        let c = concluded_by j kind node e in
        let fit = fit_at c.place (node - 1) c.rule c.is in
        let most = fit.most in
        let within = slice_get_within (rules_at s c.place) (node - 1) c.rule c.is in
        omega (arith, most, within)

    -- it may stand in the tree
    may_stand : let c = concluded_by j kind node e in may_conclude s c.place c.rule.conclusion ≡ true
    may_stand =
        let c = concluded_by j kind node e in
        let rs = rules_at s c.place in
        let fit = fit_at c.place (node - 1) c.rule c.is in
        let at_place = subst (λ q. All (λ (x : TreeRule). may_conclude s q x.conclusion ≡ true) rs) (one_place fit.place c.place fit.here) fit.conclude in
        subst (λ (x : TreeRule). may_conclude s c.place x.conclusion ≡ true) (get_or_from_slice_get rs (node - 1) c.rule c.rule c.is)
        (All-get_or (λ (x : TreeRule). may_conclude s c.place x.conclusion ≡ true) rs (node - 1) c.rule (slice_get_within rs (node - 1) c.rule c.is) at_place)

    a_worklet : (p : TreePlace) (c : Conclusion) → p.kind ≡ Select → may_conclude s p c ≡ true → (name : List ℕ) × (c ≡ Worklet name)
    a_worklet p (Worklet name) is may = (name, refl)
    a_worklet p (Exlet ps) is may =
        let some = and_parts (not (is_select p.kind)) _ (and_parts (not (is_select p.kind) && nat_lt 0 (length ps)) _ (and_parts _ _ may).0).0 in
        never (sym (ap (λ k. not (is_select k)) is) ∙ some.0)

    -- a tree that chooses worklets concludes one
    pub worklet_chosen : kind ≡ Select → (name : List ℕ) × (conclusion_at s j kind node ≡ Some (Worklet name))
    worklet_chosen select =
        let c = concluded_by j kind node e in
        let (name, worklet) = a_worklet c.place c.rule.conclusion (c.of_kind ∙ select) may_stand in (
          name,
          ap (option_and_then (λ (u : Question). option_map (λ (x : TreeRule). x.conclusion) (slice_get u.rules (node - 1)))) c.asks
              ∙ ap (λ rs. option_map (λ (x : TreeRule). x.conclusion) (slice_get rs (node - 1))) c.rules
              ∙ ap (option_map (λ (x : TreeRule). x.conclusion)) c.is ∙ ap Some worklet,
        )
