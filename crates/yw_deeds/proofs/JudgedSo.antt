-- What a tree that is handed over concludes is what the definitions conclude.
use Rattle.std.proofs.Common.{ap, arith, subst, sym, ◌∙◌}
use Rattle.std.proofs.lemmas.Bool.{eqb-false, eqb-true}
use Rattle.std.proofs.lemmas.Option.{get_or_from_slice_get, slice_get_within}
use Rattle.std.proofs.lemmas.Slice.Eq.{bytes_eq-Decides}
use Rattle.std.specs.Option.{option_map_or}
use Rattle.std.specs.Prelude.{All, Bool, List, None, Option, Some, [], false, if◌then◌else◌, length, map, option_and_then, option_map, refl, slice_get, suc, true, unwrap_or, zero, ℕ, ◌&&◌, ◌-◌, ◌<◌, ◌==◌, ◌∷◌, ◌≡◌, ◌≤◌}
use Rattle.std.proofs.lemmas.List.Elements.{All-get_or}
use Rattle.yw_base.specs.declared.value.Value.TheVariants as values
use Rattle.yw_base.specs.Identity.{case_number}
use Rattle.yw_deeds.specs.Judging.{IsTreeAt, conclusion_in, exlet_in, is_chosen, judged_by, over_case, over_item}
use Rattle.yw_expr.specs.Tree.{constant}
use Rattle.yw_trees.specs.Placed.{linked}
use Rattle.yw_rdr.proofs.Texts.{not_read}
use Rattle.yw_rdr.specs.Rules.{Kept, kept_of, rules_of}
use Rattle.yw_state.proofs.Alike.{case_asks, item_asks}
use Rattle.yw_state.proofs.RuleNumbers.{rule_concluded}
use Rattle.yw_state.proofs.Tests.{and_right, by_option, by_test, map_some, never, nowhere, some_same, then_some, there_and}
use Rattle.yw_state.proofs.TreePlaces.{one_place}
use Rattle.yw_state.specs.After.{primitives_of}
use Rattle.yw_state.specs.Allowed.{concludes, is_worklet}
use Rattle.yw_state.specs.Identity.{Ident, case_ident, is_case_ident}
use Rattle.yw_state.specs.Judged.{Question, case_place, conclusion_at, is_select, item_values, judged, place_key, question, rules_at, task_place}
use Rattle.yw_state.specs.Map.{get, has_key}
use Rattle.yw_state.specs.NewRule.{may_conclude}
use Rattle.yw_state.specs.Options.{is_some_and}
use Rattle.yw_state.specs.RuleTree.{TreeRule, concluded, holds, if_rule, last_met, tree_of}
use Rattle.yw_state.specs.State.{ItemAt, NetPart, State, item_at, net_part}
use Rattle.yw_state.specs.Texts.{Reader}
use Rattle.yw_state.specs.Values.{Row}
use Rattle.yw_state.specs.Well.{IsWell}
use Rattle.yw_state.specs.declared.tree.Conclusion.{Conclusion}
use Rattle.yw_state.specs.declared.tree.Conclusion.TheVariants.{Exlet, Worklet}
use Rattle.yw_state.specs.declared.tree.TreeKind.{TreeKind}
use Rattle.yw_state.specs.declared.tree.TreeKind.TheVariants.{Select}
use Rattle.yw_state.specs.declared.tree.TreePlace.{TreePlace}
use Rattle.yw_tree.proofs.NetAt.{case_ident_is}

-- ---- links

kept_so : (rs : List TreeRule) (ks : List Kept) → Some ks ≡ linked rs → ks ≡ map kept_of rs
kept_so [] ks e = nowhere (sym e)
kept_so (r ∷ rs) ks e = some_same ks (map kept_of (r ∷ rs)) e

none_so : (rs : List TreeRule) → None ≡ linked rs → rs ≡ []
none_so [] e = refl
none_so (r ∷ rs) e = nowhere e

kept_at : (rs : List TreeRule) (i : ℕ) → slice_get (map kept_of rs) i ≡ option_map kept_of (slice_get rs i)
kept_at [] i = refl
kept_at (r ∷ rs) zero = refl
kept_at (r ∷ rs) (suc i) = kept_at rs i

-- its conclusion is kept
concluding : (o : Option TreeRule) → option_map (λ (x : Kept). x.conclusion) (option_map kept_of o) ≡ option_map (λ (r : TreeRule). r.conclusion) o
concluding None = refl
concluding (Some r) = refl

-- ---- numbers of rules

-- where no rule is, none is concluded
either : (b : Bool) (k : ℕ) → (if b then k else k) ≡ k
either true k = refl
either false k = refl

nothing_concluded : (row : Row) → concluded [] row ≡ None
nothing_concluded row = ap if_rule (either (holds (constant (values.Bool true)) row) 0)

from_one : (n k : ℕ) → if_rule n ≡ Some k → 1 ≤ k
from_one n k e =
    by_test (n == 0)
    (λ b. nowhere (sym (ap (λ c. if c then None else Some n) b) ∙ e))
    (λ b. above n (eqb-false n 0 b) (some_same n k (sym (ap (λ c. if c then None else Some n) b) ∙ e)))
  where
    above : (a : ℕ) → (a ≡ 0 → ⊥) → a ≡ k → 1 ≤ k
    above zero other same = absurd (other refl)
    above (suc a) other same = omega (arith, same)

-- ---- over the row of a case or an item

module _ (s : State) (kind : TreeKind) (ks : List Kept) where
  abbrev by_links : Question → Option ℕ
  by_links q = concluded (rules_of ks) q.row

  abbrev by_rules : Question → Option ℕ
  by_rules q = concluded q.rules q.row

  case_row : (o : Option NetPart) → option_and_then (over_case ks) o ≡ option_and_then by_links (case_asks s kind o)
  case_row None = refl
  case_row (Some n) = refl

  item_row : (o : Option ItemAt) → option_and_then (over_item ks) o ≡ option_and_then by_links (item_asks s kind o)
  item_row None = refl
  item_row (Some x) = refl

  same_rules : (rs : List TreeRule) (row : Row) → Some ks ≡ linked rs → concluded (rules_of ks) row ≡ concluded rs row
  same_rules rs row links = ap (λ z. concluded (rules_of z) row) (kept_so rs ks links) ∙ not_read rs row

  module _ (j : Ident) where
    abbrev rows_for : Bool → Type 0
    rows_for top =
        (if top then option_and_then (over_case ks) (net_part s j) else option_and_then (over_item ks) (item_at s j))
        ≡ option_and_then by_links (if top then case_asks s kind (net_part s j) else item_asks s kind (item_at s j))

    by_row : judged_by s j ks ≡ option_and_then by_links (question s j kind)
    by_row =
        by_test (is_case_ident j)
        (λ case. subst rows_for (sym case) (case_row (net_part s j)))
        (λ other. subst rows_for (sym other) (item_row (item_at s j)))

    pub linked_judges : IsTreeAt s j kind (Some ks) → judged_by s j ks ≡ judged s j kind
    linked_judges tree =
        by_row
        ∙ by_option (question s j kind)
        (λ none. ap (option_and_then by_links) none ∙ sym (ap (option_and_then by_rules) none))
        (λ q some. ap (option_and_then by_links) some ∙ same_rules q.rules q.row (tree q some) ∙ sym (ap (option_and_then by_rules) some))

    -- ---- the rule that is concluded

    module _ (tree : IsTreeAt s j kind (Some ks)) (node : ℕ) (is : judged s j kind ≡ Some node) where
      asked : (q : Question) × (question s j kind ≡ Some q) × (concluded q.rules q.row ≡ Some node)
      asked = then_some by_rules (question s j kind) node is

      kept : ks ≡ map kept_of asked.0.rules
      kept = kept_so asked.0.rules ks (tree asked.0 asked.1)

      rule : (r : TreeRule) × (slice_get asked.0.rules (node - 1) ≡ Some r)
      rule = rule_concluded asked.0.rules asked.0.row node asked.2

      found : slice_get ks (node - 1) ≡ Some (kept_of rule.0)
      found = ap (λ z. slice_get z (node - 1)) kept ∙ kept_at asked.0.rules (node - 1) ∙ ap (option_map kept_of) rule.1

      pub some_node : 1 ≤ node
      some_node = from_one (last_met (tree_of asked.0.rules) asked.0.row 0) node asked.2

      pub most_node : node ≤ length ks
      most_node = let within = slice_get_within ks (node - 1) (kept_of rule.0) found in omega (arith, within)

      pub conclusion_is : conclusion_at s j kind node ≡ conclusion_in ks node
      conclusion_is =
          ap (option_and_then (λ (q : Question). option_map (λ (r : TreeRule). r.conclusion) (slice_get q.rules (node - 1)))) asked.1
          ∙ sym (ap (λ z. option_map (λ (x : Kept). x.conclusion) (slice_get z (node - 1))) kept
          ∙ ap (option_map (λ (x : Kept). x.conclusion)) (kept_at asked.0.rules (node - 1))
          ∙ concluding (slice_get asked.0.rules (node - 1)))

      pub exlet_is : exlet_in ks node ≡ option_map_or primitives_of (conclusion_at s j kind node) []
      exlet_is = ap (λ o. option_map_or primitives_of o []) (sym conclusion_is)

-- by what stands at a case's identity, and at any other
module _ (s : State) (j : Ident) (ks : List Kept) where
  abbrev judged_for : Bool → Option ℕ
  judged_for top = if top then option_and_then (over_case ks) (net_part s j) else option_and_then (over_item ks) (item_at s j)

  pub case_judged : is_case_ident j ≡ true → (n : ℕ) → n ≡ case_number j → option_and_then (over_case ks) (net_part s (case_ident n)) ≡ judged_by s j ks
  case_judged case n same =
      ap (λ k. option_and_then (over_case ks) (net_part s (case_ident k))) same
      ∙ ap (λ z. option_and_then (over_case ks) (net_part s z)) (case_ident_is j case)
      ∙ sym (ap judged_for case)

  pub item_judged : is_case_ident j ≡ false → option_and_then (over_item ks) (item_at s j) ≡ judged_by s j ks
  item_judged other = sym (ap judged_for other)

module _ (s : State) (j : Ident) (name : List ℕ) where
  pub none_chosen : judged s j Select ≡ None → is_chosen s j name ≡ false
  none_chosen none = ap (λ o. is_some_and (option_and_then (conclusion_at s j Select) o) (is_worklet name)) none

  pub chosen_as : (ks : List Kept) (node : ℕ) → IsTreeAt s j Select (Some ks) → judged s j Select ≡ Some node → (c : Conclusion) → conclusion_in ks node ≡ Some c
      → is_chosen s j name ≡ is_worklet name c
  chosen_as ks node tree is c here =
      ap (λ o. is_some_and o (is_worklet name))
      (ap (option_and_then (conclusion_at s j Select)) is ∙ conclusion_is s Select ks j tree node is ∙ here)

module _ (s : State) (j : Ident) (kind : TreeKind) where
  abbrev concluded_of : Question → Option ℕ
  concluded_of q = concluded q.rules q.row

  -- where there is no tree
  pub none_judges : IsTreeAt s j kind None → judged s j kind ≡ None
  none_judges tree =
      by_option (question s j kind)
      (λ none. ap (option_and_then concluded_of) none)
      (λ q some. ap (option_and_then concluded_of) some ∙ ap (λ z. concluded z q.row) (none_so q.rules (tree q some)) ∙ nothing_concluded q.row)

  -- what concludes a node is a tree
  pub judged_node : (node : ℕ) → concludes s j kind node ≡ true → judged s j kind ≡ Some node
  judged_node node e = let k = there_and (judged s j kind) _ e in k.1 ∙ ap Some (eqb-true k.0 node k.2)

-- ---- a worklet that is chosen is loaded

module _ (reader : Reader) (s : State) (well : IsWell reader s) where
  rule_may : (p : TreePlace) (i : ℕ) (r : TreeRule) → slice_get (rules_at s p) i ≡ Some r → may_conclude s p r.conclusion ≡ true
  rule_may p i r e =
      by_option (get s.rules (place_key p))
      (λ none. nowhere (ap (λ o. slice_get (unwrap_or o []) i) (sym none) ∙ e))
      (λ rs some.
      let fit = well.content.rules (place_key p) rs some in
      let here : slice_get rs i ≡ Some r = ap (λ o. slice_get (unwrap_or o []) i) (sym some) ∙ e in
      let at_place = subst (λ q. All (λ (x : TreeRule). may_conclude s q x.conclusion ≡ true) rs) (one_place fit.place p fit.here) fit.conclude in
      subst (λ (x : TreeRule). may_conclude s p x.conclusion ≡ true) (get_or_from_slice_get rs i r r here)
      (All-get_or (λ (x : TreeRule). may_conclude s p x.conclusion ≡ true) rs i r (slice_get_within rs i r here) at_place))

  module _ (j : Ident) (kind : TreeKind) where
    abbrev of_case : NetPart → Question
    of_case n = record { rules = rules_at s (case_place n.spec kind); row = n.vals }

    abbrev of_item : ItemAt → Question
    of_item x = record { rules = rules_at s (task_place x.of_task kind); row = item_values x }

    abbrev asks_for : Bool → Option Question
    asks_for top = if top then case_asks s kind (net_part s j) else item_asks s kind (item_at s j)

    -- the place of the tree by which it is judged
    place_of : (q : Question) → question s j kind ≡ Some q → (p : TreePlace) × (q.rules ≡ rules_at s p)
    place_of q e =
        by_test (is_case_ident j)
        (λ case.
        let n = map_some of_case (net_part s j) q (sym (ap asks_for case) ∙ e) in
        (case_place n.0.spec kind, sym (ap (λ (u : Question). u.rules) n.2)))
        (λ other.
        let x = map_some of_item (item_at s j) q (sym (ap asks_for other) ∙ e) in
        (task_place x.0.of_task kind, sym (ap (λ (u : Question). u.rules) x.2)))

  worklet_known : (p : TreePlace) (c : Conclusion) (name : List ℕ) → may_conclude s p c ≡ true → is_worklet name c ≡ true → has_key s.specs name ≡ true
  worklet_known p (Worklet other) name may is = ap (has_key s.specs) (sym ((bytes_eq-Decides other name).0 is)) ∙ and_right (is_select p.kind) _ may
  worklet_known p (Exlet ps) name may is = never is

  pub chosen_known : (j : Ident) (name : List ℕ) → is_some_and (option_and_then (conclusion_at s j Select) (judged s j Select)) (is_worklet name) ≡ true
      → has_key s.specs name ≡ true
  chosen_known j name e =
      let c = there_and (option_and_then (conclusion_at s j Select) (judged s j Select)) (is_worklet name) e in
      let k = then_some (conclusion_at s j Select) (judged s j Select) c.0 c.1 in
      let q = then_some _ (question s j Select) c.0 k.2 in
      let r = map_some (λ (x : TreeRule). x.conclusion) (slice_get q.0.rules (k.0 - 1)) c.0 q.2 in
      let p = place_of j Select q.0 q.1 in
      let may = rule_may p.0 (k.0 - 1) r.0 (ap (λ z. slice_get z (k.0 - 1)) (sym p.1) ∙ r.1) in
      worklet_known p.0 r.0.conclusion name may (ap (is_worklet name) r.2 ∙ c.2)
