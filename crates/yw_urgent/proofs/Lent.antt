-- What comes of itself on all that is kept, by the tree that is lent.
use Rattle.std.specs.Prelude.{◌≡◌, ◌≤◌, ℕ, Bool, true, false, List, Option, Some, None, IfSome, length, option_and_then, refl, if◌then◌else◌}
use Rattle.std.proofs.Common.{sym, ◌∙◌, ap, subst}
use Rattle.yw_deeds.proofs.JudgedSo.{conclusion_is, most_node, none_judges, some_node}
use Rattle.yw_deeds.specs.Judging.{IsTreeAt}
use Rattle.yw_rdr.specs.Rules.{Kept}
use Rattle.yw_standing.proofs.Trying.{leads_plainly, next_is}
use Rattle.yw_standing.specs.Held.{StandsHeld}
use Rattle.yw_standing.specs.State.{state_of}
use Rattle.yw_standing.specs.Tried.{LeadsNowhere, LeadsOn}
use Rattle.yw_standing.specs.declared.standing.Standing.{Standing}
use Rattle.yw_state.proofs.Tests.{by_test}
use Rattle.yw_state.specs.Allowed.{allows, comes_next, is_too_deep}
use Rattle.yw_state.specs.Identity.{Ident}
use Rattle.yw_state.specs.Judged.{conclusion_at, is_select, judged}
use Rattle.yw_state.specs.NewRule.{most_rules}
use Rattle.yw_state.specs.State.{State}
use Rattle.yw_state.specs.declared.event.Event.{Event}
use Rattle.yw_state.specs.declared.event.Event.TheVariants as events
use Rattle.yw_state.specs.declared.tree.TreeKind.{TreeKind}
use Rattle.yw_state.specs.declared.tree.TreeKind.TheVariants.{Select}
use Rattle.yw_still.specs.Still.{compensation_ends}
use Rattle.yw_texts.specs.Texts.{reader}
use Rattle.yw_urgent.proofs.Coming.{compensation_comes, exlet_comes, left_node, shallow_node}
use Rattle.yw_urgent.proofs.Concluded.{node_fits}
use Rattle.yw_urgent.specs.Events.{exlet_event, worklet_in}
use Rattle.yw_urgent.specs.Here.{IsHere}
use Rattle.yw_urgent.specs.Trees.{IsTreeNext, IsTreeOf}
use Rattle.yw_urgent.specs.Urgent.{EndsCompensation, IsUrgent, chosen_worklet, where_left, worklet_named}
use Rattle.yw_urgent.specs.declared.here.Urgent.{Urgent}
use Rattle.yw_urgent.specs.declared.here.Urgent.TheVariants as urgents
use Rattle.yw_worklet.specs.Chosen.{where_shallow}

-- ---- the choice of a worklet

module _ (s : State) (j : Ident) where
  abbrev worklet_at : ℕ → Option (List ℕ)
  worklet_at node = option_and_then worklet_named (conclusion_at s j Select node)

  none_either : (b : Bool) → option_and_then worklet_at (if b then None else None) ≡ None
  none_either true = refl
  none_either false = refl

  pub no_tree : IsTreeAt s j Select None → chosen_worklet s j ≡ None
  no_tree tree = ap (λ o. option_and_then worklet_at (where_shallow j o)) (none_judges s j Select tree) ∙ none_either (is_too_deep j)

  pub none_begins : where_shallow j (judged s j Select) ≡ None → chosen_worklet s j ≡ None
  none_begins none = ap (option_and_then worklet_at) none

  module _ (ks : List Kept) (tree : IsTreeAt s j Select (Some ks)) (node : ℕ) (is : where_shallow j (judged s j Select) ≡ Some node) where
    concluded_node : judged s j Select ≡ Some node
    concluded_node = shallow_node j (judged s j Select) node is

    pub least_node : 1 ≤ node
    least_node = some_node s Select ks j tree node concluded_node

    pub greatest_node : node ≤ length ks
    greatest_node = most_node s Select ks j tree node concluded_node

    pub worklet_is : worklet_in ks node ≡ chosen_worklet s j
    worklet_is = sym (ap (option_and_then worklet_at) is ∙ ap (option_and_then worklet_named) (conclusion_is s Select ks j tree node concluded_node))

  -- an event with copies of what it names
  pub substituted : (name n : List ℕ) (i : Ident) → i ≡ j → n ≡ name → IsUrgent s j (events.Substitute j name) → IsUrgent s j (events.Substitute i n)
  substituted name n i same is = subst (IsUrgent s j) (sym (ap (λ z. events.Substitute z n) same ∙ ap (events.Substitute j) is))

  pub passed : (check : TreeKind) (i : Ident) → i ≡ j → IsUrgent s j (events.Pass j check) → IsUrgent s j (events.Pass i check)
  passed check i same = subst (IsUrgent s j) (sym (ap (λ z. events.Pass z check) same))

  -- what is found is judged by the tree that is lent
  pub tree_of : (tree : Option (List Kept)) (u : Urgent) → IsTreeNext s j tree → IsHere s j u → IsTreeOf s j u tree
  tree_of tree (urgents.Check check) lent next = lent check next
  tree_of tree (urgents.Run run) lent here = tt

-- ---- a check before or after

module _ (h : Standing) (held : StandsHeld h) (j : Ident) (check : TreeKind) where
  pub left_fits : (o : Option ℕ) → o ≡ where_left h.next (judged (state_of h) j check) → IfSome o (λ k. k ≤ most_rules)
  left_fits None is = tt
  left_fits (Some node) is = node_fits reader (state_of h) held.well j check node (left_node h.next (judged (state_of h) j check) node (sym is)).0

  pub exlet_there : comes_next (state_of h) j check ≡ true → is_select check ≡ false → (node : Option ℕ) → node ≡ where_left h.next (judged (state_of h) j check)
      → (i : Ident) → i ≡ j → (e : Event) → e ≡ exlet_event i check node h.next → IsUrgent (state_of h) j e
  exlet_there next other node node_is i same e is =
      subst (IsUrgent (state_of h) j)
      (sym (is ∙ ap (λ z. exlet_event z check node h.next) same ∙ ap (λ o. exlet_event j check o h.next) node_is
      ∙ ap (λ n. exlet_event j check (where_left n (judged (state_of h) j check)) n) (sym (next_is h))))
      (exlet_comes (state_of h) j check next other held.well)

-- ---- the end of a compensation

module _ (h : Standing) (r : Ident) where
  ends_there : LeadsOn h (events.Compensated r) → compensation_ends (state_of h) r ≡ true
  unfolding allows
  ends_there leads = leads.1.allowed.0

  pub compensated : LeadsOn h (events.Compensated r) → (i : Ident) → i ≡ r → EndsCompensation (state_of h) r (events.Compensated i)
  compensated leads i same =
      subst (λ z. EndsCompensation (state_of h) r (events.Compensated z)) (sym same) (compensation_comes (state_of h) r (ends_there leads))

  pub goes_on : LeadsNowhere h (events.Compensated r) → compensation_ends (state_of h) r ≡ false
  unfolding allows
  goes_on nowhere =
      by_test (compensation_ends (state_of h) r)
      (λ ends. let on = leads_plainly h (events.Compensated r) refl (ends, tt) in absurd (nowhere on.0 on.1))
      (λ no. no)
