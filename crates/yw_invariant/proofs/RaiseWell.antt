-- What is well stays well when an exlet begins at what can have one number more.
use Rattle.std.specs.Prelude.{◌≡◌, ◌≤◌, ◌<◌, ◌+◌, ◌-◌, ◌==◌, ◌&&◌, ◌||◌, ℕ, Bool, true, false, not, List, [], length, Option, Some, None, is_some, is_none, option_map, option_and_then, slice_get, unwrap_or, nat_le, nat_lt, refl, All, if◌then◌else◌}
use Rattle.std.specs.Option.{option_map_or}
use Rattle.std.proofs.Common.{sym, ◌∙◌, ap, subst, arith}
use Rattle.std.proofs.lemmas.Bool.{and_from, and_parts, eq-eqb, eqb-true, leb-true, lt-ltb, ltb-true, not-true}
use Rattle.std.proofs.lemmas.List.Elements.{All-get_or}
use Rattle.std.proofs.lemmas.Option.{get_or_from_slice_get, slice_get_within}
use Rattle.yw_base.specs.Identity.{most_numbers, child, parent}
use Rattle.yw_invariant.proofs.Children.{IsNew, child_is_new, draws_next, parent_child}
use Rattle.yw_invariant.proofs.Places.{shorter, under_parent}
use Rattle.yw_state.proofs.Alike.{case_asks, item_asks, item_in, net_by, nothing_due}
use Rattle.yw_state.proofs.ChangeWell.{read_kept}
use Rattle.yw_state.proofs.MarksWell.{pass_is_well}
use Rattle.yw_state.proofs.Clear.{some_stands}
use Rattle.yw_state.proofs.FreshWell.{MayCome, RunMayCome, come_is_well}
use Rattle.yw_state.proofs.MapLemmas.{by_option, never, nowhere, some_same}
use Rattle.yw_state.proofs.RuleNumbers.{rule_concluded}
use Rattle.yw_state.proofs.TreePlaces.{one_place}
use Rattle.yw_state.specs.After.{begin_run, new_run, pass, primitives_of, without_check}
use Rattle.yw_state.specs.Allowed.{Allowed, allows, begins_exlet, comes_next, concludes, is_next, is_raised}
use Rattle.yw_state.specs.Events.{after}
use Rattle.yw_state.specs.Identity.{Ident, is_case_ident, is_child}
use Rattle.yw_state.specs.Judged.{Question, case_place, conclusion_at, is_select, item_values, judged, place_key, question, rules_at, task_place}
use Rattle.yw_state.specs.Map.{get}
use Rattle.yw_state.specs.NewRule.{are_fit, may_conclude, most_primitives}
use Rattle.yw_state.specs.Options.{is_some_and}
use Rattle.yw_state.specs.RuleTree.{TreeRule, concluded}
use Rattle.yw_state.specs.State.{State, Site, RunPart, due_at, is_target, item_at, item_part, net_at, net_part, run_part}
use Rattle.yw_state.specs.Texts.{Reader, Said}
use Rattle.yw_state.specs.Well.{IsWell, Stands}
use Rattle.yw_state.specs.Words.{busy, has_check, is_first_due}
use Rattle.yw_state.specs.declared.part.Checks.{Checks}
use Rattle.yw_state.specs.declared.event.Event.TheVariants as events
use Rattle.yw_state.specs.declared.tree.Conclusion.{Conclusion}
use Rattle.yw_state.specs.declared.tree.Conclusion.TheVariants.{Worklet, Exlet}
use Rattle.yw_state.specs.declared.tree.Primitive.{Primitive}
use Rattle.yw_state.specs.declared.tree.TreeKind.{TreeKind}
use Rattle.yw_state.specs.declared.tree.TreeKind.TheVariants.{Pre, Post, Select, External, Timeout, Abort}
use Rattle.yw_state.specs.declared.tree.TreePlace.{TreePlace}

-- ---- what stands at what

child_of_parent : (k : Ident) → 1 ≤ length k → is_child k (parent k) ≡ true
child_of_parent k some = and_from _ _ (under_parent k) (eq-eqb (length k) (length (parent k) + 1) (shorter k some))

-- ---- what a rule concludes

-- The primitives of an exlet that may stand there.
record AreExlet (s : State) (of_case : Bool) (ps : List Primitive) : Type 0 where
  some : 0 < length ps
  most : length ps ≤ most_primitives
  fit : are_fit s of_case ps ≡ true

exlet_of : (s : State) (p : TreePlace) (c : Conclusion) → may_conclude s p c ≡ true → is_select p.kind ≡ false → AreExlet s (is_none p.net) (primitives_of c)
exlet_of s p (Worklet name) may other = never (sym other ∙ (and_parts (is_select p.kind) _ may).0)
exlet_of s p (Exlet ps) may other =
    let fit = and_parts (not (is_select p.kind) && nat_lt 0 (length ps) && nat_le (length ps) most_primitives) (are_fit s (is_none p.net) ps) may in
    let most = and_parts (not (is_select p.kind) && nat_lt 0 (length ps)) (nat_le (length ps) most_primitives) fit.0 in
    record {
      some = ltb-true 0 (length ps) (and_parts (not (is_select p.kind)) (nat_lt 0 (length ps)) most.0).1;
      most = leb-true (length ps) most_primitives most.1;
      fit = fit.1;
    }

module _ (reader : Reader) (s : State) (well : IsWell reader s) where
  -- a rule of the tree at a place may conclude what it does
  rule_may : (p : TreePlace) (i : ℕ) (r : TreeRule) → slice_get (rules_at s p) i ≡ Some r → may_conclude s p r.conclusion ≡ true
  rule_may p i r e =
      by_option (get s.rules (place_key p))
      (λ none. nowhere (ap (λ o. slice_get (unwrap_or o []) i) (sym none) ∙ e))
      (λ rs some.
      let fit = well.content.rules (place_key p) rs some in
      let here : slice_get rs i ≡ Some r = ap (λ o. slice_get (unwrap_or o []) i) (sym some) ∙ e in
      let at_place = subst (λ q. All (λ (x : TreeRule). may_conclude s q x.conclusion ≡ true) rs) (one_place fit.place p fit.here) fit.conclude in
      subst (λ (x : TreeRule). may_conclude s p x.conclusion ≡ true) (get_or_from_slice_get rs i r r here)
      (All-get_or (λ (x : TreeRule). may_conclude s p x.conclusion ≡ true) rs i r (slice_get_within rs i r here) at_place))

  -- no run stands at what isn't busy
  none_at_work : (j : Ident) → busy s j ≡ false → (k : Ident) → is_some (run_part s k) ≡ true → ¬ (parent k ≡ j)
  none_at_work j free k runs same =
      by_option (get s.sites k)
      (λ none. never (ap (λ o. is_some (option_and_then (λ (y : Site). y.run) o)) (sym none) ∙ runs))
      (λ y stands.
      by_option y.run
      (λ none. never (ap is_some (sym none) ∙ ap (λ o. is_some (option_and_then (λ (z : Site). z.run) o)) (sym stands) ∙ runs))
      (λ r some.
      let deep : 2 ≤ length k = well.parents.run_depth k r (ap (option_and_then (λ (z : Site). z.run)) stands ∙ some) in
      let below : is_child k j ≡ true = ap (is_child k) (sym same) ∙ child_of_parent k (omega arith) in
      never (sym free ∙ some_stands s (λ i z. is_some z.run && is_child i j) k y stands (and_from _ _ (ap is_some some) below))))

  module _ (j : Ident) (kind : TreeKind) (other : is_select kind ≡ false) where
    abbrev asked : Bool → Option Question
    asked of_case = if of_case then case_asks s kind (net_part s j) else item_asks s kind (item_at s j)

    asked_exlet : (of_case : Bool) (q : Question) → asked of_case ≡ Some q → (i : ℕ) (r : TreeRule) → slice_get q.rules i ≡ Some r → AreExlet s of_case (primitives_of r.conclusion)
    asked_exlet true q e i r f =
        by_option (net_part s j)
        (λ none. nowhere (ap (case_asks s kind) (sym none) ∙ e))
        (λ n some.
        let place : TreePlace = case_place n.spec kind in
        let same : record { rules = rules_at s place; row = n.vals } ≡ q = some_same _ q (sym (ap (case_asks s kind) some) ∙ e) in
        exlet_of s place r.conclusion (rule_may place i r (ap (λ (u : Question). slice_get u.rules i) same ∙ f)) other)
    asked_exlet false q e i r f =
        by_option (item_at s j)
        (λ none. nowhere (ap (item_asks s kind) (sym none) ∙ e))
        (λ x some.
        let place : TreePlace = task_place x.of_task kind in
        let same : record { rules = rules_at s place; row = item_values x } ≡ q = some_same _ q (sym (ap (item_asks s kind) some) ∙ e) in
        exlet_of s place r.conclusion (rule_may place i r (ap (λ (u : Question). slice_get u.rules i) same ∙ f)) other)

    abbrev begun : ℕ → List Primitive
    begun node = option_map_or primitives_of (conclusion_at s j kind node) []

    begun_exlet : (node : ℕ) → judged s j kind ≡ Some node → AreExlet s (is_case_ident j) (begun node)
    begun_exlet node e =
        by_option (question s j kind)
        (λ none. nowhere (ap (option_and_then (λ (q : Question). concluded q.rules q.row)) (sym none) ∙ e))
        (λ q some.
        let rule = rule_concluded q.rules q.row node (ap (option_and_then (λ (u : Question). concluded u.rules u.row)) (sym some) ∙ e) in
        let ends = ap (option_and_then (λ (u : Question). option_map (λ (r : TreeRule). r.conclusion) (slice_get u.rules (node - 1)))) some ∙ ap (option_map (λ (r : TreeRule). r.conclusion)) rule.1 in
        subst (λ (o : Option Conclusion). AreExlet s (is_case_ident j) (option_map_or primitives_of o [])) (sym ends)
        (asked_exlet (is_case_ident j) q some (node - 1) rule.0 rule.1))

    module _ (node n : ℕ) (concluded_here : judged s j kind ≡ Some node) (target : is_target s j ≡ true) (alone : (k : Ident) → is_some (run_part s k) ≡ true → ¬ (parent k ≡ j)) (next : is_next s n ≡ true) (short : length j < most_numbers) where
      stands_there : (x : Site) × Stands s j x
      stands_there =
          by_option (get s.sites j)
          (λ none. never (sym (none_there (is_case_ident j)) ∙ ap (target_in j) (sym none) ∙ target))
          (λ x some. (x, some))
        where
          target_in : Ident → Option Site → Bool
          target_in i o = is_case_ident i && is_some (option_and_then (λ (y : Site). y.net) o) || is_some (option_and_then (λ (y : Site). y.item) o)

          none_there : (b : Bool) → (b && false || false) ≡ false
          none_there true = refl
          none_there false = refl

      fresh : IsNew s (child j n) (n + 1)
      fresh = let (is_counter, room) = draws_next s n 1 next in child_is_new s well.numbers j stands_there.0 stands_there.1 short n is_counter room

      abbrev run : RunPart
      run = record { rest = begun node; waiting = false }

      run_may_come : RunMayCome s (child j n) run
      run_may_come =
          let exlet = begun_exlet node concluded_here in
          record {
            deep = fresh.deep;
            target = ap (is_target s) (parent_child j n) ∙ target;
            works = lt-ltb 0 (length (begun node)) exlet.some;
            at_work = refl;
            short = exlet.most;
            fit = ap (λ i. are_fit s (is_case_ident i) (begun node)) (parent_child j n) ∙ exlet.fit;
            alone = λ k runs same. alone k runs (same ∙ parent_child j n);
          }

      may_come : MayCome s (child j n) (new_run (begun node)) (n + 1)
      may_come =
          record {
            undrawn = fresh.undrawn;
            later = fresh.later;
            most = fresh.most;
            identity = fresh.identity;
            drawn = fresh.drawn;
            over = fresh.over;
            no_item = refl;
            not_suspended = refl;
            due = λ kind e. never (sym (nothing_due kind) ∙ e);
            something = refl;
            net = λ m e. nowhere e;
            run = λ r e. subst (RunMayCome s (child j n)) (some_same run r e) run_may_come;
            not_both = λ m e. nowhere e;
          }

      pub begun_is_well : IsWell reader (begin_run s j kind node n)
      begun_is_well = come_is_well reader s (child j n) (new_run (begun node)) (n + 1) may_come well

raised_other : (kind : TreeKind) → is_raised kind ≡ true → is_select kind ≡ false
raised_other Pre e = refl
raised_other Post e = refl
raised_other Select e = never e
raised_other External e = refl
raised_other Timeout e = refl
raised_other Abort e = refl

-- the tree concludes this node
concludes_node : (o : Option ℕ) (node : ℕ) → is_some_and o (λ k. k == node) ≡ true → o ≡ Some node
concludes_node None node e = never e
concludes_node (Some k) node e = ap Some (eqb-true k node e)

pub raise_keeps_well : (reader : Reader) (s : State) (j : Ident) (kind : TreeKind) (node n : ℕ) (said : Said) → length j < most_numbers → IsWell reader s → Allowed s (events.Raise j kind node n) said → IsWell reader (after s (events.Raise j kind node n) said)
unfolding allows after
raise_keeps_well reader s j kind node n said short well allowed =
    let raises = is_target s j && is_raised kind in
    let drawn = and_parts (raises && not (busy s j) && concludes s j kind node) (is_next s n) allowed.0 in
    let ends = and_parts (raises && not (busy s j)) (concludes s j kind node) drawn.0 in
    let free = and_parts raises (not (busy s j)) ends.0 in
    let here = and_parts (is_target s j) (is_raised kind) free.0 in
    begun_is_well reader s well j kind (raised_other kind here.1) node n (concludes_node (judged s j kind) node ends.1) here.0 (none_at_work reader s well j (not-true _ free.1)) drawn.1 short

-- ---- a check that is due concludes it

checked_other : (kind : TreeKind) → begins_exlet kind ≡ true → is_select kind ≡ false
checked_other Pre e = refl
checked_other Post e = refl
checked_other Select e = never e
checked_other External e = never e
checked_other Timeout e = never e
checked_other Abort e = never e

first_is_due : (c : Checks) (kind : TreeKind) → is_first_due c kind ≡ true → has_check c kind ≡ true
first_is_due c Pre e = e
first_is_due c Select e = (and_parts c.select (not c.pre) e).0
first_is_due c Post e = (and_parts c.post (not c.pre) (and_parts (c.post && not c.pre) (not c.select) e).0).0
first_is_due c kind e = e

module _ (s : State) (j : Ident) (check : TreeKind) where
  abbrev passed : State
  passed = pass s j check

  abbrev lifted : Site → Site
  lifted x = record x { due = without_check check x.due }

  net_same : (k : Ident) → net_part passed k ≡ net_part s k
  net_same k = read_kept s.sites j lifted (λ x. x.net) (λ x. refl) k

  part_same : (k : Ident) → item_part passed k ≡ item_part s k
  part_same k = read_kept s.sites j lifted (λ x. x.item) (λ x. refl) k

  run_same : (k : Ident) → run_part passed k ≡ run_part s k
  run_same k = read_kept s.sites j lifted (λ x. x.run) (λ x. refl) k

  item_same : (k : Ident) → item_at passed k ≡ item_at s k
  item_same k = ap (λ o. item_in o (net_at passed (parent k))) (part_same k) ∙ ap (λ o. item_in (item_part s k) (option_and_then (net_by s) o)) (net_same (parent k))

  judged_same : judged passed j check ≡ judged s j check
  judged_same =
      ap (λ o. concluded_in (if is_case_ident j then case_asks s check o else item_asks s check (item_at passed j))) (net_same j)
      ∙ ap (λ o. concluded_in (if is_case_ident j then case_asks s check (net_part s j) else item_asks s check o)) (item_same j)
    where
      concluded_in : Option Question → Option ℕ
      concluded_in o = option_and_then (λ (q : Question). concluded q.rules q.row) o

  target_same : is_target passed j ≡ is_target s j
  target_same =
      ap (λ o. is_case_ident j && is_some o || is_some (item_part passed j)) (net_same j) ∙ ap (λ o. is_case_ident j && is_some (net_part s j) || is_some o) (part_same j)

pub except_keeps_well : (reader : Reader) (s : State) (j : Ident) (check : TreeKind) (node n : ℕ) (said : Said) → length j < most_numbers → IsWell reader s → Allowed s (events.Except j check node n) said → IsWell reader (after s (events.Except j check node n) said)
unfolding allows after
except_keeps_well reader s j check node n said short well allowed =
    let drawn = and_parts (begins_exlet check && comes_next s j check && concludes s j check node) (is_next s n) allowed.0 in
    let ends = and_parts (begins_exlet check && comes_next s j check) (concludes s j check node) drawn.0 in
    let comes = and_parts (begins_exlet check) (comes_next s j check) ends.0 in
    let due = and_parts (is_first_due (due_at s j) check) (not (busy s j)) comes.1 in
    begun_is_well reader (pass s j check) (pass_is_well reader s j said well check) j check (checked_other check comes.0) node n
    (judged_same s j check ∙ concludes_node (judged s j check) node ends.1)
    (target_same s j check ∙ well.marks.due j check (first_is_due (due_at s j) check due.0))
    (λ k runs. none_at_work reader s well j (not-true _ due.1) k (ap is_some (sym (run_same s j check k)) ∙ runs))
    drawn.1 short
