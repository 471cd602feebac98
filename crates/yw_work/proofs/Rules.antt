-- A rule leaves what is open, but for the first one that chooses worklets for a task.
use Rattle.std.specs.Prelude.{◌≡◌, ◌≤◌, ℕ, ◌==◌, ◌&&◌, ◌++◌, Bool, true, false, not, List, [], ◌∷◌, length, nat_lt, cond, Some, unwrap_or, refl}
use Rattle.std.specs.Ordering.{eq_by_cmp}
use Rattle.std.proofs.Common.{sym, ◌∙◌, ap, arith}
use Rattle.std.proofs.lemmas.Bool.{eqb-true, false_from_ne_true, ltb-true}
use Rattle.yw_idle.specs.Warms.{is_rule}
use Rattle.yw_state.proofs.MapLemmas.{by_names, get-insert, tied}
use Rattle.yw_state.proofs.Tests.{by_test, never}
use Rattle.yw_state.proofs.TreePlaces.{one_place}
use Rattle.yw_state.specs.Events.{after}
use Rattle.yw_state.specs.Identity.{Ident}
use Rattle.yw_state.specs.Judged.{has_rules, is_manual, is_select, place_key, rules_at, task_place}
use Rattle.yw_state.specs.Map.{get, insert, lexical_each}
use Rattle.yw_state.specs.Nets.{is_atomic}
use Rattle.yw_state.specs.RuleTree.{TreeRule}
use Rattle.yw_state.specs.State.{Site, State, TaskAt}
use Rattle.yw_state.specs.Texts.{Said, a_spec, a_test, nothing}
use Rattle.yw_state.specs.Well.{Stands}
use Rattle.yw_state.specs.declared.event.Event.{Event}
use Rattle.yw_state.specs.declared.event.Event.TheVariants as events
use Rattle.yw_state.specs.declared.tree.TreeKind.TheVariants.{Select}
use Rattle.yw_state.specs.declared.tree.TreePlace.{TreePlace}
use Rattle.yw_work.proofs.Same.{open_same}
use Rattle.yw_work.specs.Open.{StaysOpen}
use Rattle.yw_work.specs.Rules.{is_first_choice}

not_empty : (n : ℕ) → 1 ≤ n → (n == 0) ≡ false
not_empty n some = false_from_ne_true _ (λ none. let zero = eqb-true n 0 none in absurd (omega (arith, zero, some)))

one_more : (rs : List TreeRule) (r : TreeRule) → (length (rs ++ r ∷ []) == 0) ≡ false
one_more [] r = not_empty 1 (omega arith)
one_more (q ∷ rs) r = not_empty (length (q ∷ (rs ++ r ∷ []))) (omega arith)

some_rule : (rs : List TreeRule) → nat_lt 0 (length rs) ≡ true → (length rs == 0) ≡ false
some_rule rs e = let some = ltb-true 0 (length rs) e in not_empty (length rs) (omega (arith, some))

had_rules : (select has : Bool) → (select && not has) ≡ false → select ≡ true → has ≡ true
had_rules true true e is = refl
had_rules true false e is = never (sym e)
had_rules false has e is = never is

module _ (s : State) (p : TreePlace) (r : TreeRule) (not_first : (is_select p.kind && not (has_rules s p)) ≡ false) where
  abbrev grown : List TreeRule
  grown = rules_at s p ++ r ∷ []

  abbrev t : State
  t = record s { rules = insert s.rules (place_key p) grown }

  module _ (x : TaskAt) where
    abbrev q : TreePlace
    q = task_place x Select

    none_now : (rules_at t q) ≡ unwrap_or (cond (eq_by_cmp lexical_each (place_key q) (place_key p)) (Some grown) (get s.rules (place_key q))) []
    none_now = ap (λ o. unwrap_or o []) (get-insert by_names s.rules (place_key p) grown (place_key q))

    -- the same tree, which had a rule
    here : q ≡ p → (length grown == 0) ≡ (length (rules_at s q) == 0)
    here is =
        let had : has_rules s p ≡ true = had_rules (is_select p.kind) (has_rules s p) not_first (ap (λ (o : TreePlace). is_select o.kind) (sym is)) in
        one_more (rules_at s p) r ∙ sym (ap (λ (o : TreePlace). length (rules_at s o) == 0) is ∙ some_rule (rules_at s p) had)

    as_many : (length (rules_at t q) == 0) ≡ (length (rules_at s q) == 0)
    as_many =
        ap (λ rs. length rs == 0) none_now
        ∙ by_test (eq_by_cmp lexical_each (place_key q) (place_key p))
        (λ tie. ap (λ b. length (unwrap_or (cond b (Some grown) (get s.rules (place_key q))) []) == 0) tie
        ∙ here (one_place q p (tied by_names (place_key q) (place_key p) tie)))
        (λ other. ap (λ b. length (unwrap_or (cond b (Some grown) (get s.rules (place_key q))) []) == 0) other)

    manual_same : is_manual t x ≡ is_manual s x
    manual_same = ap (λ b. is_atomic x.task && b) as_many

  grown_open : (j : Ident) (x : Site) → Stands t j x → StaysOpen s t j
  grown_open j x stands = record {
    stood = (x, stands);
    open_same = open_same s t j (record { part = refl; net = refl; item = refl; items = λ k. refl; manual = manual_same; busy = refl });
    suspended = refl;
    run = refl;
  }

unchanged_open : (s : State) (j : Ident) (x : Site) → Stands s j x → StaysOpen s s j
unchanged_open s j x stands = record { stood = (x, stands); open_same = λ name what by. (λ o. o, λ o. o); suspended = refl; run = refl }

pub rule_open : (s : State) (e : Event) (said : Said) (j : Ident) (x : Site) → is_rule e ≡ true → is_first_choice s e ≡ false → Stands (after s e said) j x
    → StaysOpen s (after s e said) j
unfolding after
rule_open s (events.AddRule p at side when conclusion number) (a_test test) j x is not_first stands = grown_open s p _ not_first j x stands
rule_open s (events.AddRule p at side when conclusion number) nothing j x is not_first stands = unchanged_open s j x stands
rule_open s (events.AddRule p at side when conclusion number) (a_spec spec) j x is not_first stands = unchanged_open s j x stands
rule_open s e said j x is not_first stands = never is
