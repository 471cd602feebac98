-- What the words of a plain state say.
use Rattle.std.specs.Prelude.{◌≡◌, ◌==◌, ◌&&◌, ◌||◌, ℕ, Bool, true, false, not, List, [], length, Option, Some, None, is_some, nat_lt, option_map, option_and_then, unwrap_or, refl}
use Rattle.std.proofs.Common.{sym, ◌∙◌, ap}
use Rattle.yw_base.specs.Identity.{under, case_number}
use Rattle.yw_plain.specs.Plain.{IsPlain, PlainWords}
use Rattle.yw_state.proofs.Entries.{find-entry, passing}
use Rattle.yw_state.proofs.MapLemmas.{by_name}
use Rattle.yw_state.proofs.Tests.{by_option, by_test, never}
use Rattle.yw_state.specs.After.{case_checks, item_checks}
use Rattle.yw_state.specs.Identity.{Ident, is_child, strictly_under}
use Rattle.yw_state.specs.Judged.{case_place, has_rules, is_manual, place_key, rules_at, task_place}
use Rattle.yw_state.specs.Map.{empty, entries, get}
use Rattle.yw_state.specs.Nets.{is_atomic}
use Rattle.yw_state.specs.RuleTree.{TreeRule}
use Rattle.yw_state.specs.State.{State, Site, RunPart, TaskAt, due_at, no_checks, run_part, some_site}
use Rattle.yw_state.specs.Well.{Stands}
use Rattle.yw_state.specs.Words.{any_due, busy, clear, held, is_at_work, shielded, urgent}
use Rattle.yw_state.specs.declared.part.Checks.{Checks}
use Rattle.yw_state.specs.declared.tree.TreeKind.TheVariants.{Pre, Select}
use Rattle.yw_state.specs.declared.tree.TreePlace.{TreePlace}

-- ---- tests

and_false : (b : Bool) → (b && false) ≡ false
and_false true = refl
and_false false = refl

and_true : (b : Bool) → (b && true) ≡ b
and_true true = refl
and_true false = refl

-- ---- no tree has a rule

module _ (s : State) (none : s.rules ≡ empty) where
  pub no_rules : (p : TreePlace) → rules_at s p ≡ []
  no_rules p = ap (λ m. unwrap_or (get m (place_key p)) []) none

  pub no_rule : (p : TreePlace) → has_rules s p ≡ false
  no_rule p = ap (λ (rs : List TreeRule). nat_lt 0 (length rs)) (no_rules p)

  pub none_at_case : (name : List ℕ) → case_checks s name ≡ no_checks
  none_at_case name = ap (λ b. record no_checks { pre = b }) (no_rule (case_place name Pre))

  pub none_at_item : (x : TaskAt) → item_checks s x ≡ no_checks
  none_at_item x =
      ap (λ b. record no_checks { pre = b; select = is_atomic x.task && has_rules s (task_place x Select) }) (no_rule (task_place x Pre))
      ∙ ap (λ b. record no_checks { select = is_atomic x.task && b }) (no_rule (task_place x Select))
      ∙ ap (λ b. record no_checks { select = b }) (and_false (is_atomic x.task))

-- ---- what stands

-- nothing that stands passes
none_pass : (s : State) (p : Ident → Site → Bool) → ((j : Ident) (x : Site) → Stands s j x → p j x ≡ false) → some_site s p ≡ false
none_pass s p fails =
    by_test (some_site s p)
    (λ some. let (e, within, is) = passing (λ e. p e.0 e.1) (entries s.sites) some in
    never (sym (fails e.0 e.1 (find-entry by_name (entries s.sites) e s.sites.sorted within)) ∙ is))
    (λ e. e)

module _ (s : State) (plain : IsPlain s) where
  -- what is read is this, whether something stands there or not
  read : {A : Type 0} (f : Option Site → A) (a : A) (j : Ident) → f None ≡ a → ((x : Site) → Stands s j x → f (Some x) ≡ a) → f (get s.sites j) ≡ a
  read f a j nothing something = by_option (get s.sites j) (λ e. ap f e ∙ nothing) (λ x e. ap f e ∙ something x e)

  not_busy : (j : Ident) → busy s j ≡ false
  not_busy j = none_pass s _ (λ r x at. ap (λ (o : Option RunPart). is_some o && is_child r j) (plain.run r x at))

  not_shielded : (j i : Ident) → shielded s j i ≡ false
  not_shielded j i = none_pass s _ (λ r x at. ap (λ (o : Option RunPart). is_some o && strictly_under r i && under j r) (plain.run r x at))

  not_urgent : (n : ℕ) → urgent s n ≡ false
  not_urgent n =
      none_pass s _ (λ j x at.
      ap (λ (c : Checks). case_number j == n && (any_due c && not (busy s j) || is_at_work x.run)) (plain.due j x at)
      ∙ ap (λ (o : Option RunPart). case_number j == n && is_at_work o) (plain.run j x at)
      ∙ and_false (case_number j == n))

  is_clear : (j : Ident) → clear s j ≡ not (held s j)
  is_clear j = ap (λ b. not (held s j) && not b) (not_urgent (case_number j)) ∙ and_true (not (held s j))

  no_run : (j : Ident) → run_part s j ≡ None
  no_run j = read (option_and_then (λ x. x.run)) None j refl (plain.run j)

  none_due : (j : Ident) → due_at s j ≡ no_checks
  none_due j = read (λ o. unwrap_or (option_map (λ (x : Site). x.due) o) no_checks) no_checks j refl (plain.due j)

  by_person : (x : TaskAt) → is_manual s x ≡ is_atomic x.task
  by_person x = ap (λ (rs : List TreeRule). is_atomic x.task && length rs == 0) (no_rules s plain.rules (task_place x Select)) ∙ and_true (is_atomic x.task)

  pub words : PlainWords s
  words =
      record {
        busy = not_busy;
        shielded = not_shielded;
        urgent = not_urgent;
        clear = is_clear;
        run = no_run;
        due = none_due;
        rules = no_rules s plain.rules;
        manual = by_person;
        rule = no_rule s plain.rules;
        case_due = none_at_case s plain.rules;
        item_due = none_at_item s plain.rules;
      }
