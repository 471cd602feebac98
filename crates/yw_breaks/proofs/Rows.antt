-- The first broken check of a table, found a row at a time.
use Rattle.std.proofs.Common.{Bool, List, None, Option, Some, [], false, refl, subst, sym, true, ℕ, ◌∷◌, ◌≡◌}
use Rattle.std.specs.Option.{option_or}
use Rattle.std.specs.Prelude.{not, option_map, if◌then◌else◌}
use Rattle.yw_breaks.specs.Persons.{lacks_role, worker_rule}
use Rattle.yw_spec.specs.declared.task.Task.{Task}
use Rattle.yw_state.specs.Broken.{Check, First, placed, placeless, test, test_at}
use Rattle.yw_state.specs.Nets.{is_atomic}
use Rattle.yw_state.specs.declared.rule.Refusal.{Refusal}
use Rattle.yw_state.specs.declared.rule.Rule.{Rule}
use Rattle.yw_state.specs.declared.rule.Rule.TheVariants as rules

-- a test, where all that is found has no place
pub rule_row : (a b : Bool) → a ≡ b → (r : Rule) (cs : List Check) (o : Option Rule) → First cs (option_map placeless o)
    → First (test a r ∷ cs) (option_map placeless (if b then Some r else o))
rule_row a true e r cs o f = subst (λ (x : Bool). First (test x r ∷ cs) (Some (placeless r))) (sym e) refl
rule_row a false e r cs o f = subst (λ (x : Bool). First (test x r ∷ cs) (option_map placeless o)) (sym e) f

-- a test
pub test_row : (a b : Bool) → a ≡ b → (r : Rule) (cs : List Check) (o : Option Refusal) → First cs o
    → First (test a r ∷ cs) (if b then Some (placeless r) else o)
test_row a true e r cs o f = subst (λ (x : Bool). First (test x r ∷ cs) (Some (placeless r))) (sym e) refl
test_row a false e r cs o f = subst (λ (x : Bool). First (test x r ∷ cs) o) (sym e) f

-- a test that is broken
pub broken_row : (a : Bool) → a ≡ true → (r : Rule) (cs : List Check) → First (test a r ∷ cs) (Some (placeless r))
broken_row a e r cs = subst (λ (x : Bool). First (test x r ∷ cs) (Some (placeless r))) (sym e) refl

-- a test that isn't broken
pub idle_row : (a : Bool) → a ≡ false → (r : Rule) (cs : List Check) (o : Option Refusal) → First cs o → First (test a r ∷ cs) o
idle_row a e r cs o f = subst (λ (x : Bool). First (test x r ∷ cs) o) (sym e) f

-- a place
pub place_row : (a b : Option (List ℕ)) → a ≡ b → (r : Rule) (cs : List Check) (o : Option Refusal) → First cs o
    → First (test_at a r ∷ cs) (option_or (option_map (placed r) b) o)
place_row a (Some at) e r cs o f = subst (λ (x : Option (List ℕ)). First (test_at x r ∷ cs) (Some (placed r at))) (sym e) refl
place_row a None e r cs o f = subst (λ (x : Option (List ℕ)). First (test_at x r ∷ cs) o) (sym e) f

-- the last place
pub last_place : (a b : Option (List ℕ)) → a ≡ b → (r : Rule) → First (test_at a r ∷ []) (option_map (placed r) b)
last_place a (Some at) e r = subst (λ (x : Option (List ℕ)). First (test_at x r ∷ []) (Some (placed r at))) (sym e) refl
last_place a None e r = subst (λ (x : Option (List ℕ)). First (test_at x r ∷ []) None) (sym e) refl

-- what a task asks of a person, and whether work is held there
pub worker_rows : (roles : List (List ℕ)) (t : Task) (held a b : Bool) → a ≡ not (is_atomic t) → b ≡ lacks_role roles t
    → First (test a rules.ByItself ∷ test b rules.Role ∷ test held rules.Held ∷ []) (option_map placeless (worker_rule roles t held))
worker_rows roles t held a b itself lacks =
    rule_row a (not (is_atomic t)) itself rules.ByItself
    (test b rules.Role ∷ test held rules.Held ∷ []) (if lacks_role roles t then Some rules.Role else (if held then Some rules.Held else None))
    (rule_row b (lacks_role roles t) lacks rules.Role (test held rules.Held ∷ []) (if held then Some rules.Held else None)
    (rule_row held held refl rules.Held [] None refl))
