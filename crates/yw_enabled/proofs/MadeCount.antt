-- How many items an entry may make.
use Rattle.std.proofs.Common.{Bool, List, None, Option, Some, [], ap, arith, false, length, refl, suc, sym, true, ℕ, ◌+◌, ◌<◌, ◌∙◌, ◌≡◌, ◌≤◌}
use Rattle.std.proofs.lemmas.Bool.{eqb-true, false_from_ne_true, le-leb, leb-true, ltb-false, ltb-true}
use Rattle.std.specs.Prelude.{is_none, nat_le, nat_lt, not, unwrap_or, ◌==◌, ◌&&◌, if◌then◌else◌}
use Rattle.yw_base.specs.Identity.{number_end}
use Rattle.yw_enabled.specs.Entered.{AreMade, may_be_made}
use Rattle.yw_spec.specs.declared.task.Task.{Task}
use Rattle.yw_state.proofs.Tests.{by_test}
use Rattle.yw_state.specs.Options.{is_some_and}
use Rattle.yw_state.specs.Passing.{entry_values, within_bounds}
use Rattle.yw_state.specs.Values.{Row}
use Rattle.yw_state.specs.declared.rule.Rule.{Rule}
use Rattle.yw_state.specs.declared.rule.Rule.TheVariants as rules
use Rattle.yw_task.specs.Giving.{count_rule}

pub not_zero : (k : ℕ) → (suc k == 0) ≡ false
not_zero k = false_from_ne_true (suc k == 0) (λ e. let same : suc k ≡ 0 = eqb-true (suc k) 0 e in absurd (omega arith))

no_rule : (a b : Bool) (q r : Rule) → is_none (if not a then Some q else (if b then Some r else None)) ≡ (a && not b)
no_rule true true q r = refl
no_rule true false q r = refl
no_rule false b q r = refl

at_most : (a b : ℕ) → nat_le a b ≡ not (nat_lt b a)
at_most a b =
    by_test (nat_lt b a)
    (λ (t : nat_lt b a ≡ true).
    let over : b < a = ltb-true b a t in
    false_from_ne_true (nat_le a b) (λ e. let fits : a ≤ b = leb-true a b e in absurd (omega arith)) ∙ sym (ap not t))
    (λ (t : nat_lt b a ≡ false). le-leb a b (ltb-false b a t) ∙ sym (ap not t))

module _ (t : Task) (row : Row) (first : ℕ) where
  fits_is : (k : ℕ) → (within_bounds t.many k && nat_le (first + k) number_end) ≡ is_none (count_rule t first k)
  fits_is k =
      ap (λ b. within_bounds t.many k && b) (at_most (first + k) number_end)
      ∙ sym (no_rule (within_bounds t.many k) (nat_lt number_end (first + k)) rules.Count rules.Numbers)

  abbrev fits : List Row → Bool
  fits rows = within_bounds t.many (length rows) && nat_le (first + length rows) number_end

  pub none_given : entry_values t row ≡ None → may_be_made t row first ≡ false
  none_given e = ap (λ (o : Option (List Row)). is_some_and o fits) e

  module _ (rows : List Row) (given : entry_values t row ≡ Some rows) where
    made_is : may_be_made t row first ≡ is_none (count_rule t first (length rows))
    made_is = ap (λ (o : Option (List Row)). is_some_and o fits) given ∙ fits_is (length rows)

    pub are_made : count_rule t first (length rows) ≡ None → AreMade t row first rows
    are_made none = record {
      made = made_is ∙ ap (λ (o : Option Rule). is_none o) none;
      gives = sym (ap (λ (o : Option (List Row)). unwrap_or o []) given);
    }

    pub none_fits : (r : Rule) → count_rule t first (length rows) ≡ Some r → may_be_made t row first ≡ false
    none_fits r some = made_is ∙ ap (λ (o : Option Rule). is_none o) some
