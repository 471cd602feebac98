-- What keeps the items of an entry from coming.
use Rattle.std.proofs.Common.{List, None, Option, Some, [], ap, arith, cond, false, length, map, refl, subst, suc, sym, true, ℕ, ◌+◌, ◌∙◌, ◌∷◌, ◌≡◌}
use Rattle.std.proofs.lemmas.Bool.{le-leb, ltb-false}
use Rattle.std.proofs.lemmas.List.Elements.{All-head, All-tail}
use Rattle.std.specs.List.{All}
use Rattle.std.specs.Option.{option_or}
use Rattle.std.specs.Prelude.{codes, find, is_none, is_some, nat_lt, not, option_and_then, option_map, unwrap_or, if◌then◌else◌}
use Rattle.yw_base.specs.Identity.{number_end}
use Rattle.yw_base.specs.declared.value.Value.{Value}
use Rattle.yw_base.specs.declared.value.Value.TheVariants as values
use Rattle.yw_breaks.specs.Enter.{AreGiven, IsFed, ItemsFit}
use Rattle.yw_expr.specs.Meaning.{val}
use Rattle.yw_expr.specs.Tree.{Tree}
use Rattle.yw_spec.specs.declared.task.Many.{Many}
use Rattle.yw_spec.specs.declared.task.Param.{Param}
use Rattle.yw_spec.specs.declared.task.Task.{Task}
use Rattle.yw_state.proofs.Tests.{by_option, by_test, map_some, never, nowhere, some_same, then_some}
use Rattle.yw_state.specs.Broken.{placed, placeless}
use Rattle.yw_state.specs.Options.{all_of, is_some_and}
use Rattle.yw_state.specs.Passing.{elements_for, entry_values, given_values, within_bounds}
use Rattle.yw_state.specs.Values.{Row}
use Rattle.yw_state.specs.declared.rule.Refusal.{Refusal}
use Rattle.yw_state.specs.declared.rule.Rule.{Rule}
use Rattle.yw_state.specs.declared.rule.Rule.TheVariants as rules
use Rattle.yw_task.proofs.AddTable.{is_given}
use Rattle.yw_task.specs.Giving.{count_rule, entry_fault, entry_rows, given_value, lacks_value, undefined_param, value_or}

-- ---- where each parameter has a value, each item is given something

abbrev IsThere : Option (List Row) → Type 0
IsThere o = (rows : List Row) × (o ≡ Some rows)

rows_there : (g : Option Value → Option Row) → ((v : Value) → (r : Row) × (g (Some v) ≡ Some r)) → (vs : List Value) → IsThere (all_of (map g (map Some vs)))
rows_there g each [] = ([], refl)
rows_there g each (v ∷ vs) =
    let first = each v in
    let rest = rows_there g each vs in (
      first.0 ∷ rest.0,
      ap (option_and_then (λ (x : Row). option_map (λ (xs : List Row). x ∷ xs) (all_of (map g (map Some vs))))) first.1
          ∙ ap (option_map (λ (xs : List Row). first.0 ∷ xs)) rest.1,
    )

-- without a list each parameter has an expression, so what an element is doesn't matter
value_same : (vals : Row) (v : Value) (o : Option Tree) → (o ≡ None → ⊥) → value_or vals None o ≡ value_or vals (Some v) o
value_same vals v None has = absurd (has refl)
value_same vals v (Some e) has = refl

abbrev Fed : Option Many → Param → Type 0
Fed many p = p.value ≡ None → is_some many ≡ true

values_same : (vals : Row) (v : Value) (ps : List Param) → All (Fed None) ps → map (given_value vals None) ps ≡ map (given_value vals (Some v)) ps
values_same vals v [] fed = refl
values_same vals v (p ∷ ps) fed =
    (λ j. value_same vals v p.value (λ e. never (All-head (Fed None) p ps fed e)) j ∷ values_same vals v ps (All-tail (Fed None) p ps fed) j)

module _ (task : Task) (vals : Row) (fed : IsFed task) (defined : undefined_param task vals ≡ None) where
  one_there : task.many ≡ None → (r : Row) × (given_values task vals None ≡ Some r)
  one_there single =
      let v : Value = values.Bool true in
      let r = is_given task vals v defined in
      (r.0, ap all_of (values_same vals v task.ins (subst (λ many. All (Fed many) task.ins) single fed)) ∙ r.1)

  by_list : (many : Option Many) → task.many ≡ many → (es : List (Option Value)) → elements_for many vals ≡ Some es → IsThere (all_of (map (given_values task vals) es))
  by_list None single es e =
      let r = one_there single in
      subst (λ xs. IsThere (all_of (map (given_values task vals) xs))) (some_same (None ∷ []) es e)
      (r.0 ∷ [], ap (option_and_then (λ (x : Row). option_map (λ (xs : List Row). x ∷ xs) (Some []))) r.1)
  by_list (Some m) several es e =
      let v = map_some _ (val m.each vals) es e in
      subst (λ xs. IsThere (all_of (map (given_values task vals) xs))) v.2
      (rows_there (given_values task vals) (λ w. is_given task vals w defined) _)

-- ---- where an item is given something, each parameter has a value

has_value : (vals : Row) (element : Option Value) (o : Option Tree) (v : Value) → value_or vals element o ≡ Some v
    → is_some_and o (λ e. is_none (val e vals)) ≡ false
has_value vals element None v e = refl
has_value vals element (Some x) v e = ap (λ (o : Option Value). is_none o) e

none_lacks : (vals : Row) (element : Option Value) (ps : List Param) (row : Row) → all_of (map (given_value vals element) ps) ≡ Some row
    → find (lacks_value vals) ps ≡ None
none_lacks vals element [] row e = refl
none_lacks vals element (p ∷ ps) row e =
    let first = then_some (λ (x : Value). option_map (λ (xs : Row). x ∷ xs) (all_of (map (given_value vals element) ps))) (given_value vals element p) row e in
    let rest = map_some (λ (xs : Row). first.0 ∷ xs) (all_of (map (given_value vals element) ps)) row first.2 in
    ap (λ b. cond b (Some p) (find (lacks_value vals) ps)) (has_value vals element p.value first.0 first.1) ∙ none_lacks vals element ps rest.0 rest.1

-- ---- what is found

module _ (task : Task) (vals : Row) where
  abbrev given : List (Option Value) → Option (List Row)
  given es = all_of (map (given_values task vals) es)

  by_first : (es : List (Option Value)) (r : Row) (rs : List Row) → given es ≡ Some (r ∷ rs) → find (lacks_value vals) task.ins ≡ None
  by_first [] r rs e = let long : 0 ≡ suc (length rs) = ap length (some_same [] (r ∷ rs) e) in absurd (omega arith)
  by_first (x ∷ es) r rs e =
      let first = then_some (λ (y : Row). option_map (λ (ys : List Row). y ∷ ys) (given es)) (given_values task vals x) (r ∷ rs) e in
      none_lacks vals x task.ins first.0 first.1

  of_rows : (rows : List Row) → entry_values task vals ≡ Some rows → (es : List (Option Value)) × (elements_for task.many vals ≡ Some es) × (given es ≡ Some rows)
  of_rows rows e = then_some given (elements_for task.many vals) rows e

  -- where there are rows
  pub none_lacking : (rows : List Row) → entry_values task vals ≡ Some rows → (length rows ≡ 0 → ⊥) → find (lacks_value vals) task.ins ≡ None
  none_lacking [] e some = absurd (some refl)
  none_lacking (r ∷ rs) e some = let es = of_rows (r ∷ rs) e in by_first es.0 r rs es.2

  -- a parameter lacks a value where the list is defined and what items are given isn't
  pub one_lacks : IsFed task → entry_values task vals ≡ None → is_none (elements_for task.many vals) ≡ false → find (lacks_value vals) task.ins ≡ None → ⊥
  one_lacks fed undefined listed e = by_option (elements_for task.many vals)
      (λ none. never (sym listed ∙ ap (λ (o : Option (List (Option Value))). is_none o) none))
      (λ es some.
      let there = by_list task vals fed (ap (option_map (λ (q : Param). q.name)) e) task.many refl es some in
      nowhere (sym undefined ∙ ap (option_and_then given) some ∙ there.1))

  module _ (next : ℕ) where
    abbrev later : ℕ → Option Refusal
    later count = option_map placeless (count_rule task next count)

    abbrev count : ℕ
    count = length (entry_rows task vals)

    pub at_each : is_none (elements_for task.many vals) ≡ true → Some (placed rules.Mapping (codes "each")) ≡ entry_fault task vals next
    at_each e =
        sym (ap (λ b. option_or (option_map (placed rules.Mapping) (if b then Some (codes "each") else undefined_param task vals)) (later count)) e)

    pub at_param : is_none (elements_for task.many vals) ≡ false → (p : Param) → find (lacks_value vals) task.ins ≡ Some p
        → Some (placed rules.Mapping p.name) ≡ entry_fault task vals next
    at_param listed p e =
        sym (ap (λ b. option_or (option_map (placed rules.Mapping) (if b then Some (codes "each") else undefined_param task vals)) (later count)) listed
        ∙ ap (λ (o : Option Param). option_or (option_map (placed rules.Mapping) (option_map (λ (q : Param). q.name) o)) (later count)) e)

    module _ (rows : List Row) (are : entry_values task vals ≡ Some rows) where
      pub listed : is_none (elements_for task.many vals) ≡ false
      listed = let es = of_rows rows are in ap (λ (o : Option (List (Option Value))). is_none o) es.1

      pub by_count : find (lacks_value vals) task.ins ≡ None → later (length rows) ≡ entry_fault task vals next
      by_count e =
          sym (ap (λ b. option_or (option_map (placed rules.Mapping) (if b then Some (codes "each") else undefined_param task vals)) (later count)) listed
          ∙ ap (λ (o : Option Param). option_or (option_map (placed rules.Mapping) (option_map (λ (q : Param). q.name) o)) (later count)) e
          ∙ ap (λ (o : Option (List Row)). later (length (unwrap_or o []))) are)

      fit_by : count_rule task next (length rows) ≡ None → ItemsFit task vals next
      fit_by none = by_test (within_bounds task.many (length rows))
          (λ bounds.
          let room : (if nat_lt number_end (next + length rows) then Some rules.Numbers else None) ≡ None =
          sym (ap (λ b. if not b then Some rules.Count else (if nat_lt number_end (next + length rows) then Some rules.Numbers else None)) bounds) ∙ none in
          by_test (nat_lt number_end (next + length rows))
          (λ over. nowhere (sym room ∙ ap (λ b. if b then Some rules.Numbers else None) over))
          (λ fits. record {
            rows = rows;
            are = are;
            bounds = bounds;
            room = le-leb (next + length rows) number_end (ltb-false number_end (next + length rows) fits);
          }))
          (λ out. nowhere (sym none ∙ ap (λ b. if not b then Some rules.Count else (if nat_lt number_end (next + length rows) then Some rules.Numbers else None)) out))

      -- nothing is
      pub are_given : find (lacks_value vals) task.ins ≡ None → count_rule task next (length rows) ≡ None → AreGiven task vals next rows
      are_given e none = record {
        unbroken = sym (ap (λ (o : Option Rule). option_map placeless o) none) ∙ by_count e;
        fit = fit_by none;
        gives = sym (ap (λ (o : Option (List Row)). unwrap_or o []) are);
      }
