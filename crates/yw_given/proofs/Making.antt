-- The values of parameters one after another: all are there, or one lacks.
use Rattle.std.specs.Prelude.{◌≡◌, ℕ, zero, suc, cond, List, [], ◌∷◌, ◌++◌, Option, Some, None, find, is_none, map, option_and_then, option_map, slice_get, refl}
use Rattle.std.specs.Option.{option_or}
use Rattle.std.proofs.Common.{sym, ◌∙◌, ap, take}
use Rattle.yw_base.specs.declared.value.Value.{Value}
use Rattle.yw_spec.specs.declared.task.Param.{Param}
use Rattle.yw_state.proofs.Tests.{by_option, map_some, nowhere, some_same, then_some}
use Rattle.yw_state.specs.Given.{made_value, made_values, misfit}
use Rattle.yw_state.specs.Options.{all_of}
use Rattle.yw_state.specs.Values.{Row}
use Rattle.yw_state.specs.declared.command.Given.{Given}

none_then : {A B : Type 0} (o : Option A) → option_and_then (λ (x : A). (let n : Option B = None in n)) o ≡ None
none_then None = refl
none_then (Some x) = refl

module _ {A B : Type 0} (h : A → Option B) where
  -- those of one element more
  pub all_step : (vs : List A) (k : ℕ) (a : A) (ys : List B) (y : B) → slice_get vs k ≡ Some a → all_of (map h (take k vs)) ≡ Some ys → h a ≡ Some y
      → all_of (map h (take (suc k) vs)) ≡ Some (ys ++ (y ∷ []))
  all_step [] k a ys y at all here = nowhere at
  all_step (b ∷ vs) zero a ys y at all here =
      let one : List B = y ∷ [] in
      ap (option_and_then (λ (x : B). Some (x ∷ []))) (ap h (some_same b a at) ∙ here) ∙ ap (λ (zs : List B). Some (zs ++ one)) (some_same [] ys all)
  all_step (b ∷ vs) (suc k) a ys y at all here =
      let f = then_some (λ (x : B). option_map (λ xs. x ∷ xs) (all_of (map h (take k vs)))) (h b) ys all in
      let g = map_some (λ xs. f.0 ∷ xs) (all_of (map h (take k vs))) ys f.2 in
      let one : List B = y ∷ [] in
      ap (option_and_then (λ (x : B). option_map (λ xs. x ∷ xs) (all_of (map h (take (suc k) vs))))) f.1
      ∙ ap (option_map (λ xs. f.0 ∷ xs)) (all_step vs k a g.0 y at g.1 here)
      ∙ ap (λ (zs : List B). Some (zs ++ one)) g.2

  -- one lacks
  pub all_stops : (vs : List A) (k : ℕ) (a : A) → slice_get vs k ≡ Some a → h a ≡ None → all_of (map h vs) ≡ None
  all_stops [] k a at none = nowhere at
  all_stops (b ∷ vs) zero a at none = ap (option_and_then (λ (x : B). option_map (λ xs. x ∷ xs) (all_of (map h vs)))) (ap h (some_same b a at) ∙ none)
  all_stops (b ∷ vs) (suc k) a at none =
      ap (λ o. option_and_then (λ (x : B). option_map (λ xs. x ∷ xs) o) (h b)) (all_stops vs k a at none) ∙ none_then (h b)

-- where none lacks, all are there
all_there : (gs : List Given) (ps : List Param) → find (λ p. is_none (made_value gs p)) ps ≡ None → (row : Row) × (made_values ps gs ≡ Some row)
all_there gs [] e = ([], refl)
all_there gs (p ∷ ps) e =
    let lacks : Option Value → Option Param = λ v. cond (is_none v) (Some p) (find (λ q. is_none (made_value gs q)) ps) in
    by_option (made_value gs p)
    (λ is. nowhere (sym e ∙ ap lacks is))
    (λ v is.
    let rest = all_there gs ps (sym (ap lacks is) ∙ e) in (
      v ∷ rest.0,
      ap (option_and_then (λ (x : Value). option_map (λ (xs : Row). x ∷ xs) (made_values ps gs))) is ∙ ap (option_map (λ (xs : Row). v ∷ xs)) rest.1,
    ))

none_lacking : (o : Option Param) (q : Option (List ℕ)) → option_or (option_map (λ (p : Param). p.name) o) q ≡ None → o ≡ None
none_lacking None q e = refl
none_lacking (Some p) q e = nowhere (sym e)

pub made_where_fit : (ps : List Param) (gs : List Given) → misfit ps gs ≡ None → made_values ps gs ≡ None → ⊥
made_where_fit ps gs fit none =
    let there = all_there gs ps (none_lacking (find (λ p. is_none (made_value gs p)) ps) _ fit) in nowhere (sym none ∙ there.1)
