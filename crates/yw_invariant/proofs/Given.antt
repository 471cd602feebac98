-- What the items of a task are given is of the sorts of its parameters, where the task is sound.
use Rattle.std.specs.Prelude.{◌≡◌, true, List, [], ◌∷◌, map, Option, Some, None, IfSome, option_map, refl}
use Rattle.std.specs.List.{All}
use Rattle.std.proofs.Common.{sym, ◌∙◌, ap, subst}
use Rattle.std.proofs.lemmas.Bool.{and_from}
use Rattle.std.proofs.lemmas.List.Elements.{All-cons, All-head, All-nil, All-tail}
use Rattle.yw_base.specs.Values.{may_hold}
use Rattle.yw_base.specs.declared.value.Value.{Value}
use Rattle.yw_expr.specs.Meaning.{val}
use Rattle.yw_expr.specs.Tree.{Tree}
use Rattle.yw_spec.specs.declared.spec.Net.{Net}
use Rattle.yw_spec.specs.declared.spec.Spec.{Spec}
use Rattle.yw_spec.specs.declared.task.Param.{Param}
use Rattle.yw_spec.specs.declared.task.Task.{Task}
use Rattle.yw_sound.specs.Sound.{ParamIsSound, TaskIsSound}
use Rattle.yw_state.proofs.Tests.{map_some, some_same, then_some}
use Rattle.yw_state.specs.Allowed.{element_param}
use Rattle.yw_state.specs.Options.{all_of}
use Rattle.yw_state.specs.Passing.{elements_for, entry_values, given_values, row_fits}
use Rattle.yw_state.specs.Values.{Row}
use Rattle.yw_state.specs.Well.{vals_fit}

-- as `given_values` tells what one parameter is given
abbrev given_by : Row → Option Value → Option Tree → Option Value
given_by row element None = element
given_by row element (Some e) = val e row

module _ (net : Net) (t : Task) (row : Row) (right : vals_fit net.vars row ≡ true) where
  -- the element is of the sort of the parameter that has it
  abbrev pub ElementFits : Option Value → Type 0
  ElementFits element = (p : Param) → element_param t ≡ Some p → IfSome element (λ v. may_hold p.sort v ≡ true)

  one_fits : (element : Option Value) → ElementFits element → (p : Param) → ParamIsSound net t p → (o : Option Tree) → p.value ≡ o → (v : Value) → given_by row element o ≡ Some v → may_hold p.sort v ≡ true
  one_fits element fits p sound None is v e = subst (λ (w : Option Value). IfSome w (λ u. may_hold p.sort u ≡ true)) e (fits p (sound.element is))
  one_fits element fits p sound (Some tree) is v e = sound.value tree is row v right e

  given_fit : (element : Option Value) → ElementFits element → (ps : List Param) → All (ParamIsSound net t) ps → (given : Row) → given_values (record t { ins = ps }) row element ≡ Some given → row_fits ps given ≡ true
  given_fit element fits [] all given e = ap (row_fits []) (sym (some_same [] given e))
  given_fit element fits (p ∷ ps) all given e =
      let (v, here, rest) = then_some (λ (x : Value). option_map (λ (xs : Row). x ∷ xs) (given_values (record t { ins = ps }) row element)) (given_by row element p.value) given e in
      let (vs, there, made) = map_some (λ (xs : Row). v ∷ xs) (given_values (record t { ins = ps }) row element) given rest in
      ap (row_fits (p ∷ ps)) (sym made)
      ∙ and_from _ _ (one_fits element fits p (All-head (ParamIsSound net t) p ps all) p.value refl v here) (given_fit element fits ps (All-tail (ParamIsSound net t) p ps all) vs there)

  module _ (spec : Spec) (sound : TaskIsSound spec net t) where
    pub given_row_fits : (element : Option Value) → ElementFits element → (given : Row) → given_values t row element ≡ Some given → row_fits t.ins given ≡ true
    given_row_fits element fits given e = given_fit element fits t.ins sound.given given e

    rows_fit : (es : List (Option Value)) → ((p : Param) → element_param t ≡ Some p → All (λ o. IfSome o (λ v. may_hold p.sort v ≡ true)) es) → (rows : List Row) → all_of (map (given_values t row) es) ≡ Some rows → All (λ given. row_fits t.ins given ≡ true) rows
    rows_fit [] fits rows e = subst (λ rs. All (λ given. row_fits t.ins given ≡ true) rs) (some_same [] rows e) (All-nil (λ given. row_fits t.ins given ≡ true))
    rows_fit (o ∷ es) fits rows e =
        let Fits : Param → Option Value → Type 0 = λ p w. IfSome w (λ v. may_hold p.sort v ≡ true) in
        let (given, here, rest) = then_some (λ (x : Row). option_map (λ (xs : List Row). x ∷ xs) (all_of (map (given_values t row) es))) (given_values t row o) rows e in
        let (more, there, made) = map_some (λ (xs : List Row). given ∷ xs) (all_of (map (given_values t row) es)) rows rest in
        subst (λ rs. All (λ given. row_fits t.ins given ≡ true) rs) made
        (All-cons (λ given. row_fits t.ins given ≡ true) given more
        (given_row_fits o (λ p is. All-head (Fits p) o es (fits p is)) given here)
        (rows_fit es (λ p is. All-tail (Fits p) o es (fits p is)) more there))

    -- what an entry makes fits
    pub entry_fits : (rows : List Row) → entry_values t row ≡ Some rows → All (λ given. row_fits t.ins given ≡ true) rows
    entry_fits rows e =
        let (es, es_are, all) = then_some (λ es. all_of (map (given_values t row) es)) (elements_for t.many row) rows e in
        rows_fit es (λ p is. sound.elements p row es is right es_are) rows all
