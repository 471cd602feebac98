-- Values that are passed by name fit: what an item has made when its worklet is at its end, and what a net begins with.
use Rattle.std.specs.Prelude.{ℕ, ◌≡◌, Bool, true, false, cond, List, [], ◌∷◌, map, zip, filter, find, Option, Some, None, option_map, option_and_then, unwrap_or, refl, if◌then◌else◌}
use Rattle.std.specs.List.{All, list_all}
use Rattle.std.specs.Option.{option_or}
use Rattle.std.proofs.Common.{sym, ◌∙◌, ap, subst}
use Rattle.std.proofs.lemmas.Bool.{and_from, and_parts}
use Rattle.std.proofs.lemmas.List.Elements.{All-head, All-tail, All-weaker}
use Rattle.std.specs.Str.{bytes_eq}
use Rattle.yw_base.specs.Values.{has_sort, is_small, may_hold, zero_of}
use Rattle.yw_base.specs.declared.value.Sort.{Sort}
use Rattle.yw_base.specs.declared.value.Value.{Value}
use Rattle.yw_spec.specs.declared.spec.Var.{Var}
use Rattle.yw_spec.specs.declared.task.Param.{Param}
use Rattle.yw_sound.proofs.Giving.{zero_fits}
use Rattle.yw_sound.specs.Sound.{HasVar}
use Rattle.yw_state.proofs.MapLemmas.{never, by_test, by_option, nowhere, some_same}
use Rattle.yw_state.specs.ByName.{Valuation, given_named, made_by_child, made_by_worklet, made_of_given, of_sort, var_named}
use Rattle.yw_base.specs.Usages.{comes_in, goes_out}
use Rattle.yw_state.specs.Passing.{row_fits}
use Rattle.yw_state.specs.State.{NetAt, ItemAt}
use Rattle.yw_state.specs.Values.{Row}
use Rattle.yw_state.specs.Well.{ItemFits, NetFits, vals_fit}

module _ {A : Type 0} where
  abbrev AreSmall : List (A × Value) → Type 0
  AreSmall es = list_all (λ (e : A × Value). is_small e.1) es ≡ true

  filtered : (p : A × Value → Bool) (es : List (A × Value)) → AreSmall es → AreSmall (filter p es)
  filtered p [] small = refl
  filtered p (e ∷ es) small =
      let parts = and_parts (is_small e.1) _ small in
      elim (p e) as (λ b. AreSmall (cond b (e ∷ filter p es) (filter p es))) [
        | true ↦ and_from _ _ parts.0 (filtered p es parts.1)
        | false ↦ filtered p es parts.1
      ]

  -- a value that is found among small ones is small
  found_small : (p : A × Value → Bool) (es : List (A × Value)) → AreSmall es → (v : Value) → option_map (λ (e : A × Value). e.1) (find p es) ≡ Some v → is_small v ≡ true
  found_small p [] small v = λ e. nowhere e
  found_small p (x ∷ es) small v =
      let parts = and_parts (is_small x.1) _ small in
      elim (p x) as (λ b. option_map (λ (e : A × Value). e.1) (cond b (Some x) (find p es)) ≡ Some v → is_small v ≡ true) [
        | true ↦ λ e. ap is_small (sym (some_same x.1 v e)) ∙ parts.0
        | false ↦ found_small p es parts.1 v
      ]

vars_small : (xs : List Var) (vs : Row) → vals_fit xs vs ≡ true → AreSmall (zip xs vs)
vars_small [] vs fit = refl
vars_small (x ∷ xs) [] fit = refl
vars_small (x ∷ xs) (v ∷ vs) fit =
    let parts = and_parts (may_hold x.sort v) (vals_fit xs vs) fit in and_from _ _ (and_parts (has_sort v x.sort) (is_small v) parts.0).1 (vars_small xs vs parts.1)

params_small : (ps : List Param) (vs : Row) → row_fits ps vs ≡ true → AreSmall (zip ps vs)
params_small [] vs fit = refl
params_small (p ∷ ps) [] fit = refl
params_small (p ∷ ps) (v ∷ vs) fit =
    let parts = and_parts (may_hold p.sort v) (row_fits ps vs) fit in and_from _ _ (and_parts (has_sort v p.sort) (is_small v) parts.0).1 (params_small ps vs parts.1)

-- a value that is taken for its sort may stand there, if what is taken is small
of_sort_fits : (sort : Sort) (o : Option Value) → ((v : Value) → o ≡ Some v → is_small v ≡ true) → (w : Value) → option_and_then (of_sort sort) o ≡ Some w → may_hold sort w ≡ true
of_sort_fits sort None small w e = nowhere e
of_sort_fits sort (Some v) small w e = by_sort (has_sort v sort) refl e
  where
    by_sort : (b : Bool) → has_sort v sort ≡ b → (if b then Some v else None) ≡ Some w → may_hold sort w ≡ true
    by_sort true is found = let one = some_same v w found in subst (λ x. may_hold sort x ≡ true) one (and_from _ _ is (small v refl))
    by_sort false is found = nowhere found

first_fits : {P : Value → Type 0} (o p : Option Value) → ((w : Value) → o ≡ Some w → P w) → ((w : Value) → p ≡ Some w → P w) → (w : Value) → option_or o p ≡ Some w → P w
first_fits None p left right w e = right w e
first_fits (Some v) p left right w e = left w e

-- each parameter has the value that is found for it, or its zero
pub made_fits : (found : Param → Option Value) → ((p : Param) (w : Value) → found p ≡ Some w → may_hold p.sort w ≡ true) → (ps : List Param) → row_fits ps (map (λ (p : Param). unwrap_or (found p) (zero_of p.sort)) ps) ≡ true
made_fits found fit [] = refl
made_fits found fit (p ∷ ps) =
    and_from _ _
    (by_option (found p)
    (λ none. ap (λ o. may_hold p.sort (unwrap_or o (zero_of p.sort))) none ∙ zero_fits p.sort)
    (λ w some. ap (λ o. may_hold p.sort (unwrap_or o (zero_of p.sort))) some ∙ fit p w some))
    (made_fits found fit ps)

module _ (n : NetAt) (x : ItemAt) (net_fits : NetFits n) (item_fits : ItemFits x) where
  abbrev back : Var × Value → Bool
  back e = goes_out e.0.usage

  pub worklet_fits : row_fits x.of_task.task.outs (made_by_worklet n x) ≡ true
  worklet_fits =
      let vars = zip n.net.vars n.part.vals in
      let params = zip x.of_task.task.ins x.part.given in
      made_fits _ (λ p.
      first_fits {P = λ w. may_hold p.sort w ≡ true} _ _
      (of_sort_fits p.sort _ (found_small (λ (e : Var × Value). bytes_eq e.0.name p.name) (filter back vars) (filtered back vars (vars_small n.net.vars n.part.vals net_fits.vals))))
      (of_sort_fits p.sort _ (found_small (λ (e : Param × Value). bytes_eq e.0.name p.name) params (params_small x.of_task.task.ins x.part.given item_fits.given))))
      x.of_task.task.outs

-- ---- what a net begins with

-- a value that is found is small
abbrev pub GivesSmall : Valuation → Type 0
GivesSmall source = (name : List ℕ) (v : Value) → source name ≡ Some v → is_small v ≡ true

pub given_small : (x : ItemAt) → ItemFits x → GivesSmall (given_named x)
given_small x fits name v e = found_small (λ (e : Param × Value). bytes_eq e.0.name name) (zip x.of_task.task.ins x.part.given) (params_small x.of_task.task.ins x.part.given fits.given) v e

module _ (source : Valuation) (small : GivesSmall source) where
  first_value_fits : (x : Var) → may_hold x.sort x.init ≡ true → may_hold x.sort (if comes_in x.usage then unwrap_or (option_and_then (of_sort x.sort) (source x.name)) x.init else x.init) ≡ true
  first_value_fits x init =
      elim (comes_in x.usage) as (λ b. may_hold x.sort (if b then unwrap_or (option_and_then (of_sort x.sort) (source x.name)) x.init else x.init) ≡ true) [
        | true ↦
            by_option (option_and_then (of_sort x.sort) (source x.name))
            (λ none. ap (λ o. may_hold x.sort (unwrap_or o x.init)) none ∙ init)
            (λ w some. ap (λ o. may_hold x.sort (unwrap_or o x.init)) some ∙ of_sort_fits x.sort (source x.name) (small x.name) w some)
        | false ↦ init
      ]

  pub first_values_fit : (xs : List Var) → list_all (λ (x : Var). may_hold x.sort x.init) xs ≡ true
      → vals_fit xs (map (λ (x : Var). if comes_in x.usage then unwrap_or (option_and_then (of_sort x.sort) (source x.name)) x.init else x.init) xs) ≡ true
  first_values_fit [] right = refl
  first_values_fit (x ∷ xs) right =
      let parts = and_parts (may_hold x.sort x.init) (list_all (λ (x : Var). may_hold x.sort x.init) xs) right in
      and_from _ _ (first_value_fits x parts.0) (first_values_fit xs parts.1)

-- what an item counts as having made is of the sorts that its task makes
pub given_fits : (x : ItemAt) → ItemFits x → row_fits x.of_task.task.outs (made_of_given x) ≡ true
given_fits x fits = made_fits _ (λ p. of_sort_fits p.sort (given_named x p.name) (given_small x fits p.name)) x.of_task.task.outs

pub vars_small_found : (n : NetAt) → NetFits n → GivesSmall (var_named n)
vars_small_found n fits name v e = found_small (λ (e : Var × Value). bytes_eq e.0.name name) (zip n.net.vars n.part.vals) (vars_small n.net.vars n.part.vals fits.vals) v e

-- ---- what a child net has made

-- the value of a variable is of its sort
var_value_fits : (xs : List Var) (vs : Row) → vals_fit xs vs ≡ true → (name : List ℕ) (x : Var) → find (λ (y : Var). bytes_eq y.name name) xs ≡ Some x
    → (w : Value) → option_map (λ (e : Var × Value). e.1) (find (λ (e : Var × Value). bytes_eq e.0.name name) (zip xs vs)) ≡ Some w → may_hold x.sort w ≡ true
var_value_fits [] vs fit name x found w e = nowhere found
var_value_fits (y ∷ xs) [] fit name x found w e = never fit
var_value_fits (y ∷ xs) (v ∷ vs) fit name x found w e =
    let parts = and_parts (may_hold y.sort v) (vals_fit xs vs) fit in
    by_test (bytes_eq y.name name)
    (λ here.
    let var = some_same y x (ap (λ b. cond b (Some y) (find (λ (z : Var). bytes_eq z.name name) xs)) (sym here) ∙ found) in
    let value = some_same v w (ap (λ b. option_map (λ (e : Var × Value). e.1) (cond b (Some (y, v)) (find (λ (e : Var × Value). bytes_eq e.0.name name) (zip xs vs)))) (sym here) ∙ e) in
    ap (λ (z : Var). may_hold z.sort w) (sym var) ∙ ap (λ u. may_hold y.sort u) (sym value) ∙ parts.0)
    (λ no.
    var_value_fits xs vs parts.1 name x
    (ap (λ b. cond b (Some y) (find (λ (z : Var). bytes_eq z.name name) xs)) (sym no) ∙ found)
    w
    (ap (λ b. option_map (λ (e : Var × Value). e.1) (cond b (Some (y, v)) (find (λ (e : Var × Value). bytes_eq e.0.name name) (zip xs vs)))) (sym no) ∙ e))

made_each : (found : Param → Option Value) (ps : List Param) → All (λ (p : Param). (w : Value) → found p ≡ Some w → may_hold p.sort w ≡ true) ps → row_fits ps (map (λ (p : Param). unwrap_or (found p) (zero_of p.sort)) ps) ≡ true
made_each found [] fit = refl
made_each found (p ∷ ps) fit =
    let P : Param → Type 0 = λ p. (w : Value) → found p ≡ Some w → may_hold p.sort w ≡ true in
    and_from _ _
    (by_option (found p)
    (λ none. ap (λ o. may_hold p.sort (unwrap_or o (zero_of p.sort))) none ∙ zero_fits p.sort)
    (λ w some. ap (λ o. may_hold p.sort (unwrap_or o (zero_of p.sort))) some ∙ All-head P p ps fit w some))
    (made_each found ps (All-tail P p ps fit))

pub child_fits : (n : NetAt) (x : ItemAt) → NetFits n → All (HasVar n.net) x.of_task.task.outs → row_fits x.of_task.task.outs (made_by_child n x) ≡ true
child_fits n x fits has =
    made_each (λ p. var_named n p.name) x.of_task.task.outs
    (All-weaker (HasVar n.net) (λ (p : Param). (w : Value) → var_named n p.name ≡ Some w → may_hold p.sort w ≡ true) (λ p var w e. ap (λ sort. may_hold sort w) (sym var.2) ∙ var_value_fits n.net.vars n.part.vals fits.vals p.name var.0 var.1 w e) x.of_task.task.outs has)
