-- What a task of an accepted specification gives its items has the sorts of its parameters.
use Rattle.std.specs.Prelude.{◌≡◌, ◌&&◌, ℕ, ℤ, Bool, true, false, not, cond, List, [], ◌∷◌, get_or, map, Option, Some, None, IfSome, Ok, is_none, is_some, option_and_then, option_map, option_to_list, refl, slice_get}
use Rattle.std.specs.List.{All, list_all}
use Rattle.std.specs.Option.{option_map_or}
use Rattle.std.specs.Str.{bytes_eq}
use Rattle.std.proofs.Common.{sym, ◌∙◌, ap, subst}
use Rattle.std.proofs.lemmas.Bool.{and_parts}
use Rattle.std.proofs.lemmas.List.Elements.{All-cons, All-head, All-nil}
use Rattle.std.proofs.lemmas.List.Sums.{AllPass-from_list_all}
use Rattle.std.proofs.lemmas.Option.{slice_get-get_or}
use Rattle.std.proofs.lemmas.Slice.Eq.{bytes_eq-Decides}
use Rattle.yw_base.specs.Values.{are_few, is_short, may_hold}
use Rattle.yw_base.specs.declared.value.Sort.{Sort}
use Rattle.yw_base.specs.declared.value.Sort.TheVariants as sorts
use Rattle.yw_base.specs.declared.value.Value.{Value}
use Rattle.yw_base.specs.declared.value.Value.TheVariants as values
use Rattle.yw_expr.specs.Meaning.{val}
use Rattle.yw_expr.specs.Parsing.{Means}
use Rattle.yw_expr.specs.Tree.{Tree}
use Rattle.yw_spec.specs.declared.spec.Net.{Net}
use Rattle.yw_spec.specs.declared.task.Many.{Many}
use Rattle.yw_spec.specs.declared.task.Param.{Param}
use Rattle.yw_spec.specs.declared.task.Task.{Task}
use Rattle.yw_read.specs.declared.raw.RawIn.{RawIn}
use Rattle.yw_read.specs.declared.raw.RawNet.{RawNet}
use Rattle.yw_read.specs.declared.raw.RawSpec.{RawSpec}
use Rattle.yw_read.specs.declared.raw.RawTask.{RawTask}
use Rattle.yw_accept.specs.Built.{AreItems, IsParam, IsTask, MayBeItems, MayMean, var_of}
use Rattle.yw_accept.specs.Ready.{TaskIsReady}
use Rattle.yw_accept.specs.Scopes.{Is, ItemFits, Spells, element_of, is_given, is_item, vars_scope}
use Rattle.yw_accept.specs.Tasks.{bounds_fit, has_no_bounds, item_fits}
use Rattle.yw_read.specs.TaskKinds.{is_empty}
use Rattle.yw_said.proofs.Numbers.{one_called}
use Rattle.yw_said.proofs.OnceFacts.{InsApart}
use Rattle.yw_accepted.proofs.Expressions.{worth}
use Rattle.yw_accepted.proofs.Found.{all_at, zip_at}
use Rattle.yw_sound.specs.Sound.{HasSort, ParamIsSound}
use Rattle.yw_state.proofs.MapLemmas.{never, nowhere, some_same}
use Rattle.yw_state.proofs.Tests.{map_some}
use Rattle.yw_state.specs.Allowed.{element_param}
use Rattle.yw_state.specs.Passing.{elements_for}
use Rattle.yw_state.specs.Values.{Row}
use Rattle.yw_state.specs.Well.{vals_fit}

-- ---- elements of a list

-- as `elements_for` tells them
abbrev elements : Value → List Value
elements (values.Ints ns) = map values.Int ns
elements (values.Texts ts) = map values.Text ts
elements v = []

abbrev AreOfSort : Sort → List (Option Value) → Type 0
AreOfSort sort es = All (λ o. IfSome o (λ v. may_hold sort v ≡ true)) es

ints_fit : (ns : List ℤ) → AreOfSort sorts.Int (map Some (map values.Int ns))
ints_fit [] = All-nil (λ o. IfSome o (λ v. may_hold sorts.Int v ≡ true))
ints_fit (n ∷ ns) = All-cons (λ o. IfSome o (λ v. may_hold sorts.Int v ≡ true)) (Some (values.Int n)) (map Some (map values.Int ns)) refl (ints_fit ns)

texts_fit : (ts : List (List ℕ)) → list_all is_short ts ≡ true → AreOfSort sorts.Text (map Some (map values.Text ts))
texts_fit [] e = All-nil (λ o. IfSome o (λ v. may_hold sorts.Text v ≡ true))
texts_fit (t ∷ ts) e =
    let parts = and_parts (is_short t) (list_all is_short ts) e in
    All-cons (λ o. IfSome o (λ v. may_hold sorts.Text v ≡ true)) (Some (values.Text t)) (map Some (map values.Text ts)) parts.0 (texts_fit ts parts.1)

elements_fit : (v : Value) (sort wanted : Sort) → element_of sort ≡ Some wanted → may_hold sort v ≡ true → AreOfSort wanted (map Some (elements v))
elements_fit (values.Ints ns) sorts.Ints wanted e h = subst (λ s. AreOfSort s (map Some (map values.Int ns))) (some_same sorts.Int wanted e) (ints_fit ns)
elements_fit (values.Texts ts) sorts.Texts wanted e h = subst (λ s. AreOfSort s (map Some (map values.Text ts))) (some_same sorts.Text wanted e) (texts_fit ts (and_parts (are_few ts) (list_all is_short ts) h).1)
elements_fit (values.Ints ns) sort wanted e h = never h
elements_fit (values.Texts ts) sort wanted e h = never h
elements_fit v sort wanted e h = All-nil (λ o. IfSome o (λ u. may_hold wanted u ≡ true))

all_from_get : {A : Type 0} (P : A → Type 0) (xs : List A) → ((k : ℕ) (x : A) → slice_get xs k ≡ Some x → P x) → All P xs
all_from_get P xs each i d lt = each i (get_or xs i d) (slice_get-get_or xs i d lt)

-- ---- a task

module _ (raw : RawSpec) (rn : RawNet) (net : Net) (vars : net.vars ≡ map var_of rn.vars) (rt : RawTask) (t : Task) (is : IsTask raw rn rt t) (can : TaskIsReady raw rn rt) (given : list_all (is_given rt) rt.ins ≡ true) (apart : InsApart rt) where
  -- a text that is said means an expression, which has the sort of the parameter
  text_of : (said : Option (List ℕ)) (e : Tree) → MayMean (vars_scope rn) said (Some e) → (text : List ℕ) × (said ≡ Some text) × Means text (vars_scope rn) (Ok e)
  text_of (Some text) e means = (text, refl, means)
  text_of None e means = absurd means

  value_fits : (rp : RawIn) (p : Param) → IsParam rn rp p → All (Spells (vars_scope rn) (Is rp.sort)) (option_to_list rp.value) → (e : Tree) → p.value ≡ Some e → HasSort net.vars p.sort e
  value_fits rp p made spelt e value_is row v fit worth_is =
      let (text, said, means) = text_of rp.value e (subst (MayMean (vars_scope rn) rp.value) value_is made.value) in
      let spells = All-head (Spells (vars_scope rn) (Is rp.sort)) text [] (subst (λ o. All (Spells (vars_scope rn) (Is rp.sort)) (option_to_list o)) said spelt) in
      let (sort, wanted, holds) = worth rn text e means (Is rp.sort) spells row v (ap (λ xs. vals_fit xs row) (sym vars) ∙ fit) worth_is in
      ap (λ s. may_hold s v) (made.sort ∙ sym wanted) ∙ holds

  no_text : (rp : RawIn) (p : Param) → IsParam rn rp p → p.value ≡ None → rp.value ≡ None
  no_text rp p made none = by_said rp.value (subst (MayMean (vars_scope rn) rp.value) none made.value)
    where
      by_said : (said : Option (List ℕ)) → MayMean (vars_scope rn) said None → said ≡ None
      by_said None h = refl
      by_said (Some text) h = absurd h

  -- a parameter without a value is the item
  is_item_there : (rp : RawIn) → is_given rt rp ≡ true → rp.value ≡ None → is_item rt rp ≡ true
  is_item_there rp e none = by_test (is_item rt rp) (ap (λ o. cond (is_item rt rp) (is_none o) (is_some o)) (sym none) ∙ e)
    where
      by_test : (b : Bool) → cond b true false ≡ true → b ≡ true
      by_test true e = refl
      by_test false e = e

  named_item : (rp : RawIn) (item : Option (List ℕ)) → option_map_or (bytes_eq rp.name) item false ≡ true → item ≡ Some rp.name
  named_item rp None e = never e
  named_item rp (Some name) e = ap Some (sym ((bytes_eq-Decides rp.name name).0 e))

  -- there is an item only where the task has a list
  each_there : (name : List ℕ) → rt.item ≡ Some name → (each : Option (List ℕ)) → rt.each ≡ each → (many : Option Many) → MayBeItems rn rt each many → (m : Many) × (many ≡ Some m) × (text : List ℕ) × (rt.each ≡ Some text) × AreItems rn rt text m
  each_there name item (Some text) each (Some m) made = (m, refl, text, each, made)
  each_there name item (Some text) each None made = absurd made
  each_there name item None each (Some m) made = absurd made
  each_there name item None each None made =
      let bounds = ap (λ o. option_map_or (λ _. not (is_empty rt.kind) && bounds_fit rt && item_fits rt) o (has_no_bounds rt)) (sym each) ∙ can.items in
      let rest = (and_parts (is_none rt.item && is_none rt.min && is_none rt.max && is_none rt.threshold) (is_none rt.dynamic) bounds).0 in
      let rest = (and_parts (is_none rt.item && is_none rt.min && is_none rt.max) (is_none rt.threshold) rest).0 in
      let rest = (and_parts (is_none rt.item && is_none rt.min) (is_none rt.max) rest).0 in
      never (ap is_none (sym item) ∙ (and_parts (is_none rt.item) (is_none rt.min) rest).0)

  element_there : (k : ℕ) (rp : RawIn) (p : Param) → slice_get rt.ins k ≡ Some rp → slice_get t.ins k ≡ Some p → is_item rt rp ≡ true → element_param t ≡ Some p
  element_there k rp p raw_at at item =
      let item_is = named_item rp rt.item item in
      let (m, many_is, text, each, made) = each_there rp.name item_is rt.each refl t.many is.many in
      let (name, name_is, called) = made.item in
      let same : name ≡ rp.name = some_same name rp.name (sym name_is ∙ item_is) in
      let one : m.item ≡ k = one_called (λ (q : RawIn). q.name) rt.ins apart name m.item k called (ap (option_map (λ (q : RawIn). q.name)) raw_at ∙ ap Some (sym same)) in
      ap (option_and_then (λ (n : Many). slice_get t.ins n.item)) many_is ∙ ap (slice_get t.ins) one ∙ at

  param_sound : (k : ℕ) (p : Param) → slice_get t.ins k ≡ Some p → ParamIsSound net t p
  param_sound k p at =
      let (rp, raw_at, made) = zip_at (IsParam rn) rt.ins t.ins is.ins k p at in
      let is_given_here = all_at (λ (q : RawIn). is_given rt q ≡ true) rt.ins (AllPass-from_list_all (is_given rt) rt.ins given) k rp raw_at in
      record {
        value = value_fits rp p made (all_at (λ (q : RawIn). All (Spells (vars_scope rn) (Is q.sort)) (option_to_list q.value)) rt.ins can.expressions.given k rp raw_at);
        element = λ none. element_there k rp p raw_at at (is_item_there rp is_given_here (no_text rp p made none));
      }

  pub params_sound : All (ParamIsSound net t) t.ins
  params_sound = all_from_get (ParamIsSound net t) t.ins param_sound

  -- ---- the elements of the list

  listed : (m : Many) (text : List ℕ) → AreItems rn rt text m → rt.each ≡ Some text → (p : Param) → slice_get t.ins m.item ≡ Some p → (row : Row) (v : Value) → vals_fit net.vars row ≡ true → val m.each row ≡ Some v → AreOfSort p.sort (map Some (elements v))
  listed m text made each p at row v fit worth_is =
      let (rp, raw_at, param) = zip_at (IsParam rn) rt.ins t.ins is.ins m.item p at in
      let (name, name_is, called) = made.item in
      let same : rp.name ≡ name = some_same rp.name name (sym (ap (option_map (λ (q : RawIn). q.name)) raw_at) ∙ called) in
      let item : is_item rt rp ≡ true = ap (λ o. option_map_or (bytes_eq rp.name) o false) name_is ∙ (bytes_eq-Decides rp.name name).1 same in
      let Wanted : Sort → Type 0 = λ sort. element_of sort ≡ Some rp.sort in
      let spells = All-head (Spells (vars_scope rn) Wanted) text [] (subst (λ o. All (Spells (vars_scope rn) Wanted) (option_to_list o)) each (all_at (ItemFits rn rt) rt.ins can.parameters.item m.item rp raw_at item)) in
      let (sort, wanted, holds) = worth rn text m.each made.each_is Wanted spells row v (ap (λ xs. vals_fit xs row) (sym vars) ∙ fit) worth_is in
      elements_fit v sort p.sort (wanted ∙ ap Some (sym param.sort)) holds

  pub elements_sound : (p : Param) (row : Row) (es : List (Option Value)) → element_param t ≡ Some p → vals_fit net.vars row ≡ true → elements_for t.many row ≡ Some es → AreOfSort p.sort es
  elements_sound p row es element fit all = by_many rt.each refl t.many is.many element all
    where
      by_many : (each : Option (List ℕ)) → rt.each ≡ each → (many : Option Many) → MayBeItems rn rt each many → option_and_then (λ (m : Many). slice_get t.ins m.item) many ≡ Some p → elements_for many row ≡ Some es → AreOfSort p.sort es
      by_many each said None made element all = nowhere element
      by_many None said (Some m) made element all = absurd made
      by_many (Some text) said (Some m) made element all =
          let (v, worth_is, are) = map_some (λ (v : Value). map Some (elements v)) (val m.each row) es all in
          subst (AreOfSort p.sort) are (listed m text made said p element row v fit worth_is)
