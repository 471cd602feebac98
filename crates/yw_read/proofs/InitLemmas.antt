-- A variable begins with a value of its sort, within the limits.
use Rattle.std.proofs.Common.{◌≡◌, ℕ, ◌+◌, List, [], Bool, true, false, Option, Some, None, option_map, option_and_then, Result, Ok, Err, ok_or, IfSome, IfOk, cond, codes, refl, subst}
use Rattle.std.proofs.lemmas.Bool.{and_from}
use Rattle.std.proofs.lemmas.List.Elements.{All-from_recursion}
use Rattle.std.specs.List.{All, AllByRecursion}
use Rattle.toml.specs.Data.{Data, Items, no_items, item, Members, get_member, as_table, as_array, as_bool, as_integer, as_str}
use Rattle.yw_base.specs.declared.value.Sort.{Sort}
use Rattle.yw_base.specs.declared.value.Sort.TheVariants as sorts
use Rattle.yw_base.specs.declared.value.Value.{Value}
use Rattle.yw_base.specs.declared.value.Value.TheVariants as values
use Rattle.yw_base.specs.Values.{has_sort, is_small}
use Rattle.yw_read.specs.declared.raw.RawNet.{RawNet}
use Rattle.yw_read.specs.declared.raw.RawSpec.{RawSpec}
use Rattle.yw_read.specs.Inits.{IsInit, HasInit, HasInits}
use Rattle.yw_read.specs.declared.raw.ReadFault.{ReadFault}
use Rattle.yw_read.specs.Keys.{◌>>=◌, Gives, at_key, required, value_or, optional, element, elements, below, place, tables_in, tables_held, optional_tables, required_tables, unless, unknown_key}
use Rattle.yw_read.specs.Kinds.{any_value, flows_of, if_small, list_of, one_of, small_value, sort_words, texts_of, usage_words}
use Rattle.yw_read.specs.Tables.{var_keys, var_table, task_table, net_keys, net_table, spec_keys, spec_table}
use Rattle.yw_base.specs.declared.usage.Usage.TheVariants as usages

-- of what is read in the end, after what was read before
bind_any : {A B : Type 0} (P : B → Type 0) (said : Result A (List ℕ)) (f : A → Result B (List ℕ)) → ((x : A) → IfOk (f x) P) → IfOk (said >>= f) P
bind_any P (Ok x) f h = h x
bind_any P (Err path) f h = tt

-- the same, with a fact on what was read before
bind_with : {A B : Type 0} (Q : A → Type 0) (P : B → Type 0) (said : Result A (List ℕ)) (f : A → Result B (List ℕ)) → IfOk said Q → ((x : A) → Q x → IfOk (f x) P) → IfOk (said >>= f) P
bind_with Q P (Ok x) f q h = h x q
bind_with Q P (Err path) f q h = tt

-- of what is said where no other key stands
alone : {A : Type 0} (P : A → Type 0) (x : A) (o : Option (List ℕ)) → P x → IfOk (unless x o) P
alone P x None h = h
alone P x (Some key) h = tt

mapped : {A : Type 0} (wrap : A → Value) (sort : Sort) (o : Option A) → ((x : A) → has_sort (wrap x) sort ≡ true) → IfSome (option_map wrap o) (λ value. has_sort value sort ≡ true)
mapped wrap sort None h = tt
mapped wrap sort (Some x) h = h x

-- a value of a sort has it
any_value-sort : (sort : Sort) (d : Data) → IfSome (any_value sort d) (λ value. has_sort value sort ≡ true)
any_value-sort sorts.Bool d = mapped values.Bool sorts.Bool (as_bool d) (λ _. refl)
any_value-sort sorts.Int d = mapped values.Int sorts.Int (as_integer d) (λ _. refl)
any_value-sort sorts.Text d = mapped values.Text sorts.Text (as_str d) (λ _. refl)
any_value-sort sorts.Ints d = mapped values.Ints sorts.Ints (list_of as_integer d) (λ _. refl)
any_value-sort sorts.Texts d = mapped values.Texts sorts.Texts (list_of as_str d) (λ _. refl)

kept_by : (sort : Sort) (value : Value) (small : Bool) → is_small value ≡ small → has_sort value sort ≡ true → IfSome (cond small (Some value) None) (IsInit sort)
kept_by sort value true e h = and_from _ _ h e
kept_by sort value false e h = tt

kept : (sort : Sort) (o : Option Value) → IfSome o (λ value. has_sort value sort ≡ true) → IfSome (option_and_then if_small o) (IsInit sort)
kept sort None h = tt
kept sort (Some value) h = kept_by sort value (is_small value) refl h

small_value-init : (sort : Sort) (d : Data) → IfSome (small_value sort d) (IsInit sort)
small_value-init sort d = kept sort (any_value sort d) (any_value-sort sort d)

-- what an optional key says is of its kind
held_kind : {A : Type 0} (P : A → Type 0) (key : List ℕ) (o : Option A) → IfSome o P → IfOk (ok_or (option_map Some o) key) (λ x. IfSome x P)
held_kind P key None h = tt
held_kind P key (Some found) h = h

optional_kind : {A : Type 0} (kind : Data → Option A) (P : A → Type 0) (key : List ℕ) (at : Option Data) → ((d : Data) → IfSome (kind d) P) → IfOk (at_key (λ d. option_map Some (kind d)) (Ok None) key at) (λ x. IfSome x P)
optional_kind kind P key None h = tt
optional_kind kind P key (Some d) h = held_kind P key (kind d) (h d)

-- ---- variables
var_table-init : (t : Members) → IfOk (var_table t) HasInit
unfolding var_table
var_table-init t =
    bind_any HasInit (required as_str (codes "name") t) _ (λ name.
    bind_any HasInit (required (one_of sort_words) (codes "sort") t) _ (λ sort.
    bind_any HasInit (value_or (one_of usage_words) usages.Local (codes "use") t) _ (λ usage.
    bind_with (λ init. IfSome init (IsInit sort)) HasInit (optional (small_value sort) (codes "init") t) _ (optional_kind (small_value sort) (IsInit sort) (codes "init") (get_member (codes "init") t) (small_value-init sort)) (λ init is.
    alone HasInit (record { name = name; sort = sort; usage = usage; init = init }) (unknown_key var_keys t) is))))

-- ---- lists of tables
module _ {A : Type 0} (shape : Members → Result A (List ℕ)) (P : A → Type 0) (each : (t : Members) → IfOk (shape t) P) where
  below-all : (at : List ℕ) (said : Result A (List ℕ)) → IfOk said P → IfOk (below at said) P
  below-all at (Ok x) h = h
  below-all at (Err path) h = tt

  element-all : (at : List ℕ) (o : Option Members) → IfOk (element shape at o) P
  element-all at None = tt
  element-all at (Some t) = below-all at (shape t) (each t)

  elements-all : (key : List ℕ) (k : ℕ) (ds : Items) → IfOk (elements shape key k ds) (AllByRecursion P)
  elements-all key k no_items = tt
  elements-all key k (item d ds) =
      bind_with P (AllByRecursion P) (element shape (place key k) (as_table d)) _ (element-all (place key k) (as_table d)) (λ x is.
      bind_with (AllByRecursion P) (AllByRecursion P) (elements shape key (k + 1) ds) _ (elements-all key (k + 1) ds) (λ xs are. (is, are)))

  all_items : (said : Result (List A) (List ℕ)) → IfOk said (AllByRecursion P) → IfOk said (All P)
  all_items (Ok xs) h = All-from_recursion P xs h
  all_items (Err path) h = tt

  tables_in-all : (key : List ℕ) (o : Option Items) → IfOk (tables_in shape key o) (All P)
  tables_in-all key None = tt
  tables_in-all key (Some ds) = all_items (elements shape key 0 ds) (elements-all key 0 ds)

  required-all : (key : List ℕ) (o : Option Data) → IfOk (tables_held shape (Err key) key o) (All P)
  required-all key None = tt
  required-all key (Some d) = tables_in-all key (as_array d)

  optional-all : (key : List ℕ) (o : Option Data) → IfOk (tables_held shape (Ok []) key o) (All P)
  optional-all key None = All-from_recursion P [] tt
  optional-all key (Some d) = tables_in-all key (as_array d)

-- ---- nets and the specification
abbrev NetHasInits : RawNet → Type 0
NetHasInits net = All HasInit net.vars

net_table-inits : (t : Members) → IfOk (net_table t) NetHasInits
unfolding net_table
net_table-inits t =
    bind_any NetHasInits (required as_str (codes "name") t) _ (λ name.
    bind_any NetHasInits (required as_str (codes "input") t) _ (λ input.
    bind_any NetHasInits (required as_str (codes "output") t) _ (λ output.
    bind_any NetHasInits (value_or texts_of [] (codes "conditions") t) _ (λ conditions.
    bind_with (All HasInit) NetHasInits (optional_tables var_table (codes "vars") t) _ (optional-all var_table HasInit var_table-init (codes "vars") (get_member (codes "vars") t)) (λ vars are.
    bind_any NetHasInits (required flows_of (codes "flows") t) _ (λ flows.
    bind_any NetHasInits (optional_tables task_table (codes "task") t) _ (λ task.
    alone NetHasInits (record { name = name; input = input; output = output; conditions = conditions; vars = vars; flows = flows; task = task }) (unknown_key net_keys t) are)))))))

spec_table-inits : (t : Members) → IfOk (spec_table t) HasInits
unfolding spec_table
spec_table-inits t =
    bind_any HasInits (required as_str (codes "name") t) _ (λ name.
    bind_any HasInits (required as_str (codes "top") t) _ (λ top.
    bind_with (All NetHasInits) HasInits (required_tables net_table (codes "net") t) _ (required-all net_table NetHasInits net_table-inits (codes "net") (get_member (codes "net") t)) (λ net are.
    alone HasInits (record { name = name; top = top; net = net }) (unknown_key spec_keys t) are)))

pub given-inits : (result : Result RawSpec ReadFault) (t : Members) → Gives result (spec_table t) → IfOk result HasInits
given-inits (Ok spec) t e = subst (λ (said : Result RawSpec (List ℕ)). IfOk said HasInits) e (spec_table-inits t)
given-inits (Err fault) t e = tt
