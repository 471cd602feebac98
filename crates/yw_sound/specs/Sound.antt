-- What the specifications that texts say have, whatever is kept. Accepted texts say no others. What is asked of a net
-- is the paper's; the rest, and the limits, are our own.
use Rattle.std.specs.Prelude.{◌≡◌, ◌<◌, ◌≤◌, ◌&&◌, ℕ, Bool, true, not, List, [], ◌∷◌, ◌++◌, map, Option, Some, None, IfSome, Ok, find, is_some, slice_get}
use Rattle.std.specs.List.{All, list_all}
use Rattle.std.specs.Str.{bytes_eq}
use Rattle.yw_accept.specs.Graph.{most_levels}
use Rattle.yw_accept.specs.Scopes.{gathered, is_single}
use Rattle.yw_base.specs.Values.{may_hold, most_elements}
use Rattle.yw_base.specs.declared.value.Sort.{Sort}
use Rattle.yw_base.specs.declared.value.Value.{Value}
use Rattle.yw_expr.specs.Meaning.{val}
use Rattle.yw_expr.specs.Small.{HasSmallConstants}
use Rattle.yw_expr.specs.Sorts.{IsIn, tree_sort}
use Rattle.yw_expr.specs.Tree.{Tree}
use Rattle.yw_reach.specs.Walks.{WalkAlong}
use Rattle.yw_spec.specs.declared.spec.Net.{Net}
use Rattle.yw_spec.specs.declared.spec.Spec.{Spec}
use Rattle.yw_spec.specs.declared.spec.Var.{Var}
use Rattle.yw_spec.specs.declared.task.Assign.{Assign}
use Rattle.yw_spec.specs.declared.task.Param.{Param}
use Rattle.yw_spec.specs.declared.task.Task.{Task}
use Rattle.yw_state.specs.Allowed.{element_param}
use Rattle.yw_state.specs.Nets.{child_net, is_among, is_empty, net_called, task_called}
use Rattle.yw_state.specs.Passing.{elements_for}
use Rattle.yw_state.specs.Texts.{Reader}
use Rattle.yw_state.specs.Values.{Row}
use Rattle.yw_state.specs.Well.{item_limit, vals_fit}

-- each variable has a first value of its sort, within the limits
abbrev pub begins_right : Net → Bool
begins_right net = list_all (λ (x : Var). may_hold x.sort x.init) net.vars

-- the net has a variable of the parameter's name, and the first one has its sort
abbrev pub HasVar : Net → Param → Type 0
HasVar net p = (v : Var) × (find (λ (x : Var). bytes_eq x.name p.name) net.vars ≡ Some v) × (v.sort ≡ p.sort)

-- ---- what items are given

-- over values of these variables the expression has values of this sort alone, within the limits
abbrev pub HasSort : List Var → Sort → Tree → Type 0
HasSort vars sort e = (row : Row) (v : Value) → vals_fit vars row ≡ true → val e row ≡ Some v → may_hold sort v ≡ true

-- What is given has the parameter's sort. It is the element where it has no expression.
pub record ParamIsSound (net : Net) (t : Task) (p : Param) : Type 0 where
  pub value : (e : Tree) → p.value ≡ Some e → HasSort net.vars p.sort e
  pub element : p.value ≡ None → element_param t ≡ Some p

-- ---- what is assigned where a task is left

-- The expression speaks of values of these sorts, and has this sort.
pub record Gives (sorts : List Sort) (wanted : Sort) (e : Tree) : Type 0 where
  pub speaks : IsIn sorts e
  pub sort : tree_sort e ≡ Some wanted

-- of what the items made together, and after it of the net's variables
abbrev pub set_sorts : Net → Task → List Sort
set_sorts net t = map (λ (p : Param). gathered (is_some t.many) p.sort) t.outs ++ map (λ (x : Var). x.sort) net.vars

-- the assignment gives its variable a value of its sort
abbrev pub Assigns : Net → Task → Assign → Type 0
Assigns net t a = (x : Var) → slice_get net.vars a.var ≡ Some x → Gives (set_sorts net t) x.sort a.value

-- each constant of what is assigned is within the limits
abbrev pub HasSmallAssigns : Task → Type 0
HasSmallAssigns t = All (λ (a : Assign). HasSmallConstants a.value) t.set

-- no number comes twice
abbrev pub are_apart : List ℕ → Bool
are_apart [] = true
are_apart (c ∷ cs) = not (is_among cs c) && are_apart cs

-- ---- tasks and nets

-- A task with this number is found by its name; an empty one makes nothing, and the net of a composite one has what the task makes.
-- What its items are given has the sorts of its parameters, and so have the elements of its list. Several items are no more than a list
-- may have, and make what lists are of. An assignment gives its variable a value of its sort, and has no constant beyond the limits; and
-- the task goes on to no place twice.
pub record TaskIsSound (spec : Spec) (net : Net) (t : Task) : Type 0 where
  pub found : task_called net t.name ≡ Some t
  pub empty : is_empty t ≡ true → t.outs ≡ []
  pub made : (c : ℕ) (child : Net) → child_net t ≡ Some c → slice_get spec.nets c ≡ Some child → All (HasVar child) t.outs
  pub given : All (ParamIsSound net t) t.ins
  pub elements : (p : Param) (row : Row) (es : List (Option Value)) → element_param t ≡ Some p → vals_fit net.vars row ≡ true → elements_for t.many row ≡ Some es
      → All (λ o. IfSome o (λ v. may_hold p.sort v ≡ true)) es
  pub few : item_limit t.many ≤ most_elements
  pub gathers : is_some t.many ≡ true → list_all (λ (p : Param). is_single p.sort) t.outs ≡ true
  pub assigns : All (Assigns net t) t.set
  pub constants : HasSmallAssigns t
  pub apart : are_apart t.after ≡ true

-- the net with the second number is the child net of a task of the one with the first
abbrev pub HasChild : Spec → ℕ → ℕ → Type 0
HasChild spec k c =
    (net : Net) × (slice_get spec.nets k ≡ Some net) × (i : ℕ) × (t : Task) × (slice_get net.tasks i ≡ Some t) × (child_net t ≡ Some c)

-- A net with this number is found by its name, begins right, and isn't too far down from the top.
pub record NetIsSound (spec : Spec) (net : Net) : Type 0 where
  pub found : net_called spec net.name ≡ Some net
  pub begins : begins_right net ≡ true
  pub tasks : (i : ℕ) (t : Task) → slice_get net.tasks i ≡ Some t → TaskIsSound spec net t
  pub level : (k n : ℕ) → slice_get spec.nets k ≡ Some net → WalkAlong (HasChild spec) spec.top k n → n < most_levels

abbrev pub IsSound : Spec → Type 0
IsSound spec = (k : ℕ) (net : Net) → slice_get spec.nets k ≡ Some net → NetIsSound spec net

-- a reader of texts by which each specification is sound
abbrev pub ReadsSound : Reader → Type 0
ReadsSound reader = (text : List ℕ) (spec : Spec) → reader.spec text (Ok spec) → IsSound spec
