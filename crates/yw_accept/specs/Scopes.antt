-- The checks of expressions and of what is handed over: each expression has the sort that is wanted (9), and parameters,
-- variables and assignments agree (11). Both are our own.
use Rattle.std.specs.Prelude.{◌≡◌, ℕ, ◌&&◌, ◌||◌, ◌==◌, List, ◌++◌, length, map, Bool, true, false, not, Option, Some, None, is_none, is_some, Ok, All, find, option_map, option_to_list, option_and_then, cond}
use Rattle.std.specs.List.{list_any, list_all}
use Rattle.std.specs.Option.{option_map_or}
use Rattle.std.specs.Str.{bytes_eq}
use Rattle.yw_base.specs.Usages.{comes_in, goes_out}
use Rattle.yw_base.specs.declared.value.Sort.{Sort}
use Rattle.yw_base.specs.declared.value.Sort.TheVariants as sorts
use Rattle.yw_expr.specs.declared.scope.Binding.{Binding}
use Rattle.yw_expr.specs.Parsing.{Means}
use Rattle.yw_expr.specs.Sorts.{tree_sort}
use Rattle.yw_expr.specs.Tree.{Tree}
use Rattle.yw_read.specs.declared.raw.RawBranch.{RawBranch}
use Rattle.yw_read.specs.declared.raw.RawIn.{RawIn}
use Rattle.yw_read.specs.declared.raw.RawOut.{RawOut}
use Rattle.yw_read.specs.declared.raw.RawSet.{RawSet}
use Rattle.yw_read.specs.declared.raw.RawVar.{RawVar}
use Rattle.yw_read.specs.declared.raw.RawKind.{RawKind}
use Rattle.yw_read.specs.declared.raw.RawKind.TheVariants as kinds
use Rattle.yw_read.specs.declared.raw.RawTask.{RawTask}
use Rattle.yw_read.specs.declared.raw.RawNet.{RawNet}
use Rattle.yw_read.specs.declared.raw.RawSpec.{RawSpec}
use Rattle.yw_accept.specs.Faults.{in_net}
use Rattle.yw_accept.specs.Order.{Check, Demand, InOrder}

-- ---- what expressions speak of

-- the variables of the net, of which `each`, what is given and conditions speak
abbrev pub vars_scope : RawNet → List Binding
vars_scope net = map (λ (v : RawVar). record { name = v.name; sort = v.sort }) net.vars

-- what a task's items make together: with `each` a list
abbrev pub gathered : Bool → Sort → Sort
gathered true sorts.Int = sorts.Ints
gathered true sorts.Text = sorts.Texts
gathered many sort = sort

abbrev pub outs_scope : RawTask → List Binding
outs_scope task = map (λ (p : RawOut). record { name = p.name; sort = gathered (is_some task.each) p.sort }) task.outs

-- what items made, and behind it the variables: of two equal names the first one counts
abbrev pub set_scope : RawNet → RawTask → List Binding
set_scope net task = outs_scope task ++ vars_scope net

-- ---- 9: each expression parses in its scope and has the sort that is wanted

-- the text spells an expression over the scope, whose sort is as wanted
abbrev pub Spells : List Binding → (Sort → Type 0) → List ℕ → Type 0
Spells scope Wanted text = (e : Tree) × (sort : Sort) × Means text scope (Ok e) × (tree_sort e ≡ Some sort) × Wanted sort

abbrev pub Is : Sort → Sort → Type 0
Is wanted sort = sort ≡ wanted

-- the sort of the elements of a list
abbrev pub element_of : Sort → Option Sort
element_of sorts.Ints = Some sorts.Int
element_of sorts.Texts = Some sorts.Text
element_of sort = None

abbrev pub IsList : Sort → Type 0
IsList sort = is_some (element_of sort) ≡ true

abbrev pub sort_of_var : RawNet → List ℕ → Option Sort
sort_of_var net name = option_map (λ (v : RawVar). v.sort) (find (λ (v : RawVar). bytes_eq v.name name) net.vars)

-- that of the variable; any, where the net has no such variable
abbrev pub IsOfVar : RawNet → List ℕ → Sort → Type 0
IsOfVar net name sort = (wanted : Sort) → sort_of_var net name ≡ Some wanted → sort ≡ wanted

pub record ExpressionsFit (net : RawNet) (task : RawTask) : Type 0 where
  pub each : All (Spells (vars_scope net) IsList) (option_to_list task.each)
  pub given : All (λ (p : RawIn). All (Spells (vars_scope net) (Is p.sort)) (option_to_list p.value)) task.ins
  pub conditions : All (λ (b : RawBranch). All (Spells (vars_scope net) (Is sorts.Bool)) (option_to_list b.when)) task.branch
  pub assigned : All (λ (s : RawSet). Spells (set_scope net task) (IsOfVar net s.var) s.value) task.set

unfoldable pub SortsFit : RawSpec → Check
SortsFit raw =
    InOrder (λ (net : RawNet). InOrder (λ (task : RawTask). Demand (ExpressionsFit net task) (in_net 9 net.name task.name)) net.task) raw.net

-- ---- 11: a value is given exactly where no element is; a name in `ins` and `outs` has one sort; an empty task hands
-- nothing over; with `each` what is made are ints or texts; a composite task hands over what its net takes and gives;
-- `set` names variables of the net

abbrev pub is_same_sort : Sort → Sort → Bool
is_same_sort sorts.Bool sorts.Bool = true
is_same_sort sorts.Int sorts.Int = true
is_same_sort sorts.Text sorts.Text = true
is_same_sort sorts.Ints sorts.Ints = true
is_same_sort sorts.Texts sorts.Texts = true
is_same_sort one two = false

abbrev pub is_item : RawTask → RawIn → Bool
is_item task p = option_map_or (bytes_eq p.name) task.item false

-- `value` is missing exactly for the item
abbrev pub is_given : RawTask → RawIn → Bool
is_given task p = cond (is_item task p) (is_none p.value) (is_some p.value)

-- a parameter of the same name on the other side has the same sort
abbrev pub agrees : List RawOut → RawIn → Bool
agrees outs p = list_all (λ (q : RawOut). not (bytes_eq p.name q.name) || is_same_sort p.sort q.sort) outs

abbrev pub is_single : Sort → Bool
is_single sorts.Int = true
is_single sorts.Text = true
is_single sort = false

abbrev pub outs_fit : RawTask → Bool
outs_fit task = option_map_or (λ _. list_all (λ (q : RawOut). is_single q.sort) task.outs) task.each true

abbrev pub is_in_var : RawIn → RawVar → Bool
is_in_var p v = comes_in v.usage && bytes_eq p.name v.name && is_same_sort p.sort v.sort

abbrev pub is_out_var : RawOut → RawVar → Bool
is_out_var q v = goes_out v.usage && bytes_eq q.name v.name && is_same_sort q.sort v.sort

-- `ins` are exactly the variables that the net takes, and `outs` are among those that it gives
abbrev pub fits_child : RawTask → RawNet → Bool
fits_child task net =
    list_all (λ (p : RawIn). list_any (is_in_var p) net.vars) task.ins
    && list_all (λ (v : RawVar). not (comes_in v.usage) || list_any (λ (p : RawIn). is_in_var p v) task.ins) net.vars
    && list_all (λ (q : RawOut). list_any (is_out_var q) net.vars) task.outs

abbrev pub net_named : RawSpec → List ℕ → Option RawNet
net_named raw name = find (λ (net : RawNet). bytes_eq net.name name) raw.net

abbrev pub hands_over : RawSpec → RawTask → RawKind → Bool
hands_over raw task kinds.Atomic = true
hands_over raw task kinds.Empty = is_none task.role && length task.ins == 0 && length task.outs == 0
hands_over raw task kinds.Sub = option_map_or (fits_child task) (option_and_then (net_named raw) task.net) false

abbrev pub names_var : RawNet → RawSet → Bool
names_var net s = list_any (λ (v : RawVar). bytes_eq s.var v.name) net.vars

abbrev pub parameters_fit : RawSpec → RawNet → RawTask → Bool
parameters_fit raw net task =
    list_all (is_given task) task.ins && list_all (agrees task.outs) task.ins && outs_fit task
    && hands_over raw task task.kind && list_all (names_var net) task.set

-- the item's sort is that of the elements of `each`
abbrev pub ItemFits : RawNet → RawTask → RawIn → Type 0
ItemFits net task p = is_item task p ≡ true → All (Spells (vars_scope net) (λ sort. element_of sort ≡ Some p.sort)) (option_to_list task.each)

pub record ParametersFit (raw : RawSpec) (net : RawNet) (task : RawTask) : Type 0 where
  pub fit : parameters_fit raw net task ≡ true
  pub item : All (ItemFits net task) task.ins

unfoldable pub ParametersAgree : RawSpec → Check
ParametersAgree raw =
    InOrder (λ (net : RawNet). InOrder (λ (task : RawTask). Demand (ParametersFit raw net task) (in_net 11 net.name task.name)) net.task) raw.net
