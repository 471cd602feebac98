-- Texts that spell expressions.
use Rattle.std.specs.Prelude.{◌≡◌, ℕ, List, true, Ok, All, option_to_list}
use Rattle.yw_expr.specs.declared.scope.Binding.{Binding}
use Rattle.yw_expr.specs.Parsing.{Means}
use Rattle.yw_expr.specs.Tree.{Tree}
use Rattle.yw_read.specs.declared.raw.RawBranch.{RawBranch}
use Rattle.yw_read.specs.declared.raw.RawIn.{RawIn}
use Rattle.yw_read.specs.declared.raw.RawSet.{RawSet}
use Rattle.yw_read.specs.declared.raw.RawTask.{RawTask}
use Rattle.yw_read.specs.declared.raw.RawNet.{RawNet}
use Rattle.yw_accept.specs.Names.{is_usable}
use Rattle.yw_accept.specs.Nodes.{HasFlow}
use Rattle.yw_accept.specs.Scopes.{vars_scope, set_scope, names_var}

-- the text spells an expression over the scope
abbrev pub HasMeaning : List Binding → List ℕ → Type 0
HasMeaning scope text = (e : Tree) × Means text scope (Ok e)

-- the branch leads along a flow of the task, and its condition, where there is one, spells an expression
pub record BranchIsReady (net : RawNet) (task : RawTask) (branch : RawBranch) : Type 0 where
  pub flow : HasFlow net task.name branch.to
  pub when : All (HasMeaning (vars_scope net)) (option_to_list branch.when)

-- the value that is given, where there is one, spells an expression
pub record InIsReady (net : RawNet) (given : RawIn) : Type 0 where
  pub name : is_usable given.name ≡ true
  pub value : All (HasMeaning (vars_scope net)) (option_to_list given.value)

-- what is assigned spells an expression, and the variable is one of the net
pub record SetIsReady (net : RawNet) (task : RawTask) (assigned : RawSet) : Type 0 where
  pub var : names_var net assigned ≡ true
  pub value : HasMeaning (set_scope net task) assigned.value
