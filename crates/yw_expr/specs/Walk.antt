-- The walk over a form that finds its tree and sort, or the first place where the table lacks one.
use Rattle.std.specs.Prelude.{ℕ, ◌≡◌, List, Option, Some, None, Result, Ok, Err}
use Rattle.yw_base.specs.declared.value.Sort.{Sort}
use Rattle.yw_grammar.specs.Grammar.{Form, leaf, list, call, two, one, item}
use Rattle.yw_expr.specs.declared.fault.ExprFault.{ExprFault}
use Rattle.yw_expr.specs.declared.fault.ExprFault.TheVariants as faults
use Rattle.yw_expr.specs.declared.scope.Binding.{Binding}
use Rattle.yw_expr.specs.declared.typing.Typed.{Typed}
use Rattle.yw_expr.specs.Node.{tree_of}
use Rattle.yw_expr.specs.Sorts.{tree_sort, function_sort, unary_sort, binary_sort, element_sort}
use Rattle.yw_expr.specs.Tree.{Tree, function, unary, binary, element}
use Rattle.yw_expr.specs.Typing.{leaf_tree, list_tree}

abbrev pub Verdict : Type 0
Verdict = Result (Tree × Sort) ℕ

abbrev pub of_sort : ℕ → Tree → Option Sort → Verdict
of_sort at t None = Err at
of_sort at t (Some s) = Ok (t, s)

abbrev pub of_tree : ℕ → Option Tree → Verdict
of_tree at None = Err at
of_tree at (Some t) = of_sort at t (tree_sort t)

abbrev pub after_one : ℕ → (Sort → Option Sort) → (Tree → Tree) → Verdict → Verdict
after_one at table make (Err p) = Err p
after_one at table make (Ok (t, a)) = of_sort at (make t) (table a)

abbrev pub after_two : ℕ → (Sort → Sort → Option Sort) → (Tree → Tree → Tree) → Verdict → Verdict → Verdict
after_two at table make (Err p) right = Err p
after_two at table make (Ok (t, a)) right = after_one at (table a) (make t) right

abbrev pub verdict : List ℕ → List Binding → Form → Verdict
verdict text scope (leaf at x) = of_tree at (leaf_tree text scope x)
verdict text scope (list at items) = of_tree at (list_tree text items)
verdict text scope (call f at x) = after_one at (function_sort f) (function f) (verdict text scope x)
verdict text scope (one op at x) = after_one at (unary_sort op) (unary op) (verdict text scope x)
verdict text scope (two op at x y) = after_two at (binary_sort op) (binary op) (verdict text scope x) (verdict text scope y)
verdict text scope (item at x k) = after_two at element_sort element (verdict text scope x) (verdict text scope k)

abbrev pub Fails : ExprFault → Verdict → Type 0
Fails faults.Memory v = Unit {0}
Fails (faults.Types at) v = v ≡ Err at
Fails f v = ⊥

-- this is what the walk finds, unless memory ran out
abbrev pub Finds : Result Typed ExprFault → Verdict → Type 0
Finds (Ok t) v = v ≡ Ok (tree_of t.node, t.sort)
Finds (Err f) v = Fails f v
