-- The variables of a tree have their places and sorts in the scope.
use Rattle.std.proofs.Common.{◌≡◌, ℕ, true, false, List, Option, Some, None, Result, Ok, Err, refl, ap, ◌∙◌, subst}
use Rattle.std.specs.Prelude.{Bool, IfOk, IfSome, cond, map, slice_get, option_and_then, option_map}
use Rattle.std.specs.List.{list_all}
use Rattle.std.proofs.lemmas.Option.{slice_get-map}
use Rattle.yw_base.specs.declared.value.Value.TheVariants as values
use Rattle.yw_grammar.specs.declared.symbol.Lexeme.{Lexeme}
use Rattle.yw_grammar.specs.declared.symbol.Literal.{Literal}
use Rattle.yw_grammar.specs.declared.symbol.Leaf.{Leaf}
use Rattle.yw_grammar.specs.declared.symbol.Leaf.TheVariants.{Number, Text, Name, Truth}
use Rattle.yw_grammar.specs.Grammar.{Form, leaf, list, call, two, one, item}
use Rattle.yw_expr.specs.declared.fault.ExprFault.{ExprFault}
use Rattle.yw_expr.specs.declared.scope.Binding.{Binding}
use Rattle.yw_expr.specs.Parsing.{ReadsOr}
use Rattle.yw_expr.specs.Scope.{sorts_of, place_in, variable_at}
use Rattle.yw_expr.specs.Sorts.{IsIn}
use Rattle.yw_expr.specs.Tree.{Tree, constant, variable, function, unary, binary, element}
use Rattle.yw_expr.specs.Typing.{part, is_number, is_text, number_of, text_of, leaf_tree, tree_in}

module _ (text : List ℕ) (scope : List Binding) where
  abbrev Scoped : Option Tree → Type 0
  Scoped o = IfSome o (IsIn (sorts_of scope))

  binding_scoped : (k : ℕ) (o : Option Binding) → slice_get scope k ≡ o → Scoped (option_map (λ (b : Binding). variable k b.sort) o)
  binding_scoped k None h = tt
  binding_scoped k (Some b) h = slice_get-map (λ (c : Binding). c.sort) scope k ∙ ap (option_map (λ (c : Binding). c.sort)) h

  place_scoped : (o : Option ℕ) → Scoped (option_and_then (variable_at scope) o)
  place_scoped None = tt
  place_scoped (Some k) = binding_scoped k (slice_get scope k) refl

  leaf_scoped : (x : Leaf) → Scoped (leaf_tree text scope x)
  leaf_scoped (Number n) = tt
  leaf_scoped (Text s) = tt
  leaf_scoped (Name s) = place_scoped (place_in scope (part text s))
  leaf_scoped (Truth b) = tt

  texts_scoped : (b : Bool) (items : List Literal) → Scoped (cond b (Some (constant (values.Texts (map (text_of text) items)))) None)
  texts_scoped true items = tt
  texts_scoped false items = tt

  choice_scoped : (b c : Bool) (items : List Literal) → Scoped (cond b (Some (constant (values.Ints (map number_of items)))) (cond c (Some (constant (values.Texts (map (text_of text) items)))) None))
  choice_scoped true c items = tt
  choice_scoped false c items = texts_scoped c items

  mapped : (make : Tree → Tree) → ((t : Tree) → IsIn (sorts_of scope) t → IsIn (sorts_of scope) (make t)) → (o : Option Tree) → Scoped o → Scoped (option_map make o)
  mapped make step None h = tt
  mapped make step (Some t) h = step t h

  both_mapped : (make : Tree → Tree → Tree) → ((t u : Tree) → IsIn (sorts_of scope) t → IsIn (sorts_of scope) u → IsIn (sorts_of scope) (make t u)) → (o p : Option Tree) → Scoped o → Scoped p → Scoped (option_and_then (λ a. option_map (make a) p) o)
  both_mapped make step None p h k = tt
  both_mapped make step (Some t) None h k = tt
  both_mapped make step (Some t) (Some u) h k = step t u h k

  form_scoped : (form : Form) → Scoped (tree_in text scope form)
  form_scoped (leaf at x) = leaf_scoped x
  form_scoped (list at items) = choice_scoped (list_all is_number items) (list_all is_text items) items
  form_scoped (call f at x) = mapped (function f) (λ t h. h) (tree_in text scope x) (form_scoped x)
  form_scoped (one op at x) = mapped (unary op) (λ t h. h) (tree_in text scope x) (form_scoped x)
  form_scoped (two op at x y) = both_mapped (binary op) (λ t u h k. (h, k)) (tree_in text scope x) (tree_in text scope y) (form_scoped x) (form_scoped y)
  form_scoped (item at x k) = both_mapped element (λ t u h k. (h, k)) (tree_in text scope x) (tree_in text scope k) (form_scoped x) (form_scoped k)

  tree_scoped : (form : Form) (e : Tree) → tree_in text scope form ≡ Some e → IsIn (sorts_of scope) e
  tree_scoped form e h = subst (λ o. Scoped o) h (form_scoped form)

  pub reads_scoped : (ts : List Lexeme) (result : Result Tree ExprFault) → ReadsOr text scope ts result → IfOk result (IsIn (sorts_of scope))
  reads_scoped ts (Ok e) (form, named, sorted, is) = tree_scoped form e is
  reads_scoped ts (Err f) h = tt
