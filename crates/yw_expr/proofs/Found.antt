-- The walk finds the tree and its sort, or the place of the first form in post-order that has no sort.
use Rattle.std.proofs.Common.{◌≡◌, ℕ, List, [], ◌∷◌, ◌++◌, Option, Some, None, Ok, Err, refl, sym, ap, ◌∙◌, subst, append_assoc}
use Rattle.std.specs.Prelude.{find, is_none, option_and_then, option_map, cond}
use Rattle.std.specs.Option.{option_or}
use Rattle.std.proofs.lemmas.List.Folds.{find-append}
use Rattle.yw_base.specs.declared.value.Sort.{Sort}
use Rattle.yw_grammar.specs.Grammar.{Form, leaf, list, call, two, one, item}
use Rattle.yw_expr.specs.declared.fault.ExprFault.{ExprFault}
use Rattle.yw_expr.specs.declared.fault.ExprFault.TheVariants.{Lex, Deep, Syntax, UnknownName, Types, Memory}
use Rattle.yw_expr.specs.declared.scope.Binding.{Binding}
use Rattle.yw_expr.specs.Parsing.{IsTyped}
use Rattle.yw_expr.specs.Sorts.{tree_sort, function_sort, unary_sort, binary_sort, element_sort}
use Rattle.yw_expr.specs.Tree.{Tree, function, unary, binary, element}
use Rattle.yw_expr.specs.Typing.{tree_in, leaf_tree, list_tree, place_of, post, lacks_sort, unsorted_place}
use Rattle.yw_expr.specs.Walk.{Fails, Verdict, of_sort, of_tree, after_one, after_two, verdict}

-- the tree and its sort, and no part lacks one; or the first place
abbrev pub Found : List ℕ → List Binding → Form → Verdict → Type 0
Found text scope e (Ok (t, s)) = (tree_in text scope e ≡ Some t) × (tree_sort t ≡ Some s) × (find (lacks_sort text scope) (post e) ≡ None)
Found text scope e (Err at) = unsorted_place text scope e ≡ Some at

module _ (text : List ℕ) (scope : List Binding) where
  -- a search goes on behind what none passes
  behind : (front back : List Form) → find (lacks_sort text scope) front ≡ None → find (lacks_sort text scope) (front ++ back) ≡ find (lacks_sort text scope) back
  behind front back h = find-append (lacks_sort text scope) front back ∙ ap (λ o. option_or o (find (lacks_sort text scope) back)) h

  -- and ends at what is found
  within : (front back : List Form) (o : Option Form) (at : ℕ) → find (lacks_sort text scope) front ≡ o → option_map place_of o ≡ Some at → option_map place_of (find (lacks_sort text scope) (front ++ back)) ≡ Some at
  within front back None at h k = cc
  within front back (Some f) at h k = ap (option_map place_of) (find-append (lacks_sort text scope) front back ∙ ap (λ o. option_or o (find (lacks_sort text scope) back)) h) ∙ k

  last : (before : List Form) (e : Form) (o : Option Sort) → post e ≡ before ++ e ∷ [] → find (lacks_sort text scope) before ≡ None → option_and_then tree_sort (tree_in text scope e) ≡ o → find (lacks_sort text scope) (post e) ≡ cond (is_none o) (Some e) None
  last before e o eq all h = ap (find (lacks_sort text scope)) eq ∙ behind before (e ∷ []) all ∙ ap (λ p. cond (is_none p) (Some e) None) h

  no_tree : (before : List Form) (e : Form) → post e ≡ before ++ e ∷ [] → find (lacks_sort text scope) before ≡ None → tree_in text scope e ≡ None → unsorted_place text scope e ≡ Some (place_of e)
  no_tree before e eq all h = ap (option_map place_of) (last before e None eq all (ap (option_and_then tree_sort) h))

  -- the parts have sorts: the form has one too, or it is the first that has none
  ends : (before : List Form) (e : Form) (t : Tree) (o : Option Sort) → post e ≡ before ++ e ∷ [] → find (lacks_sort text scope) before ≡ None → tree_in text scope e ≡ Some t → tree_sort t ≡ o → Found text scope e (of_sort (place_of e) t o)
  ends before e t None eq all h k = ap (option_map place_of) (last before e None eq all (ap (option_and_then tree_sort) h ∙ k))
  ends before e t (Some s) eq all h k = (h, k, last before e (Some s) eq all (ap (option_and_then tree_sort) h ∙ k))

  alone : (e : Form) (o : Option Tree) → post e ≡ e ∷ [] → tree_in text scope e ≡ o → Found text scope e (of_tree (place_of e) o)
  alone e None eq h = no_tree [] e eq refl h
  alone e (Some t) eq h = ends [] e t (tree_sort t) eq refl h refl

  -- a fault in a part is the first one where all before that part have sorts
  earlier : (before after : List Form) (e x : Form) (at : ℕ) → post e ≡ before ++ (post x ++ after) → find (lacks_sort text scope) before ≡ None → unsorted_place text scope x ≡ Some at → unsorted_place text scope e ≡ Some at
  earlier before after e x at eq all h =
      ap (option_map place_of) (ap (find (lacks_sort text scope)) eq ∙ behind before (post x ++ after) all)
      ∙ within (post x) after (find (lacks_sort text scope) (post x)) at refl h

  one_part : (e x : Form) (table : Sort → Option Sort) (make : Tree → Tree) (r : Verdict) → post e ≡ post x ++ e ∷ [] → tree_in text scope e ≡ option_map make (tree_in text scope x) → ((t : Tree) → tree_sort (make t) ≡ option_and_then table (tree_sort t)) → Found text scope x r → Found text scope e (after_one (place_of e) table make r)
  one_part e x table make (Err p) eq h k found = earlier [] (e ∷ []) e x p eq refl found
  one_part e x table make (Ok (t, a)) eq h k (is, sorted, all) =
      ends (post x) e (make t) (table a) eq all (h ∙ ap (option_map make) is) (k t ∙ ap (option_and_then table) sorted)

  two_parts : (e x y : Form) (table : Sort → Sort → Option Sort) (make : Tree → Tree → Tree) (r q : Verdict) → post e ≡ post x ++ (post y ++ e ∷ []) → tree_in text scope e ≡ option_and_then (λ a. option_map (make a) (tree_in text scope y)) (tree_in text scope x) → ((t u : Tree) → tree_sort (make t u) ≡ option_and_then (λ a. option_and_then (table a) (tree_sort u)) (tree_sort t)) → Found text scope x r → Found text scope y q → Found text scope e (after_two (place_of e) table make r q)
  two_parts e x y table make (Err p) q eq h k found more = earlier [] (post y ++ e ∷ []) e x p eq refl found
  two_parts e x y table make (Ok (t, a)) (Err p) eq h k (is, sorted, all) more = earlier (post x) (e ∷ []) e y p eq all more
  two_parts e x y table make (Ok (t, a)) (Ok (u, b)) eq h k (is, sorted, all) (js, rest, none) =
      ends (post x ++ post y) e (make t u) (table a b) (eq ∙ sym (append_assoc (post x) (post y) (e ∷ []))) (behind (post x) (post y) all ∙ none)
      (h ∙ ap (option_and_then (λ c. option_map (make c) (tree_in text scope y))) is ∙ ap (option_map (make t)) js)
      (k t u ∙ ap (option_and_then (λ c. option_and_then (table c) (tree_sort u))) sorted ∙ ap (option_and_then (table a)) rest)

  pub found : (e : Form) → Found text scope e (verdict text scope e)
  found (leaf at x) = alone (leaf at x) (leaf_tree text scope x) refl refl
  found (list at items) = alone (list at items) (list_tree text items) refl refl
  found (call f at x) = one_part (call f at x) x (function_sort f) (function f) (verdict text scope x) refl refl (λ t. refl) (found x)
  found (one op at x) = one_part (one op at x) x (unary_sort op) (unary op) (verdict text scope x) refl refl (λ t. refl) (found x)
  found (two op at x y) = two_parts (two op at x y) x y (binary_sort op) (binary op) (verdict text scope x) (verdict text scope y) refl refl (λ t u. refl) (found x) (found y)
  found (item at x k) = two_parts (item at x k) x k element_sort element (verdict text scope x) (verdict text scope k) refl refl (λ t u. refl) (found x) (found k)

  pub typed_fault : (form : Form) (f : ExprFault) → Fails f (verdict text scope form) → IsTyped text scope form (Err f)
  typed_fault form Memory h = tt
  typed_fault form (Types at) h = subst (Found text scope form) h (found form)
  typed_fault form (Lex at) h = absurd h
  typed_fault form Deep h = absurd h
  typed_fault form (Syntax at) h = absurd h
  typed_fault form (UnknownName at) h = absurd h

  pub typed_sort : (form : Form) (t : Tree) (s : Sort) → verdict text scope form ≡ Ok (t, s) → tree_sort t ≡ Some s
  typed_sort form t s h = (subst (Found text scope form) h (found form)).1

  pub typed_tree : (form : Form) (t e : Tree) (s : Sort) → verdict text scope form ≡ Ok (t, s) → e ≡ t → IsTyped text scope form (Ok e)
  typed_tree form t e s h is =
      let (tree, sorted, none) = subst (Found text scope form) h (found form) in
      (ap (option_map place_of) none, tree ∙ ap (λ x. Some x) (sym is))
