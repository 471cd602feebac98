-- What a text spells is what it is read as.
use Rattle.std.proofs.Common.{◌≡◌, ◌↔◌, ℕ, Bool, false, List, Option, Some, None, Result, Ok, Err, IsTrue, refl, sym, ap, ◌∙◌, subst}
use Rattle.std.proofs.lemmas.Option.{none-some, same_Some}
use Rattle.yw_base.specs.declared.value.Sort.{Sort}
use Rattle.yw_expr.specs.declared.fault.ExprFault.{ExprFault}
use Rattle.yw_expr.specs.declared.fault.ExprFault.TheVariants.{Lex, Deep, Syntax, UnknownName, Types, Memory}
use Rattle.yw_expr.specs.declared.scope.Binding.{Binding}
use Rattle.yw_expr.specs.Parsing.{Means, MeansOr, Gives}
use Rattle.yw_expr.specs.Sorts.{tree_sort}
use Rattle.yw_expr.specs.Tree.{Tree}
use Rattle.yw_accept.specs.Scopes.{Spells}
use Rattle.yw_check_sorts.specs.Wanted.{IsWanted, wanted_by}
use Rattle.yw_check_sorts.proofs.Deciding.{says_no}

pub spells_along : (text : List ℕ) (scope : List Binding) (W V : Sort → Type 0) → ((sort : Sort) → W sort → V sort) → Spells scope W text → Spells scope V text
spells_along text scope W V to (e, sort, means, sorted, wanted) = (e, sort, means, sorted, to sort wanted)

module _ (text : List ℕ) (scope : List Binding) (W : Sort → Type 0) where
  -- it is read as an expression of this sort
  pub spells_sort : (e : Tree) (sort : Sort) → MeansOr text scope (Ok e) → ((r : Result Tree ExprFault) → Means text scope r → Gives (Ok e) r) → tree_sort e ≡ Some sort → (b : Bool) → IsTrue b ↔ W sort → IsTrue b ↔ Spells scope W text
  spells_sort e sort means only sorted b decides = (
    λ t. (e, sort, means, sorted, decides.0 t),
    λ (f, other, means_other, sorted_other, wanted).
        let same : e ≡ f = cc (only (Ok f) means_other) in
        let is : other ≡ sort = same_Some other sort (sym sorted_other ∙ ap tree_sort (sym same) ∙ sorted) in
        decides.1 (subst W is wanted),
  )

  no_gift : (fault : ExprFault) (f : Tree) → (fault ≡ Memory → ⊥) → Gives (Err fault) (Ok f) → ⊥
  no_gift (Lex at) f not_memory g = cc g
  no_gift Deep f not_memory g = cc g
  no_gift (Syntax at) f not_memory g = cc g
  no_gift (UnknownName at) f not_memory g = cc g
  no_gift (Types at) f not_memory g = cc g
  no_gift Memory f not_memory g = not_memory refl

  -- it is read as none
  pub spells_none : (fault : ExprFault) → (fault ≡ Memory → ⊥) → ((r : Result Tree ExprFault) → Means text scope r → Gives (Err fault) r) → IsTrue false ↔ Spells scope W text
  spells_none fault not_memory only = says_no (λ (f, sort, means, sorted, wanted). no_gift fault f not_memory (only (Ok f) means))

-- ---- the sort that a variable's value is to have, if there is the variable
pub wanted_each : (o : Option Sort) (sort : Sort) → IsWanted (wanted_by o) sort → (wanted : Sort) → o ≡ Some wanted → sort ≡ wanted
wanted_each None sort h wanted e = absurd (none-some wanted e)
wanted_each (Some exact) sort h wanted e = h ∙ same_Some exact wanted e

pub each_wanted : (o : Option Sort) (sort : Sort) → ((wanted : Sort) → o ≡ Some wanted → sort ≡ wanted) → IsWanted (wanted_by o) sort
each_wanted None sort h = tt
each_wanted (Some exact) sort h = h exact refl
