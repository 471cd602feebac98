-- A text with a meaning has no other fault than want of memory.
use Rattle.std.proofs.Common.{◌≡◌, ℕ, List, Option, Some, None, All, option_to_list, Result, Ok, Err, refl, subst, sym, arith}
use Rattle.yw_expr.specs.declared.fault.ExprFault.{ExprFault}
use Rattle.yw_expr.specs.declared.fault.ExprFault.TheVariants.{Lex, Deep, Syntax, UnknownName, Types, Memory}
use Rattle.yw_expr.specs.declared.scope.Binding.{Binding}
use Rattle.yw_expr.specs.Parsing.{Means, Gives}
use Rattle.yw_expr.specs.Tree.{Tree}
use Rattle.yw_build.specs.Expressions.{HasMeaning}

memory_at : (fault : ExprFault) (e : Tree) → Gives (Err fault) (Ok e) → fault ≡ Memory
memory_at (Lex at) e h = cc
memory_at Deep e h = cc
memory_at (Syntax at) e h = cc
memory_at (UnknownName at) e h = cc
memory_at (Types at) e h = cc
memory_at Memory e h = refl

pub memory_alone : (scope : List Binding) (text said : List ℕ) (fault : ExprFault) → text ≡ said → HasMeaning scope said → ((r : Result Tree ExprFault) → Means text scope r → Gives (Err fault) r) → fault ≡ Memory
memory_alone scope text said fault same h only =
    let P : List ℕ → Type 0 = λ t. Means t scope (Ok h.0) in
    memory_at fault h.0 (only (Ok h.0) (subst P (sym same) h.1))

pub meant : (scope said : List Binding) (text other : Option (List ℕ)) → scope ≡ said → text ≡ other → All (HasMeaning said) (option_to_list other) → All (HasMeaning scope) (option_to_list text)
meant scope said text other e f h =
    let P : List Binding → Option (List ℕ) → Type 0 = λ s t. All (HasMeaning s) (option_to_list t) in
    subst (λ s. P s text) (sym e) (subst (λ t. P said t) (sym f) h)

pub the_one : (P : List ℕ → Type 0) (o : Option (List ℕ)) (x : List ℕ) → o ≡ Some x → All P (option_to_list o) → P x
the_one P None x e h = cc
the_one P (Some y) x e h = let same : y ≡ x = cc in subst P same (h 0 y (omega arith))
