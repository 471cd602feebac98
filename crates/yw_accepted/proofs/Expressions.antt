-- What a text of an accepted specification means, and what it gives over values of its variables.
use Rattle.std.specs.Prelude.{◌≡◌, ℕ, true, List, [], ◌∷◌, map, Some, Ok, refl}
use Rattle.std.proofs.Common.{◌∙◌, ap, subst}
use Rattle.yw_base.specs.Values.{may_hold}
use Rattle.yw_base.specs.declared.value.Sort.{Sort}
use Rattle.yw_base.specs.declared.value.Value.{Value}
use Rattle.yw_expr.proofs.Once.{only}
use Rattle.yw_expr.proofs.Scoped.{reads_scoped}
use Rattle.yw_expr.proofs.SmallConstants.{meant_small}
use Rattle.yw_expr.specs.Lexemes.{lexemes_of}
use Rattle.yw_expr.specs.Meaning.{val}
use Rattle.yw_expr.specs.Parsing.{Means, Reads}
use Rattle.yw_expr.specs.Scope.{sorts_of}
use Rattle.yw_expr.specs.Sorts.{IsIn, tree_sort}
use Rattle.yw_expr.specs.Tree.{Tree}
use Rattle.yw_expr.specs.declared.scope.Binding.{Binding}
use Rattle.yw_lex.proofs.TokenLemmas.{same_tokens}
use Rattle.yw_spec.specs.declared.spec.Var.{Var}
use Rattle.yw_read.specs.declared.raw.RawNet.{RawNet}
use Rattle.yw_read.specs.declared.raw.RawVar.{RawVar}
use Rattle.yw_accept.specs.Built.{var_of}
use Rattle.yw_accept.specs.Scopes.{Spells, vars_scope}
use Rattle.yw_sound.proofs.Giving.{gives_fits, holds, vals_hold}
use Rattle.yw_sound.specs.Sound.{Gives}
use Rattle.yw_state.specs.Values.{Row}
use Rattle.yw_state.specs.Well.{vals_fit}

-- ---- sorts in scope

-- the variables that are built have the sorts of those in scope
pub var_sorts : (vs : List RawVar) → map (λ (x : Var). x.sort) (map var_of vs) ≡ sorts_of (map (λ (v : RawVar). record { name = v.name; sort = v.sort }) vs)
var_sorts [] = refl
var_sorts (v ∷ vs) = ap (λ ss. v.sort ∷ ss) (var_sorts vs)

-- ---- what a text means

module _ (scope : List Binding) (text : List ℕ) where
  -- one expression at most, which speaks of what is in scope
  pub one_meaning : (e f : Tree) → Means text scope (Ok e) → Means text scope (Ok f) → e ≡ f
  one_meaning e f (ts, p, r) (us, q, s) =
      let same : us ≡ ts = same_tokens p q in
      let there : Reads text scope (lexemes_of text ts) (Ok f) = subst (λ vs. Reads text scope (lexemes_of text vs) (Ok f)) same s in
      let is : Ok e ≡ Ok f = only text scope (lexemes_of text ts) (Ok e) r (Ok f) there in
      cc

  pub speaks_in_scope : (e : Tree) → Means text scope (Ok e) → IsIn (sorts_of scope) e
  speaks_in_scope e (ts, are, reads) = reads_scoped text scope (lexemes_of text ts) (Ok e) reads

module _ (net : RawNet) (text : List ℕ) (e : Tree) (means : Means text (vars_scope net) (Ok e)) where
  -- where the text spells an expression of a sort that is wanted, its values over the net's have such a sort
  pub worth : (Wanted : Sort → Type 0) → Spells (vars_scope net) Wanted text → (row : Row) (v : Value) → vals_fit (map var_of net.vars) row ≡ true → val e row ≡ Some v → (sort : Sort) × Wanted sort × (may_hold sort v ≡ true)
  worth Wanted (f, sort, meant, sort_is, wanted) row v fit is =
      let scope = vars_scope net in
      let gives : Gives (sorts_of scope) sort e = record { speaks = speaks_in_scope scope text e means; sort = ap tree_sort (one_meaning scope text e f means meant) ∙ sort_is } in
      let here : holds (sorts_of scope) row ≡ true = subst (λ (ss : List Sort). holds ss row ≡ true) (var_sorts net.vars) (vals_hold (map var_of net.vars) row fit) in
      (sort, wanted, gives_fits (sorts_of scope) row sort e gives (meant_small text scope e means) here v is)
