-- The tests of parameters, with the names at their front.
use Rattle.std.proofs.Common.{◌≡◌, ◌↔◌, ℕ, ◌&&◌, ◌||◌, Bool, true, false, not, List, map, All, IsTrue, bytes_eq, refl, sym, ap, ◌∙◌, subst}
use Rattle.std.specs.Cmp.Lexicographic.{nat_list_eq_equiv}
use Rattle.std.specs.List.{list_any}
use Rattle.yw_expr.specs.declared.scope.Binding.{Binding}
use Rattle.yw_read.specs.declared.raw.RawIn.{RawIn}
use Rattle.yw_read.specs.declared.raw.RawOut.{RawOut}
use Rattle.yw_read.specs.declared.raw.RawSet.{RawSet}
use Rattle.yw_read.specs.declared.raw.RawVar.{RawVar}
use Rattle.yw_read.specs.declared.raw.RawTask.{RawTask}
use Rattle.yw_read.specs.declared.raw.RawNet.{RawNet}
use Rattle.yw_read.specs.declared.raw.RawSpec.{RawSpec}
use Rattle.yw_accept.specs.Nodes.{is_name_among}
use Rattle.yw_base.specs.Usages.{comes_in, goes_out}
use Rattle.yw_accept.specs.Scopes.{ParametersFit, is_in_var, is_out_var, is_same_sort, names_var, parameters_fit, vars_scope}
use Rattle.yw_check_sorts.specs.Agreeing.{ItemFitsOver}
use Rattle.yw_check_sorts.proofs.Deciding.{decides_along}
use Rattle.yw_accept.proofs.Lists.{list_any_of_map}

swapped : (t b s : Bool) → (t && b && s) ≡ (b && (t && s))
swapped true true s = refl
swapped true false s = refl
swapped false true s = refl
swapped false false s = refl

turned : (a b c : List ℕ) → c ≡ a → bytes_eq a b ≡ bytes_eq b c
turned a b c e = nat_list_eq_equiv.symm a b ∙ ap (bytes_eq b) (sym e)

-- of a parameter and each variable
pub in_var : (p : RawIn) (name : List ℕ) → name ≡ p.name → (v : RawVar) → is_in_var p v ≡ (bytes_eq v.name name && (comes_in v.usage && is_same_sort p.sort v.sort))
in_var p name e v =
    ap (λ b. comes_in v.usage && b && is_same_sort p.sort v.sort) (turned p.name v.name name e)
    ∙ swapped (comes_in v.usage) (bytes_eq v.name name) (is_same_sort p.sort v.sort)

pub out_var : (q : RawOut) (name : List ℕ) → name ≡ q.name → (v : RawVar) → is_out_var q v ≡ (bytes_eq v.name name && (goes_out v.usage && is_same_sort q.sort v.sort))
out_var q name e v =
    ap (λ b. goes_out v.usage && b && is_same_sort q.sort v.sort) (turned q.name v.name name e)
    ∙ swapped (goes_out v.usage) (bytes_eq v.name name) (is_same_sort q.sort v.sort)

-- of a variable and each parameter
pub var_in : (v : RawVar) (name : List ℕ) → name ≡ v.name → (p : RawIn) → is_in_var p v ≡ (bytes_eq p.name name && (comes_in v.usage && is_same_sort p.sort v.sort))
var_in v name e p =
    ap (λ (n : List ℕ). comes_in v.usage && bytes_eq p.name n && is_same_sort p.sort v.sort) (sym e)
    ∙ swapped (comes_in v.usage) (bytes_eq p.name name) (is_same_sort p.sort v.sort)

pub both_taken : (t s b : Bool) → t ≡ true → b ≡ s → b ≡ (t && s)
both_taken t s b e h = h ∙ ap (λ c. c && s) (sym e)

pub where_taken : (t x b : Bool) → t ≡ true → b ≡ x → b ≡ (not t || x)
where_taken t x b e h = h ∙ ap (λ c. not c || x) (sym e)

-- of a parameter that is given and each that is made
pub out_in : (p : RawIn) (name : List ℕ) → name ≡ p.name → (q : RawOut) → (not (bytes_eq p.name q.name) || is_same_sort p.sort q.sort) ≡ (not (bytes_eq q.name name) || is_same_sort p.sort q.sort)
out_in p name e q = ap (λ b. not b || is_same_sort p.sort q.sort) (turned p.name q.name name e)

pub among_vars : (net : RawNet) (s : RawSet) (text : List ℕ) → text ≡ s.var → is_name_among (map (λ (v : RawVar). v.name) net.vars) text ≡ names_var net s
among_vars net s text e =
    list_any_of_map (bytes_eq text) (λ (v : RawVar). v.name) net.vars
    ∙ ap (λ (n : List ℕ). list_any (λ (v : RawVar). bytes_eq n v.name) net.vars) e

-- the parts of what a task's parameters have to fit
pub parameters_all : (raw : RawSpec) (net : RawNet) (task : RawTask) (scope : List Binding) (ins : List RawIn) → scope ≡ vars_scope net → ins ≡ task.ins →
    (fits : Bool) → fits ≡ parameters_fit raw net task → fits ≡ true → (fit : Bool) → IsTrue fit ↔ All (ItemFitsOver scope task) ins → IsTrue fit ↔ ParametersFit raw net task
parameters_all raw net task scope ins at_scope at_ins fits is_fits fits_true fit decides =
    let P : List Binding → Type 0 = λ bs. IsTrue fit ↔ All (ItemFitsOver bs task) ins in
    let Q : List RawIn → Type 0 = λ ps. IsTrue fit ↔ All (ItemFitsOver (vars_scope net) task) ps in
    decides_along fit (subst Q at_ins (subst P at_scope decides)) (λ items. record { fit = sym is_fits ∙ fits_true; item = items }) (λ h. h.item)
