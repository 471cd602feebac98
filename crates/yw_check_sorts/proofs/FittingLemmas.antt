-- From the parts of a task's expressions to the whole.
use Rattle.std.proofs.Common.{◌≡◌, ◌↔◌, ℕ, ◌++◌, Bool, true, false, List, All, IsTrue, option_to_list, sym, ap, ◌∙◌, subst}
use Rattle.yw_expr.specs.declared.scope.Binding.{Binding}
use Rattle.yw_read.specs.declared.raw.RawBranch.{RawBranch}
use Rattle.yw_read.specs.declared.raw.RawIn.{RawIn}
use Rattle.yw_read.specs.declared.raw.RawSet.{RawSet}
use Rattle.yw_read.specs.declared.raw.RawTask.{RawTask}
use Rattle.yw_read.specs.declared.raw.RawNet.{RawNet}
use Rattle.yw_accept.specs.Scopes.{ExpressionsFit, Spells, IsList, IsOfVar, vars_scope, outs_scope, set_scope}
use Rattle.yw_check_sorts.specs.Fitting.{AssignmentFits, ConditionFits, ReadsFit, ValueFits}
use Rattle.yw_check_sorts.specs.declared.spelling.WantedSort.{WantedSort}
use Rattle.yw_check_sorts.specs.Wanted.{IsWanted, sort_named, wanted_by}
use Rattle.yw_check_sorts.proofs.Deciding.{all_along, decides_along, refuted, says_no}
use Rattle.yw_check_sorts.proofs.LayerLemmas.{sort_named-vars}
use Rattle.yw_check_sorts.proofs.SpellsLemmas.{spells_along, wanted_each, each_wanted}

-- ---- what speaks of the net's variables alone

module _ (scope : List Binding) (task : RawTask) where
  pub no_values : (ins : List RawIn) → ins ≡ task.ins → (fit : Bool) → IsTrue fit ↔ All (ValueFits scope) ins → fit ≡ false → IsTrue false ↔ ReadsFit scope task
  no_values ins same fit decides f = says_no (λ reads. refuted fit decides f (subst (All (ValueFits scope)) (sym same) reads.given))

  pub reads_all : (each given : Bool) → IsTrue each ↔ All (Spells scope IsList) (option_to_list task.each) → each ≡ true →
      (ins : List RawIn) → ins ≡ task.ins → IsTrue given ↔ All (ValueFits scope) ins → given ≡ true →
      (branches : List RawBranch) → branches ≡ task.branch → (fit : Bool) → IsTrue fit ↔ All (ConditionFits scope) branches → IsTrue fit ↔ ReadsFit scope task
  reads_all each given each_decides each_fits ins same_ins given_decides given_fit branches same_branches fit decides =
      decides_along fit decides
      (λ conditions. record {
        each = each_decides.0 each_fits;
        given = subst (All (ValueFits scope)) same_ins (given_decides.0 given_fit);
        conditions = subst (All (ConditionFits scope)) same_branches conditions;
      })
      (λ reads. subst (All (ConditionFits scope)) (sym same_branches) reads.conditions)

-- ---- assignments

pub assigned : (vars scope : List Binding) (s : RawSet) (name text : List ℕ) (wanted : WantedSort) → wanted ≡ wanted_by (sort_named vars name) → name ≡ s.var → text ≡ s.value →
    (fit : Bool) → IsTrue fit ↔ Spells scope (IsWanted wanted) text → IsTrue fit ↔ AssignmentFits vars scope s
assigned vars scope s name text wanted at_wanted at_name at_text fit decides =
    let P : WantedSort → Type 0 = λ w. IsTrue fit ↔ Spells scope (IsWanted w) text in
    let Q : List ℕ → Type 0 = λ t. IsTrue fit ↔ Spells scope (IsWanted (wanted_by (sort_named vars s.var))) t in
    subst Q at_text (subst P (at_wanted ∙ ap (λ (n : List ℕ). wanted_by (sort_named vars n)) at_name) decides)

-- the scope is that of the outs before that of the variables
pub set_along : (net : RawNet) (task : RawTask) (vars outs scope : List Binding) (set : List RawSet) → vars ≡ vars_scope net → outs ≡ outs_scope task → scope ≡ outs ++ vars → set ≡ task.set →
    (fit : Bool) → IsTrue fit ↔ All (AssignmentFits vars scope) set → IsTrue fit ↔ All (AssignmentFits (vars_scope net) (set_scope net task)) task.set
set_along net task vars outs scope set at_vars at_outs at_scope at_set fit decides =
    let is_scope : scope ≡ set_scope net task = at_scope ∙ ap (λ (bs : List Binding). bs ++ vars) at_outs ∙ ap (λ (bs : List Binding). outs_scope task ++ bs) at_vars in
    let P : List Binding → Type 0 = λ bs. IsTrue fit ↔ All (AssignmentFits bs scope) set in
    let Q : List Binding → Type 0 = λ bs. IsTrue fit ↔ All (AssignmentFits (vars_scope net) bs) set in
    let R : List RawSet → Type 0 = λ ss. IsTrue fit ↔ All (AssignmentFits (vars_scope net) (set_scope net task)) ss in
    subst R at_set (subst Q is_scope (subst P at_vars decides))

module _ (net : RawNet) (scope : List Binding) where
  of_var : (s : RawSet) → AssignmentFits (vars_scope net) scope s → Spells scope (IsOfVar net s.var) s.value
  of_var s = spells_along s.value scope _ _ (λ sort h wanted e. wanted_each (sort_named (vars_scope net) s.var) sort h wanted (sort_named-vars net s.var ∙ e))

  from_var : (s : RawSet) → Spells scope (IsOfVar net s.var) s.value → AssignmentFits (vars_scope net) scope s
  from_var s = spells_along s.value scope _ _ (λ sort h. each_wanted (sort_named (vars_scope net) s.var) sort (λ wanted e. h wanted (sym (sort_named-vars net s.var) ∙ e)))

-- ---- all of a task's expressions

module _ (net : RawNet) (task : RawTask) (scope : List Binding) (is : scope ≡ vars_scope net) where
  reads_over : ExpressionsFit net task → ReadsFit scope task
  reads_over h =
      let P : List Binding → Type 0 = λ bs. ReadsFit bs task in
      subst P (sym is) (record { each = h.each; given = h.given; conditions = h.conditions })

  pub no_reads : (fit : Bool) → IsTrue fit ↔ ReadsFit scope task → fit ≡ false → IsTrue false ↔ ExpressionsFit net task
  no_reads fit decides f = says_no (λ h. refuted fit decides f (reads_over h))

  pub expressions_all : (reads : Bool) → IsTrue reads ↔ ReadsFit scope task → reads ≡ true → (fit : Bool) → IsTrue fit ↔ All (AssignmentFits (vars_scope net) (set_scope net task)) task.set → IsTrue fit ↔ ExpressionsFit net task
  expressions_all reads reads_decides reads_true fit decides =
      let P : List Binding → Type 0 = λ bs. ReadsFit bs task in
      let r : ReadsFit (vars_scope net) task = subst P is (reads_decides.0 reads_true) in
      decides_along fit
      (all_along (AssignmentFits (vars_scope net) (set_scope net task)) (λ (s : RawSet). Spells (set_scope net task) (IsOfVar net s.var) s.value) (of_var net (set_scope net task)) (from_var net (set_scope net task)) task.set fit decides)
      (λ assigned. record { each = r.each; given = r.given; conditions = r.conditions; assigned = assigned })
      (λ h. h.assigned)
