-- A case that begins: what the map has then.
use Rattle.std.proofs.Common.{List, None, Some, [], ap, false, length, subst, sym, ℕ, ◌+◌, ◌++◌, ◌∙◌, ◌≡◌}
use Rattle.std.specs.Prelude.{option_and_then, slice_get}
use Rattle.yw_nest.specs.Cases.{Launches, first_tokens}
use Rattle.yw_sites.specs.Idents.{AreChildren}
use Rattle.yw_spec.specs.declared.spec.Net.{Net}
use Rattle.yw_spec.specs.declared.spec.Spec.{Spec}
use Rattle.yw_state.specs.After.{begin_case, case_checks, launch, new_case, where_some, with_next, with_sites}
use Rattle.yw_state.specs.Events.{after}
use Rattle.yw_state.specs.Identity.{Ident, case_ident}
use Rattle.yw_state.specs.Map.{insert}
use Rattle.yw_state.specs.Nets.{top_net}
use Rattle.yw_state.specs.State.{Site, top_called}
use Rattle.yw_state.specs.Values.{Row}
use Rattle.yw_state.specs.declared.part.Checks.{Checks}
use Rattle.yw_tree.proofs.Keys.{ids_are, kids}
use Rattle.yw_tree.specs.Becomes.{Gets}
use Rattle.yw_tree.specs.Begins.{BeginsNet}
use Rattle.yw_tree.specs.Boxed.{IsBoxedCase, IsBoxedNet}
use Rattle.yw_tree.specs.Entries.{case_site, nodes}
use Rattle.yw_tree.specs.Forest.{IsForest, sites_of}
use Rattle.yw_tree.specs.declared.Case.{Case}
use Rattle.yw_tree.specs.declared.Forest.{Forest}
use Rattle.yw_tree.specs.declared.NetState.{NetState}

-- a case without items and runs is well boxed
pub begun_boxed : (id : Ident) (net : NetState) (due : Checks) → nodes net ≡ [] → IsBoxedNet net → IsBoxedCase (record { id = id; net = net; suspended = false; due = due; run = None })
begun_boxed id net due empty boxed =
    let none : List Ident = [] in
    let nothing : AreChildren id [] = (tt, tt) in
    record { here = subst (λ z. AreChildren id (z ++ none)) (sym (ids_are net ∙ ap kids empty)) nothing; net = boxed; run = tt }

module _ (old new : Forest) (spec : Spec) (number n : ℕ) (vals : Row) (due : Checks) (top : Net) (at : slice_get spec.nets spec.top ≡ Some top)
    (id : Ident) (is_n : id ≡ case_ident n) (net : NetState) (begins : BeginsNet number spec.top (first_tokens top) vals (length top.tasks) net) where
  abbrev pub begun : Case
  begun = record { id = id; net = net; suspended = false; due = due; run = None }

  pub launched : Gets old new id (λ names. case_site names begun) → IsForest new → Launches spec number n vals due old new
  unfolding after
  launched gets boxed = record {
    leads = λ names s said sites needs.
        let name : List ℕ = names number in
        let x : Site = new_case name spec top vals (case_checks s name) in
        let is_top : top_called s name ≡ Some top = ap (option_and_then top_net) needs.loaded ∙ at in
        let begin : launch s n name vals ≡ begin_case s n name vals spec top =
        ap (λ o. where_some o s (λ z. where_some (top_called s name) s (begin_case s n name vals z))) needs.loaded ∙ ap (λ o. where_some o s (begin_case s n name vals spec)) is_top in
        let site : case_site names begun ≡ x = λ j. record { net = Some (begins.part names j); item = None; run = None; suspended = false; due = needs.checks j } in
        begin
        ∙ ap (with_sites (with_next s (n + 1)))
        (ap (λ m. insert m (case_ident n) x) sites
        ∙ ap (λ k. insert (sites_of names old) k x) (sym is_n)
        ∙ ap (insert (sites_of names old) id) (sym site)
        ∙ sym (gets names));
    boxed = boxed;
  }
