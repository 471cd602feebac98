-- What a run does that takes its first primitive, kind by kind, as an event.
use Rattle.std.proofs.Common.{ap, refl, subst, sym, ◌∙◌}
use Rattle.std.specs.Prelude.{◌≡◌, ◌&&◌, Bool, List, None, Option, Some, false, if◌then◌else◌, length, map, nat_lt, option_and_then, option_map, true, ℕ}
use Rattle.yw_base.specs.Identity.{case_number, is_identity, parent}
use Rattle.yw_exlet.proofs.Kept.{item_kept, source_kept}
use Rattle.yw_exlet.specs.Needs.{ComesOf, DoesPrim, IsNamed, Takes, TakesAs, outcome_of}
use Rattle.yw_exlet.specs.Stands.{first_at}
use Rattle.yw_exlet.specs.Takes.{TakesBy, anew, begins, completes, cut_short, drops, marks, none, restarts, select_due}
use Rattle.yw_nest.specs.Cases.{with_ended}
use Rattle.yw_sites.proofs.Twice.{updated_twice}
use Rattle.yw_spec.specs.declared.spec.Net.{Net}
use Rattle.yw_spec.specs.declared.spec.Spec.{Spec}
use Rattle.yw_spec.specs.declared.task.Task.{Task}
use Rattle.yw_state.proofs.Tests.{nowhere, some_same}
use Rattle.yw_state.specs.After.{change, completed, due_where, new_net, stands, where_some, where_spec, with_item, with_run, with_sites}
use Rattle.yw_state.specs.Allowed.{depth_end}
use Rattle.yw_state.specs.ByName.{Valuation, first_values, made_of_given, param_value, source_at}
use Rattle.yw_state.specs.Events.{after}
use Rattle.yw_state.specs.Exlets.{begin_compensation, case_above, complete_item, cut_back, end_if_over, restart_item, restarted, taken_first, waiting}
use Rattle.yw_state.specs.Identity.{Ident}
use Rattle.yw_state.specs.Judged.{has_rules, task_place}
use Rattle.yw_state.specs.Map.{update}
use Rattle.yw_state.specs.Nets.{is_atomic, top_net}
use Rattle.yw_state.specs.State.{ItemAt, ItemPart, NetPart, Site, State, bare_but, item_at, no_checks, spec_called, top_called}
use Rattle.yw_state.specs.Values.{Row}
use Rattle.yw_state.specs.Words.{is_completed}
use Rattle.yw_state.specs.declared.part.Checks.{Checks}
use Rattle.yw_state.specs.declared.part.Way.TheVariants.{Removed}
use Rattle.yw_state.specs.declared.tree.Primitive.{Primitive}
use Rattle.yw_state.specs.declared.tree.Primitive.TheVariants.{CompleteItem, Compensate, ContinueCase, ContinueItem, RemoveCase, RemoveItem, RestartItem, SuspendCase, SuspendItem, Unknown}
use Rattle.yw_state.specs.declared.tree.TreeKind.TheVariants.{Select}
use Rattle.yw_tree.specs.Forest.{IsForest, item_of, sites_of}
use Rattle.yw_tree.specs.declared.Forest.{Forest}
use Rattle.yw_tree.specs.declared.NetState.{NetState}
use Rattle.yw_tree.specs.declared.Node.{Node, out-Node}
use Rattle.yw_worklet.proofs.Known.{given_is, its_item, part_is}
use Rattle.yw_worklet.specs.Begins.{BeginsTop}
use Rattle.yw_worklet.specs.Named.{given_value}

-- ---- once the run has taken its first

abbrev taken : Ident → State → State
taken r s = change s r (with_run taken_first)

item_still : (s : State) (r j : Ident) → item_at (taken r s) j ≡ item_at s j
item_still s r j = item_kept s r (with_run taken_first) (λ x. refl) (λ x. refl) j

source_still : (s : State) (r j : Ident) → source_at (taken r s) j ≡ source_at s j
source_still s r j = source_kept s r (with_run taken_first) (λ x. refl) (λ x. refl) j

-- ---- an item that begins anew

due_again : (b : Bool) → due_where b Select no_checks ≡ select_due b
due_again true = refl
due_again false = refl

abbrev back : Site → Site
back x = record (with_item restarted x) { due = no_checks }

abbrev chosen_again : Bool → Site → Site
chosen_again b x = record x { due = due_where b Select x.due }

restart_is : (s : State) (j : Ident) (a b : Bool) → (if a then change (change s j back) j (chosen_again b) else change s j back) ≡ change s j (anew (a && b))
restart_is s j true b = ap (with_sites s) (updated_twice s.sites j back (chosen_again b) ∙ (λ i. update s.sites j (λ x. record (with_item restarted x) { due = due_again b i })))
restart_is s j false b = refl

no_item : {A : Type 0} (f : ItemAt → A) (o : Option ItemAt) → option_map f o ≡ None → o ≡ None
no_item f None e = refl
no_item f (Some x) e = nowhere (sym e)

module _ (top : Net) (item : Option Task) (comp : Option (Spec × ℕ)) (due : Checks) (r : Ident) (old new : Forest) (boxed : IsForest new) where
  abbrev DoesThe : Primitive → Type 0
  DoesThe p = DoesPrim top item comp due r p old new

  -- ---- marks

  pub suspends_item : TakesBy r (marks (parent r) true) old new → DoesThe SuspendItem
  unfolding after
  suspends_item takes = record { leads = λ names s said here needs. takes names s here; boxed = boxed }

  pub continues_item : TakesBy r (marks (parent r) false) old new → DoesThe ContinueItem
  unfolding after
  continues_item takes = record { leads = λ names s said here needs. takes names s here; boxed = boxed }

  pub suspends_case : TakesBy r (marks (case_above r) true) old new → DoesThe SuspendCase
  unfolding after
  suspends_case takes = record { leads = λ names s said here needs. takes names s here; boxed = boxed }

  pub continues_case : TakesBy r (marks (case_above r) false) old new → DoesThe ContinueCase
  unfolding after
  continues_case takes = record { leads = λ names s said here needs. takes names s here; boxed = boxed }

  -- ---- removals

  pub removes_item : TakesBy r (drops (parent r)) old new → DoesThe RemoveItem
  unfolding after
  removes_item takes = record { leads = λ names s said here needs. takes names s here; boxed = boxed }

  pub removes_case : TakesBy r (drops (case_above r)) old new → DoesThe RemoveCase
  unfolding after
  removes_case takes = record { leads = λ names s said here needs. takes names (with_ended (case_number r) Removed s) here; boxed = boxed }

  -- ---- nothing

  pub knows_none : (text : List ℕ) → TakesBy r none old new → DoesThe (Unknown text)
  unfolding after
  knows_none text takes = record { leads = λ names s said here needs. takes names s here; boxed = boxed }

  -- ---- without an item

  pub restarts_none : item ≡ None → TakesBy r none old new → DoesThe RestartItem
  unfolding after
  restarts_none lacks takes = record {
    leads = λ names s said here needs.
        let j = parent r in
        ap (λ o. end_if_over (where_some o (taken r s) (restart_item (taken r s) r j)) r) (item_still s r j ∙ no_item (λ (x : ItemAt). x.of_task.task) (item_at s j) (needs.task ∙ lacks))
        ∙ takes names s here;
    boxed = boxed;
  }

  pub completes_none : item ≡ None → TakesBy r none old new → DoesThe CompleteItem
  unfolding after
  completes_none lacks takes = record {
    leads = λ names s said here needs.
        let j = parent r in
        ap (λ o. end_if_over (where_some o (taken r s) (complete_item (taken r s) r j)) r) (item_still s r j ∙ no_item (λ (x : ItemAt). x.of_task.task) (item_at s j) (needs.task ∙ lacks))
        ∙ takes names s here;
    boxed = boxed;
  }

  -- ---- an item

  pub restarts_one : (task : Task) → item ≡ Some task → TakesBy r (restarts r (parent r) due.select) old new → DoesThe RestartItem
  unfolding after
  restarts_one task of takes = record {
    leads = λ names s said here needs.
        let j = parent r in
        let x = its_item s j task (needs.task ∙ of) in
        let place = task_place x.0.of_task Select in
        let cut = with_sites s (bare_but (taken r s).sites j r) in
        ap (λ o. end_if_over (where_some o (taken r s) (restart_item (taken r s) r j)) r) (item_still s r j ∙ x.1)
        ∙ ap (λ z. end_if_over z r) (restart_is cut j (is_atomic x.0.of_task.task) (has_rules s place))
        ∙ ap (λ b. end_if_over (change cut j (anew b)) r) (sym (needs.select x.0 x.1))
        ∙ takes names s here;
    boxed = boxed;
  }

  module _ (old_boxed : IsForest old) (identity : is_identity (parent r) ≡ true) (task : Task) (of : item ≡ Some task) (node : Node) (found : item_of old (parent r) ≡ Some node) where
    abbrev completed_by : ItemAt → ItemPart → ItemPart
    completed_by x = completed (made_of_given x)

    pub completes_again : is_completed (out-Node node).stage ≡ true → TakesBy r none old new → DoesThe CompleteItem
    unfolding after
    completes_again over takes = record {
      leads = λ names s said here needs.
          let j = parent r in
          let x = its_item s j task (needs.task ∙ of) in
          let part = part_is names old old_boxed s here j identity node found x.0 x.1 in
          ap (λ o. end_if_over (where_some o (taken r s) (complete_item (taken r s) r j)) r) (item_still s r j ∙ x.1)
          ∙ ap (λ b. end_if_over (if b then taken r s else cut_back (taken r s) r j (completed_by x.0)) r) (ap (λ (y : ItemPart). is_completed y.stage) part ∙ over)
          ∙ takes names s here;
      boxed = boxed;
    }

    pub completes_one : is_completed (out-Node node).stage ≡ false → (made : Row) → made ≡ map (given_value (param_value task.ins (out-Node node).given)) task.outs
        → TakesBy r (completes r (parent r) made) old new → DoesThe CompleteItem
    unfolding after
    completes_one undone made makes takes = record {
      leads = λ names s said here needs.
          let j = parent r in
          let x = its_item s j task (needs.task ∙ of) in
          let part = part_is names old old_boxed s here j identity node found x.0 x.1 in
          let given = given_is names old old_boxed s here j identity node found x.0 x.1 task x.2 in
          ap (λ o. end_if_over (where_some o (taken r s) (complete_item (taken r s) r j)) r) (item_still s r j ∙ x.1)
          ∙ ap (λ b. end_if_over (if b then taken r s else cut_back (taken r s) r j (completed_by x.0)) r) (ap (λ (y : ItemPart). is_completed y.stage) part ∙ undone)
          ∙ ap (λ z. end_if_over (change (with_sites s (bare_but (taken r s).sites j r)) j (cut_short z)) r) ((λ i. map (given_value (given i)) (x.2 i).outs) ∙ sym makes)
          ∙ takes names s here;
      boxed = boxed;
    }

  -- ---- a compensation

  pub goes_too_deep : (name : List ℕ) → nat_lt (length r) depth_end ≡ false → TakesBy r none old new → DoesThe (Compensate name)
  unfolding after
  goes_too_deep name deep takes = record {
    leads = λ names s said here needs.
        ap (λ b. end_if_over (if b then where_spec (taken r s) name (begin_compensation (taken r s) r (parent r) name) else taken r s) r) deep ∙ takes names s here;
    boxed = boxed;
  }

  pub names_none : (name : List ℕ) → comp ≡ None → TakesBy r none old new → DoesThe (Compensate name)
  unfolding after
  names_none name lacks takes = record {
    leads = λ names s said here needs.
        let s1 = taken r s in
        let none_called : spec_called s name ≡ None = subst (IsNamed names s (Compensate name)) lacks needs.spec in
        ap (λ o. end_if_over (if nat_lt (length r) depth_end then where_some o s1 (λ spec. where_some (top_called s name) s1 (begin_compensation s1 r (parent r) name spec)) else s1) r) none_called
        ∙ ap (λ z. end_if_over z r) (either (nat_lt (length r) depth_end) s1)
        ∙ takes names s here;
    boxed = boxed;
  }
    where
      either : (b : Bool) (z : State) → (if b then z else z) ≡ z
      either true z = refl
      either false z = refl

  pub begins_compensation : (name : List ℕ) (spec : Spec) (number : ℕ) → comp ≡ Some (spec, number) → nat_lt (length r) depth_end ≡ true → (source : Valuation) (net : NetState) → BeginsTop spec number source net
      → ((names : ℕ → List ℕ) (s : State) → s.sites ≡ sites_of names old → TakesAs top item comp due r (Compensate name) names s → source_at s (parent r) ≡ source)
      → TakesBy r (begins r net) old new → DoesThe (Compensate name)
  unfolding after
  begins_compensation name spec number of shallow source net by hands takes = record {
    leads = λ names s said here needs.
        let s1 = taken r s in
        let j = parent r in
        let named = subst (IsNamed names s (Compensate name)) of needs.spec in
        let is_top : top_called s name ≡ Some by.top = ap (option_and_then top_net) named.1 ∙ by.of_spec in
        ap (λ b. end_if_over (if b then where_spec s1 name (begin_compensation s1 r j name) else s1) r) shallow
        ∙ ap (λ o. end_if_over (where_some o s1 (λ z. where_some (top_called s name) s1 (begin_compensation s1 r j name z))) r) named.1
        ∙ ap (λ o. end_if_over (where_some o s1 (begin_compensation s1 r j name spec)) r) is_top
        ∙ ap (λ z. end_if_over (change s1 r (λ x. stands (new_net name spec.top by.top (first_values z by.top)) (with_run waiting x))) r) (source_still s r j ∙ hands names s here needs)
        ∙ ap (λ z. end_if_over (change s1 r (λ x. stands (new_net z spec.top by.top (first_values source by.top)) (with_run waiting x))) r) (sym named.0)
        ∙ ap (λ (z : NetPart). end_if_over (change s1 r (λ x. stands z (with_run waiting x))) r) (sym (by.begins.part names))
        ∙ takes names s here;
    boxed = boxed;
  }

  -- ---- whichever it is

  pub whichever : (p : Primitive) → first_at old r ≡ Some p → DoesThe p → Takes top item comp due r old new
  whichever p first does q e = subst DoesThe (some_same p q (sym first ∙ e)) does

pub comes_of : (old : Forest) (r : Ident) (p : Primitive) → first_at old r ≡ Some p → ComesOf old r (outcome_of p)
comes_of old r p first q e = ap outcome_of (some_same p q (sym first ∙ e))
