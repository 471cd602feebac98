-- What the boxes of an item and of a case say of how they go on.
use Rattle.std.proofs.Common.{Bool, List, None, Option, Some, ap, false, refl, sym, true, ℕ, ◌∙◌, ◌≡◌}
use Rattle.std.proofs.lemmas.Bool.{and_from, and_parts}
use Rattle.std.specs.Prelude.{is_some, nat_lt, not, option_and_then, option_map, ◌&&◌, ◌||◌}
use Rattle.yw_base.specs.Identity.{is_identity}
use Rattle.yw_enabled.specs.Items.{CaseEndsAs, CaseFree, IsAtOutputAs, ItemFree, ItemGoes, StepsAs, case_at_end, event_of, is_at_output, item_step, step_of}
use Rattle.yw_enabled.specs.declared.items.ItemStep.{ItemStep}
use Rattle.yw_enabled.specs.declared.items.ItemStep.TheVariants.{CompleteEmpty, CompleteSub, CompleteWorklet, StartSub}
use Rattle.yw_spec.specs.declared.spec.Net.{Net}
use Rattle.yw_spec.specs.declared.task.Kind.{Kind}
use Rattle.yw_spec.specs.declared.task.Kind.TheVariants as kinds
use Rattle.yw_spec.specs.declared.task.Task.{Task}
use Rattle.yw_state.specs.Allowed.{Allowed, allows}
use Rattle.yw_state.specs.Identity.{Ident, case_ident, is_case_ident}
use Rattle.yw_state.specs.Joins.{at_output, marked}
use Rattle.yw_state.specs.Map.{get}
use Rattle.yw_state.specs.Nets.{child_net, is_atomic, is_empty}
use Rattle.yw_state.specs.Options.{is_some_and}
use Rattle.yw_state.specs.State.{ItemAt, NetAt, State, item_at}
use Rattle.yw_state.specs.Texts.{nothing}
use Rattle.yw_state.specs.Words.{busy, is_executing, is_ready}
use Rattle.yw_state.specs.declared.event.Event.TheVariants as events
use Rattle.yw_state.specs.declared.part.Stage.{Stage}
use Rattle.yw_state.specs.declared.part.Stage.TheVariants.{Executing, Ready}
use Rattle.yw_still.specs.Still.{case_ends, item_begins, item_ends, item_goes_on}
use Rattle.yw_task.proofs.EnterAsk.{has_marks, its_net}
use Rattle.yw_task.proofs.ItemLaw.{its_busy, known_part}
use Rattle.yw_task.specs.Standing.{NetStands}
use Rattle.yw_tree.proofs.BusyLaw.{busy_is}
use Rattle.yw_tree.proofs.CaseLaw.{case_stands}
use Rattle.yw_tree.proofs.Parents.{identity_short}
use Rattle.yw_base.proofs.Parents.{identity_long}
use Rattle.yw_tree.specs.Entries.{case_site, item_part_of}
use Rattle.yw_tree.specs.declared.Case.{Case}
use Rattle.yw_tree.specs.declared.Forest.{Forest}
use Rattle.yw_tree.specs.declared.NetState.{NetState}
use Rattle.yw_tree.specs.declared.Node.{Node, out-Node}

-- ---- by stage and kind

-- as `child_net`, `is_atomic` and `is_empty` have them
abbrev child_of : Kind → Option ℕ
child_of (kinds.Sub k) = Some k
child_of kind = None

abbrev atomic_kind : Kind → Bool
atomic_kind kinds.Atomic = true
atomic_kind kind = false

abbrev empty_kind : Kind → Bool
empty_kind kinds.Empty = true
empty_kind kind = false

abbrev goes_by : Stage → Kind → Bool → Bool → Bool
goes_by stage kind busy ends =
    is_ready stage && (empty_kind kind || is_some (child_of kind) && not busy)
    || is_executing stage && (is_some (child_of kind) || atomic_kind kind) && not busy && ends

step_goes : (stage : Stage) (kind : Kind) (busy ends : Bool) → goes_by stage kind busy ends ≡ is_some (step_of stage kind busy ends)
step_goes Ready kinds.Empty busy ends = refl
step_goes Ready (kinds.Sub k) false ends = refl
step_goes Executing (kinds.Sub k) false true = refl
step_goes Executing kinds.Atomic false true = refl
step_goes stage kind busy ends = refl

-- what the event of a step asks of the item
abbrev can_step : ItemStep → Stage → Kind → Bool → Bool → Bool
can_step StartSub stage kind busy ends = not busy && (is_ready stage && is_some (child_of kind))
can_step CompleteSub stage kind busy ends = not busy && (is_executing stage && is_some (child_of kind)) && ends
can_step CompleteEmpty stage kind busy ends = is_ready stage && empty_kind kind
can_step CompleteWorklet stage kind busy ends = not busy && (is_executing stage && atomic_kind kind) && ends

step_can : (stage : Stage) (kind : Kind) (busy ends : Bool) → is_some_and (step_of stage kind busy ends) (λ step. can_step step stage kind busy ends) ≡ is_some (step_of stage kind busy ends)
step_can Ready kinds.Empty busy ends = refl
step_can Ready (kinds.Sub k) false ends = refl
step_can Executing (kinds.Sub k) false true = refl
step_can Executing kinds.Atomic false true = refl
step_can stage kind busy ends = refl

-- ---- an item

module _ (names : ℕ → List ℕ) (f : Forest) (s : State) (n : Node) (task : Task) (ends : Bool) (h : ItemFree names f s n task ends) where
  part : h.item.part ≡ item_part_of n
  part = known_part names f s n h.stands h.item h.known

  busy_there : busy s (out-Node n).id ≡ is_some (out-Node n).run
  busy_there = its_busy names f s n h.stands

  goes_there : item_goes_on s (out-Node n).id ≡ goes_by (out-Node n).stage task.kind (is_some (out-Node n).run) ends
  goes_there =
      (λ k. h.free k && is_some_and (h.known k) (λ (x : ItemAt). item_begins s (out-Node n).id x || item_ends s (out-Node n).id x))
      ∙ (λ k. is_ready (part k).stage && (is_empty (h.of_task k) || is_some (child_net (h.of_task k)) && not (busy_there k))
      || is_executing (part k).stage && (is_some (child_net (h.of_task k)) || is_atomic (h.of_task k)) && not (busy_there k) && h.at_end k)

  ready_there : (q : Task → Bool) → is_some_and (item_at s (out-Node n).id) (λ (x : ItemAt). is_ready x.part.stage && q x.of_task.task) ≡ (is_ready (out-Node n).stage && q task)
  ready_there q = ap (λ o. is_some_and o (λ (x : ItemAt). is_ready x.part.stage && q x.of_task.task)) h.known ∙ (λ k. is_ready (part k).stage && q (h.of_task k))

  begun_there : (q : Task → Bool) → is_some_and (item_at s (out-Node n).id) (λ (x : ItemAt). is_executing x.part.stage && q x.of_task.task) ≡ (is_executing (out-Node n).stage && q task)
  begun_there q = ap (λ o. is_some_and o (λ (x : ItemAt). is_executing x.part.stage && q x.of_task.task)) h.known ∙ (λ k. is_executing (part k).stage && q (h.of_task k))

  allowed_there : (step : ItemStep) → can_step step (out-Node n).stage task.kind (is_some (out-Node n).run) ends ≡ true → Allowed s (event_of step (out-Node n).id) nothing
  unfolding allows
  allowed_there StartSub e =
      let p = and_parts (not (is_some (out-Node n).run)) (is_ready (out-Node n).stage && is_some (child_net task)) e in
      (and_from _ _ (and_from _ _ h.free (ap not busy_there ∙ p.0)) (ready_there (λ t. is_some (child_net t)) ∙ p.1), tt)
  allowed_there CompleteSub e =
      let all = and_parts (not (is_some (out-Node n).run) && (is_executing (out-Node n).stage && is_some (child_net task))) ends e in
      let p = and_parts (not (is_some (out-Node n).run)) (is_executing (out-Node n).stage && is_some (child_net task)) all.0 in
      (and_from _ _ (and_from _ _ (and_from _ _ h.free (ap not busy_there ∙ p.0)) (begun_there (λ t. is_some (child_net t)) ∙ p.1)) (h.at_end ∙ all.1), tt)
  allowed_there CompleteEmpty e = (and_from _ _ h.free (ready_there is_empty ∙ e), tt)
  allowed_there CompleteWorklet e =
      let all = and_parts (not (is_some (out-Node n).run) && (is_executing (out-Node n).stage && is_atomic task)) ends e in
      let p = and_parts (not (is_some (out-Node n).run)) (is_executing (out-Node n).stage && is_atomic task) all.0 in
      (and_from _ _ (and_from _ _ (and_from _ _ h.free (ap not busy_there ∙ p.0)) (begun_there is_atomic ∙ p.1)) (h.at_end ∙ all.1), tt)

  goes : (o : Option ItemStep) → o ≡ step_of (out-Node n).stage task.kind (is_some (out-Node n).run) ends → ItemGoes s (out-Node n).id o
  goes None e = goes_there ∙ step_goes (out-Node n).stage task.kind (is_some (out-Node n).run) ends ∙ sym (ap is_some e)
  goes (Some step) e =
      let stage = (out-Node n).stage in
      let hung = is_some (out-Node n).run in
      record {
        goes = goes_there ∙ step_goes (out-Node n).stage task.kind (is_some (out-Node n).run) ends ∙ sym (ap is_some e);
        allowed = allowed_there step (ap (λ o. is_some_and o (λ st. can_step st stage task.kind hung ends)) e ∙ step_can (out-Node n).stage task.kind (is_some (out-Node n).run) ends ∙ sym (ap is_some e));
      }

pub steps_as : (n : Node) (task : Task) (ends : Bool) (o : Option ItemStep) → o ≡ item_step n task ends → StepsAs n task ends o
steps_as n task ends o e = λ names f s h. goes names f s n task ends h o e

-- ---- a net, and a case

output_there : (names : ℕ → List ℕ) (f : Forest) (s : State) (i : Ident) (net : Net) (state : NetState) → NetStands names f s i net state → at_output s i ≡ is_at_output state net
output_there names f s i net state h =
    ap (λ o. is_some_and o (λ (m : NetAt). marked s i m.net.output)) (its_net names f s i net state h) ∙ ap (nat_lt 0) (has_marks names f s i net state h net.output)

pub at_output_as : (net : Net) (state : NetState) (answer : Bool) → answer ≡ is_at_output state net → IsAtOutputAs net state answer
at_output_as net state answer e = λ names f s i h. output_there names f s i net state h ∙ sym e

module _ (names : ℕ → List ℕ) (f : Forest) (s : State) (n : ℕ) (c : Case) (net : Net) (h : CaseFree names f s n c net) where
  case_there : get s.sites (case_ident n) ≡ Some (case_site names c)
  case_there = ap (λ m. get m (case_ident n)) h.sites ∙ case_stands names f h.boxed n c h.found

  identity : is_identity (case_ident n) ≡ true
  identity = h.numbers.identities (case_ident n) (case_site names c) case_there

  net_stands : NetStands names f s (case_ident n) net c.net
  net_stands = record {
    boxed = h.boxed;
    sites = h.sites;
    identity = identity;
    found = ap (option_map (λ (d : Case). d.net)) h.found;
    known = h.known;
  }

  busy_case : busy s (case_ident n) ≡ is_some c.run
  busy_case =
      busy_is f h.boxed (case_ident n) (identity_long (case_ident n) identity) (identity_short (case_ident n) identity) names s h.sites
      ∙ ap (λ o. is_some (option_and_then (λ (d : Case). d.run) o)) h.found

  ends_there : case_ends s (case_ident n) ≡ case_at_end c net
  ends_there = λ k. is_case_ident (case_ident n) && h.free k && not (busy_case k) && output_there names f s (case_ident n) net c.net net_stands k

  finish_there : case_at_end c net ≡ true → Allowed s (events.Finish n) nothing
  unfolding allows
  finish_there e =
      let p = and_parts (not (is_some c.run)) (is_at_output c.net net) e in
      (and_from _ _ (and_from _ _ h.free (ap not busy_case ∙ p.0)) (output_there names f s (case_ident n) net c.net net_stands ∙ p.1), tt)

pub case_ends_as : (c : Case) (net : Net) (answer : Bool) → answer ≡ case_at_end c net → CaseEndsAs c net answer
case_ends_as c net answer e = λ names f s n h. record {
  ends = ends_there names f s n c net h ∙ sym e;
  allowed = λ yes. finish_there names f s n c net h (sym e ∙ yes);
}
