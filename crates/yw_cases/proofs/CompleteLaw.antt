-- A person completes an item.
use Rattle.std.proofs.Common.{ap, subst, sym, ◌∙◌}
use Rattle.std.proofs.Math.Bool.{and-false}
use Rattle.std.proofs.lemmas.Bool.{and_from}
use Rattle.std.specs.Prelude.{Bool, IsSome, List, MatchOption, None, Option, Some, false, is_none, is_some, not, refl, true, ℕ, ◌&&◌, ◌||◌, ◌∷◌, ◌≡◌}
use Rattle.yw_base.specs.Identity.{is_identity, parent}
use Rattle.yw_cases.proofs.Allows.{free}
use Rattle.yw_cases.proofs.Trying.{done, stands_well, words_of}
use Rattle.yw_cases.specs.Completing.{can_make}
use Rattle.yw_cases.specs.State.{MayStand}
use Rattle.yw_invariant.proofs.Tasks.{atomic_has_no_child}
use Rattle.yw_known.specs.Here.{IsItemHere, as_item_at, as_net_at}
use Rattle.yw_library.specs.Names.{names_of}
use Rattle.yw_known.specs.declared.here.ItemHere.{ItemHere}
use Rattle.yw_standing.proofs.HereLaw.{no_item}
use Rattle.yw_standing.proofs.Trying.{fails, leads_plainly, placed}
use Rattle.yw_standing.specs.State.{state_of}
use Rattle.yw_standing.specs.Tried.{IsDone, LeadsNowhere, LeadsOn, TellsLeads}
use Rattle.yw_standing.specs.declared.standing.Standing.{Standing}
use Rattle.yw_texts.specs.Texts.{reader}
use Rattle.yw_nest.proofs.FromState.{item_stands}
use Rattle.yw_nest.specs.Does.{all_else}
use Rattle.yw_spec.specs.declared.spec.Net.{Net}
use Rattle.yw_state.proofs.Tests.{and_left, and_right, by_option, never, there_and}
use Rattle.yw_state.specs.Allowed.{Allowed, allows, may_complete}
use Rattle.yw_state.specs.Broken.{Check, First, test_at}
use Rattle.yw_state.specs.Events.{Leads}
use Rattle.yw_state.specs.Identity.{Ident}
use Rattle.yw_state.specs.Judged.{task_place}
use Rattle.yw_state.specs.Nets.{child_net, is_atomic}
use Rattle.yw_state.specs.Options.{is_some_and}
use Rattle.yw_state.specs.Passing.{is_defined, made_rows_with, row_fits}
use Rattle.yw_state.specs.State.{ItemAt, State, is_item, item_at, items_of, net_part, no_checks}
use Rattle.yw_state.specs.Texts.{Said, nothing}
use Rattle.yw_state.specs.Values.{Row}
use Rattle.yw_state.specs.Well.{wants_net}
use Rattle.yw_state.specs.Words.{held, is_executing}
use Rattle.yw_state.specs.declared.event.Event.TheVariants as events
use Rattle.yw_state.specs.declared.rule.Refusal.{Refusal}
use Rattle.yw_state.specs.declared.rule.Rule.{Rule}
use Rattle.yw_state.specs.declared.tree.TreeKind.TheVariants.{Post}
use Rattle.yw_steps.proofs.CompleteLaw.{defined_is}
use Rattle.yw_steps.proofs.FromState.{item_is as item_is_so}
use Rattle.yw_steps.specs.Completes.{Completes, IsItemIn, ItemIs, MayComplete, defined_once}
use Rattle.yw_tree.proofs.Removed.{within}
use Rattle.yw_tree.specs.Forest.{item_of}
use Rattle.yw_tree.specs.Shows.{items_in}
use Rattle.yw_tree.specs.declared.Forest.{Forest}
use Rattle.yw_tree.specs.declared.NetState.{out-NetState}
use Rattle.yw_tree.specs.declared.Node.{out-Node}

-- a place that isn't there breaks nothing
pub passed_at : (o : Option (List ℕ)) (r : Rule) (cs : List Check) (found : Option Refusal) → o ≡ None → First (test_at o r ∷ cs) found → First cs found
passed_at o r cs found none first = subst (λ z. First (test_at z r ∷ cs) found) none first

-- ---- what is found of the item

module _ (old : Standing) (j : Ident) where
  abbrev FoundIs : Option ItemHere → Type 0
  FoundIs o = MatchOption o (is_item (state_of old) j ≡ false) (IsItemHere old.known old.forest (state_of old) j)

  pub item_found : (o : Option ItemHere) (w : ItemHere) → o ≡ Some w → FoundIs o → IsItemHere old.known old.forest (state_of old) j w
  item_found o w is found = subst FoundIs is found

module _ (old : Standing) (may : MayStand old) (j : Ident) (out : Row) where
  abbrev s : State
  s = state_of old

  complete_as : (said : Said) → allows s (events.Complete j out) said ≡ (not (held s j) && is_some_and (item_at s j) (may_complete s j out))
  unfolding allows
  complete_as said = free s (words_of old may) j (is_some_and (item_at s j) (may_complete s j out))

  -- what an item has whose completion is allowed
  abbrev Completing : Type 0
  Completing = (x : ItemAt) × (item_at s j ≡ Some x) × (may_complete s j out x ≡ true)

  completing : (t : State) → Leads reader s (events.Complete j out) t → Completing
  completing t leads =
      there_and (item_at s j) (may_complete s j out)
      (and_right (not (held s j)) (is_some_and (item_at s j) (may_complete s j out)) (sym (complete_as leads.said) ∙ leads.allowed.0))

  -- ---- whether it may be

  pub held_back : held s j ≡ true → LeadsNowhere old (events.Complete j out)
  held_back is = fails old (events.Complete j out) (λ said. complete_as said ∙ ap (λ b. not b && is_some_and (item_at s j) (may_complete s j out)) is)

  pub not_there : (o : Option ItemHere) → o ≡ None → FoundIs old j o → LeadsNowhere old (events.Complete j out)
  not_there o is found =
      fails old (events.Complete j out)
      (λ said.
      complete_as said ∙ ap (λ (z : Option ItemAt). not (held s j) && is_some_and z (may_complete s j out)) (no_item s j (subst (FoundIs old j) is found))
      ∙ and-false (not (held s j)))

  module _ (w : ItemHere) (here : IsItemHere old.known old.forest s j w) where
    abbrev x : ItemAt
    x = as_item_at old.known w

    abbrev defined : Bool
    defined = is_defined x.of_task.task (made_rows_with (items_of s (parent j) x.part.task) j out) x.of_task.within.part.vals

    its_test : (said : Said) → allows s (events.Complete j out) said ≡ (not (held s j) && may_complete s j out x)
    its_test said = complete_as said ∙ ap (λ (z : Option ItemAt). not (held s j) && is_some_and z (may_complete s j out)) here.at

    pub not_made : can_make w.item.now w.task.now out ≡ false → LeadsNowhere old (events.Complete j out)
    not_made e t leads =
        let all : may_complete s j out x ≡ true = and_right (not (held s j)) (may_complete s j out x) (sym (its_test leads.said) ∙ leads.allowed.0) in
        let four = and_left (is_executing x.part.stage && is_some x.part.who && is_none (net_part s j) && row_fits x.of_task.task.outs out) defined all in
        let fits = and_right (is_executing x.part.stage && is_some x.part.who && is_none (net_part s j)) (row_fits x.of_task.task.outs out) four in
        let three = and_left (is_executing x.part.stage && is_some x.part.who && is_none (net_part s j)) (row_fits x.of_task.task.outs out) four in
        let begun = and_left (is_executing x.part.stage && is_some x.part.who) (is_none (net_part s j)) three in
        never (sym e ∙ and_from (is_executing x.part.stage && is_some x.part.who) (row_fits x.of_task.task.outs out) begun fits)

    module _ (unheld : held s j ≡ false) (makes : can_make w.item.now w.task.now out ≡ true) where
      begun : (is_executing x.part.stage && is_some x.part.who) ≡ true
      begun = and_left (is_executing x.part.stage && is_some x.part.who) (row_fits x.of_task.task.outs out) makes

      fits : row_fits x.of_task.task.outs out ≡ true
      fits = and_right (is_executing x.part.stage && is_some x.part.who) (row_fits x.of_task.task.outs out) makes

      started : is_some x.part.who ≡ true
      started = and_right (is_executing x.part.stage) (is_some x.part.who) begun

      some_none : (o : Option (List ℕ)) → is_some o ≡ true → is_none o ≡ false
      some_none None e = never e
      some_none (Some who) e = refl

      -- no net stands at an item that a person has started
      no_net : net_part s j ≡ None
      no_net =
          by_option (net_part s j)
          (λ none. none)
          (λ n some.
          let wants : wants_net x ≡ true = and_left (wants_net x) _ (may.held.well.nets.of_item j n x some here.at) in
          let either = and_right (is_executing x.part.stage) (is_some (child_net x.of_task.task) || (is_atomic x.of_task.task && is_none x.part.who)) wants in
          let atomic = (may.held.well.content.item j x here.at).who_atomic started in
          let child : is_some (child_net x.of_task.task) ≡ false = ap is_some (atomic_has_no_child x.of_task.task atomic) in
          let known : (is_atomic x.of_task.task && is_none x.part.who) ≡ false = ap (λ b. b && is_none x.part.who) atomic ∙ some_none x.part.who started in
          never (sym (ap (λ b. b || (is_atomic x.of_task.task && is_none x.part.who)) child ∙ known) ∙ either))

      abbrev place : IsItemIn old.forest w.outer.net.now j
      place =
          record {
            item = w.item.now;
            outer = w.outer.state.now;
            found = here.found;
            stands_in = here.outer.stands.found;
            task = within w.outer.net.now.tasks (out-Node w.item.now).task w.task.now here.of_net;
          }

      abbrev item_is : ItemIs s j w.outer.net.now
      item_is =
          record {
            there = x;
            known = here.at;
            net_is = refl;
            few = may.held.well.content.count (parent j) (as_net_at old.known w.outer) (out-Node w.item.now).task w.task.now here.outer.at here.of_net;
          }

      identity : is_identity j ≡ true
      identity = subst (λ k. is_identity k ≡ true) here.identity here.stands.identity

      abbrev DefinedOnce : Bool → Type 0
      DefinedOnce b = b ≡ defined_once w.task.now (items_in w.outer.state.now (out-Node w.item.now).task) (out-NetState w.outer.state.now).vals j out

      -- the test is whether its assignments are defined
      test_is : (said : Said) (b : Bool) → DefinedOnce b → allows s (events.Complete j out) said ≡ b
      test_is said b is =
          let four : (is_executing x.part.stage && is_some x.part.who && is_none (net_part s j) && row_fits x.of_task.task.outs out) ≡ true =
          and_from (is_executing x.part.stage && is_some x.part.who && is_none (net_part s j)) (row_fits x.of_task.task.outs out)
          (and_from (is_executing x.part.stage && is_some x.part.who) (is_none (net_part s j)) begun (ap is_none no_net)) fits in
          its_test said ∙ ap (λ b. not b && may_complete s j out x) unheld ∙ ap (λ c. c && defined) four
          ∙ defined_is old.forest may.held.boxed j identity w.outer.net.now place w.task.now here.of_net (names_of old.known) s may.held.sites item_is out fits ∙ sym is

      pub tells_completed : (b : Bool) → DefinedOnce b → TellsLeads old (events.Complete j out) b
      tells_completed true is = leads_plainly old (events.Complete j out) refl (test_is nothing true is, tt)
      tells_completed false is = fails old (events.Complete j out) (λ said. test_is said false is)

-- ---- where it is allowed

module _ (old : Standing) (may : MayStand old) (j : Ident) (out : Row) (leads : LeadsOn old (events.Complete j out)) where
  completed_item : Completing old may j out
  completed_item = completing old may j out leads.0 leads.1

  pub completed_there : IsSome (item_of old.forest j)
  completed_there = item_stands (names_of old.known) old.forest (state_of old) (stands_well old may) j completed_item.0 completed_item.1

  pub completes_done : (f : Forest) (row : Row) → row ≡ out → ((net : Net) → Completes net j row no_checks old.forest f)
      → IsDone old (events.Complete j out) (record old { forest = f })
  completes_done f row same does =
      let s : State = state_of old in
      let names : ℕ → List ℕ = names_of old.known in
      let x : ItemAt = completed_item.0 in
      let is : ItemIs s j x.of_task.within.net = item_is_so names old.forest s (stands_well old may) j x completed_item.1 reader may.held.well in
      let needs : MayComplete x.of_task.within.net j no_checks s = record { item_is = is; rule = sym ((words_of old may).rule (task_place is.there.of_task Post)) } in
      let allowed : Allowed s (events.Complete j out) nothing = (complete_as old may j out nothing ∙ sym (complete_as old may j out leads.1.said) ∙ leads.1.allowed.0, tt) in
      done old may (λ n. events.Complete j row) (λ n. MayComplete x.of_task.within.net j no_checks) all_else (events.Complete j out) (record old { forest = f })
      (does x.of_task.within.net names s may.held.sites needs) needs (ap (events.Complete j) same) (placed old f) refl allowed
