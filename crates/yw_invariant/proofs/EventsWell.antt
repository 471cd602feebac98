-- What is well stays well under each event that is allowed, where specifications are sound.
use Rattle.std.proofs.Common.{sym, subst}
use Rattle.yw_invariant.proofs.ExitWell as exit
use Rattle.yw_invariant.proofs.ItemsCome as coming
use Rattle.yw_invariant.proofs.ItemsEnd as items_end
use Rattle.yw_invariant.proofs.NetsBegin as nets_begin
use Rattle.yw_invariant.proofs.NetsEnd as nets_end
use Rattle.yw_invariant.proofs.PrimitivesWell as primitives
use Rattle.yw_invariant.proofs.RunsBegin as runs_begin
use Rattle.yw_invariant.proofs.TasksEntered as entering
use Rattle.yw_invariant.proofs.WorkletBegins as worklets
use Rattle.yw_sound.specs.Sound.{ReadsSound}
use Rattle.yw_state.proofs.AddRuleWell as add_rule
use Rattle.yw_state.proofs.EndWell as ending
use Rattle.yw_state.proofs.LaunchWell as launching
use Rattle.yw_state.proofs.LoadWell as load
use Rattle.yw_state.proofs.MarksWell as marks
use Rattle.yw_state.proofs.PersonWell as person
use Rattle.yw_state.proofs.StageWell as stages
use Rattle.yw_state.specs.Allowed.{Allowed}
use Rattle.yw_state.specs.Events.{Leads, after}
use Rattle.yw_state.specs.State.{State}
use Rattle.yw_state.specs.Texts.{Reader, Said, Says}
use Rattle.yw_state.specs.Well.{IsWell}
use Rattle.yw_state.specs.declared.event.Event.{Event}
use Rattle.yw_state.specs.declared.event.Event.TheVariants as events

module _ (reader : Reader) (sound : ReadsSound reader) (s : State) (well : IsWell reader s) where
  after_is_well : (e : Event) (said : Said) → Says reader s e said → Allowed s e said → IsWell reader (after s e said)
  unfolding after
  after_is_well (events.Person name roles) said says = person.person_keeps_well s name roles reader said well
  after_is_well (events.Load name text) said says = load.load_keeps_well reader s name text said well says
  after_is_well (events.AddRule p at side when conclusion number) said says = add_rule.add_rule_keeps_well reader s p at side when conclusion number said well says
  after_is_well (events.Launch n spec vals) said says = launching.launch_keeps_well reader s n spec vals said well
  after_is_well (events.Enter i t places first count) said says = entering.enter_keeps_well reader sound s i t places first count said well
  after_is_well (events.Start j who) said says = stages.start_keeps_well reader s j who said well
  after_is_well (events.Complete j out) said says = stages.complete_keeps_well reader s j out said well
  after_is_well (events.Exit i t places) said says = exit.exit_keeps_well reader sound s i t places said well
  after_is_well (events.Add i t value n) said says = coming.add_keeps_well reader sound s i t value n said well
  after_is_well (events.Finish n) said says = ending.finish_keeps_well reader s n said well
  after_is_well (events.Cancel n) said says = ending.cancel_keeps_well reader s n said well
  after_is_well (events.StartSub j) said says = nets_begin.start_sub_keeps_well reader sound s j said well
  after_is_well (events.CompleteSub j) said says = items_end.complete_sub_keeps_well reader sound s j said well
  after_is_well (events.CompleteEmpty j) said says = items_end.complete_empty_keeps_well reader sound s j said well
  after_is_well (events.Pass j check) said says = λ allowed. marks.pass_keeps_well reader s j said well check
  after_is_well (events.Except j check node n) said says = runs_begin.except_keeps_well reader sound s j check node n said well
  after_is_well (events.Substitute j worklet) said says = worklets.substitute_keeps_well reader sound s j worklet said well
  after_is_well (events.CompleteWorklet j) said says = nets_end.complete_worklet_keeps_well reader s j said well
  after_is_well (events.Raise j kind node n) said says = runs_begin.raise_keeps_well reader sound s j kind node n said well
  after_is_well (events.Prim r p) said says = primitives.prim_keeps_well reader sound s r p said well
  after_is_well (events.Compensated r) said says = nets_end.compensated_keeps_well reader s r said well
  after_is_well (events.Suspend j) said says = marks.suspend_keeps_well reader s j said well
  after_is_well (events.Continue j) said says = marks.continue_keeps_well reader s j said well
  after_is_well (events.Advance n) said says = λ allowed. well

  pub event_keeps_well : (e : Event) (t : State) → Leads reader s e t → IsWell reader t
  event_keeps_well e t leads = subst (IsWell reader) (sym leads.then) (after_is_well e leads.said leads.says leads.allowed)
