-- The event by which an entry is done that breaks no rule: the command asks for it.
use Rattle.std.proofs.Common.{◌≡◌, ◌∙◌, List, Option, Some, ap, false, refl, subst, sym, true, ℕ}
use Rattle.std.proofs.lemmas.Bool.{and_from}
use Rattle.std.specs.Prelude.{length, nat_le, ◌&&◌, ◌+◌}
use Rattle.yw_asked.proofs.TasksAsked.{enter_is_asked}
use Rattle.yw_base.specs.Identity.{case_number, number_end}
use Rattle.yw_breaks.specs.Enter.{IsEnterable}
use Rattle.yw_breaks.specs.Nets.{IsTaskNamed}
use Rattle.yw_built.specs.Built.{is_built}
use Rattle.yw_cases.proofs.EntryLaw.{entered_as}
use Rattle.yw_cases.specs.State.{MayStand}
use Rattle.yw_cases.specs.Tried.{is_apart}
use Rattle.yw_enabled.proofs.EnterLaw.{comes_in}
use Rattle.yw_enabled.specs.Entered.{MayEnter, may_be_made}
use Rattle.yw_known.specs.Here.{IsNetHere}
use Rattle.yw_known.specs.declared.here.NetHere.{NetHere}
use Rattle.yw_mark.specs.declared.join.Taken.{Taken}
use Rattle.yw_spec.specs.declared.task.Task.{Task}
use Rattle.yw_standing.specs.State.{state_of}
use Rattle.yw_standing.specs.Tried.{LeadsOn}
use Rattle.yw_standing.specs.declared.standing.Standing.{Standing}
use Rattle.yw_texts.specs.Texts.{reader}
use Rattle.yw_state.specs.Allowed.{Allowed}
use Rattle.yw_state.specs.Automatic.{case_of}
use Rattle.yw_state.specs.Events.{after}
use Rattle.yw_state.specs.Identity.{Ident}
use Rattle.yw_state.specs.Legal.{IsAsked}
use Rattle.yw_state.specs.Options.{is_some_and}
use Rattle.yw_state.specs.Passing.{within_bounds}
use Rattle.yw_state.specs.Texts.{nothing}
use Rattle.yw_state.specs.Values.{Row}
use Rattle.yw_state.specs.Words.{held}
use Rattle.yw_state.specs.declared.command.Command.TheVariants as commands
use Rattle.yw_state.specs.declared.event.Event.{Event}
use Rattle.yw_state.specs.declared.event.Event.TheVariants as events
use Rattle.yw_tree.specs.declared.NetState.{out-NetState}
use Rattle.yw_walk.specs.Computed.{IsComputedOf}
use Rattle.yw_task.proofs.EnterAsk.{of_task_at}
use Rattle.yw_task.specs.Giving.{entry_rows}
use Rattle.yw_walk.specs.Finds.{EntersAs, GivesRows, IsEntered, IsEntry}
use Rattle.yw_walk.specs.declared.found.Found.{Found}

-- ---- it enters the task

module _ (h : Standing) (may : MayStand h) (i : Ident) (name : List ℕ) (w : NetHere) (here : IsNetHere h.known h.forest (state_of h) i w) (t : ℕ)
    (is : IsTaskNamed w.net.now name t) (next : ℕ) (same : next ≡ h.next) (taken : Taken) (rows : List Row) (able : IsEnterable w t next taken rows) where
  may_enter_by : MayEnter w.net.now w.state.now t next taken
  may_enter_by =
      let chosen = able.chosen in
      let fit = able.fit in
      let vals = (out-NetState w.state.now).vals in
      let made : may_be_made able.task vals next ≡ true =
      ap (λ (o : Option (List Row)). is_some_and o (λ rows. within_bounds able.task.many (length rows) && nat_le (next + length rows) number_end)) fit.are
      ∙ and_from (within_bounds able.task.many (length fit.rows)) (nat_le (next + length fit.rows) number_end) fit.bounds fit.room in
      comes_in w.net.now w.state.now t next able.task able.at taken chosen.idle chosen.chooses chosen.tokens (chosen.goes able.task able.at) made

  pub gives_rows : GivesRows w t rows
  gives_rows = of_task_at w.net.now t (λ (u : Task). rows ≡ entry_rows u (out-NetState w.state.now).vals) able.task able.at able.gives

  pub entered : held (state_of h) i ≡ false → (found : Found) → IsEntry w i next t taken found → IsEntered (state_of h) i name found
  entered unheld found entry =
      entered_as h may i name w here t is.number is.task is.at unheld taken
      (subst (λ (k : ℕ). MayEnter w.net.now w.state.now t k taken) same may_enter_by) found
      (subst (λ (k : ℕ). IsEntry w i k t taken found) same entry)

-- ---- the command asks for it

module _ (h : Standing) (i : Ident) (t : List ℕ) (w : Found) (entered : IsEntered (state_of h) i t w) where
  abbrev e : Event
  e = w.event

  enters : EntersAs (state_of h) i t e
  enters = entered.enters

  pub enter_computed : IsComputedOf (state_of h) e w.computed
  enter_computed = entered.computed

  abbrev at : Event
  at = events.Enter i t enters.places (state_of h).next enters.count

  allowed : Allowed (state_of h) at nothing
  allowed = subst (λ (z : Event). Allowed (state_of h) z nothing) enters.is enters.allowed

  pub enter_asked : (who : List ℕ) → IsAsked reader (state_of h) (commands.Enter who i t) e
  enter_asked who =
      subst (IsAsked reader (state_of h) (commands.Enter who i t)) (sym enters.is) (enter_is_asked reader (state_of h) who i t enters.places enters.count allowed)

  pub enter_built : is_built e ≡ true
  enter_built = ap is_built enters.is

  pub enter_apart : is_apart e ≡ false
  enter_apart = ap is_apart enters.is

  pub enter_case : (n : ℕ) → n ≡ case_number i → case_of e ≡ Some n
  enter_case n same = ap case_of enters.is ∙ ap (λ k. Some k) (sym same)

  pub enter_leads : LeadsOn h e
  enter_leads = subst (LeadsOn h) (sym enters.is) (after (state_of h) at nothing, record { said = nothing; says = refl; allowed = allowed; then = refl })
