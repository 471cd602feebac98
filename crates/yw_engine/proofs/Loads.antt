-- A specification that is loaded.
use Rattle.std.proofs.Common.{Bool, List, false, true, ℕ}
use Rattle.yw_cases.specs.Said.{TellsLoaded}
use Rattle.yw_engine.specs.Decides.{Answers, IsApplied, IsDecided, IsDone}
use Rattle.yw_engine.specs.declared.fault.Decided.{Decided}
use Rattle.yw_standing.specs.State.{state_of}
use Rattle.yw_standing.specs.declared.standing.Standing.{Standing}
use Rattle.yw_texts.proofs.Loading.{load_is_asked, load_unbroken}
use Rattle.yw_state.specs.declared.command.Command.TheVariants as commands
use Rattle.yw_state.specs.declared.event.Event.TheVariants as events

pub load_decided : (old mid new : Standing) (d : Decided) (name text : List ℕ) → IsDone old (events.Load name text) mid
    → Answers old (events.Load name text) d new
    → IsDecided old (commands.Load text) d new
load_decided old mid new d name text done answers =
    answers (commands.Load text) (load_unbroken (state_of old) (state_of mid) name text done.leads)
    (load_is_asked (state_of old) (state_of mid) name text done.leads)

-- one that an event tells is applied
pub load_applied : (old new : Standing) (name text : List ℕ) (leads : Bool) → TellsLoaded old name text leads new
    → IsApplied old (events.Load name text) leads new
load_applied old new name text true done = done.leads
load_applied old new name text false told = told
