-- What an office holds: an engine, and the work lists beside it. Our own.
use Rattle.std.specs.List.{list_all}
use Rattle.std.specs.Prelude.{◌≡◌, Err, false, Ok, Result, Some, true}
use Rattle.yw_built.specs.Built.{is_built}
use Rattle.yw_engine.specs.Held.{Held, state_of}
use Rattle.yw_engine.specs.declared.fault.Decided.{Decided}
use Rattle.yw_engine.specs.declared.fault.EngineFault.{EngineFault}
use Rattle.yw_engine.specs.declared.fault.EngineFault.TheVariants as faults
use Rattle.yw_state.specs.Broken.{Breaks}
use Rattle.yw_state.specs.Legal.{IsLegal}
use Rattle.yw_state.specs.declared.command.Command.{Command}
use Rattle.yw_state.specs.declared.rule.Refusal.{Refusal}
use Rattle.yw_texts.specs.Texts.{reader}
use Rattle.yw_worklist.specs.Lists.{IsListed}
use Rattle.yw_worklist.specs.declared.lists.Lists.{Lists}

-- The engine isn't spent, and the lists are those of its state.
pub record IsKept (engine : Held) (lists : Lists) : Type 0 where
  pub fresh : engine.spent ≡ false
  pub listed : IsListed (state_of engine) lists

-- ---- a command

-- The events may answer the command, and are built; they led to what the engine holds now, and the lists are those of that state.
pub record IsDecided (old : Held) (c : Command) (d : Decided) (new : Held) (lists : Lists) : Type 0 where
  pub legal : IsLegal reader (state_of old) c d.events d.quiet (state_of new)
  pub built : list_all is_built d.events ≡ true
  pub kept : IsKept new lists

-- The command breaks this rule first, and what the engine holds is what it held.
pub record IsRefused (old : Held) (c : Command) (refusal : Refusal) (new : Held) (lists : Lists) : Type 0 where
  pub breaks : Breaks reader (state_of old) c (Some refusal)
  pub same : new.standing ≡ old.standing
  pub kept : IsKept new lists

-- one of them, or no memory was left
abbrev pub Decides : Held → Command → Result Decided EngineFault → Held → Lists → Type 0
Decides old c (Ok d) new lists = IsDecided old c d new lists
Decides old c (Err (faults.Refused refusal)) new lists = IsRefused old c refusal new lists
Decides old c (Err faults.Memory) new lists = Unit {0}
Decides old c (Err faults.Spent) new lists = ⊥
