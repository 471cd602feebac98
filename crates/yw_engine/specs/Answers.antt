-- What an engine answers. Our own.
use Rattle.std.specs.Prelude.{◌≡◌, true, false, Result, Ok, Err}
use Rattle.yw_engine.specs.Held.{Held}
use Rattle.yw_engine.specs.declared.fault.EngineFault.{EngineFault}
use Rattle.yw_engine.specs.declared.fault.EngineFault.TheVariants as faults
use Rattle.yw_state.specs.declared.rule.Refusal.{Refusal}

-- this holds of the refusal, where the answer is one
abbrev pub IfRefused : {A : Type 0} → Result A EngineFault → (Refusal → Type 0) → Type 0
IfRefused (Ok x) P = Unit {0}
IfRefused (Err (faults.Refused refusal)) P = P refusal
IfRefused (Err faults.Memory) P = Unit {0}
IfRefused (Err faults.Spent) P = Unit {0}

-- Whether the engine was spent before the answer, and whether it is after it: Spent comes exactly where it was, and changes nothing.
-- Memory spends it, and no other answer does.
abbrev pub TellsSpent : {A : Type 0} → Result A EngineFault → Held → Held → Type 0
TellsSpent (Ok x) old new = (old.spent ≡ false) × (new.spent ≡ false)
TellsSpent (Err (faults.Refused refusal)) old new = (old.spent ≡ false) × (new.spent ≡ false)
TellsSpent (Err faults.Memory) old new = (old.spent ≡ false) × (new.spent ≡ true)
TellsSpent (Err faults.Spent) old new = (old.spent ≡ true) × (new ≡ old)
