-- What a fault says of a line and of a field.
use Rattle.std.specs.Prelude.{◌≡◌, Option, Some, None, Result, Ok, Err}
use Rattle.yw_state.specs.declared.rule.Rule.{Rule}
use Rattle.yw_state.specs.declared.rule.Rule.TheVariants as rules
use Rattle.yw_wire.specs.declared.fault.FieldFault.{FieldFault}
use Rattle.yw_wire.specs.declared.fault.FieldFault.TheVariants as fields
use Rattle.yw_wire.specs.declared.fault.WireFault.{WireFault}
use Rattle.yw_wire.specs.declared.fault.WireFault.TheVariants as faults

-- the rule that a line with this fault breaks; want of memory is no rule
abbrev pub rule_of : WireFault → Option Rule
rule_of faults.LineTooLong = Some rules.LineTooLong
rule_of faults.NotJson = Some rules.NotJson
rule_of faults.NotBuilt = Some rules.NotBuilt
rule_of faults.NotCommand = Some rules.NotCommand
rule_of faults.Memory = None

-- the fault of a line whose field has this one
abbrev pub line_fault : FieldFault → WireFault
line_fault fields.Kind = faults.NotCommand
line_fault fields.Memory = faults.Memory

-- what is said is that this rule is broken, where there is a rule
abbrev pub Breaks : {A : Type 0} → Option Rule → Result A Rule → Type 0
Breaks None said = Unit {0}
Breaks (Some r) said = said ≡ Err r

-- The result is what is said, unless memory ran out.
abbrev pub Gives : {A : Type 0} → Result A WireFault → Result A Rule → Type 0
Gives (Ok x) said = said ≡ Ok x
Gives (Err fault) said = Breaks (rule_of fault) said

-- nothing is said, unless memory ran out
abbrev pub Lacks : {A : Type 0} → FieldFault → Option A → Type 0
Lacks fields.Kind said = said ≡ None
Lacks fields.Memory said = Unit {0}

-- The result is what a field says, unless memory ran out.
abbrev pub Says : {A : Type 0} → Result A FieldFault → Option A → Type 0
Says (Ok x) said = said ≡ Some x
Says (Err fault) said = Lacks fault said
