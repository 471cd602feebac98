-- How a net's variables are used.
use Rattle.std.specs.Prelude.{Bool, true, false}
use Rattle.yw_base.specs.declared.usage.Usage.{Usage}
use Rattle.yw_base.specs.declared.usage.Usage.TheVariants as usages

-- a value comes in when the net begins
abbrev pub comes_in : Usage → Bool
comes_in usages.In = true
comes_in usages.InOut = true
comes_in usage = false

-- the value is handed back when the net ends
abbrev pub goes_out : Usage → Bool
goes_out usages.Out = true
goes_out usages.InOut = true
goes_out usage = false
