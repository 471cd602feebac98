-- The gates of joins and splits.
use Rattle.std.specs.Prelude.{Bool, true, false}
use Rattle.yw_base.specs.declared.gate.Gate.{Gate}
use Rattle.yw_base.specs.declared.gate.Gate.TheVariants as gates

abbrev pub is_or : Gate → Bool
is_or gates.Or = true
is_or gate = false
