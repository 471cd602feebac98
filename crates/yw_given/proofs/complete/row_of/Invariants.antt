use Rattle.std.specs.Prelude.{◌≡◌, Some, map}
use Rattle.std.proofs.Common.{take}
use Rattle.yw_state.specs.Given.{made_value}
use Rattle.yw_state.specs.Options.{all_of}
use Rattle.yw_given.proofs.complete.row_of.Given as goal

abbrev pub invariant-loop-param : goal.invariant-loop-param
invariant-loop-param l = all_of (map (made_value l.given) (take l.param-index l.params)) ≡ Some l.row
