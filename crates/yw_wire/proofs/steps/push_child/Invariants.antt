use Rattle.std.proofs.Common.{◌≡◌, ◌++◌, string_bytes, take}
use Rattle.yw_wire.proofs.StepLemmas.{each_dotted}
use Rattle.yw_wire.proofs.steps.push_child.Given as goal

abbrev pub invariant-loop-before : goal.invariant-loop-before
invariant-loop-before l = string_bytes l.text ≡ string_bytes l.initial.text ++ each_dotted (take l.before-index l.numbers)
