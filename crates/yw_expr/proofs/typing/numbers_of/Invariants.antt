use Rattle.std.proofs.Common.{◌≡◌, take}
use Rattle.std.specs.Prelude.{map}
use Rattle.yw_expr.specs.Typing.{number_of}
use Rattle.yw_expr.proofs.typing.numbers_of.Given as goal

abbrev pub invariant-loop-item : goal.invariant-loop-item
invariant-loop-item l = l.list ≡ map number_of (take l.item-index l.items)
