use Rattle.std.proofs.Common.{◌≡◌, drop}
use Rattle.yw_base.specs.Spelling.{are_distinct}
use Rattle.yw_base.proofs.list.Items+Name.are_distinct.Given as goal

abbrev pub invariant-loop-i : goal.invariant-loop-i
invariant-loop-i l = are_distinct (drop l.i l.self-inside.items.items) ≡ are_distinct l.self-inside.items.items
