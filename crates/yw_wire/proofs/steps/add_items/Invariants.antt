use Rattle.std.proofs.Common.{◌≡◌, ◌++◌, string_bytes}
use Rattle.yw_lines.specs.EventTexts.{item_idents, listed}
use Rattle.yw_wire.proofs.steps.add_items.Given as goal

abbrev pub invariant-loop-k : goal.invariant-loop-k
invariant-loop-k l = string_bytes l.text ≡ string_bytes l.initial.text ++ listed (item_idents l.net l.first l.k)
