use Rattle.std.proofs.Common.{◌≡◌, ◌++◌, take}
use Rattle.yw_check_graph.proofs.graph.push_texts.Given as goal

abbrev pub invariant-loop-text : goal.invariant-loop-text
invariant-loop-text l = l.names.items ≡ l.fn.names.items ++ take l.text-index l.texts
