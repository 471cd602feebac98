use Rattle.std.proofs.Common.{◌≡◌, ◌++◌, take, true}
use Rattle.std.specs.List.{flat_map, list_all}
use Rattle.yw_restore.proofs.line.write_each.Given as goal

abbrev pub invariant-loop-line : goal.invariant-loop-line
invariant-loop-line g l =
    (l.out.items ≡ l.fn.out.items ++ flat_map g.T.Line.bytes (take l.line-index l.lines))
    × (list_all g.T.Line.is_line (take l.line-index l.lines) ≡ true)
