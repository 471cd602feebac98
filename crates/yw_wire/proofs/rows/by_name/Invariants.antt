use Rattle.std.proofs.Common.{◌≡◌, take}
use Rattle.yw_lines.specs.Answers.{members_data}
use Rattle.yw_wire.proofs.rows.by_name.Given as goal
use Rattle.yw_wire.specs.Sent.{entry_members}

abbrev pub invariant-loop-value : goal.invariant-loop-value
invariant-loop-value l = entry_members l.map.entries ≡ members_data (take l.value-index l.value-items)
