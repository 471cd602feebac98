use Rattle.std.proofs.Common.{◌≡◌, ◌++◌}
use Rattle.serde_json.specs.View.{members_view}
use Rattle.yw_lines.specs.Values.{givens_in}
use Rattle.yw_wire.proofs.values.givens_in.Given as goal

-- what was given so far and what is left are all
abbrev pub invariant-loop-name : goal.invariant-loop-name
invariant-loop-name l = l.givens ++ givens_in (members_view l.name-iterator) ≡ givens_in (members_view l.members.entries)
