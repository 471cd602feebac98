use Rattle.serde.specs.Event.{Log}
use Rattle.serde_json.specs.Events.{SendsMembers}
use Rattle.yw_wire.proofs.rows.send_members.Given as goal
use Rattle.yw_wire.specs.Sent.{entry_members}

-- whatever ends the members well from here ends them well from the start
abbrev pub invariant-loop-name : goal.invariant-loop-name
invariant-loop-name g l =
    (end : Log) → SendsMembers (entry_members l.name-iterator) (g.S.Serializer.written l.out) end
    → SendsMembers (entry_members l.map.entries) (g.S.Serializer.written l.initial.out) end
