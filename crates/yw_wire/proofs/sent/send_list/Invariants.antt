use Rattle.std.proofs.Common.{drop, map}
use Rattle.serde.specs.Event.{Log}
use Rattle.serde_json.specs.Events.{SendsItems}
use Rattle.serde_json.specs.View.{items_of}
use Rattle.yw_wire.proofs.sent.send_list.Given as goal

-- whatever ends the items well from here ends them well from the start
abbrev pub invariant-loop-item : goal.invariant-loop-item
invariant-loop-item g l =
    (end : Log) → SendsItems (items_of (map g.T.Sent.said (drop l.item-index l.items))) (g.S.Serializer.written l.out) end
    → SendsItems (items_of (map g.T.Sent.said l.items)) (g.S.Serializer.written l.initial.out) end
