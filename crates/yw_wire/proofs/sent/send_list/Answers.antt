use Rattle.std.proofs.Common.{◌≡◌, [], drop, length, map, refl, subst, sym}
use Rattle.std.proofs.lemmas.List.{drop_all}
use Rattle.std.proofs.lemmas.Result.{on_ok_weaker}
use Rattle.serde_json.specs.Events.{SendsItems}
use Rattle.serde_json.specs.View.{items_of}
use Rattle.yw_wire.proofs.SentLemmas.{item_sent, list_sent}
use Rattle.yw_wire.proofs.sent.send_list.Goals as goal

pub loop-item-preserved : goal.loop-item-preserved
loop-item-preserved g c end rest =
    c.loop-item.invariant end (item_sent g.T.Sent.said c.args.items.now c.loop-item.item-index c.item-item.result _ _ end c.loop-item-test.true c.item-item.is c.in_ok-send.ensures rest)

pub returns : goal.returns
returns g c =
    let items = c.args.items.now in
    let none : drop c.loop-item.item-index items ≡ [] = drop_all c.loop-item.item-index items c.loop-item-test.false in
    let end = g.S.Serializer.written c.end_seq.new.self in
    on_ok_weaker c.end_seq.result (λ ends. list_sent g.T.Sent.said items (length items) _ _ end refl c.in_ok-begin_seq.ensures
    (c.loop-item.invariant end (subst (λ xs. SendsItems (items_of (map g.T.Sent.said xs)) (g.S.Serializer.written c.loop-item.out) end) (sym none) ends))) c.end_seq.ensures
