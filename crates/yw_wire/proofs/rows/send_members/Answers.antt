use Rattle.std.proofs.Common.{subst, sym}
use Rattle.std.proofs.lemmas.Map.Iter.{rest_all, rest_more}
use Rattle.std.proofs.lemmas.Result.{on_ok_weaker}
use Rattle.std.specs.Map.Iter.{deref_pair}
use Rattle.serde_json.specs.Events.{SendsMembers}
use Rattle.yw_wire.proofs.MemberLemmas.{members_sent}
use Rattle.yw_wire.proofs.rows.send_members.Goals as goal
use Rattle.yw_wire.specs.Sent.{entry_members}

pub loop-name-preserved : goal.loop-name-preserved
loop-name-preserved g c end rest =
    let turn = rest_more deref_pair c.loop-name.name-iterator c.next.new.self c.next.result _ c.in-Some.is c.next.ensures.steps in
    c.loop-name.invariant end
    (subst (λ es. SendsMembers (entry_members es) (g.S.Serializer.written c.loop-name.out) end) (sym turn)
    (_, _, c.in_ok-key.ensures, c.in_ok-send.ensures, rest))

pub returns : goal.returns
returns g c =
    let none = rest_all deref_pair c.loop-name.name-iterator c.next.new.self c.next.result c.in-None.is c.next.ensures.steps in
    let end = g.S.Serializer.written c.end_map.new.self in
    on_ok_weaker c.end_map.result (λ ends. members_sent c.args.map.now.entries c.len.result _ _ end c.len.ensures.len c.in_ok-begin_map.ensures
    (c.loop-name.invariant end (subst (λ es. SendsMembers (entry_members es) (g.S.Serializer.written c.loop-name.out) end) (sym none) ends))) c.end_map.ensures
