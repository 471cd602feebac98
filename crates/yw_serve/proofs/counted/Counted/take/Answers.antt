use Rattle.std.proofs.Common.{◌*◌, refl, ◌∙◌, subst, arith}
use Rattle.yw_serve.proofs.BenchLaws.{can_more, taken_line}
use Rattle.yw_serve.proofs.Counting.{does_few}
use Rattle.yw_serve.proofs.FaultLemmas.{stop_failed}
use Rattle.yw_serve.specs.Desks.{LacksRoom}
use Rattle.yw_serve.specs.Opening.{begun}
use Rattle.yw_serve.specs.Session.{with_steps}
use Rattle.yw_serve.specs.declared.server.Stop.{Stop}
use Rattle.yw_serve.proofs.counted.Counted.take.Goals as goal

pub fault_of_stop-requires : goal.fault_of_stop-requires
fault_of_stop-requires g c = λ n e.
    let can = c.requires.can in
    let lacks = subst (λ (s : Stop). LacksRoom s c.args.self.now.server.journal) e c.in-Err.ensures.grows in
    omega (arith, lacks, can.end, can.limited, c.requires.few)

pub count-requires-clause-small : goal.count-requires-clause-small
count-requires-clause-small g c =
    let within = c.requires.can.within in
    let few = c.requires.few in
    record {
      accepted = omega (arith, within.accepted, few);
      ended = omega (arith, within.ended, few);
      events = omega (arith, within.events, few);
      high = omega (arith, within.high, few);
      refused = omega (arith, within.refused, few);
    }

pub count-requires-clause-few : goal.count-requires-clause-few
count-requires-clause-few g c =
    let can = c.requires.can in
    let now = can.stands.current can.tells in
    let d = c.in-Ok.ensures.ok can.tells now.0 now.1 in
    does_few c.in-Ok.plan d.buffer d.ends.step d.does

pub returns-in-Err-clause-faults : goal.returns-in-Err-clause-faults
returns-in-Err-clause-faults g c =
    stop_failed g.D.Desk c.args.desk.now c.answer.new.desk c.in-Err.stop c.fault_of_stop.result c.fault_of_stop.ensures c.in-Err.ensures.faults

pub returns-clause-ok : goal.returns-clause-ok
returns-clause-ok g c = λ lines begin h.
    let done = c.in-Ok.ensures in
    let d = done.ok c.requires.can.tells (with_steps begun h.steps) h.are_done.file in
    taken_line g.D.Desk c.args.self.now _ c.in-Ok.plan lines c.args.line.now begin c.args.desk.now c.answer.new.desk h d refl c.count.ensures.counted done.keeps.file done.keeps.limit

pub returns-clause-can : goal.returns-clause-can
returns-clause-can g c =
    let can = c.requires.can in
    let done = c.in-Ok.ensures in
    can_more g.D.Desk c.args.self.now _ c.args.desk.now c.answer.new.desk can (done.keeps.counts.telling ∙ can.tells) done.stands refl
    (c.count.ensures.within (4097 * c.args.self.now.number) can.within) done.grows done.keeps.limit
