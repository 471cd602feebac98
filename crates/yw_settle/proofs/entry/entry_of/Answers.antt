use Rattle.yw_settle.proofs.Coming.{answers_alone, answers_settled}
use Rattle.yw_settle.proofs.entry.entry_of.Goals as goal
use Rattle.yw_settle.proofs.entry.entry_of.Goals.{in-Some+in_ok-quiet-in-Some, in-None}

pub returns-clause-answers : goal.returns-clause-answers
returns-clause-answers g c =
    let M = g.M.Machine in
    let mid = M.state c.args.machine.now in
    elim c.match-case.branch [
      | in-Some+in_ok-quiet-in-Some w ↦ rw (w.quiet-is, w.events-is, w.machine-is)
          (answers_settled c.args.first mid c.args.case c.requires.case c.new-events.result c.push.new.self c.new-events.ensures c.in_ok-push.ensures.ok
          M.passes w.in-Some.case (M.state w.settle.new.machine) w.settle.new.events w.in_ok-quiet-in-Some.quiet w.in-Some.is w.in_ok-quiet-in-Some.ensures.settled)
      | in-None w ↦ rw (w.quiet-is, w.events-is, w.machine-is)
          (answers_alone c.args.first mid c.args.case c.requires.case c.new-events.result c.push.new.self c.new-events.ensures c.in_ok-push.ensures.ok w.in-None.is)
    ]
