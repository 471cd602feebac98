use Rattle.yw_serve.proofs.Telling.{keeps_files, told, told_after}
use Rattle.yw_serve.proofs.server.tell.Goals as goal

pub returns-in-Ok-clause-any_moment : goal.returns-in-Ok-clause-any_moment
returns-in-Ok-clause-any_moment g c = λ tells settled.
    let D = g.D.Desk in
    let old = c.args.desk.now in
    let new = c.say.new.self in
    told D old new (D.state old) (D.may_leave old) (D.may_leave new) c.args.text.now settled (g.met.D.Desk.said_by_now old) (g.met.D.Desk.only_now old) c.in-Ok.ensures.time

pub returns-in-Err-clause-any_moment : goal.returns-in-Err-clause-any_moment
returns-in-Err-clause-any_moment g c = λ tells settled.
    let D = g.D.Desk in
    let old = c.args.desk.now in
    let new = c.say.new.self in
    told D old new (D.state old) (D.may_leave old) (D.may_leave new) c.args.text.now settled (g.met.D.Desk.said_by_now old) (g.met.D.Desk.only_now old) c.in-Err.ensures.time

pub returns-in-Ok-clause-passes : goal.returns-in-Ok-clause-passes
returns-in-Ok-clause-passes g c = λ tells.
    let D = g.D.Desk in
    let old = c.args.desk.now in
    let new = c.say.new.self in
    told_after D old new (D.may_leave old) (D.may_leave new) c.args.text.now (g.met.D.Desk.only_now old) c.in-Ok.ensures.time

pub returns-in-Err-clause-passes : goal.returns-in-Err-clause-passes
returns-in-Err-clause-passes g c = λ tells.
    let D = g.D.Desk in
    let old = c.args.desk.now in
    let new = c.say.new.self in
    told_after D old new (D.may_leave old) (D.may_leave new) c.args.text.now (g.met.D.Desk.only_now old) c.in-Err.ensures.time

pub returns-in-Ok-clause-files : goal.returns-in-Ok-clause-files
returns-in-Ok-clause-files g c =
    let D = g.D.Desk in
    let old = c.args.desk.now in
    let new = c.say.new.self in
    let said = c.in-Ok.ensures in
    keeps_files D old new (D.may_leave new) (g.met.D.Desk.only_now old) c.args.text.now said.files_a said.files_b said.other_cause said.time

pub returns-in-Err-clause-files : goal.returns-in-Err-clause-files
returns-in-Err-clause-files g c =
    let D = g.D.Desk in
    let old = c.args.desk.now in
    let new = c.say.new.self in
    let said = c.in-Err.ensures in
    keeps_files D old new (D.may_leave new) (g.met.D.Desk.only_now old) c.args.text.now said.files_a said.files_b said.other_cause said.time
