use Rattle.std.proofs.Common.{subst}
use Rattle.yw_serve.specs.Ends.{EndsAs}
use Rattle.yw_serve.specs.Faults.{EndingFaults}
use Rattle.yw_serve.specs.declared.run.Ending.{Ending}
use Rattle.yw_serve.proofs.top.status_of.Goals as goal

pub returns-in-Whole-clause-ends : goal.returns-in-Whole-clause-ends
returns-in-Whole-clause-ends g c = λ tells content s full_at limit piece bytes left start h.
    let D = g.D.Desk in
    subst (λ (e : Ending). EndsAs D e content s full_at limit bytes left piece start c.args.desk.now) c.in-Whole.is h

pub returns-in-Unread-clause-ends : goal.returns-in-Unread-clause-ends
returns-in-Unread-clause-ends g c = λ tells content s full_at limit piece bytes left start h.
    let D = g.D.Desk in
    subst (λ (e : Ending). EndsAs D e content s full_at limit bytes left piece start c.args.desk.now) c.in-Unread.is h

pub returns-in-Past-clause-ends : goal.returns-in-Past-clause-ends
returns-in-Past-clause-ends g c = λ tells content s full_at limit piece bytes left start h.
    let D = g.D.Desk in
    subst (λ (e : Ending). EndsAs D e content s full_at limit bytes left piece start c.args.desk.now) c.in-Past.is h

pub returns-in-Stopped-clause-ends : goal.returns-in-Stopped-clause-ends
returns-in-Stopped-clause-ends g c = λ tells content s full_at limit piece bytes left start h.
    let D = g.D.Desk in
    c.status_of_stop.ensures.ends tells content s full_at limit piece bytes left start (subst (λ (e : Ending). EndsAs D e content s full_at limit bytes left piece start c.args.desk.now) c.in-Stopped.is h)

pub returns-in-Whole-clause-faults : goal.returns-in-Whole-clause-faults
returns-in-Whole-clause-faults g c = λ before now start f. subst (λ (e : Ending). EndingFaults g.D.Desk e before now start c.args.desk.now) c.in-Whole.is f

pub returns-in-Unread-clause-faults : goal.returns-in-Unread-clause-faults
returns-in-Unread-clause-faults g c = λ before now start f. subst (λ (e : Ending). EndingFaults g.D.Desk e before now start c.args.desk.now) c.in-Unread.is f

pub returns-in-Past-clause-faults : goal.returns-in-Past-clause-faults
returns-in-Past-clause-faults g c = λ before now start f. subst (λ (e : Ending). EndingFaults g.D.Desk e before now start c.args.desk.now) c.in-Past.is f

pub returns-in-Stopped-clause-faults : goal.returns-in-Stopped-clause-faults
returns-in-Stopped-clause-faults g c = λ before now start f.
    let h = subst (λ (e : Ending). EndingFaults g.D.Desk e before now start c.args.desk.now) c.in-Stopped.is f in
    c.status_of_stop.ensures.faults before now start h.0 h.1
