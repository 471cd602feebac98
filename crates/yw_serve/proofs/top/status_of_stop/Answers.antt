use Rattle.std.proofs.Common.{inl, subst}
use Rattle.yw_serve.proofs.ServedLemmas.{full_ends}
use Rattle.yw_serve.specs.Ends.{EndsShort}
use Rattle.yw_serve.specs.Faults.{StopFaults}
use Rattle.yw_serve.specs.declared.top.Status.TheVariants.{Full}
use Rattle.yw_serve.proofs.FaultLemmas.{notice_faults, status_then}
use Rattle.yw_serve.specs.declared.server.Stop.{Stop}
use Rattle.yw_serve.proofs.top.status_of_stop.Goals as goal

pub returns-in-Disk-clause-ends : goal.returns-in-Disk-clause-ends
returns-in-Disk-clause-ends g c = λ tells content s full_at limit piece bytes left start h.
    let D = g.D.Desk in
    subst (λ (stop : Stop). EndsShort D content s full_at limit stop bytes left piece start c.args.desk.now) c.in-Disk.is h

pub returns-in-Write-clause-ends : goal.returns-in-Write-clause-ends
returns-in-Write-clause-ends g c = λ tells content s full_at limit piece bytes left start h.
    let D = g.D.Desk in
    inl (subst (λ (stop : Stop). EndsShort D content s full_at limit stop bytes left piece start c.args.desk.now) c.in-Write.is h)

pub returns-in-Memory-clause-ends : goal.returns-in-Memory-clause-ends
returns-in-Memory-clause-ends g c = λ tells content s full_at limit piece bytes left start h.
    let D = g.D.Desk in
    inl (subst (λ (stop : Stop). EndsShort D content s full_at limit stop bytes left piece start c.args.desk.now) c.in-Memory.is h)

pub returns-in-Full-clause-ends : goal.returns-in-Full-clause-ends
returns-in-Full-clause-ends g c = λ tells content s full_at limit piece bytes left start h.
    let D = g.D.Desk in
    full_ends D content s full_at limit bytes left piece start c.tell_full.result _ c.args.desk.now c.tell_full.new.desk
    (subst (λ (stop : Stop). EndsShort D content s full_at limit stop bytes left piece start c.args.desk.now) c.in-Full.is h) (c.tell_full.ensures.told tells)

pub returns-in-Disk-clause-faults : goal.returns-in-Disk-clause-faults
returns-in-Disk-clause-faults g c = λ before now start same f. (same, subst (λ (stop : Stop). StopFaults g.D.Desk stop start c.args.desk.now) c.in-Disk.is f)

pub returns-in-Write-clause-faults : goal.returns-in-Write-clause-faults
returns-in-Write-clause-faults g c = λ before now start same f. (same, subst (λ (stop : Stop). StopFaults g.D.Desk stop start c.args.desk.now) c.in-Write.is f)

pub returns-in-Memory-clause-faults : goal.returns-in-Memory-clause-faults
returns-in-Memory-clause-faults g c = λ before now start same f. (same, subst (λ (stop : Stop). StopFaults g.D.Desk stop start c.args.desk.now) c.in-Memory.is f)

pub returns-in-Full-clause-faults : goal.returns-in-Full-clause-faults
returns-in-Full-clause-faults g c = λ before now start same f.
    let D = g.D.Desk in
    let old = c.args.desk.now in
    let new = c.tell_full.new.desk in
    status_then D start old new (subst (λ (stop : Stop). StopFaults D stop start old) c.in-Full.is f) c.tell_full.result before now
    (notice_faults D before now same old new c.tell_full.result Full (λ none. (same, none)) c.tell_full.ensures.faults)
