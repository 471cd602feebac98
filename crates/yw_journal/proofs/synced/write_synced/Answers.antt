use Rattle.std.proofs.Common.{length}
use Rattle.yw_outside.specs.Image.{Writes, Stays}
use Rattle.yw_outside.specs.LogLaws.{untorn}
use Rattle.yw_outside.specs.Moments.{After}
use Rattle.yw_journal.proofs.Passing.{started, goes_on, stayed}
use Rattle.yw_journal.proofs.synced.write_synced.Goals as goal

pub returns-clause-any_moment : goal.returns-clause-any_moment
returns-clause-any_moment g c =
    let D = g.D.Desk in
    let n = length c.args.bytes.now in
    let old = c.args.desk.now in
    let mid = c.write.new.self in
    let step = Writes c.args.f c.args.at n in
    let P = After step (D.may_leave old) in
    let start = started D old P (λ i left. (i, g.met.D.Desk.only_now old i left, untorn c.args.f c.args.at n i)) in
    let written = goes_on D old old mid step (D.may_leave old) (D.may_leave mid) P start c.write.ensures.time (λ i a. a) in
    goes_on D old mid c.sync.new.self Stays (D.may_leave mid) (D.may_leave c.sync.new.self) P written c.sync.ensures.time
    (λ i a. c.write.ensures.time.crash i (stayed (D.may_leave mid) i a))
