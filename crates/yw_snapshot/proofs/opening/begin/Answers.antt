use Rattle.std.proofs.Common.{◌≡◌, max, ◌∙◌, rules}
use Rattle.yw_snapshot.specs.Opening.{LeftAfterSyncs}
use Rattle.yw_snapshot.proofs.Beginning.{found_begun}
use Rattle.yw_snapshot.proofs.Looks.{then_stays}
use Rattle.yw_snapshot.proofs.opening.begin.Goals as goal

pub returns-in_err-len-clause-any_moment : goal.returns-in_err-len-clause-any_moment
returns-in_err-len-clause-any_moment g c = λ tells.
    let D = g.D.Desk in
    let mid = c.begin_file.new.desk in
    then_stays D c.args.desk.now mid c.len.new.self (LeftAfterSyncs (D.state c.args.desk.now)) (g.met.D.Desk.counts_now mid) (c.in_ok-begin_file.ensures.any_moment tells) c.len.ensures.time

pub returns-clause-any_moment : goal.returns-clause-any_moment
returns-clause-any_moment g c = λ tells.
    let D = g.D.Desk in
    let mid = c.begin_file.new.desk in
    then_stays D c.args.desk.now mid c.len.new.self (LeftAfterSyncs (D.state c.args.desk.now)) (g.met.D.Desk.counts_now mid) (c.in_ok-begin_file.ensures.any_moment tells) c.len.ensures.time

pub returns-clause-front : goal.returns-clause-front
returns-clause-front g c = λ tells.
    let D = g.D.Desk in
    let mid = c.begin_file.new.desk in
    let most : c.max.result ≡ max c.in_ok-len.len 30 = search rules in
    found_begun (D.state c.args.desk.now) (D.state mid) (D.state c.len.new.self) c.in_ok-len.len c.max.result (c.in_ok-begin_file.ensures.begun tells) c.len.ensures.state
    (c.in_ok-len.ensures.value (c.in_ok-begin_file.ensures.tells ∙ tells)) most
