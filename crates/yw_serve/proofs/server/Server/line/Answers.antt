use Rattle.yw_serve.proofs.FaultLemmas.{faults_as, if_err_as}
use Rattle.yw_serve.proofs.server.Server.line.Goals as goal

pub returns-in_err-answer-clause-err : goal.returns-in_err-answer-clause-err
returns-in_err-answer-clause-err g c = if_err_as c.from_residual.result c.in_err-answer.field-0.0 _ c.from_residual.ensures.1 c.in_err-answer.ensures.err

pub returns-in_err-answer-clause-faults : goal.returns-in_err-answer-clause-faults
returns-in_err-answer-clause-faults g c =
    faults_as g.D.Desk c.args.desk.now c.answer.new.desk c.from_residual.result c.in_err-answer.field-0.0 c.from_residual.ensures.1 c.in_err-answer.ensures.faults

pub returns-clause-ok : goal.returns-clause-ok
returns-clause-ok g c = λ tells content current. (c.in_ok-answer.ensures.ok tells content current).ends
