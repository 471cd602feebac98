use Rattle.std.proofs.Common.{Ok, ap, ◌∙◌}
use Rattle.std.proofs.lemmas.Result.{IfOk-weaker}
use Rattle.yw_engine.specs.Held as engine
use Rattle.yw_wire.specs.Faults.{rule_of}
use Rattle.yw_model.proofs.Answering.{line_can_ask}
use Rattle.yw_serve.proofs.Planning.{command_line, fault_line, query_line}
use Rattle.yw_serve.proofs.plan.plan_line.Goals as goal

pub plan_command-requires : goal.plan_command-requires
plan_command-requires c =
    let command = c.in-Ok-Command.command in
    line_can_ask c.args.line.now command (c.in-Ok-Command.ensures.ok ∙ ap Ok c.in-Ok-Command.field-0-is)

pub returns-in-Ok-Command-clause-plan : goal.returns-in-Ok-Command-clause-plan
returns-in-Ok-Command-clause-plan c =
    let s = engine.state_of c.args.office.now in
    let t = engine.state_of c.plan_command.new.office in
    let command = c.in-Ok-Command.command in
    let means = c.in-Ok-Command.ensures.ok ∙ ap Ok c.in-Ok-Command.field-0-is in
    IfOk-weaker c.plan_command.result _ _ (λ plan plans. command_line s t c.args.n c.args.line.now command plan c.plan_command.new.buffer.items means plans) c.plan_command.ensures

pub returns-in-Ok-Query-clause-plan : goal.returns-in-Ok-Query-clause-plan
returns-in-Ok-Query-clause-plan c =
    let s = engine.state_of c.args.office.now in
    let q = c.in-Ok-Query.query in
    let means = c.in-Ok-Query.ensures.ok ∙ ap Ok c.in-Ok-Query.field-0-is in
    IfOk-weaker c.plan_query.result _ _ (λ plan plans. query_line s c.args.n c.args.line.now q plan c.args.buffer.now.items means plans) c.plan_query.ensures

pub returns-in-Err-clause-plan : goal.returns-in-Err-clause-plan
returns-in-Err-clause-plan c =
    let s = engine.state_of c.args.office.now in
    IfOk-weaker c.plan_fault.result _ _ (λ plan plans. fault_line s c.args.n c.args.line.now (rule_of c.in-Err.fault) plan c.args.buffer.now.items c.in-Err.ensures.err plans) c.plan_fault.ensures
