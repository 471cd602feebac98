use Rattle.std.proofs.Common.{ℕ, List, [], ◌∷◌, ◌++◌, subst, arith}
use Rattle.std.proofs.lemmas.Result.{IfOk-weaker}
use Rattle.yw_serve.proofs.BenchLaws.{four_lines}
use Rattle.yw_serve.proofs.FaultLemmas.{bench_then, failed_as, failed_then, none_then}
use Rattle.yw_serve.specs.Bench.{complete_line, enter_line, launch_line, start_line}
use Rattle.yw_serve.specs.Counted.{HasTaken}
use Rattle.yw_serve.proofs.counted.Counted.take_case.Goals as goal

pub returns-in_err-take_made-clause-faults : goal.returns-in_err-take_made-clause-faults
returns-in_err-take_made-clause-faults g c =
    failed_as g.D.Desk c.args.desk.now c.take_made.new.desk c.from_residual.result c.in_err-take_made.field-0.0 c.from_residual.ensures.1 c.in_err-take_made.ensures.faults

pub returns-in_err-take_made-2-clause-faults : goal.returns-in_err-take_made-2-clause-faults
returns-in_err-take_made-2-clause-faults g c =
    let D = g.D.Desk in
    let old = c.args.desk.now in
    let new = c.take_made-2.new.desk in
    let fault = c.in_err-take_made-2.field-0.0 in
    failed_as D old new c.from_residual-in_err-take_made-2.result fault c.from_residual-in_err-take_made-2.ensures.1
    (failed_then D old c.take_made.new.desk new c.in_ok-take_made.ensures.faults fault c.in_err-take_made-2.ensures.faults)

pub returns-in_err-take_made-3-clause-faults : goal.returns-in_err-take_made-3-clause-faults
returns-in_err-take_made-3-clause-faults g c =
    let D = g.D.Desk in
    let old = c.args.desk.now in
    let mid = c.take_made-2.new.desk in
    let new = c.take_made-3.new.desk in
    let fault = c.in_err-take_made-3.field-0.0 in
    let first = none_then D old c.take_made.new.desk mid c.in_ok-take_made.ensures.faults c.in_ok-take_made-2.ensures.faults in
    failed_as D old new c.from_residual-in_err-take_made-3.result fault c.from_residual-in_err-take_made-3.ensures.1
    (failed_then D old mid new first fault c.in_err-take_made-3.ensures.faults)

pub returns-clause-ok : goal.returns-clause-ok
returns-clause-ok g c = IfOk-weaker c.take_made-4.result _ _ (λ x taken lines begin h.
    let launch : List ℕ = launch_line c.args.amount in
    let enter : List ℕ = enter_line c.args.case in
    let start : List ℕ = start_line c.args.case in
    let complete : List ℕ = complete_line c.args.case in
    let one = c.in_ok-take_made.ensures.ok launch lines c.launch_line.ensures begin h in
    let two = c.in_ok-take_made-2.ensures.ok enter (lines ++ launch ∷ []) c.enter_line.ensures begin one in
    let three = c.in_ok-take_made-3.ensures.ok start ((lines ++ launch ∷ []) ++ enter ∷ []) c.start_line.ensures begin two in
    subst (λ (ls : List (List ℕ)). HasTaken g.D.Desk c.take_made-4.new.self ls begin c.take_made-4.new.desk) (four_lines lines launch enter start complete)
    (taken complete (((lines ++ launch ∷ []) ++ enter ∷ []) ++ start ∷ []) c.complete_line.ensures begin three)) c.take_made-4.ensures.ok

pub returns-clause-number : goal.returns-clause-number
returns-clause-number g c = IfOk-weaker c.take_made-4.result _ _ (λ x next.
    omega (arith, next, c.in_ok-take_made-3.ensures.number, c.in_ok-take_made-2.ensures.number, c.in_ok-take_made.ensures.number)) c.take_made-4.ensures.number

pub returns-clause-faults : goal.returns-clause-faults
returns-clause-faults g c =
    let D = g.D.Desk in
    let old = c.args.desk.now in
    let one = c.take_made.new.desk in
    let two = c.take_made-2.new.desk in
    let three = c.take_made-3.new.desk in
    let first = none_then D old two three (none_then D old one two c.in_ok-take_made.ensures.faults c.in_ok-take_made-2.ensures.faults) c.in_ok-take_made-3.ensures.faults in
    bench_then D old three c.take_made-4.new.desk first c.take_made-4.result c.take_made-4.ensures.faults
