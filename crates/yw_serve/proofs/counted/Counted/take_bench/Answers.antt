use Rattle.std.proofs.Common.{◌≡◌, ℕ, List, [], ◌∷◌, ◌∙◌, subst}
use Rattle.yw_serve.proofs.FaultLemmas.{failed_as, failed_then, none_then}
use Rattle.yw_serve.specs.Bench.{load_line, person_line}
use Rattle.yw_serve.specs.Counted.{HasTaken}
use Rattle.yw_serve.proofs.counted.Counted.take_bench.Goals as goal

pub returns-in_err-take-clause-faults : goal.returns-in_err-take-clause-faults
returns-in_err-take-clause-faults g c =
    failed_as g.D.Desk c.args.desk.now c.take.new.desk c.from_residual.result c.in_err-take.field-0.0 c.from_residual.ensures.1 c.in_err-take.ensures.faults

pub returns-in_err-take-2-clause-faults : goal.returns-in_err-take-2-clause-faults
returns-in_err-take-2-clause-faults g c =
    let D = g.D.Desk in
    let old = c.args.desk.now in
    let new = c.take-2.new.desk in
    let fault = c.in_err-take-2.field-0.0 in
    failed_as D old new c.from_residual-in_err-take-2.result fault c.from_residual-in_err-take-2.ensures.1
    (failed_then D old c.take.new.desk new c.in_ok-take.ensures.faults fault c.in_err-take-2.ensures.faults)

pub returns-in_err-take_cases-clause-faults : goal.returns-in_err-take_cases-clause-faults
returns-in_err-take_cases-clause-faults g c =
    let D = g.D.Desk in
    let old = c.args.desk.now in
    let mid = c.take-2.new.desk in
    let new = c.take_cases.new.desk in
    let fault = c.in_err-take_cases.field-0.0 in
    let first = none_then D old c.take.new.desk mid c.in_ok-take.ensures.faults c.in_ok-take-2.ensures.faults in
    failed_as D old new c.from_residual-in_err-take_cases.result fault c.from_residual-in_err-take_cases.ensures.1
    (failed_then D old mid new first fault c.in_err-take_cases.ensures.faults)

pub returns-clause-ok : goal.returns-clause-ok
returns-clause-ok g c = λ begin h.
    let D = g.D.Desk in
    let person : c.as_bytes.result.now ≡ person_line = c.as_bytes.ensures.value ∙ c.person_line.ensures in
    let load : c.as_bytes-2.result.now ≡ load_line = c.as_bytes-2.ensures.value ∙ c.load_line.ensures in
    let one = subst (λ (l : List ℕ). HasTaken D c.take.new.self (l ∷ []) begin c.take.new.desk) person (c.in_ok-take.ensures.ok [] begin h) in
    let two = subst (λ (l : List ℕ). HasTaken D c.take-2.new.self (person_line ∷ l ∷ []) begin c.take-2.new.desk) load (c.in_ok-take-2.ensures.ok (person_line ∷ []) begin one) in
    c.in_ok-take_cases.ensures.ok begin two

pub returns-clause-faults : goal.returns-clause-faults
returns-clause-faults g c =
    let D = g.D.Desk in
    let old = c.args.desk.now in
    let mid = c.take-2.new.desk in
    none_then D old mid c.take_cases.new.desk (none_then D old c.take.new.desk mid c.in_ok-take.ensures.faults c.in_ok-take-2.ensures.faults) c.in_ok-take_cases.ensures.faults
