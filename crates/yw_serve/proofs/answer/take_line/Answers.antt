use Rattle.std.proofs.Common.{◌∷◌, ◌++◌, [], ◌∙◌, refl, sym, subst}
use Rattle.yw_journal.specs.Journal.{IsCurrent}
use Rattle.yw_lines.specs.Lines.{newline, whole_lines}
use Rattle.yw_serve.specs.Faults.{StopFaults}
use Rattle.yw_serve.specs.Session.{StopsWithin}
use Rattle.yw_serve.specs.declared.server.Server.{Server}
use Rattle.yw_serve.specs.declared.server.Stop.{Stop}
use Rattle.yw_serve.proofs.FaultLemmas.{faults_as, if_err_as}
use Rattle.yw_serve.proofs.Going.{IsReadyAt, goes_by_line, stops_in_line, stops_at_line}
use Rattle.yw_serve.proofs.answer.take_line.Goals as goal

pub returns-in_err-take_part-clause-err : goal.returns-in_err-take_part-clause-err
returns-in_err-take_part-clause-err g c = if_err_as c.from_residual.result c.in_err-take_part.field-0.0 _ c.from_residual.ensures.1 (λ tells content taken current at.
    let D = g.D.Desk in
    let desk = c.args.desk.now in
    let session = c.args.session.now in
    let ready : IsReadyAt D content session.server.journal desk = record { settled = c.requires.stands.settled tells; said = g.met.D.Desk.said_by_now desk; only = g.met.D.Desk.only_now desk; current = current } in
    let all = whole_lines (taken ++ (c.args.part.now ++ newline ∷ [])) in
    subst (λ (stop : Stop). StopsWithin D content stop session (whole_lines taken) all desk desk) (sym c.in_err-take_part.ensures.memory)
    (stops_at_line D content session taken c.args.part.now desk ready c.requires.part))

pub returns-in_err-take_part-clause-faults : goal.returns-in_err-take_part-clause-faults
returns-in_err-take_part-clause-faults g c =
    let D = g.D.Desk in
    let desk = c.args.desk.now in
    faults_as D desk desk c.from_residual.result c.in_err-take_part.field-0.0 c.from_residual.ensures.1
    (subst (λ (stop : Stop). StopFaults D stop desk desk) (sym c.in_err-take_part.ensures.memory) (record { disk = refl; say = refl }))

pub returns-in_err-line-clause-err : goal.returns-in_err-line-clause-err
returns-in_err-line-clause-err g c = if_err_as c.from_residual-in_err-line.result c.in_err-line.field-0.0 _ c.from_residual-in_err-line.ensures.1 (λ tells content taken current at.
    let D = g.D.Desk in
    let desk = c.args.desk.now in
    let session = c.args.session.now in
    let same = c.take_part.ensures.server in
    let kept = c.deref.ensures.value ∙ c.in_ok-take_part.ensures.ok in
    let there = subst (λ (x : Server). IsCurrent x.journal content (D.state desk)) (sym same) current in
    let ready : IsReadyAt D content session.server.journal desk = record { settled = c.requires.stands.settled tells; said = g.met.D.Desk.said_by_now desk; only = g.met.D.Desk.only_now desk; current = current } in
    stops_in_line D content session taken c.args.part.now at c.requires.part c.take_part.new.session.server same c.take_part.new.session.number c.take_part.ensures.number
    c.deref.result.now kept desk c.line.new.desk c.in_err-line.field-0.0 ready (c.in_err-line.ensures.err tells content there))

pub returns-in_err-line-clause-faults : goal.returns-in_err-line-clause-faults
returns-in_err-line-clause-faults g c =
    faults_as g.D.Desk c.args.desk.now c.line.new.desk c.from_residual-in_err-line.result c.in_err-line.field-0.0 c.from_residual-in_err-line.ensures.1 c.in_err-line.ensures.faults

pub returns-clause-ok : goal.returns-clause-ok
returns-clause-ok g c = λ tells content taken current at.
    let D = g.D.Desk in
    let session = c.args.session.now in
    let same = c.take_part.ensures.server in
    let kept = c.deref.ensures.value ∙ c.in_ok-take_part.ensures.ok in
    let there = subst (λ (x : Server). IsCurrent x.journal content (D.state c.args.desk.now)) (sym same) current in
    goes_by_line D content session taken c.args.part.now at c.requires.part c.take_part.new.session.server same c.take_part.new.session.number c.take_part.ensures.number
    c.deref.result.now kept c.args.desk.now c.line.new.desk _ c.clear.ensures.items refl (c.in_ok-line.ensures.ok tells content there)
