use Rattle.std.proofs.Common.{◌≡◌, Bool, sym, ap, subst}
use Rattle.std.specs.Bool.{IsTrue}
use Rattle.yw_journal.specs.Journal.{IsCurrent}
use Rattle.yw_texts.specs.Texts.{reader}
use Rattle.yw_state.specs.State.{State}
use Rattle.yw_state.specs.Well.{IsWell}
use Rattle.yw_journal.specs.declared.journal.Journal.{Journal}
use Rattle.yw_serve.proofs.ServedLemmas.{ends_from}
use Rattle.yw_serve.specs.Session.{server_state, state_of}
use Rattle.yw_serve.specs.declared.server.Server.{Server}
use Rattle.yw_serve.specs.declared.run.TheConstants.{INPUT_LIMIT}
use Rattle.yw_serve.proofs.top.serve_lines.Goals as goal

pub returns-clause-ends : goal.returns-clause-ends
returns-clause-ends g c = λ tells content bytes well current left.
    let D = g.D.Desk in
    let session = c.new-session.result in
    let server = c.args.server in
    let journal : session.server.journal ≡ server.journal = ap (λ (x : Server). x.journal) c.new-session.ensures.server in
    let state : state_of session ≡ server_state server = ap server_state c.new-session.ensures.server in
    let at_start = subst (λ (j : Journal). IsCurrent j content (D.state c.args.desk.now)) (sym journal) current in
    let well_at_start = subst (λ (s : State). IsWell reader s) (sym state) well in
    let then = c.run-ending.ensures in
    let still = g.S.Source.left c.run-ending.new.source in
    let piece = g.S.Source.piece c.run-ending.new.source in
    let ends = ends_from D session (server_state server) server.journal state journal
    c.run-ending.result content INPUT_LIMIT piece bytes still c.args.desk.now c.run-ending.new.desk (then.ends tells content bytes well_at_start at_start left) in
    c.status_of.ensures.ends (subst (λ (b : Bool). IsTrue b) (sym then.counts.telling) tells) content (server_state server) server.journal.limit INPUT_LIMIT piece bytes still c.args.desk.now ends

pub returns-clause-faults : goal.returns-clause-faults
returns-clause-faults g c = c.status_of.ensures.faults (g.S.Source.faults c.args.source.now) (g.S.Source.faults c.run-ending.new.source) c.args.desk.now c.run-ending.ensures.faults
