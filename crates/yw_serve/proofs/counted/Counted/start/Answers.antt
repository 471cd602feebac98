use Rattle.std.proofs.Common.{refl, ◌∙◌}
use Rattle.yw_journal.specs.Files as files
use Rattle.yw_state.specs.State.{opening}
use Rattle.yw_serve.proofs.BenchLaws.{begins, empty_holds, opened_anew}
use Rattle.yw_serve.proofs.FaultLemmas.{start_failed}
use Rattle.yw_serve.proofs.counted.Counted.start.Goals as goal

pub fault_of_start-requires : goal.fault_of_start-requires
fault_of_start-requires g c = c.in-Err.ensures.held c.requires.tells files.opening opening (empty_holds (g.D.Desk.state c.args.desk.now) c.requires.empty)

pub returns-in-Ok-clause-begins : goal.returns-in-Ok-clause-begins
returns-in-Ok-clause-begins g c =
    let D = g.D.Desk in
    let old = c.args.desk.now in
    let new = c.start.new.desk in
    let made = c.in-Ok.ensures in
    let opened = opened_anew c.in-Ok.server (D.state old) (D.state new) c.requires.empty made.file (made.opened c.requires.tells) in
    begins D _ old new opened (c.start.ensures.said c.requires.tells) (c.start.ensures.counts.telling ∙ c.requires.tells) made.stands made.limited refl c.new.ensures
    (g.met.D.Desk.said_by_now new) (g.met.D.Desk.only_now new)

pub returns-in-Ok-clause-faults : goal.returns-in-Ok-clause-faults
returns-in-Ok-clause-faults g c = record { disk = c.in-Ok.ensures.faults; say = c.start.ensures.say_faults }

pub returns-in-Err-clause-faults : goal.returns-in-Err-clause-faults
returns-in-Err-clause-faults g c =
    start_failed g.D.Desk c.args.desk.now c.start.new.desk c.in-Err.fault c.fault_of_start.result c.fault_of_start.ensures c.in-Err.ensures.faults c.start.ensures.say_faults
