use Rattle.std.proofs.Common.{inr, refl}
use Rattle.yw_judge.proofs.TellLemmas.{untouched}
use Rattle.yw_serve.proofs.BenchLaws.{bench_completes, of_bench, says_summary}
use Rattle.yw_serve.proofs.FaultLemmas.{notice_faults}
use Rattle.yw_serve.specs.declared.top.Status.TheVariants as statuses
use Rattle.yw_serve.proofs.benching.serve_bench.Goals as goal

pub returns-in-Ok-clause-says : goal.returns-in-Ok-clause-says
returns-in-Ok-clause-says g c =
    let D = g.D.Desk in
    let r = c.tell_notice.result in
    let old = c.args.desk.now in
    let new = c.tell_notice.new.desk in
    let start = c.args.start in
    let count = c.args.count in
    let notice = c.tell_notice.ensures.faults in
    record {
      says = λ tells. says_summary D r start count old new c.write_summary.result c.in-Ok.summary c.in-Ok.ensures c.write_summary.ensures (c.tell_notice.ensures.told tells);
      files = c.tell_notice.ensures.files;
      told = of_bench D r start count old new notice;
      complete = bench_completes D r start count old new notice;
    }

pub returns-in-Ok-clause-faults : goal.returns-in-Ok-clause-faults
returns-in-Ok-clause-faults g c = λ before now same.
    notice_faults g.D.Desk before now same c.args.desk.now c.tell_notice.new.desk c.tell_notice.result statuses.Ok (λ none. (same, none)) c.tell_notice.ensures.faults

pub returns-in-Err-clause-says : goal.returns-in-Err-clause-says
returns-in-Err-clause-says g c =
    let desk = c.args.desk.now in
    record { says = λ tells. refl; files = untouched g.D.Desk desk (g.met.D.Desk.only_now desk); told = tt; complete = λ unfailed. inr refl }

pub returns-in-Err-clause-faults : goal.returns-in-Err-clause-faults
returns-in-Err-clause-faults g c = λ before now same. (same, record { disk = refl; say = refl })
