use Rattle.std.proofs.Common.{Result, Ok, Err, subst, sym}
use Rattle.std.specs.Prelude.{IfOk, OnOk}
use Rattle.yw_serve.proofs.BenchLaws.{benches}
use Rattle.yw_serve.proofs.FaultLemmas.{bench_then, failed_as}
use Rattle.yw_serve.specs.Counted.{Benches}
use Rattle.yw_serve.specs.declared.summary.Summary.{Summary}
use Rattle.yw_serve.proofs.benching.bench.Goals as goal

both_ok : {T E : Type 0} (r : Result T E) (P : Type 0) (Q R : T → Type 0) → OnOk r P → IfOk r Q → ((x : T) → P → Q x → R x) → IfOk r R
both_ok (Ok x) P Q R p q f = f x p q
both_ok (Err e) P Q R p q f = tt

pub returns-in_err-counted-clause-faults : goal.returns-in_err-counted-clause-faults
returns-in_err-counted-clause-faults g c =
    failed_as g.D.Desk c.args.desk.now c.start.new.desk c.from_residual.result c.in_err-counted.field-0.0 c.from_residual.ensures.1 c.in_err-counted.ensures.faults

pub returns-clause-ok : goal.returns-clause-ok
returns-clause-ok g c = both_ok c.take_bench.result _ _ _ c.take_bench.ensures.ok c.take_bench.ensures.summary (λ summary taken is.
    let D = g.D.Desk in
    let old = c.args.desk.now in
    let begin = c.start.new.desk in
    let new = c.take_bench.new.desk in
    let b = c.in_ok-counted.ensures.begins in
    subst (λ (s : Summary). Benches D c.args.start c.args.count s old new) (sym is)
    (benches D c.in_ok-counted.counted c.take_bench.new.self c.args.start c.args.count old begin new b (taken begin b.taken)))

pub returns-clause-faults : goal.returns-clause-faults
returns-clause-faults g c =
    bench_then g.D.Desk c.args.desk.now c.start.new.desk c.take_bench.new.desk c.in_ok-counted.ensures.faults c.take_bench.result c.take_bench.ensures.faults
