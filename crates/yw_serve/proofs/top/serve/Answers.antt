use Rattle.std.proofs.Common.{◌≡◌, ℕ, true, false, inl, inr, refl, subst}
use Rattle.yw_outside.specs.Causes.{Rose}
use Rattle.yw_lines.specs.Lines.{lines}
use Rattle.yw_serve.proofs.HeadlineLemmas.{crash_left, served}
use Rattle.yw_serve.proofs.OpenLaws.{held_or_damaged}
use Rattle.yw_serve.proofs.ServedLemmas.{completed, completed_opening}
use Rattle.yw_serve.proofs.WordsLemmas.{judging_no_bench, not_both, one_bench, one_limit, run_no_bench}
use Rattle.yw_serve.specs.Counted.{IsOfBench, SaysBench}
use Rattle.yw_serve.specs.Faults.{StatusFaults}
use Rattle.yw_serve.specs.declared.top.Status.TheVariants as statuses
use Rattle.yw_serve.specs.Headline.{HoldsPrefix, LeavesFromSyncs}
use Rattle.yw_serve.specs.Served.{Ended, IsOfRun}
use Rattle.yw_serve.specs.declared.top.Status.{Status}
use Rattle.yw_serve.specs.declared.run.TheConstants.{INPUT_LIMIT}
use Rattle.yw_serve.proofs.top.serve.Goals as goal

pub returns-in-Some-clause-ends : goal.returns-in-Some-clause-ends
returns-in-Some-clause-ends g c = λ tells limit bytes run left.
    let D = g.D.Desk in
    let new = c.serve_files.new.desk in
    let still = g.S.Source.left c.serve_files.new.source in
    let piece = g.S.Source.piece c.serve_files.new.source in
    let Ends : ℕ → Type 0 = λ n. Ended D c.serve_files.result n INPUT_LIMIT bytes still piece (c.serve_files.new.source ≡ c.args.source.now) c.args.desk.now new in
    subst Ends (one_limit c.args.words.now c.in-Some.limit limit c.in-Some.ensures.some run) (c.serve_files.ensures.ends tells bytes left)

pub returns-in-Some-clause-usage : goal.returns-in-Some-clause-usage
returns-in-Some-clause-usage g c =
    (λ e. absurd (subst (λ (r : Status). IsOfRun r) e c.serve_files.ensures.told), λ none. absurd (none.0 c.in-Some.limit c.in-Some.ensures.some))

pub returns-in-Some-clause-complete : goal.returns-in-Some-clause-complete
returns-in-Some-clause-complete g c = λ tells limit bytes run left content s hold small none.
    let D = g.D.Desk in
    let old = c.args.desk.now in
    let new = c.serve_files.new.desk in
    let e = c.serve_files.ensures in
    let status = c.serve_files.result in
    let still = g.S.Source.left c.serve_files.new.source in
    let piece = g.S.Source.piece c.serve_files.new.source in
    let Disk = Rose (D.disk_faults old) (D.disk_faults new) in
    let Say = Rose (D.say_faults old) (D.say_faults new) in
    let faults : (q : Status) → status ≡ q → StatusFaults D q (g.S.Source.faults c.args.source.now) (g.S.Source.faults c.serve_files.new.source) old new = λ q is.
    subst (λ (x : Status). StatusFaults D x (g.S.Source.faults c.args.source.now) (g.S.Source.faults c.serve_files.new.source) old new) is e.faults in
    let disk = λ (is : status ≡ statuses.Disk). (faults statuses.Disk is).1.disk in
    let read = λ (is : status ≡ statuses.Read). (faults statuses.Read is).0 in
    let write = λ (is : status ≡ statuses.Write). (faults statuses.Write is).1.say in
    elim (e.ends tells bytes left) [
      | inl opening ↦ completed_opening D status old new Disk Say opening.0 (λ f place. held_or_damaged (D.state old) content s f place hold) disk write none.disk none.say
      | inr from ↦ completed D from.c from.s c.in-Some.limit INPUT_LIMIT bytes still piece from.opened status new
          Disk (Rose (g.S.Source.faults c.args.source.now) (g.S.Source.faults c.serve_files.new.source)) Say from.ends small disk read write none.disk none.read none.say
    ]

pub returns-in-Some-clause-served : goal.returns-in-Some-clause-served
returns-in-Some-clause-served g c = λ tells limit bytes run left ok.
    let D = g.D.Desk in
    let new = c.serve_files.new.desk in
    let still = g.S.Source.left c.serve_files.new.source in
    let piece = g.S.Source.piece c.serve_files.new.source in
    served D c.serve_files.result c.args.desk.now new c.in-Some.limit INPUT_LIMIT bytes still piece (c.serve_files.new.source ≡ c.args.source.now) ok (c.serve_files.ensures.ends tells bytes left)

pub returns-in-Some-clause-crash : goal.returns-in-Some-clause-crash
returns-in-Some-clause-crash g c = λ tells limit bytes run left content s hold.
    let D = g.D.Desk in
    let old = c.args.desk.now in
    let new = c.serve_files.new.desk in
    let still = g.S.Source.left c.serve_files.new.source in
    let piece = g.S.Source.piece c.serve_files.new.source in
    let Leaves : ℕ → Type 0 = λ n. LeavesFromSyncs D c.serve_files.result (HoldsPrefix n s (lines bytes true) (D.state old).said) old new in
    subst Leaves (one_limit c.args.words.now c.in-Some.limit limit c.in-Some.ensures.some run)
    (crash_left D g.met.D.Desk.said_by_now content s old hold bytes c.in-Some.limit c.serve_files.result new INPUT_LIMIT still piece (c.serve_files.new.source ≡ c.args.source.now) (c.serve_files.ensures.ends tells bytes left))

pub returns-in-Some-clause-of_judging : goal.returns-in-Some-clause-of_judging
returns-in-Some-clause-of_judging g c = λ judging. absurd (not_both c.args.words.now c.in-Some.limit c.in-Some.ensures.some judging)

pub returns-in-Some-clause-checks : goal.returns-in-Some-clause-checks
returns-in-Some-clause-checks g c = λ tells bytes check left. absurd (not_both c.args.words.now c.in-Some.limit c.in-Some.ensures.some (inl check))

pub returns-in-Some-clause-proves : goal.returns-in-Some-clause-proves
returns-in-Some-clause-proves g c = λ tells bytes prove left. absurd (not_both c.args.words.now c.in-Some.limit c.in-Some.ensures.some (inr prove))

pub returns-in-Some-clause-benches : goal.returns-in-Some-clause-benches
returns-in-Some-clause-benches g c = λ start count bench. absurd (run_no_bench c.args.words.now c.in-Some.limit start count c.in-Some.ensures.some bench)

pub returns-in-Some-clause-bench_reads_nothing : goal.returns-in-Some-clause-bench_reads_nothing
returns-in-Some-clause-bench_reads_nothing g c = λ start count bench. absurd (run_no_bench c.args.words.now c.in-Some.limit start count c.in-Some.ensures.some bench)

pub returns-then-is_word-clause-benches : goal.returns-then-is_word-clause-benches
returns-then-is_word-clause-benches g c = λ start count bench. absurd (judging_no_bench c.args.words.now start count (inl (c.if-is_word.ensures.0 refl)) bench)

pub returns-then-is_word-clause-bench_reads_nothing : goal.returns-then-is_word-clause-bench_reads_nothing
returns-then-is_word-clause-bench_reads_nothing g c = λ start count bench.
    absurd (judging_no_bench c.args.words.now start count (inl (c.if-is_word.ensures.0 refl)) bench)

pub returns-then-is_word-2-clause-benches : goal.returns-then-is_word-2-clause-benches
returns-then-is_word-2-clause-benches g c = λ start count bench. absurd (judging_no_bench c.args.words.now start count (inr (c.if-is_word-2.ensures.0 refl)) bench)

pub returns-then-is_word-2-clause-bench_reads_nothing : goal.returns-then-is_word-2-clause-bench_reads_nothing
returns-then-is_word-2-clause-bench_reads_nothing g c = λ start count bench.
    absurd (judging_no_bench c.args.words.now start count (inr (c.if-is_word-2.ensures.0 refl)) bench)

pub serve_bench-requires-clause-start : goal.serve_bench-requires-clause-start
serve_bench-requires-clause-start g c = c.in-Some-bench_numbers.ensures.some.start_is.small

pub serve_bench-requires-clause-count : goal.serve_bench-requires-clause-count
serve_bench-requires-clause-count g c = c.in-Some-bench_numbers.ensures.some.count_is.small

pub returns-in-Some-bench_numbers-clause-served : goal.returns-in-Some-bench_numbers-clause-served
returns-in-Some-bench_numbers-clause-served g c = λ tells limit bytes run left ok. absurd (run_no_bench c.args.words.now limit c.in-Some-bench_numbers.start c.in-Some-bench_numbers.count run c.in-Some-bench_numbers.ensures.some)

pub returns-in-Some-bench_numbers-clause-crash : goal.returns-in-Some-bench_numbers-clause-crash
returns-in-Some-bench_numbers-clause-crash g c = λ tells limit bytes run left content s hold. absurd (run_no_bench c.args.words.now limit c.in-Some-bench_numbers.start c.in-Some-bench_numbers.count run c.in-Some-bench_numbers.ensures.some)

pub returns-in-Some-bench_numbers-clause-ends : goal.returns-in-Some-bench_numbers-clause-ends
returns-in-Some-bench_numbers-clause-ends g c = λ tells limit bytes run left. absurd (run_no_bench c.args.words.now limit c.in-Some-bench_numbers.start c.in-Some-bench_numbers.count run c.in-Some-bench_numbers.ensures.some)

pub returns-in-Some-bench_numbers-clause-of_run : goal.returns-in-Some-bench_numbers-clause-of_run
returns-in-Some-bench_numbers-clause-of_run g c = λ limit run. absurd (run_no_bench c.args.words.now limit c.in-Some-bench_numbers.start c.in-Some-bench_numbers.count run c.in-Some-bench_numbers.ensures.some)

pub returns-in-Some-bench_numbers-clause-complete : goal.returns-in-Some-bench_numbers-clause-complete
returns-in-Some-bench_numbers-clause-complete g c = λ tells limit bytes run left content s hold small none. absurd (run_no_bench c.args.words.now limit c.in-Some-bench_numbers.start c.in-Some-bench_numbers.count run c.in-Some-bench_numbers.ensures.some)

pub returns-in-Some-bench_numbers-clause-run_counts : goal.returns-in-Some-bench_numbers-clause-run_counts
returns-in-Some-bench_numbers-clause-run_counts g c = λ limit run. absurd (run_no_bench c.args.words.now limit c.in-Some-bench_numbers.start c.in-Some-bench_numbers.count run c.in-Some-bench_numbers.ensures.some)

pub returns-in-Some-bench_numbers-clause-of_judging : goal.returns-in-Some-bench_numbers-clause-of_judging
returns-in-Some-bench_numbers-clause-of_judging g c = λ judging. absurd (judging_no_bench c.args.words.now c.in-Some-bench_numbers.start c.in-Some-bench_numbers.count judging c.in-Some-bench_numbers.ensures.some)

pub returns-in-Some-bench_numbers-clause-checks : goal.returns-in-Some-bench_numbers-clause-checks
returns-in-Some-bench_numbers-clause-checks g c = λ tells bytes check left. absurd (judging_no_bench c.args.words.now c.in-Some-bench_numbers.start c.in-Some-bench_numbers.count (inl check) c.in-Some-bench_numbers.ensures.some)

pub returns-in-Some-bench_numbers-clause-check_tells : goal.returns-in-Some-bench_numbers-clause-check_tells
returns-in-Some-bench_numbers-clause-check_tells g c = λ bytes check left. absurd (judging_no_bench c.args.words.now c.in-Some-bench_numbers.start c.in-Some-bench_numbers.count (inl check) c.in-Some-bench_numbers.ensures.some)

pub returns-in-Some-bench_numbers-clause-proves : goal.returns-in-Some-bench_numbers-clause-proves
returns-in-Some-bench_numbers-clause-proves g c = λ tells bytes prove left. absurd (judging_no_bench c.args.words.now c.in-Some-bench_numbers.start c.in-Some-bench_numbers.count (inr prove) c.in-Some-bench_numbers.ensures.some)

pub returns-in-Some-bench_numbers-clause-proof_tells : goal.returns-in-Some-bench_numbers-clause-proof_tells
returns-in-Some-bench_numbers-clause-proof_tells g c = λ bytes prove left. absurd (judging_no_bench c.args.words.now c.in-Some-bench_numbers.start c.in-Some-bench_numbers.count (inr prove) c.in-Some-bench_numbers.ensures.some)

pub returns-in-Some-bench_numbers-clause-judging_keeps_files : goal.returns-in-Some-bench_numbers-clause-judging_keeps_files
returns-in-Some-bench_numbers-clause-judging_keeps_files g c = λ judging. absurd (judging_no_bench c.args.words.now c.in-Some-bench_numbers.start c.in-Some-bench_numbers.count judging c.in-Some-bench_numbers.ensures.some)

pub returns-in-Some-bench_numbers-clause-judging_completes : goal.returns-in-Some-bench_numbers-clause-judging_completes
returns-in-Some-bench_numbers-clause-judging_completes g c = λ judging read say. absurd (judging_no_bench c.args.words.now c.in-Some-bench_numbers.start c.in-Some-bench_numbers.count judging c.in-Some-bench_numbers.ensures.some)

pub returns-in-Some-bench_numbers-clause-faults : goal.returns-in-Some-bench_numbers-clause-faults
returns-in-Some-bench_numbers-clause-faults g c = c.serve_bench.ensures.faults _ _ refl

pub returns-in-Some-bench_numbers-clause-usage : goal.returns-in-Some-bench_numbers-clause-usage
returns-in-Some-bench_numbers-clause-usage g c = (
  λ e. absurd (subst IsOfBench e c.serve_bench.ensures.says.told),
  λ none. absurd (none.2 c.in-Some-bench_numbers.start c.in-Some-bench_numbers.count c.in-Some-bench_numbers.ensures.some),
)

pub returns-in-Some-bench_numbers-clause-usage_calls_nothing : goal.returns-in-Some-bench_numbers-clause-usage_calls_nothing
returns-in-Some-bench_numbers-clause-usage_calls_nothing g c = λ e. absurd (subst IsOfBench e c.serve_bench.ensures.says.told)

pub returns-in-Some-bench_numbers-clause-benches : goal.returns-in-Some-bench_numbers-clause-benches
returns-in-Some-bench_numbers-clause-benches g c = λ start count bench.
    let D = g.D.Desk in
    let old = c.args.desk.now in
    let new = c.serve_bench.new.desk in
    let same = one_bench c.args.words.now c.in-Some-bench_numbers.start c.in-Some-bench_numbers.count start count c.in-Some-bench_numbers.ensures.some bench in
    subst (λ (n : ℕ). SaysBench D c.serve_bench.result start n old new) same.1
    (subst (λ (m : ℕ). SaysBench D c.serve_bench.result m c.in-Some-bench_numbers.count old new) same.0 c.serve_bench.ensures.says)

pub returns-clause-benches : goal.returns-clause-benches
returns-clause-benches g c = λ start count bench. absurd (c.in_default-bench_numbers.ensures.none refl start count bench)

pub returns-clause-ends : goal.returns-clause-ends
returns-clause-ends g c = λ tells limit bytes run left. absurd (c.in_default.ensures.none refl limit run)

pub returns-clause-of_run : goal.returns-clause-of_run
returns-clause-of_run g c = λ limit run. absurd (c.in_default.ensures.none refl limit run)

pub returns-clause-complete : goal.returns-clause-complete
returns-clause-complete g c = λ tells limit bytes run left content s hold small none. absurd (c.in_default.ensures.none refl limit run)

pub returns-clause-crash : goal.returns-clause-crash
returns-clause-crash g c = λ tells limit bytes run left content s hold. absurd (c.in_default.ensures.none refl limit run)

pub returns-then-is_word-clause-check_tells : goal.returns-then-is_word-clause-check_tells
returns-then-is_word-clause-check_tells g c = λ bytes check left finding found. c.serve_judging.ensures.tells bytes left finding found

pub returns-then-is_word-2-clause-proof_tells : goal.returns-then-is_word-2-clause-proof_tells
returns-then-is_word-2-clause-proof_tells g c = λ bytes prove left finding found. c.serve_judging-then-is_word-2.ensures.tells bytes left finding found

pub returns-clause-usage : goal.returns-clause-usage
returns-clause-usage g c = (
  λ e. (
    c.in_default.ensures.none refl,
    λ judging. elim judging [
      | inl check ↦ let yes : false ≡ true = c.if-is_word.ensures.1 check in cc
      | inr prove ↦ let yes : false ≡ true = c.if-is_word-2.ensures.1 prove in cc
    ],
    c.in_default-bench_numbers.ensures.none refl,
  ),
  λ none. refl,
)
