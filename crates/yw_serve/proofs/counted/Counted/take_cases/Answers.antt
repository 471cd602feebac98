use Rattle.std.proofs.Common.{◌≡◌, ◌+◌, ◌*◌, ℕ, List, ◌++◌, refl, sym, ap, ◌∙◌, subst, arith}
use Rattle.yw_serve.proofs.BenchLaws.{lines_more, seed_more}
use Rattle.yw_serve.proofs.FaultLemmas.{failed_as, failed_then, none_then}
use Rattle.yw_serve.specs.Bench.{amount_of, bench_lines, case_lines, next_seed, seed_after}
use Rattle.yw_serve.specs.Counted.{HasTaken}
use Rattle.yw_serve.proofs.counted.Counted.take_cases.Goals as goal

pub loop-k-init : goal.loop-k-init
loop-k-init g c = record {
  can = c.requires.can;
  number = omega (arith, c.requires.first);
  small = c.requires.start;
  seed = refl;
  none = record { disk = refl; say = refl };
  taken = λ begin h. h;
}

pub returns-in_err-take_case-clause-faults : goal.returns-in_err-take_case-clause-faults
returns-in_err-take_case-clause-faults g c =
    let D = g.D.Desk in
    let old = c.args.desk.now in
    let new = c.take_case.new.desk in
    let fault = c.in_err-take_case.field-0.0 in
    failed_as D old new c.from_residual.result fault c.from_residual.ensures.1
    (failed_then D old c.loop-k.desk new c.loop-k.invariant.none fault c.in_err-take_case.ensures.faults)

pub loop-k-preserved : goal.loop-k-preserved
loop-k-preserved g c =
    let D = g.D.Desk in
    let inv = c.loop-k.invariant in
    let k = c.loop-k.k in
    let start = c.args.start in
    let done = c.in_ok-take_case.ensures in
    let seed : c.next_seed-seed.result ≡ seed_after start (k + 1) = c.next_seed-seed.ensures.value ∙ ap next_seed inv.seed ∙ sym (seed_more start k) in
    let lines = ap (λ (a : ℕ). bench_lines start k ++ case_lines (3 * k + 1) a) (c.amount_of.ensures ∙ ap amount_of seed) ∙ lines_more start k in
    record {
      can = done.can;
      number = omega (arith, done.number, inv.number);
      small = c.next_seed-seed.ensures.small;
      seed = seed;
      none = none_then D c.args.desk.now c.loop-k.desk c.take_case.new.desk inv.none done.faults;
      taken = λ begin h.
          subst (λ (ls : List (List ℕ)). HasTaken D c.take_case.new.self ls begin c.take_case.new.desk) lines (done.ok (bench_lines start k) begin (inv.taken begin h));
    }

pub returns-clause-ok : goal.returns-clause-ok
returns-clause-ok g c = λ begin h.
    let all : c.loop-k.k ≡ c.args.count = omega (arith, c.loop-k-test.false, c.loop-k.auto.k-end) in
    subst (λ (n : ℕ). HasTaken g.D.Desk c.loop-k.self (bench_lines c.args.start n) begin c.loop-k.desk) all (c.loop-k.invariant.taken begin h)
