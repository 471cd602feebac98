use Rattle.std.proofs.Common.{◌≡◌, ◌+◌, ◌*◌, ◌<◌, ◌^◌}
use Rattle.yw_outside.specs.Since.{NoneFailed}
use Rattle.yw_serve.specs.Bench.{bench_lines, seed_after}
use Rattle.yw_serve.specs.Counted.{CanTake, TakesOn}
use Rattle.yw_serve.proofs.counted.Counted.take_cases.Given as goal

-- the lines of so many cases are answered, and the row has come as far
abbrev pub invariant-loop-k : goal.invariant-loop-k
invariant-loop-k g l =
    let D = g.D.Desk in
    record {
      can : CanTake D l.self l.desk;
      number : l.self.number ≡ 3 + 4 * l.k;
      small : l.seed < 2 ^ 31;
      seed : l.seed ≡ seed_after l.start l.k;
      none : NoneFailed D l.fn.desk l.desk;
      taken : TakesOn D l.fn.self l.self (bench_lines l.start 0) (bench_lines l.start l.k) l.fn.desk l.desk;
    }
