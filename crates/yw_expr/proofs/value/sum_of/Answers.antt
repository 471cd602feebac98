use Rattle.std.proofs.Common.{arith}
use Rattle.std.proofs.lemmas.Int.{ints, to_z-of_z}
use Rattle.std.proofs.lemmas.List.Sums.{fold_more}
use Rattle.yw_expr.proofs.value.sum_of.Goals as goal

pub loop-x-preserved : goal.loop-x-preserved
loop-x-preserved c =
    let e = c.with_one_more-sum.ensures in
    record {
      value = grind (arith, ints, to_z-of_z, fold_more);
      low = omega (arith, ints);
      high = omega (arith, ints);
    }
