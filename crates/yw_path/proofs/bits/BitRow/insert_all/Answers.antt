use Rattle.std.proofs.Common.{◌≡◌, ℕ, ◌+◌, ◌<◌, length, get_or, take, arith}
use Rattle.std.specs.Prelude.{Contains}
use Rattle.yw_path.proofs.BitLemmas.{adds_join}
use Rattle.yw_path.proofs.FirstLemmas.{first_cases, first_has, first_keeps}
use Rattle.yw_path.proofs.bits.BitRow.insert_all.Goals as goal

pub loop-k-preserved : goal.loop-k-preserved
loop-k-preserved c =
    let lt : c.loop-k.k-index < length c.args.ks.now = omega arith in
    adds_join (Contains (take c.loop-k.k-index c.args.ks.now)) (λ j. j ≡ get_or c.args.ks.now c.loop-k.k-index 0) (Contains (take (c.loop-k.k-index + 1) c.args.ks.now)) _ _ _
    (first_keeps c.args.ks.now c.loop-k.k-index lt) (first_has c.args.ks.now c.loop-k.k-index lt) (first_cases c.args.ks.now c.loop-k.k-index lt)
    c.loop-k.invariant c.insert.ensures
