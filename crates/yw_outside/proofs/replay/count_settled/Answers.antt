use Rattle.std.proofs.Common.{◌+◌, ℕ, sym, subst, ◌∙◌}
use Rattle.yw_outside.proofs.Settled.{IsSettled, at_sync, at_other}
use Rattle.yw_outside.proofs.replay.count_settled.Goals.{then-is_sync, else-is_sync}
use Rattle.yw_outside.proofs.replay.count_settled.Goals as goal

pub loop-k-preserved : goal.loop-k-preserved
loop-k-preserved c =
    let log = c.args.log.now in
    let k = c.loop-k.k in
    let P : ℕ → Type 0 = λ n. IsSettled c.args.f log (k + 1) n in
    elim c.if-is_sync.branch [
      | then-is_sync w ↦ subst P (sym w.settled-is) (at_sync log k c.index-log-k.result c.args.f c.loop-k-test.true c.index-log-k.is (sym w.if-is_sync.true ∙ c.is_sync.ensures))
      | else-is_sync w ↦ subst P (sym w.settled-is) (at_other log k c.loop-k.settled c.index-log-k.result c.args.f c.loop-k-test.true c.loop-k.invariant (sym w.if-is_sync.false ∙ c.is_sync.ensures))
    ]
