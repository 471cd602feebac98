use Rattle.std.proofs.Common.{ap, arith, get_or, length, sym, take, ◌-◌, ◌<◌, ◌^◌, ◌∙◌, ◌≡◌}
use Rattle.std.proofs.lemmas.List.{length-take-le}
use Rattle.std.proofs.lemmas.List.Sums.{fold_more}
use Rattle.std.specs.Prelude.{fold}
use Rattle.yw_state.specs.After.{count_on, one_more}
use Rattle.yw_task.proofs.TokenCounts.{counts_grow}
use Rattle.yw_task.proofs.tokens.put_each.Goals as goal

pub loop-c-preserved : goal.loop-c-preserved
loop-c-preserved c = λ few.
    let m = c.args.marks.now in
    let cs = c.args.places.now in
    let k = c.loop-c.c-index in
    let at : k < length cs = omega arith in
    let is = c.loop-c.invariant few in
    let grown = counts_grow m (take k cs) (get_or cs k 0) in
    let len = length-take-le k cs (omega arith) in
    let count : count_on c.loop-c.marks (get_or cs k 0) ≡ count_on (fold one_more m (take k cs)) (get_or cs k 0) = ap (λ z. count_on z (get_or cs k 0)) is in
    let room : count_on c.loop-c.marks (get_or cs k 0) < 2 ^ 64 - 1 = omega (arith, few k 0 at, grown, len, count) in
    c.gain.ensures room ∙ ap (λ z. one_more z (get_or cs k 0)) is ∙ sym (fold_more one_more m cs k 0 at)
