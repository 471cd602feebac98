use Rattle.std.proofs.Common.{◌≡◌, ℕ, List, Bor, arith, count_by, bytes_eq, subst}
use Rattle.std.proofs.lemmas.List.{take_all}
use Rattle.yw_check_tasks.specs.Outputs.{count_at}
use Rattle.std.proofs.lemmas.Grind.{text_counts}
use Rattle.yw_check_tasks.proofs.splits.counts_of.Goals as goal

pub overflow_add-counts : goal.overflow_add-counts
overflow_add-counts c = grind (arith, text_counts)

pub loop-name-preserved : goal.loop-name-preserved
loop-name-preserved c = grind (arith, text_counts)

pub returns : goal.returns
returns c = λ q. subst (λ (xs : List (Bor (List ℕ))). count_at c.loop-name.counts q ≡ count_by (λ n. bytes_eq q n.now) xs) (take_all _ _ c.loop-name-test.false) (c.loop-name.invariant q)
