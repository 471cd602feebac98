use Rattle.std.proofs.Common.{◌≡◌, List, arith, count_by, bytes_eq, subst}
use Rattle.std.proofs.lemmas.List.{take_all}
use Rattle.yw_read.specs.declared.raw.RawBranch.{RawBranch}
use Rattle.yw_check_tasks.specs.Outputs.{count_at}
use Rattle.std.proofs.lemmas.Grind.{text_counts}
use Rattle.yw_check_tasks.proofs.splits.counts_of_branches.Goals as goal

pub overflow_add-counts : goal.overflow_add-counts
overflow_add-counts c = grind (arith, text_counts)

pub loop-branch-preserved : goal.loop-branch-preserved
loop-branch-preserved c = grind (arith, text_counts)

pub returns : goal.returns
returns c = λ q. subst (λ (xs : List RawBranch). count_at c.loop-branch.counts q ≡ count_by (λ (b : RawBranch). bytes_eq q b.to) xs) (take_all _ _ c.loop-branch-test.false) (c.loop-branch.invariant q)
