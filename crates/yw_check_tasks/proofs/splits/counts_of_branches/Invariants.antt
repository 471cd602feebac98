use Rattle.std.proofs.Common.{◌≡◌, ℕ, List, take, count_by, unwrap_or, bytes_eq, nat_cmp}
use Rattle.std.specs.Cmp.Lexicographic.{slice_cmp}
use Rattle.std.specs.BTreeMap.{get_by}
use Rattle.yw_read.specs.declared.raw.RawBranch.{RawBranch}
use Rattle.yw_check_tasks.proofs.splits.counts_of_branches.Given as goal

abbrev pub invariant-loop-branch : goal.invariant-loop-branch
invariant-loop-branch l =
    (q : List ℕ) → unwrap_or (get_by (λ k. slice_cmp nat_cmp q k.now) l.counts) 0 ≡ count_by (λ (b : RawBranch). bytes_eq q b.to) (take l.branch-index l.branches)
