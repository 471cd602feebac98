use Rattle.std.proofs.Common.{◌≡◌, ℕ, List, take, count_by, unwrap_or, bytes_eq, nat_cmp}
use Rattle.std.specs.Cmp.Lexicographic.{slice_cmp}
use Rattle.std.specs.BTreeMap.{get_by}
use Rattle.yw_check_tasks.proofs.splits.counts_of.Given as goal

abbrev pub invariant-loop-name : goal.invariant-loop-name
invariant-loop-name l =
    (q : List ℕ) → unwrap_or (get_by (λ k. slice_cmp nat_cmp q k.now) l.counts) 0 ≡ count_by (λ n. bytes_eq q n.now) (take l.name-index l.names)
