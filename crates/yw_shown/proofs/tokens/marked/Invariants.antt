use Rattle.std.proofs.Common.{◌≡◌, ◌++◌, List}
use Rattle.std.specs.Iterator.Adapters.{zip_first, zip_second}
use Rattle.std.specs.List.{zip}
use Rattle.std.specs.Slice.Iter.{iter_rest}
use Rattle.yw_shown.proofs.tokens.marked.Given as goal
use Rattle.yw_shown.specs.Tokens.{AreMarked, Counted}

-- those so far, and what is left
abbrev pub invariant-loop-place : goal.invariant-loop-place
invariant-loop-place l =
    (done : List Counted) × (done ++ zip (iter_rest (zip_first l.place-iterator)) (iter_rest (zip_second l.place-iterator)) ≡ zip l.fn.net.places l.fn.marks)
    × AreMarked l.fn.at done l.rows.entries
