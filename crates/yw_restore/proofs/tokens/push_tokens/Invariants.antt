use Rattle.std.proofs.Common.{◌≡◌, ◌++◌, map}
use Rattle.std.specs.Iterator.Adapters.{zip_first, zip_second}
use Rattle.std.specs.Slice.Iter.{iter_rest}
use Rattle.yw_restore.proofs.tokens.push_tokens.Given as goal
use Rattle.yw_restore.specs.Lines.{row_of_token}
use Rattle.yw_states.specs.States.{place_rows}

-- those so far, and what is left
abbrev pub invariant-loop-place : goal.invariant-loop-place
invariant-loop-place l =
    map row_of_token l.tokens ++ place_rows l.fn.at (iter_rest (zip_first l.place-iterator)) (iter_rest (zip_second l.place-iterator))
    ≡ map row_of_token l.fn.tokens ++ place_rows l.fn.at l.fn.net.places l.fn.marks
