use Rattle.std.proofs.Common.{◌≡◌, ℕ, ◌+◌, ◌<◌, List, [], length, get_or, sym, ap, ◌∙◌, subst, arith}
use Rattle.yw_path.proofs.DirectLemmas.{all_of, list_read}
use Rattle.yw_path.proofs.PlaceLemmas.{rows_more}
use Rattle.yw_path.proofs.places.row_numbers.Goals as goal
use Rattle.yw_path.specs.Bits.{words_for}
use Rattle.yw_path.specs.Places.{HasRow, HaveRows}

pub row_number-requires-clause-tasks : goal.row_number-requires-clause-tasks
row_number-requires-clause-tasks c =
    let i : ℕ = c.loop-tasks.tasks-index in
    let is = list_read c.args.into.now i c.tasks-item.result c.as_slice.result.now c.as_slice.ensures c.tasks-item.is c.loop-tasks-test.true in
    all_of (λ t. t < length c.loop-tasks.rows.items) c.as_slice.result.now (get_or c.args.into.now i []) is
    (λ t h. omega (arith, c.requires.into i t h, c.requires.rows.len, c.loop-tasks.invariant.longer))

pub row_number-requires-clause-width : goal.row_number-requires-clause-width
row_number-requires-clause-width c =
    let i : ℕ = c.loop-tasks.tasks-index in
    let is = list_read c.args.into.now i c.tasks-item.result c.as_slice.result.now c.as_slice.ensures c.tasks-item.is c.loop-tasks-test.true in
    all_of (λ t. length (get_or c.loop-tasks.rows.items t []) ≡ words_for c.args.count) c.as_slice.result.now (get_or c.args.into.now i []) is
    (λ t h. ap length (c.loop-tasks.invariant.stay t (omega (arith, c.requires.into i t h, c.requires.rows.len))) ∙ c.requires.rows.width t (c.requires.into i t h))

pub loop-tasks-preserved : goal.loop-tasks-preserved
loop-tasks-preserved c =
    let i : ℕ = c.loop-tasks.tasks-index in
    let into : List (List ℕ) = c.args.into.now in
    let is = list_read into i c.tasks-item.result c.as_slice.result.now c.as_slice.ensures c.tasks-item.is c.loop-tasks-test.true in
    let P : List ℕ → Type 0 = λ ts. HasRow ts c.loop-tasks.rows.items c.row_number.new.rows.items c.in_ok-row_number.field-0 in
    let Q : List ℕ → Type 0 = λ ns. HaveRows (i + 1) into c.args.rows.now.items c.row_number.new.rows.items ns in
    subst Q (sym c.in_ok-push.ensures.items)
    (rows_more i into c.args.rows.now.items c.loop-tasks.rows.items c.row_number.new.rows.items c.loop-tasks.numbers.items c.in_ok-row_number.field-0
    c.loop-tasks.invariant (subst P is c.in_ok-row_number.ensures) (λ t h. omega (arith, c.requires.into i t h, c.requires.rows.len)))
