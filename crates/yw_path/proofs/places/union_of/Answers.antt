use Rattle.std.proofs.Common.{◌≡◌, ℕ, ◌+◌, ◌<◌, List, [], length, get_or, refl, take, subst, arith}
use Rattle.std.specs.Prelude.{Contains}
use Rattle.std.proofs.lemmas.List.{get_or_read_under}
use Rattle.yw_path.proofs.FirstLemmas.{first_cases, first_has, first_keeps}
use Rattle.yw_path.proofs.PlaceLemmas.{union_more}
use Rattle.yw_path.proofs.places.union_of.Goals as goal
use Rattle.yw_path.specs.Bits.{Adds, Has}

pub loop-t-preserved : goal.loop-t-preserved
loop-t-preserved c =
    let tasks : List ℕ = c.args.tasks.now in
    let rows : List (List ℕ) = c.args.rows.now in
    let i : ℕ = c.loop-t.t-index in
    let at : ℕ = get_or tasks i 0 in
    let at_lt : at < length rows = c.requires.tasks i 0 c.loop-t-test.true in
    let read : c.index-rows-t.result ≡ get_or rows at [] = get_or_read_under rows at (length rows) c.index-rows-t.result [] c.index-rows-t.is at_lt refl in
    let P : List ℕ → Type 0 = λ r. Adds (Has r) c.loop-t.row c.join.new.self in
    union_more c.args.count (Contains (take i tasks)) (Contains (take (i + 1) tasks)) rows c.loop-t.row c.join.new.self at
    (first_keeps tasks i c.loop-t-test.true) (first_has tasks i c.loop-t-test.true at refl) (first_cases tasks i c.loop-t-test.true) c.loop-t.invariant
    (subst P read c.join.ensures)
