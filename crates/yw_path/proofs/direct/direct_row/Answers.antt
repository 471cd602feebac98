use Rattle.std.proofs.Common.{◌≡◌, ℕ, ◌+◌, ◌<◌, List, [], length, get_or, refl, take, subst, arith}
use Rattle.std.specs.Prelude.{Contains}
use Rattle.yw_path.proofs.DirectLemmas.{direct_more, list_read, tasks_fit}
use Rattle.yw_path.proofs.FirstLemmas.{first_cases, first_has, first_keeps}
use Rattle.yw_path.proofs.direct.direct_row.Goals as goal
use Rattle.yw_path.specs.Bits.{Adds}

pub insert_all-requires : goal.insert_all-requires
insert_all-requires c =
    let at : ℕ = get_or c.args.places.now c.loop-c.c-index 0 in
    let at_lt : at < length c.args.into.now = c.requires.places c.loop-c.c-index 0 c.loop-c-test.true in
    tasks_fit c.args.count c.args.into.now at c.as_slice.result.now c.loop-c.row
    (list_read c.args.into.now at c.index-into-c.result c.as_slice.result.now c.as_slice.ensures c.index-into-c.is at_lt)
    c.requires.tasks c.loop-c.invariant.len

pub loop-c-preserved : goal.loop-c-preserved
loop-c-preserved c =
    let places : List ℕ = c.args.places.now in
    let i : ℕ = c.loop-c.c-index in
    let at : ℕ = get_or places i 0 in
    let at_lt : at < length c.args.into.now = c.requires.places i 0 c.loop-c-test.true in
    let read = list_read c.args.into.now at c.index-into-c.result c.as_slice.result.now c.as_slice.ensures c.index-into-c.is at_lt in
    let P : List ℕ → Type 0 = λ us. Adds (Contains us) c.loop-c.row c.insert_all.new.self in
    direct_more c.args.count c.args.t (Contains (take i places)) (Contains (take (i + 1) places)) c.args.into.now c.loop-c.row c.insert_all.new.self at
    (first_keeps places i c.loop-c-test.true) (first_has places i c.loop-c-test.true at refl) (first_cases places i c.loop-c-test.true) c.loop-c.invariant
    (subst P read c.insert_all.ensures)
