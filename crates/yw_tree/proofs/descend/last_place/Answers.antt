use Rattle.std.proofs.Common.{arith, false, length, Some, sym, true, ap, ◌+◌, ◌-◌, ◌/◌, ◌<◌, ◌≤◌, ◌∙◌, ◌≡◌}
use Rattle.std.proofs.lemmas.Bool.{lt-ltb}
use Rattle.std.specs.Prelude.{nat_lt, slice_get}
use Rattle.yw_tree.specs.Ways.{comes_by, last_by}
use Rattle.yw_tree.proofs.Halves.{half_fits, half_step, some_there}
use Rattle.yw_tree.proofs.Same.{get_read}
use Rattle.yw_tree.proofs.descend.last_place.Goals as goal
use Rattle.yw_tree.proofs.descend.last_place.Goals.{then-comes_by, else-comes_by}

pub loop-size-preserved : goal.loop-size-preserved
loop-size-preserved c =
    let items = c.args.list.now.items in
    let id = c.args.id.now in
    let low = c.loop-size.low in
    let size = c.loop-size.size in
    let more : 1 < size = c.loop-size-test.true in
    let t : nat_lt 1 size ≡ true = lt-ltb 1 size more in
    let h = half_fits size more in
    let inv : low + size ≤ length items = c.loop-size.invariant.inside in
    let within : low + size / 2 < length items = omega arith in
    let e : slice_get items (low + size / 2) ≡ Some c.index.result.now = get_read items (low + size / 2) c.index.result.now (some_there items (low + size / 2) within) c.index.ensures in
    let comes : comes_by id (slice_get items (low + size / 2)) ≡ c.comes_by.result = ap (comes_by id) e ∙ sym c.comes_by.ensures in
    elim c.if-comes_by.branch [
      | then-comes_by w ↦
          let is : c.if-comes_by.low ≡ low + size / 2 = w.low-is in
          record {
            inside = omega arith;
            same = ap (λ z. last_by (size - size / 2) id items z (size - size / 2)) is ∙ sym (half_step id items low size true t (comes ∙ w.if-comes_by.true)) ∙ c.loop-size.invariant.same;
          }
      | else-comes_by w ↦
          let is : c.if-comes_by.low ≡ low = w.low-is in
          record {
            inside = omega arith;
            same = ap (λ z. last_by (size - size / 2) id items z (size - size / 2)) is ∙ sym (half_step id items low size false t (comes ∙ w.if-comes_by.false)) ∙ c.loop-size.invariant.same;
          }
    ]
