use Rattle.std.proofs.Common.{refl}
use Rattle.yw_base.specs.Identity.{parent}
use Rattle.yw_standing.proofs.HereLaw.{known_above, known_there, no_item}
use Rattle.yw_cases.proofs.items.outer_net.Goals as goal
use Rattle.yw_known.proofs.Items.{above_identity, no_item_here}

pub returns-in_err-outer : goal.returns-in_err-outer
returns-in_err-outer c = λ s h.
    rw c.from_residual.ensures (no_item s c.args.j.now (no_item_here c.args.known.now c.args.forest.now s h c.args.j.now (c.in_err-outer.ensures h.boxed)))

pub returns : goal.returns
returns c = λ s h.
    let known = c.args.known.now in
    let f = c.args.forest.now in
    let j = c.args.j.now in
    let there = c.in_ok-outer.ensures h.boxed in
    let above = above_identity known f s h j c.numbers.ensures.identity c.in_ok-outer.field-0-0.now there.0 in
    known_above known f s h j (parent j) refl c.net.result
    (known_there known f s h (parent j) above c.are_named.ensures c.in_ok-outer.outer there.1 c.net.result c.net.ensures)
