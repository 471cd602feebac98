use Rattle.std.proofs.Common.{sym}
use Rattle.yw_known.proofs.Items.{above_identity, item_is_here, no_item_here, task_wanted}
use Rattle.yw_known.proofs.Standing.{net_is_here, numbered}
use Rattle.yw_known.proofs.here.item_here.Goals as goal
use Rattle.yw_known.specs.declared.here.NetHere.{NetHere}
use Rattle.yw_base.specs.Identity.{parent}

pub returns-in_err-item : goal.returns-in_err-item
returns-in_err-item c = λ s h. rw c.from_residual.ensures (no_item_here c.args.known.now c.args.forest.now s h c.args.id.now (c.in_err-item.ensures h.boxed))

pub returns-in_err-found : goal.returns-in_err-found
returns-in_err-found c = λ s h.
    let known = c.args.known.now in
    let f = c.args.forest.now in
    let j = c.args.id.now in
    let there = c.in_ok-item.ensures h.boxed in
    let above = above_identity known f s h j c.numbers.ensures.identity c.in_ok-item.item.now there.0 in
    absurd (numbered known f s h (parent j) above c.in_ok-item.outer.now there.1 c.are_named.ensures c.in_err-found.ensures)

pub returns-in_err-task : goal.returns-in_err-task
returns-in_err-task c = λ s h.
    let known = c.args.known.now in
    let f = c.args.forest.now in
    let j = c.args.id.now in
    let n = c.in_ok-item.item.now in
    let there = c.in_ok-item.ensures h.boxed in
    let above = above_identity known f s h j c.numbers.ensures.identity n there.0 in
    let found = c.in_ok-found.found in
    let w : NetHere = record { state = c.in_ok-item.outer; net = found.net; up = found.up; spec = found.spec } in
    let at = net_is_here known f s h (parent j) above w there.1 c.in_ok-found.ensures in
    absurd (task_wanted known f s h j c.numbers.ensures.identity n there.0 w at (sym c.in_err-task.ensures))

pub returns : goal.returns
returns c = λ s h.
    let known = c.args.known.now in
    let f = c.args.forest.now in
    let j = c.args.id.now in
    let there = c.in_ok-item.ensures h.boxed in
    let above = above_identity known f s h j c.numbers.ensures.identity c.in_ok-item.item.now there.0 in
    item_is_here known f s h j c.numbers.ensures.identity _ there.0 (net_is_here known f s h (parent j) above _ there.1 c.in_ok-found.ensures) (sym c.in_ok-task.ensures)
