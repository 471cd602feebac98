use Rattle.std.proofs.Common.{◌∙◌}
use Rattle.yw_base.specs.Identity.{parent}
use Rattle.yw_deeds.proofs.KnownGo.{no_task, task_there}
use Rattle.yw_deeds.proofs.known.known_task.Goals as goal
use Rattle.yw_known.proofs.Items.{above_identity}
use Rattle.yw_known.proofs.Standing.{net_is_here, numbered}
use Rattle.yw_known.specs.declared.here.NetHere.{NetHere}

pub returns-in_err-item : goal.returns-in_err-item
returns-in_err-item c = λ s h. rw c.from_residual.ensures (no_task c.args.known.now c.args.forest.now s h c.args.j.now (c.in_err-item.ensures h.boxed))

pub returns-in_err-found : goal.returns-in_err-found
returns-in_err-found c = λ s h.
    let known = c.args.known.now in
    let f = c.args.forest.now in
    let j = c.args.j.now in
    let there = c.in_ok-item.ensures h.boxed in
    let above = above_identity known f s h j c.numbers.ensures.identity c.in_ok-item.item.now there.0 in
    absurd (numbered known f s h (parent j) above c.in_ok-item.outer.now there.1 c.are_named.ensures c.in_err-found.ensures)

pub returns : goal.returns
returns c = λ s h.
    let known = c.args.known.now in
    let f = c.args.forest.now in
    let j = c.args.j.now in
    let n = c.in_ok-item.item.now in
    let there = c.in_ok-item.ensures h.boxed in
    let above = above_identity known f s h j c.numbers.ensures.identity n there.0 in
    let found = c.in_ok-found.found in
    let w : NetHere = record { state = c.in_ok-item.outer; net = found.net; up = found.up; spec = found.spec } in
    let outer = net_is_here known f s h (parent j) above w there.1 c.in_ok-found.ensures in
    c.get.ensures ∙ task_there known f s h j c.numbers.ensures.identity n there.0 w outer
