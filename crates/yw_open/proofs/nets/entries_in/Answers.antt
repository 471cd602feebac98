use Rattle.std.proofs.Common.{◌≡◌, arith, length, subst, sym}
use Rattle.yw_open.proofs.Listing.{next_listed, none_yet}
use Rattle.yw_open.proofs.nets.entries_in.Goals as goal
use Rattle.yw_open.specs.Entries.{ListsBelow}
use Rattle.yw_within.proofs.Finding.{element_at}

pub loop-t-init : goal.loop-t-init
loop-t-init c = subst (ListsBelow c.args.here.now 0) (sym c.new-opens.ensures) (none_yet c.args.here.now)

pub loop-t-preserved : goal.loop-t-preserved
loop-t-preserved c =
    let h = c.args.here.now in
    let (task, at) = element_at h.net.now.tasks c.loop-t.t (omega (arith, c.loop-t-test.true, c.len-t-end.ensures)) in
    next_listed h c.loop-t.t task c.loop-t.opens c.push_entry.new.opens at c.loop-t.invariant c.in_ok-push_entry.ensures

pub returns : goal.returns
returns c =
    let h = c.args.here.now in
    let last : c.loop-t.t ≡ length h.net.now.tasks = omega (arith, c.len-t-end.ensures) in
    subst (λ n. ListsBelow h n c.loop-t.opens) last c.loop-t.invariant
