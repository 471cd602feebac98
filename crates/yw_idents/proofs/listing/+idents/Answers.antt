use Rattle.std.proofs.Common.{length, slice_index_or, subst, ◌<◌, ◌≡◌, ◌≤◌}
use Rattle.yw_idents.proofs.Adding.{all_rows, item_added, next_row, ok_then, one_added, run_added}
use Rattle.yw_idents.proofs.listing.+idents.Goals as goal
use Rattle.yw_tree.specs.declared.NetState.{out-NetState}

pub push_net-loop-list-preserved : goal.push_net-loop-list-preserved
push_net-loop-list-preserved t c = λ names.
    let rows = (out-NetState c.args.net.now).items.items in
    let i = c.loop-list.list-index in
    let v = c.list-item.result in
    let less : i < length rows = subst (λ xs. i < length xs) c.deref-list-items.ensures.value c.loop-list-test.true in
    let at : v ≡ slice_index_or rows i v = subst (λ xs. v ≡ slice_index_or xs i v) c.deref-list-items.ensures.value c.list-item.is in
    next_row names c.args.into.now.items c.loop-list.into.items c.push_list.new.into.items rows i v less at (c.loop-list.invariant names)
    (c.in_ok-push_list.ensures names)

pub push_net-returns : goal.push_net-returns
push_net-returns t c = λ names.
    let i = c.loop-list.list-index in
    let all : length (out-NetState c.args.net.now).items.items ≤ i = subst
    (λ xs. length xs ≤ i) c.deref-list-items.ensures.value c.loop-list-test.false in
    all_rows names c.args.into.now.items c.loop-list.into.items c.args.net.now i all (c.loop-list.invariant names)

pub push_node-returns : goal.push_node-returns
push_node-returns t c =
    ok_then c.push_hung.result _ _ c.push_hung.ensures
    (λ h names. item_added names c.args.into.now.items c.push.new.self.items
    c.push_below.new.into.items c.push_hung.new.into.items c.args.node.now
    (one_added c.args.into.now.items c.push.new.self.items _ c.in_ok-push.ensures.items) (c.in_ok-push_below.ensures names) (h names))

pub push_run-returns : goal.push_run-returns
push_run-returns t c =
    ok_then c.push_below.result _ _ c.push_below.ensures
    (λ h names. run_added names c.args.into.now.items c.push.new.self.items c.push_below.new.into.items c.args.run.now
    (one_added c.args.into.now.items c.push.new.self.items _ c.in_ok-push.ensures.items) (h names))
