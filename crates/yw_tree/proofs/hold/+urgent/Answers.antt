use Rattle.std.proofs.Common.{◌≡◌, ◌<◌, ◌≤◌, false, length, Some, slice_index_or, sym, ◌∙◌, subst, rules, arith}
use Rattle.std.specs.Prelude.{slice_get}
use Rattle.std.proofs.lemmas.Option.{slice_get_read}
use Rattle.yw_tree.specs.Holding.{urgent_node}
use Rattle.yw_tree.specs.declared.NetState.{out-NetState}
use Rattle.yw_tree.proofs.AnyAt.{any_at, any_not, row_urgent, urgent_rows}
use Rattle.yw_tree.proofs.Lists.{below_more}
use Rattle.yw_tree.proofs.hold.+urgent.Goals as goal

pub list_is_urgent-returns : goal.list_is_urgent-returns
list_is_urgent-returns t c =
    let items = c.args.list.now.items in
    let h : length items ≤ c.loop-node.node-index = subst (λ xs. length xs ≤ c.loop-node.node-index) c.deref-node-items.ensures.value c.loop-node-test.false in
    sym (any_not urgent_node items (λ k x l e. c.loop-node.invariant k x (omega arith) e))

pub net_is_urgent-returns-then-list_is_urgent : goal.net_is_urgent-returns-then-list_is_urgent
net_is_urgent-returns-then-list_is_urgent t c =
    let rows = (out-NetState c.args.net.now).items.items in
    let i = c.loop-list.list-index in
    let v = c.list-item.result in
    let e : slice_get rows i ≡ Some v = slice_get_read rows (length rows) i v (search rules) (let h = c.loop-list-test.true in subst (λ xs. i < length xs) c.deref-list-items.ensures.value h) (subst (λ xs. v ≡ slice_index_or xs i v) c.deref-list-items.ensures.value c.list-item.is) in
    sym (urgent_rows c.args.net.now ∙ any_at row_urgent rows i v e (sym c.list_is_urgent.ensures ∙ c.if-list_is_urgent.true))

pub net_is_urgent-loop-list-preserved : goal.net_is_urgent-loop-list-preserved
net_is_urgent-loop-list-preserved t c =
    let rows = (out-NetState c.args.net.now).items.items in
    let i = c.loop-list.list-index in
    let v = c.list-item.result in
    let e : slice_get rows i ≡ Some v = slice_get_read rows (length rows) i v (search rules) (let h = c.loop-list-test.true in subst (λ xs. i < length xs) c.deref-list-items.ensures.value h) (subst (λ xs. v ≡ slice_index_or xs i v) c.deref-list-items.ensures.value c.list-item.is) in
    below_more (λ v. row_urgent v ≡ false) rows i v c.loop-list.invariant e (sym c.list_is_urgent.ensures ∙ c.if-list_is_urgent.false)

pub net_is_urgent-returns : goal.net_is_urgent-returns
net_is_urgent-returns t c =
    let rows = (out-NetState c.args.net.now).items.items in
    let h : length rows ≤ c.loop-list.list-index = subst (λ xs. length xs ≤ c.loop-list.list-index) c.deref-list-items.ensures.value c.loop-list-test.false in
    sym (urgent_rows c.args.net.now ∙ any_not row_urgent rows (λ k x l e. c.loop-list.invariant k x (omega arith) e))
