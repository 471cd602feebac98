use Rattle.std.proofs.Common.{◌≡◌, ◌<◌, ◌≤◌, [], length, slice_index_or, subst, sym, take, take_all}
use Rattle.yw_idents.specs.Idents.{lent}
use Rattle.yw_state.proofs.Entries.{IsIn}
use Rattle.yw_worklist.proofs.Looking.{lent_more, none_looked, one_more_looked}
use Rattle.yw_worklist.proofs.lists.Lists.look_each.Goals as goal
use Rattle.yw_worklist.specs.Lists.{Looks}

pub loop-at-init : goal.loop-at-init
loop-at-init c = none_looked c.args.known.now c.args.forest.now c.args.self.now (λ s. IsIn []) (λ s j held there. there)

pub loop-at-preserved : goal.loop-at-preserved
loop-at-preserved c =
    let items = c.args.ids.now.items in
    let i = c.loop-at.at-index in
    let b = c.at-item.result in
    let less : i < length items = subst (λ xs. i < length xs) c.deref-at-items.ensures.value c.loop-at-test.true in
    let at : b ≡ slice_index_or items i b = subst (λ xs. b ≡ slice_index_or xs i b) c.deref-at-items.ensures.value c.at-item.is in
    subst (λ js. Looks c.args.known.now c.args.forest.now c.args.self.now c.look.new.self (λ s. IsIn js)) (sym (lent_more items i b less at))
    (one_more_looked c.args.known.now c.args.forest.now c.args.self.now c.loop-at.self c.look.new.self (lent (take i items)) b.now c.loop-at.invariant
    c.in_ok-look.ensures)

pub returns : goal.returns
returns c =
    let items = c.args.ids.now.items in
    let i = c.loop-at.at-index in
    let long : length items ≤ i = subst (λ xs. length xs ≤ i) c.deref-at-items.ensures.value c.loop-at-test.false in
    subst (λ bs. Looks c.args.known.now c.args.forest.now c.args.self.now c.loop-at.self (λ s. IsIn (lent bs))) (take_all i items long) c.loop-at.invariant
