use Rattle.std.proofs.Common.{length, slice_index_or, subst, take, ◌<◌, ◌≡◌}
use Rattle.yw_idents.specs.Idents.{lent}
use Rattle.yw_loose.proofs.Knowing.{has_more, has_same, on_err}
use Rattle.yw_loose.proofs.loose.Loose.add_all.Goals as goal
use Rattle.yw_loose.specs.Loose.{Gains}
use Rattle.yw_state.specs.Identity.{Ident}

pub returns-in_err-add-clause-err : goal.returns-in_err-add-clause-err
returns-in_err-add-clause-err c =
    on_err c.from_residual-in_err-add.result _
    (has_same c.args.self.now c.loop-id.self c.add.new.self (take c.loop-id.id-index (lent c.args.idents.now.items)) c.loop-id.invariant c.in_err-add.ensures.err)

pub loop-id-preserved : goal.loop-id-preserved
loop-id-preserved c =
    let items = c.args.idents.now.items in
    let i = c.loop-id.id-index in
    let id = c.id-item.result in
    let less : i < length items = subst (λ xs. i < length xs) c.deref-id-items.ensures.value c.loop-id-test.true in
    let at : id ≡ slice_index_or items i id = subst (λ xs. id ≡ slice_index_or xs i id) c.deref-id-items.ensures.value c.id-item.is in
    let gains : Gains c.loop-id.self c.add.new.self id.now =
    subst (λ (j : Ident). Gains c.loop-id.self c.add.new.self j) c.in_ok-copy.ensures c.in_ok-add.ensures.ok in
    has_more c.args.self.now c.loop-id.self c.add.new.self items i id less at c.loop-id.invariant gains
