use Rattle.std.proofs.Common.{Bor, None, Some, length, slice_index_or, subst, ◌<◌, ◌≡◌, ◌≤◌}
use Rattle.std.proofs.lemmas.List.{take_all}
use Rattle.std.proofs.lemmas.List.Elements.{All-map, All-more}
use Rattle.std.specs.List.{All}
use Rattle.yw_state.specs.Identity.{Ident}
use Rattle.yw_walk.proofs.AllRest.{at_one}
use Rattle.yw_walk.proofs.next.first_at.Goals as goal
use Rattle.yw_walk.specs.Finds.{FindsAt, Rests}

pub returns-in-Some : goal.returns-in-Some
returns-in-Some c = λ n s w are.
    let known = c.args.known.now in
    let f = c.args.forest.now in
    let items = c.args.idents.now.items in
    let i = c.loop-id.id-index in
    let id = c.id-item.result in
    let less : i < length items = subst (λ xs. i < length xs) c.deref-id-items.ensures.value c.loop-id-test.true in
    let at : id ≡ slice_index_or items i id = subst (λ xs. id ≡ slice_index_or xs i id) c.deref-id-items.ensures.value c.id-item.is in
    at_one n items i id less at are known f c.args.next s w (Some c.in-Some.found)
    (subst (FindsAt known f id.now c.args.next) c.in-Some.is (c.in_ok-found.ensures (λ state at t. tt)))

pub loop-id-preserved : goal.loop-id-preserved
loop-id-preserved c = λ n s w are.
    let known = c.args.known.now in
    let f = c.args.forest.now in
    let items = c.args.idents.now.items in
    let i = c.loop-id.id-index in
    let id = c.id-item.result in
    let less : i < length items = subst (λ xs. i < length xs) c.deref-id-items.ensures.value c.loop-id-test.true in
    let at : id ≡ slice_index_or items i id = subst (λ xs. id ≡ slice_index_or xs i id) c.deref-id-items.ensures.value c.id-item.is in
    let rests : Rests s id.now = at_one n items i id less at are known f c.args.next s w None
    (subst (FindsAt known f id.now c.args.next) c.in_default.is (c.in_ok-found.ensures (λ state at t. tt))) in
    All-more (λ (b : Bor Ident). Rests s b.now) items i id less (c.loop-id.invariant n s w are)
    (subst (λ (b : Bor Ident). Rests s b.now) at rests)

pub returns : goal.returns
returns c = λ n s w are.
    let items = c.args.idents.now.items in
    let i = c.loop-id.id-index in
    let all : length items ≤ i = subst (λ xs. length xs ≤ i) c.deref-id-items.ensures.value c.loop-id-test.false in
    All-map (Rests s) (λ (b : Bor Ident). b.now) items
    (subst (All (λ (b : Bor Ident). Rests s b.now)) (take_all i items all) (c.loop-id.invariant n s w are))
