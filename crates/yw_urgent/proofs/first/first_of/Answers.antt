use Rattle.std.proofs.Common.{Bor, false, length, slice_index_or, subst, sym, ◌<◌, ◌∙◌, ◌≡◌, ◌≤◌}
use Rattle.std.proofs.lemmas.List.{take_all}
use Rattle.std.proofs.lemmas.List.Elements.{All-map, All-more}
use Rattle.std.specs.List.{All}
use Rattle.yw_state.specs.Identity.{Ident}
use Rattle.yw_urgent.proofs.first.first_of.Goals as goal
use Rattle.yw_idle.specs.Idle.{is_urgent_at}

pub loop-id-preserved : goal.loop-id-preserved
loop-id-preserved c = λ names s boxed sites.
    let items = c.args.idents.now.items in
    let i = c.loop-id.id-index in
    let id = c.id-item.result in
    let less : i < length items = subst (λ xs. i < length xs) c.deref-id-items.ensures.value c.loop-id-test.true in
    let at : id ≡ slice_index_or items i id = subst (λ xs. id ≡ slice_index_or xs i id) c.deref-id-items.ensures.value c.id-item.is in
    let calm : is_urgent_at s id.now ≡ false = sym (c.is_urgent_here.ensures names s boxed sites) ∙ c.if-is_urgent_here.false in
    All-more (λ (b : Bor Ident). is_urgent_at s b.now ≡ false) items i id less (c.loop-id.invariant names s boxed sites)
    (subst (λ (b : Bor Ident). is_urgent_at s b.now ≡ false) at calm)

pub returns : goal.returns
returns c = λ names s boxed sites.
    let items = c.args.idents.now.items in
    let i = c.loop-id.id-index in
    let all : length items ≤ i = subst (λ xs. length xs ≤ i) c.deref-id-items.ensures.value c.loop-id-test.false in
    All-map (λ j. is_urgent_at s j ≡ false) (λ (b : Bor Ident). b.now) items
    (subst (All (λ (b : Bor Ident). is_urgent_at s b.now ≡ false)) (take_all i items all) (c.loop-id.invariant names s boxed sites))
