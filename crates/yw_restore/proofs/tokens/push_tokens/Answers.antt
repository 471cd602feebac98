use Rattle.std.proofs.Common.{◌∙◌, ◌++◌, ap, map, sym}
use Rattle.std.proofs.lemmas.Slice.Zip.{Zip-more, either_empty_from_Zip}
use Rattle.yw_restore.proofs.Marked.{next_place, none_left}
use Rattle.yw_restore.proofs.tokens.push_tokens.Goals as goal
use Rattle.yw_restore.specs.Lines.{row_of_token}
use Rattle.yw_sites.proofs.Each.{nil_right}

pub loop-place-preserved : goal.loop-place-preserved
loop-place-preserved c =
    let s = c.loop-place.place-iterator in
    let t = c.next.new.self in
    next_place c.args.at.now _ _ _ _ c.in-Some.place.now c.in-Some.count.now _ _ _
    (Zip-more s t c.next.result (c.in-Some.place, c.in-Some.count) c.in-Some.is c.next.ensures.steps)
    c.in_ok-push_marked.ensures c.loop-place.invariant

pub returns : goal.returns
returns c =
    let none = none_left c.args.at.now _ _
    (either_empty_from_Zip c.loop-place.place-iterator c.next.new.self c.next.result c.in-None.is c.next.ensures.steps) in
    sym (nil_right (map row_of_token c.loop-place.tokens)) ∙ ap (λ z. map row_of_token c.loop-place.tokens ++ z) (sym none) ∙ c.loop-place.invariant
