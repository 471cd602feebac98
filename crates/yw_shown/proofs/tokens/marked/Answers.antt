use Rattle.std.proofs.Common.{◌∙◌, ◌++◌, ◌∷◌, [], ap, append_assoc, rules, subst, sym}
use Rattle.std.proofs.lemmas.Slice.Zip.{Zip-more, either_empty_from_Zip}
use Rattle.std.specs.Iterator.Adapters.{zip_first, zip_second}
use Rattle.std.specs.List.{zip}
use Rattle.std.specs.Slice.Iter.{iter_rest}
use Rattle.yw_sites.proofs.Each.{nil_right}
use Rattle.yw_shown.proofs.TokenLemmas.{marked_more, none_marked}
use Rattle.yw_shown.proofs.Zips.{none_left, one_less}
use Rattle.yw_shown.proofs.tokens.marked.Goals as goal
use Rattle.yw_shown.specs.Tokens.{AreMarked, Counted}

pub loop-place-init : goal.loop-place-init
loop-place-init c = ([], search rules, subst (AreMarked c.args.at.now []) (sym c.new-rows.ensures.empty) (none_marked c.args.at.now))

pub loop-place-preserved : goal.loop-place-preserved
loop-place-preserved c =
    let (done, whole, are) = c.loop-place.invariant in
    let s = c.loop-place.place-iterator in
    let t = c.next.new.self in
    let p : Counted = (c.in-Some.place.now, c.in-Some.count.now) in
    let turn = one_less _ _ _ _ p.0 p.1 (Zip-more s t c.next.result (c.in-Some.place, c.in-Some.count) c.in-Some.is c.next.ensures.steps) in (
      done ++ (p ∷ []),
      append_assoc done (p ∷ []) (zip (iter_rest (zip_first t)) (iter_rest (zip_second t))) ∙ ap (λ z. done ++ z) (sym turn) ∙ whole,
      marked_more c.args.at.now done p _ _ c.in_ok-put_marked.ensures are,
    )

pub returns : goal.returns
returns c =
    let (done, whole, are) = c.loop-place.invariant in
    let none = none_left _ _ (either_empty_from_Zip c.loop-place.place-iterator c.next.new.self c.next.result c.in-None.is c.next.ensures.steps) in
    subst (λ ps. AreMarked c.args.at.now ps c.loop-place.rows.entries) (sym (nil_right done) ∙ ap (λ z. done ++ z) (sym none) ∙ whole) are
