use Rattle.std.proofs.Common.{◌≡◌, ◌∙◌, ◌++◌, ◌∷◌, [], ap, append_assoc, map, sym}
use Rattle.std.proofs.lemmas.Slice.Zip.{Zip-more, either_empty_from_Zip}
use Rattle.std.specs.Iterator.Adapters.{zip_first, zip_second}
use Rattle.std.specs.List.{zip}
use Rattle.std.specs.Slice.Iter.{iter_rest}
use Rattle.yw_sites.proofs.Each.{nil_right}
use Rattle.yw_shown.proofs.Zips.{none_left, one_less}
use Rattle.yw_shown.proofs.rows.named_values.Goals as goal
use Rattle.yw_shown.specs.Rows.{named_value}
use Rattle.yw_state.specs.declared.answer.NamedValue.{NamedValue}

pub loop-var-preserved : goal.loop-var-preserved
loop-var-preserved c =
    let s = c.loop-var.var-iterator in
    let t = c.next.new.self in
    let turn = one_less _ _ _ _ c.in-Some.var.now c.in-Some.val.now (Zip-more s t c.next.result (c.in-Some.var, c.in-Some.val) c.in-Some.is c.next.ensures.steps) in
    let rest = zip (iter_rest (zip_first t)) (iter_rest (zip_second t)) in
    let name : c.in_ok-name.name ≡ c.in-Some.var.now.name = c.in_ok-name.ensures in
    let value : c.in_ok-value.value ≡ c.in-Some.val.now = c.in_ok-value.ensures in
    let made : NamedValue = record { name = c.in_ok-name.name; value = c.in_ok-value.value } in
    let same : made ≡ named_value (c.in-Some.var.now, c.in-Some.val.now) = (λ z. record { name = name z; value = value z }) in
    ap (λ z. z ++ map named_value rest) (c.in_ok-push.ensures.ok ∙ ap (λ (r : NamedValue). c.loop-var.values ++ r ∷ []) same)
    ∙ append_assoc c.loop-var.values (named_value (c.in-Some.var.now, c.in-Some.val.now) ∷ []) (map named_value rest)
    ∙ ap (λ z. c.loop-var.values ++ map named_value z) (sym turn) ∙ c.loop-var.invariant

pub returns : goal.returns
returns c =
    let none = none_left _ _ (either_empty_from_Zip c.loop-var.var-iterator c.next.new.self c.next.result c.in-None.is c.next.ensures.steps) in
    sym (nil_right c.loop-var.values) ∙ ap (λ z. c.loop-var.values ++ map named_value z) (sym none) ∙ c.loop-var.invariant
