use Rattle.std.proofs.Common.{◌∙◌, ◌++◌, ap, append_assoc, map, subst, sym}
use Rattle.std.proofs.lemmas.Map.Iter.{rest_all, rest_more}
use Rattle.std.specs.Map.Iter.{deref_pair}
use Rattle.yw_library.specs.Holdings.{spec_name}
use Rattle.yw_restore.proofs.InOrder.{texts_are}
use Rattle.yw_restore.proofs.order.text_lines.Goals as goal
use Rattle.yw_restore.specs.Lines.{text_of_line}
use Rattle.yw_restore.specs.Names.{AreNames, names_in, texts_at}
use Rattle.yw_sites.proofs.Each.{nil_right}

pub loop-name-preserved : goal.loop-name-preserved
loop-name-preserved c =
    let library = c.args.library.now in
    let old = map text_of_line c.loop-name.lines in
    let left = texts_at library (names_in c.next.new.self) in
    let turn = rest_more deref_pair c.loop-name.name-iterator c.next.new.self c.next.result _ c.in-Some.is c.next.ensures.steps in
    ap (λ z. z ++ left) c.in_ok-push_text.ensures ∙ append_assoc old _ left
    ∙ ap (λ z. old ++ texts_at library (names_in z)) (sym turn) ∙ c.loop-name.invariant

pub returns : goal.returns
returns c = λ s is.
    let library = c.args.library.now in
    let lines = map text_of_line c.loop-name.lines in
    let none = rest_all deref_pair c.loop-name.name-iterator c.next.new.self c.next.result c.in-None.is c.next.ensures.steps in
    let gives = c.into_iter-name-iterator.ensures.into_iter_gives in
    let entries = c.in_ok-items.field-0.entries in
    sym (nil_right lines) ∙ ap (λ z. lines ++ texts_at library (names_in z)) (sym none) ∙ c.loop-name.invariant
    ∙ ap (λ z. texts_at library (names_in z)) gives.0
    ∙ texts_are s library is entries gives.5 (subst (λ ls. AreNames (map spec_name ls) entries) (c.as_slice.ensures
    ∙ c.specs.ensures.all) c.in_ok-items.ensures)
