use Rattle.std.proofs.Common.{◌∙◌, ◌++◌, ◌∷◌, [], ap, append_assoc, subst, sym}
use Rattle.std.proofs.lemmas.Map.Iter.{rest_all, rest_more}
use Rattle.std.specs.Map.Iter.{deref_pair}
use Rattle.yw_sites.proofs.Each.{nil_right}
use Rattle.yw_worklist.proofs.NameLemmas.{names_are}
use Rattle.yw_worklist.proofs.names.spec_names.Goals as goal
use Rattle.yw_worklist.specs.Names.{AreNames, names_in}

pub loop-name-preserved : goal.loop-name-preserved
loop-name-preserved c =
    let names = c.loop-name.names in
    let turn = rest_more deref_pair c.loop-name.name-iterator c.next.new.self c.next.result _ c.in-Some.is c.next.ensures.steps in
    ap (λ z. z ++ names_in c.next.new.self) (c.in_ok-push.ensures.ok ∙ ap (λ n. names ++ (n ∷ [])) c.in_ok-copy.ensures)
    ∙ append_assoc names (c.in-Some.name.now.now ∷ []) (names_in c.next.new.self) ∙ ap (λ z. names ++ names_in z) (sym turn) ∙ c.loop-name.invariant

pub returns : goal.returns
returns c = λ s is.
    let none = rest_all deref_pair c.loop-name.name-iterator c.next.new.self c.next.result c.in-None.is c.next.ensures.steps in
    let gives = c.into_iter-name-iterator.ensures.into_iter_gives in
    let entries = c.in_ok-items.field-0.entries in
    sym (nil_right c.loop-name.names) ∙ ap (λ z. c.loop-name.names ++ names_in z) (sym none) ∙ c.loop-name.invariant ∙ ap names_in gives.0
    ∙ names_are s c.args.library.now is entries (subst (λ ls. AreNames ls entries) (c.as_slice.ensures ∙ c.specs.ensures.all) c.in_ok-items.ensures) gives.5
