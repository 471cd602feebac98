use Rattle.std.proofs.Common.{◌∙◌, Bool, ap, subst}
use Rattle.yw_revive.proofs.Texts.{in_order}
use Rattle.yw_revive.proofs.names.load_all.Goals as goal
use Rattle.yw_revive.specs.Names.{LoadsTexts, spec_before}
use Rattle.yw_states.specs.Ascending.{ascend}

pub returns : goal.returns
returns c =
    let old = c.args.library.now in
    let new = c.load_texts.new.library in
    let texts = c.args.texts.now in
    let tells = subst (λ (b : Bool). LoadsTexts old texts b new) c.if-not-branch.false c.in_ok-load_texts.ensures in
    in_order old new texts c.do_ascend.result (c.do_ascend.ensures ∙ ap (ascend spec_before) (c.as_slice.ensures ∙ c.specs.ensures.all)) tells.0 tells.1
    c.specs.ensures.accepted
