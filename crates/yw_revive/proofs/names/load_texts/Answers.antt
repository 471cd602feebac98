use Rattle.std.proofs.Common.{◌∙◌, ◌+◌, ◌∷◌, ◌++◌, List, ap, drop, subst, sym, take}
use Rattle.yw_revive.proofs.Lists.{at_split}
use Rattle.yw_revive.proofs.Texts.{none_refused}
use Rattle.yw_revive.proofs.names.load_texts.Goals as goal
use Rattle.yw_revive.specs.Names.{TellsLoaded}

pub returns-then-not-branch : goal.returns-then-not-branch
returns-then-not-branch c =
    let texts = c.args.texts.now in
    let i = c.loop-text.text-index in
    let text = c.text-item.result in
    let said = c.as_str.result.now in
    let refused = subst (TellsLoaded c.load.result) c.if-not-branch.true c.in_ok-is_loaded.ensures in
    none_refused c.loop-text.library texts (take i texts) (drop (i + 1) texts) said
    (at_split texts i text c.loop-text-test.true c.text-item.is ∙ ap (λ t. take i texts ++ (t ∷ drop (i + 1) texts)) (sym c.as_str.ensures))
    c.loop-text.invariant.loaded c.specs.ensures.accepted c.load.result refused.0 refused.1 c.load.ensures.only
