use Rattle.std.proofs.Common.{ap, length, sym, ◌∙◌}
use Rattle.yw_trees.proofs.Texts.{its_count}
use Rattle.yw_trees.proofs.trees.Trees.count_of.Goals as goal

pub returns-in-Some : goal.returns-in-Some
returns-in-Some c =
    let (agrees, rules) = c.in-Some.ensures in
    c.len.ensures ∙ agrees.as_many ∙ sym (ap length rules ∙ its_count c.in-Some.grown.now agrees)
