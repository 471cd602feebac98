use Rattle.std.proofs.Common.{ap, map, subst, sym, ◌∙◌}
use Rattle.yw_rdr.specs.Attached.{IfFault}
use Rattle.yw_rdr.specs.Rules.{kept_of}
use Rattle.yw_trees.proofs.Texts.{its_links}
use Rattle.yw_trees.proofs.trees.Trees.ask.Goals as goal

pub returns-in-Some : goal.returns-in-Some
returns-in-Some c =
    let (agrees, rules) = c.in-Some.ensures in
    subst (λ ks. IfFault c.ask.result ks c.args.at c.args.side) (sym (ap (map kept_of) rules ∙ its_links c.in-Some.grown.now agrees)) c.ask.ensures
