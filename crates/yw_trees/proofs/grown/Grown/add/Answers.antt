use Rattle.std.proofs.Common.{refl}
use Rattle.yw_trees.proofs.Texts.{cut_back, is_more, same_grown}
use Rattle.yw_trees.proofs.grown.Grown.add.Goals as goal
use Rattle.yw_trees.specs.Grown.{rule_of}

pub returns-in-Ok-clause-ok : goal.returns-in-Ok-clause-ok
returns-in-Ok-clause-ok c =
    let old = c.args.self.now in
    is_more old (record old { texts = c.push.new.self; tree = c.add.new.self }) (rule_of c.args.rule) c.in-Ok.number c.requires.agrees refl refl
    c.in_ok-push.ensures.ok c.in-Ok.ensures.ok.behind c.in-Ok.ensures.ok.next

pub returns-in-Err-clause-err : goal.returns-in-Err-clause-err
returns-in-Err-clause-err c =
    let old = c.args.self.now in
    same_grown old c.cut_to.new.items c.add.new.self
    (cut_back old.texts c.push.new.self c.cut_to.new.items c.args.rule.when c.len-count.result c.len-count.ensures c.in_ok-push.ensures.ok c.cut_to.ensures)
    c.in-Err.ensures.err
