use Rattle.std.proofs.Common.{length, refl}
use Rattle.std.proofs.lemmas.Option.{slice_get_read}
use Rattle.std.proofs.lemmas.Result.{IfOk-weaker}
use Rattle.yw_trees.proofs.Right.{at_number, more_in}
use Rattle.yw_trees.proofs.trees.add_at.Goals as goal
use Rattle.yw_trees.specs.Grown.{Agrees, rule_of}

pub add-requires-clause-takes : goal.add-requires-clause-takes
add-requires-clause-takes c =
    let trees = c.args.grown.now.items in
    let was = c.index_mut.result.now in
    c.requires.takes was (slice_get_read trees (length trees) c.args.number was refl c.requires.there c.index_mut.ensures.value)

pub add-requires-clause-agrees : goal.add-requires-clause-agrees
add-requires-clause-agrees c =
    let trees = c.args.grown.now.items in
    let was = c.index_mut.result.now in
    at_number Agrees trees c.requires.agrees c.args.number was (slice_get_read trees (length trees) c.args.number was refl c.requires.there
    c.index_mut.ensures.value)

pub returns-clause-ok : goal.returns-clause-ok
returns-clause-ok c =
    let trees = c.args.grown.now.items in
    let was = c.index_mut.result.now in
    let here = slice_get_read trees (length trees) c.args.number was refl c.requires.there c.index_mut.ensures.value in
    IfOk-weaker c.add.result _ _ (more_in trees c.args.number was here c.add.new.self (rule_of c.args.rule)) c.add.ensures.ok
