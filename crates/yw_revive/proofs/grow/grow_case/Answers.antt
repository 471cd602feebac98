use Rattle.std.proofs.lemmas.Result.{on_ok_weaker}
use Rattle.yw_revive.proofs.ComesLast.{grown, no_case}
use Rattle.yw_revive.proofs.grow.grow_case.Goals as goal
use Rattle.yw_tree.specs.Entries.{case_site}

pub add_case-requires-clause-fresh : goal.add_case-requires-clause-fresh
add_case-requires-clause-fresh c = no_case c.args.forest.now c.args.case.id c.requires.boxed c.requires.alone c.requires.last

pub returns-clause-ok : goal.returns-clause-ok
returns-clause-ok c =
    on_ok_weaker c.add_case.result
    (λ begins. grown c.args.forest.now c.add_case.new.self c.args.case.id (λ names. case_site names c.args.case) c.requires.last
    (begins c.requires.empty c.requires.idle) c.add_case.ensures.kept) c.add_case.ensures.begins
