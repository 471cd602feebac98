use Rattle.std.proofs.Common.{subst, sym}
use Rattle.yw_base.specs.Identity.{child}
use Rattle.yw_exlet.proofs.Raised.{may_come, raised}
use Rattle.yw_exlet.proofs.begin.raise.Goals as goal
use Rattle.yw_tree.specs.Begins.{BeginsRun}

pub add_run-requires-clause-comes : goal.add_run-requires-clause-comes
add_run-requires-clause-comes c =
    let j = c.args.j.now in
    let run = c.in_ok-run.run' in
    let begins : BeginsRun (child j c.args.n) c.args.exlet.now run.value = subst (BeginsRun (child j c.args.n) c.args.exlet.now) (sym c.in_ok-run.ensures.ok) c.in_ok-new_run.ensures in
    may_come c.args.forest.now j c.args.n c.args.exlet.now run.value c.requires.may begins

pub returns-clause-ok : goal.returns-clause-ok
returns-clause-ok c = λ kind node.
    let j = c.args.j.now in
    let run = c.in_ok-run.run' in
    let begins : BeginsRun (child j c.args.n) c.args.exlet.now run.value = subst (BeginsRun (child j c.args.n) c.args.exlet.now) (sym c.in_ok-run.ensures.ok) c.in_ok-new_run.ensures in
    raised j c.args.n kind node c.args.exlet.now run.value begins c.args.forest.now c.add_run.new.self c.add_run.ensures.kept c.add_run.ensures.sites
