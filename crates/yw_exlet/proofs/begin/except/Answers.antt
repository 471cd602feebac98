use Rattle.std.proofs.Common.{subst, sym, ◌∙◌}
use Rattle.yw_base.specs.Identity.{child}
use Rattle.yw_exlet.proofs.Raised.{below_it, excepted, may_come, target_stays}
use Rattle.yw_exlet.proofs.Stands.{target_there, there_target}
use Rattle.yw_exlet.proofs.begin.except.Goals as goal
use Rattle.yw_tree.specs.Begins.{BeginsRun}
use Rattle.yw_tree.specs.Entries.{run_site}
use Rattle.yw_tree.specs.declared.Run.{out-Run}

pub add_run-requires-clause-comes : goal.add_run-requires-clause-comes
add_run-requires-clause-comes c =
    let j = c.args.j.now in
    let run = c.in_ok-run.run' in
    let begins : BeginsRun (child j c.args.n) c.args.exlet.now run.value = subst (BeginsRun (child j c.args.n) c.args.exlet.now) (sym c.in_ok-run.ensures.ok) c.in_ok-new_run.ensures in
    may_come c.args.forest.now j c.args.n c.args.exlet.now run.value c.requires.may begins

pub write-requires-clause-stands : goal.write-requires-clause-stands
write-requires-clause-stands c =
    let j = c.args.j.now in
    let run = c.in_ok-run.run' in
    let i = c.numbers-target.ensures.identity in
    let begins : BeginsRun (child j c.args.n) c.args.exlet.now run.value = subst (BeginsRun (child j c.args.n) c.args.exlet.now) (sym c.in_ok-run.ensures.ok) c.in_ok-new_run.ensures in
    target_there c.add_run.new.self c.add_run.ensures.kept j i
    (target_stays c.args.forest.now c.add_run.new.self j (out-Run run.value).id (λ names. run_site names run.value) (λ e. below_it j c.args.n (sym begins.id ∙ e)) c.add_run.ensures.sites
    (there_target c.args.forest.now c.requires.boxed j i c.requires.may.target))

pub returns-clause-ok : goal.returns-clause-ok
returns-clause-ok c = λ node.
    let j = c.args.j.now in
    let run = c.in_ok-run.run' in
    let begins : BeginsRun (child j c.args.n) c.args.exlet.now run.value = subst (BeginsRun (child j c.args.n) c.args.exlet.now) (sym c.in_ok-run.ensures.ok) c.in_ok-new_run.ensures in
    excepted j c.args.n c.args.check node c.args.exlet.now run.value begins c.args.forest.now c.add_run.new.self c.write.new.forest c.write.ensures.boxed c.add_run.ensures.sites c.write.ensures.sites
