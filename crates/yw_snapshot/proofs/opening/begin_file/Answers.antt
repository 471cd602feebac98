use Rattle.std.proofs.Common.{[], subst}
use Rattle.yw_outside.specs.declared.desk.File.TheVariants.{A}
use Rattle.yw_journal.specs.Files as files
use Rattle.yw_journal.specs.Journal.{IsBeforeOrMade}
use Rattle.yw_journal.specs.declared.journal.Journal.{Journal}
use Rattle.yw_journal.proofs.Passing.{weakened}
use Rattle.yw_snapshot.specs.Opening.{LeftAfterSyncs, begun}
use Rattle.yw_snapshot.proofs.Beginning.{framed_nothing, held_beside, left_by_making}
use Rattle.yw_snapshot.proofs.opening.begin_file.Goals as goal

pub make-requires-clause-framed : goal.make-requires-clause-framed
make-requires-clause-framed g c = ([], framed_nothing)

pub returns-in-Ok-clause-begun : goal.returns-in-Ok-clause-begun
returns-in-Ok-clause-begun g c = λ tells.
    let D = g.D.Desk in
    let i = D.state c.args.desk.now in
    let j = D.state c.make.new.desk in
    let none = c.requires.none tells in
    let here = c.in-Ok.ensures in
    let current = here.current tells files.opening [] (held_beside i none) framed_nothing in
    record {
      none = none;
      holds = subst (λ (x : Journal). files.Holds x.file begun x.end j) here.journal current.holds;
      b = (here.rewrites tells).other;
      said = (here.rewrites tells).said;
    }

pub returns-in-Ok-clause-any_moment : goal.returns-in-Ok-clause-any_moment
returns-in-Ok-clause-any_moment g c = λ tells.
    let D = g.D.Desk in
    let i = D.state c.args.desk.now in
    let none = c.requires.none tells in
    weakened D c.args.desk.now c.make.new.desk (IsBeforeOrMade A files.opening begun i) (LeftAfterSyncs i)
    (c.in-Ok.ensures.any_moment tells files.opening [] (held_beside i none) framed_nothing) (left_by_making i none)

pub returns-in-Err-Disk-clause-any_moment : goal.returns-in-Err-Disk-clause-any_moment
returns-in-Err-Disk-clause-any_moment g c = λ tells.
    let D = g.D.Desk in
    let i = D.state c.args.desk.now in
    let none = c.requires.none tells in
    weakened D c.args.desk.now c.make.new.desk (IsBeforeOrMade A files.opening begun i) (LeftAfterSyncs i)
    (c.in-Err-Disk.ensures.any_moment tells files.opening [] (held_beside i none) framed_nothing) (left_by_making i none)
