use Rattle.std.proofs.Common.{◌+◌, subst, sym, inl, refl}
use Rattle.yw_journal.specs.Files.{Content}
use Rattle.yw_journal.specs.FileLaws.{held}
use Rattle.yw_outside.specs.declared.desk.File.{File}
use Rattle.yw_journal.specs.Journal.{IsAboveOther, IsBeforeOrMade, IsCurrent, IsHeldBeside, other_file}
use Rattle.yw_journal.proofs.Images.{settled_is}
use Rattle.yw_journal.proofs.Passing.{started}
use Rattle.yw_snapshot.specs.Compacting.{compacted}
use Rattle.yw_snapshot.proofs.Making.{above, beside, moments, same_made}
use Rattle.yw_snapshot.proofs.compaction.compact.Goals as goal

pub returns-in-Some-clause-any_moment : goal.returns-in-Some-clause-any_moment
returns-in-Some-clause-any_moment g c = λ tells content snapshot current is.
    let D = g.D.Desk in
    let old = c.args.desk.now in
    let f = other_file c.args.old.file in
    let P = IsBeforeOrMade f content (compacted content snapshot) (D.state old) in
    let only = settled_is (D.state old) (D.may_leave old) (c.requires.settled tells) (g.met.D.Desk.said_by_now old) in
    started D old P
    (λ i left. subst P (sym (only i (g.met.D.Desk.only_now old i left)))
    (record { holds = inl (held f content (D.state old) (beside c.args.old.file content c.args.old.end (D.state old) current.holds)); other = refl; said = refl }))

pub make-requires-clause-above : goal.make-requires-clause-above
make-requires-clause-above g c = λ tells.
    let D = g.D.Desk in
    let i = D.state c.args.desk.now in
    let current = c.requires.current tells in
    subst (λ (f : File). IsAboveOther f (c.args.old.generation + 1) i) (sym c.other-file.ensures)
    (above c.args.old.file current.0 c.args.old.end i c.args.old.generation current.1.holds current.1.generation)

pub returns-in-Ok-clause-current : goal.returns-in-Ok-clause-current
returns-in-Ok-clause-current g c = λ tells content snapshot current is.
    let i = g.D.Desk.state c.args.desk.now in
    let j = g.D.Desk.state c.make.new.desk in
    let held = subst (λ (f : File). IsHeldBeside f content i) (sym c.other-file.ensures) (beside c.args.old.file content c.args.old.end i current.holds) in
    subst (λ (x : Content). IsCurrent c.in-Ok.journal x j) (same_made c.args.old content i snapshot current) (c.in-Ok.ensures.current tells content snapshot held is)

pub returns-in-Ok-clause-any_moment : goal.returns-in-Ok-clause-any_moment
returns-in-Ok-clause-any_moment g c = λ tells content snapshot current is.
    let D = g.D.Desk in
    let i = D.state c.args.desk.now in
    let held = subst (λ (f : File). IsHeldBeside f content i) (sym c.other-file.ensures) (beside c.args.old.file content c.args.old.end i current.holds) in
    moments D c.args.desk.now c.make.new.desk c.other-file.result (other_file c.args.old.file) content _ (compacted content snapshot)
    c.other-file.ensures (same_made c.args.old content i snapshot current) (c.in-Ok.ensures.any_moment tells content snapshot held is)

pub returns-in-Err-Disk-clause-any_moment : goal.returns-in-Err-Disk-clause-any_moment
returns-in-Err-Disk-clause-any_moment g c = λ tells content snapshot current is.
    let D = g.D.Desk in
    let i = D.state c.args.desk.now in
    let held = subst (λ (f : File). IsHeldBeside f content i) (sym c.other-file.ensures) (beside c.args.old.file content c.args.old.end i current.holds) in
    moments D c.args.desk.now c.make.new.desk c.other-file.result (other_file c.args.old.file) content _ (compacted content snapshot)
    c.other-file.ensures (same_made c.args.old content i snapshot current) (c.in-Err-Disk.ensures.any_moment tells content snapshot held is)

pub returns-in-Err-Full-clause-any_moment : goal.returns-in-Err-Full-clause-any_moment
returns-in-Err-Full-clause-any_moment g c = λ tells content snapshot current is.
    let D = g.D.Desk in
    let i = D.state c.args.desk.now in
    let held = subst (λ (f : File). IsHeldBeside f content i) (sym c.other-file.ensures) (beside c.args.old.file content c.args.old.end i current.holds) in
    moments D c.args.desk.now c.make.new.desk c.other-file.result (other_file c.args.old.file) content _ (compacted content snapshot)
    c.other-file.ensures (same_made c.args.old content i snapshot current) (c.in-Err-Full.ensures.any_moment tells content snapshot held is)
