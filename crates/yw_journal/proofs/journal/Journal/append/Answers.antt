use Rattle.std.proofs.Common.{◌≡◌, ℕ, ◌+◌, ◌-◌, List, [], ◌∷◌, length, ap, ◌∙◌, IsTrue, sym, subst, arith, length-append}
use Rattle.yw_outside.specs.declared.image.Image.{Image}
use Rattle.yw_outside.specs.Image.{file_in, overwritten, Writes}
use Rattle.yw_outside.specs.Moments.{After}
use Rattle.yw_journal.specs.Files.{Holds}
use Rattle.yw_journal.specs.Journal.{IsBeforeOrAfter, with_record}
use Rattle.yw_journal.proofs.Passing.{started, and_then, weakened}
use Rattle.yw_journal.proofs.Appending.{first_written, staged_size}
use Rattle.yw_journal.proofs.Images.{settled_is, after_settled, untouched, first_image, second_image, appended}
use Rattle.yw_journal.proofs.journal.Journal.append.Goals as goal

pub returns-then-end-self-clause-any_moment : goal.returns-then-end-self-clause-any_moment
returns-then-end-self-clause-any_moment g c = λ tells content bytes current whole.
    let D = g.D.Desk in
    let j = c.args.self.now in
    let old = c.args.desk.now in
    let P = IsBeforeOrAfter j.file content bytes (D.state old) in
    let only = settled_is (D.state old) (D.may_leave old) (c.requires.settled tells) (g.met.D.Desk.said_by_now old) in
    started D old P
    (λ i left. subst P (sym (only i (g.met.D.Desk.only_now old i left))) (untouched j.file content bytes j.end c.args.framed.now (D.state old) current.holds whole))

pub returns-in_default-clause-any_moment : goal.returns-in_default-clause-any_moment
returns-in_default-clause-any_moment g c = λ tells content bytes current whole.
    let D = g.D.Desk in
    let j = c.args.self.now in
    let old = c.args.desk.now in
    let mid = c.write_synced.new.desk in
    let n = length c.args.framed.now in
    let P = IsBeforeOrAfter j.file content bytes (D.state old) in
    let only = settled_is (D.state old) (D.may_leave old) (c.requires.settled tells) (g.met.D.Desk.said_by_now old) in
    weakened D old mid (After (Writes j.file j.end n) (D.may_leave old)) P c.write_synced.ensures.any_moment
    (λ i a. first_image j.file content bytes j.end c.args.framed.now (D.state old) current.holds whole i (after_settled j.file j.end n (D.state old) (D.may_leave old) only i a))

pub write_synced-requires-2-clause-within : goal.write_synced-requires-2-clause-within
write_synced-requires-2-clause-within g c = λ tells.
    let D = g.D.Desk in
    let j = c.args.self.now in
    let old = c.args.desk.now in
    let mid = c.write_synced.new.desk in
    let before : IsTrue (D.tells old) = subst IsTrue c.write_synced.ensures.counts.tells tells in
    let current = c.requires.current before in
    let whole = c.requires.framed in
    let head = current.1.holds.file.0 in
    let at = current.1.holds.file.2 in
    let written = c.in-Ok.ensures.written before in
    let staged = first_written head current.0.records whole.0 j.end (file_in j.file (D.state old)) c.args.framed.now at whole.1 (file_in j.file (D.state mid)) written.ok in
    let place : (j.end - 1) + 1 ≡ j.end = omega (arith, c.requires.ready.some) in
    staged_size head current.0.records whole.0 j.end (file_in j.file (D.state old)) c.args.framed.now at whole.1 (j.end - 1) place staged.0 (file_in j.file (D.state mid)) staged.1

pub returns-in_default-write_synced-clause-any_moment : goal.returns-in_default-write_synced-clause-any_moment
returns-in_default-write_synced-clause-any_moment g c = λ tells content bytes current whole.
    let D = g.D.Desk in
    let j = c.args.self.now in
    let old = c.args.desk.now in
    let mid = c.write_synced.new.desk in
    let new = c.write_synced-2.new.desk in
    let n = length c.args.framed.now in
    let q = j.end - 1 in
    let P = IsBeforeOrAfter j.file content bytes (D.state old) in
    let only = settled_is (D.state old) (D.may_leave old) (c.requires.settled tells) (g.met.D.Desk.said_by_now old) in
    let first = weakened D old mid (After (Writes j.file j.end n) (D.may_leave old)) P c.write_synced.ensures.any_moment
    (λ i a. first_image j.file content bytes j.end c.args.framed.now (D.state old) current.holds whole i (after_settled j.file j.end n (D.state old) (D.may_leave old) only i a)) in
    let written = c.in-Ok.ensures.written tells in
    let staged = first_written current.holds.file.0 content.records bytes j.end (file_in j.file (D.state old)) c.args.framed.now current.holds.file.2 whole (file_in j.file (D.state mid)) written.ok in
    let only_mid = settled_is (D.state mid) (D.may_leave mid) (c.in-Ok.ensures.settled c.requires.settled (c.in-Ok.ensures.counts.tells ∙ tells)) (g.met.D.Desk.said_by_now mid) in
    let place : q + 1 ≡ j.end = omega (arith, c.requires.ready.some) in
    and_then D old mid new P (After (Writes j.file q 1) (D.may_leave mid)) first c.write_synced-2.ensures.any_moment
    (λ i a. second_image j.file content bytes j.end c.args.framed.now (D.state old) current.holds whole q place (D.state mid) staged.0 staged.1 written.other written.said i (after_settled j.file q 1 (D.state mid) (D.may_leave mid) only_mid i a))

pub returns-clause-any_moment : goal.returns-clause-any_moment
returns-clause-any_moment g c = λ tells content bytes current whole.
    let D = g.D.Desk in
    let j = c.args.self.now in
    let old = c.args.desk.now in
    let mid = c.write_synced.new.desk in
    let new = c.write_synced-2.new.desk in
    let n = length c.args.framed.now in
    let q = j.end - 1 in
    let P = IsBeforeOrAfter j.file content bytes (D.state old) in
    let only = settled_is (D.state old) (D.may_leave old) (c.requires.settled tells) (g.met.D.Desk.said_by_now old) in
    let first = weakened D old mid (After (Writes j.file j.end n) (D.may_leave old)) P c.write_synced.ensures.any_moment
    (λ i a. first_image j.file content bytes j.end c.args.framed.now (D.state old) current.holds whole i (after_settled j.file j.end n (D.state old) (D.may_leave old) only i a)) in
    let written = c.in-Ok.ensures.written tells in
    let staged = first_written current.holds.file.0 content.records bytes j.end (file_in j.file (D.state old)) c.args.framed.now current.holds.file.2 whole (file_in j.file (D.state mid)) written.ok in
    let only_mid = settled_is (D.state mid) (D.may_leave mid) (c.in-Ok.ensures.settled c.requires.settled (c.in-Ok.ensures.counts.tells ∙ tells)) (g.met.D.Desk.said_by_now mid) in
    let place : q + 1 ≡ j.end = omega (arith, c.requires.ready.some) in
    and_then D old mid new P (After (Writes j.file q 1) (D.may_leave mid)) first c.write_synced-2.ensures.any_moment
    (λ i a. second_image j.file content bytes j.end c.args.framed.now (D.state old) current.holds whole q place (D.state mid) staged.0 staged.1 written.other written.said i (after_settled j.file q 1 (D.state mid) (D.may_leave mid) only_mid i a))

pub returns-clause-ok : goal.returns-clause-ok
returns-clause-ok g c = λ tells content bytes current whole.
    let D = g.D.Desk in
    let j = c.args.self.now in
    let old = c.args.desk.now in
    let mid = c.write_synced.new.desk in
    let new = c.write_synced-2.new.desk in
    let q = j.end - 1 in
    let written = c.in-Ok.ensures.written tells in
    let staged = first_written current.holds.file.0 content.records bytes j.end (file_in j.file (D.state old)) c.args.framed.now current.holds.file.2 whole (file_in j.file (D.state mid)) written.ok in
    let place : q + 1 ≡ j.end = omega (arith, c.requires.ready.some) in
    let tells_mid = c.in-Ok.ensures.counts.tells ∙ tells in
    let gate = c.in-Ok-write_synced.ensures.written tells_mid in
    let holds = appended j.file content bytes j.end c.args.framed.now (D.state old) current.holds whole q place staged.0 (D.state new) (rw staged.1 at gate.ok) (gate.other ∙ written.other) in
    let settled = c.in-Ok-write_synced.ensures.settled (c.in-Ok.ensures.settled c.requires.settled) (c.in-Ok-write_synced.ensures.counts.tells ∙ tells_mid) in
    record {
      current = record { holds = holds; generation = current.generation; number = omega (arith, current.number, length-append content.records (bytes ∷ [])) };
      each_has = λ i left.
          subst (λ (x : Image). Holds j.file (with_record content bytes) (j.end + length c.args.framed.now) x)
          (sym (settled_is (D.state new) (D.may_leave new) settled (g.met.D.Desk.said_by_now new) i left)) holds;
    }

pub returns-clause-rewrites : goal.returns-clause-rewrites
returns-clause-rewrites g c = λ tells.
    let q = c.args.self.now.end - 1 in
    let tells_mid = c.in-Ok.ensures.counts.tells ∙ tells in
    let first = c.in-Ok.ensures.written tells in
    let second = c.in-Ok-write_synced.ensures.written tells_mid in
    record {
      bytes = second.ok ∙ ap (λ (file : List ℕ). overwritten file q (1 ∷ [])) first.ok;
      other = second.other ∙ first.other;
      said = second.said ∙ first.said;
      settled = c.in-Ok-write_synced.ensures.settled (c.in-Ok.ensures.settled c.requires.settled) (c.in-Ok-write_synced.ensures.counts.tells ∙ tells_mid);
    }
