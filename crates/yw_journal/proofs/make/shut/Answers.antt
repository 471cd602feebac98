use Rattle.std.proofs.Common.{IsTrue, inl, refl, sym, subst, rules}
use Rattle.yw_outside.specs.Image.{file_in, Writes}
use Rattle.yw_outside.specs.Moments.{After}
use Rattle.yw_journal.specs.Journal.{IsBeforeOrShut}
use Rattle.yw_journal.proofs.Gates.{shutting}
use Rattle.yw_journal.proofs.Images.{settled_is, after_settled}
use Rattle.yw_journal.proofs.Passing.{and_then, weakened}
use Rattle.yw_journal.proofs.make.shut.Goals as goal

pub returns-clause-any_moment : goal.returns-clause-any_moment
returns-clause-any_moment g c = λ tells.
    let D = g.D.Desk in
    let f = c.args.f in
    let old = c.args.desk.now in
    let mid = c.is_open.new.desk in
    let new = c.write_synced.new.desk in
    let P = IsBeforeOrShut f (D.state old) in
    let only = settled_is (D.state old) (D.may_leave old) (c.requires tells) (g.met.D.Desk.said_by_now old) in
    let first = weakened D old mid (D.may_leave old) P c.is_open.ensures.any_moment
    (λ i left. subst P (sym (only i left)) (record { file = inl refl; other = refl; said = refl })) in
    let open_ : IsTrue c.in_ok-is_open.field-0 = search rules in
    let was = c.in_ok-is_open.ensures.open tells open_ in
    and_then D old mid new P (After (Writes f 0 1) (D.may_leave mid)) first c.write_synced.ensures.any_moment
    (λ i a.
    let w = after_settled f 0 1 (D.state old) (D.may_leave mid) (λ d left. only d (c.is_open.ensures.crash d left)) i a in
    record { file = shutting (file_in f (D.state old)) (file_in f i) was w.torn; other = w.other; said = w.said })
