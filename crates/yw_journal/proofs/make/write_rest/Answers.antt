use Rattle.std.proofs.Common.{◌≡◌, ◌∙◌, length, IsTrue, refl, sym, subst, arith}
use Rattle.yw_outside.specs.declared.image.Image.{Image}
use Rattle.yw_outside.specs.Image.{file_in, Holds, Writes}
use Rattle.yw_outside.specs.Moments.{After, IsDurable}
use Rattle.yw_journal.specs.Calls.{IsFilledAfter, IsRewritten}
use Rattle.yw_journal.specs.Journal.{KeepsGateByte}
use Rattle.yw_journal.proofs.Gates.{gate_stays, rest_written}
use Rattle.yw_journal.proofs.Images.{settled_is, after_settled}
use Rattle.yw_journal.proofs.Passing.{started, goes_on, and_then}
use Rattle.yw_journal.proofs.Settling.{at_ok, if_then_ok, settled_twice}
use Rattle.yw_journal.proofs.make.write_rest.Goals as goal

pub returns-clause-rewrites : goal.returns-clause-rewrites
returns-clause-rewrites g c =
    let D = g.D.Desk in
    let f = c.args.f in
    let old = c.args.desk.now in
    let mid = c.write.new.self in
    let new = c.write_synced.new.desk in
    let header = c.args.header.now in
    let framed = c.args.framed.now in
    let twenty : length header ≡ 20 = omega arith in
    let X = IsRewritten D f (IsFilledAfter header framed) old new in
    if_then_ok c.write_synced.result (IsTrue (D.tells old)) X (λ tells.
    let first = c.in_ok-write.ensures.written tells in
    let second = c.write_synced.ensures.written (c.in_ok-write.ensures.tells ∙ tells) in
    at_ok c.write_synced.result (Holds (file_in f (D.state mid)) 21 framed (file_in f (D.state new))) (IsDurable f (D.state new) (D.may_leave new)) X second.ok c.write_synced.ensures.durable
    (λ holds durable. record {
      bytes = rest_written (file_in f (D.state old)) (file_in f (D.state mid)) (file_in f (D.state new)) header framed (c.requires.some tells) twenty first.ok holds;
      other = second.other ∙ first.other;
      said = second.said ∙ first.said;
      settled = settled_twice f 1 (length header) 21 (length framed) (D.state old) (D.state mid) (D.state new) (D.may_leave old) (D.may_leave mid) (D.may_leave new)
          (c.requires.settled tells) c.write.ensures.time.crash c.write_synced.ensures.crash durable (second.other ∙ first.other);
    }))

pub returns-clause-any_moment : goal.returns-clause-any_moment
returns-clause-any_moment g c = λ tells.
    let D = g.D.Desk in
    let f = c.args.f in
    let old = c.args.desk.now in
    let mid = c.write.new.self in
    let new = c.write_synced.new.desk in
    let n = length c.args.header.now in
    let m = length c.args.framed.now in
    let P = KeepsGateByte f (D.state old) in
    let only = settled_is (D.state old) (D.may_leave old) (c.requires.settled tells) (g.met.D.Desk.said_by_now old) in
    let first : (i : Image) → After (Writes f 1 n) (D.may_leave old) i → P i = λ i a.
    let w = after_settled f 1 n (D.state old) (D.may_leave old) only i a in
    record { gate = gate_stays 1 n (file_in f (D.state old)) (file_in f i) (omega arith) w.torn; other = w.other; said = w.said } in
    let start = started D old P (λ i left. subst P (sym (only i (g.met.D.Desk.only_now old i left))) (record { gate = refl; other = refl; said = refl })) in
    let written = goes_on D old old mid (Writes f 1 n) (D.may_leave old) (D.may_leave mid) P start c.write.ensures.time first in
    and_then D old mid new P (After (Writes f 21 m) (D.may_leave mid)) written c.write_synced.ensures.any_moment
    (λ i a.
    let p = first a.0 (c.write.ensures.time.crash a.0 a.1) in
    record { gate = gate_stays 21 m (file_in f a.0) (file_in f i) (omega arith) a.2.torn ∙ p.gate; other = a.2.other ∙ p.other; said = a.2.said ∙ p.said })
