use Rattle.std.proofs.Common.{◌≡◌, ◌++◌, ◌∷◌, [], ◌∙◌, ◌+◌, length, drop, false, IsTrue, inl, inr, ⊎_elim}
use Rattle.yw_outside.specs.Image.{file_in, Holds, Writes}
use Rattle.yw_outside.specs.Moments.{After}
use Rattle.yw_journal.specs.Calls.{IsMadeOver, IsRewritten, NonePending}
use Rattle.yw_journal.specs.Files.{is_live}
use Rattle.yw_journal.specs.Journal.{IsBeforeOrShut, IsBeforeShutOrMade, KeepsGateByte}
use Rattle.yw_journal.proofs.Gates.{stays_shut, opening_gate, behind_gate, made_over, with_gate}
use Rattle.yw_journal.proofs.Images.{settled_is, after_settled}
use Rattle.yw_journal.proofs.Passing.{and_then, weakened}
use Rattle.yw_journal.proofs.Settling.{at_ok, if_then_ok}
use Rattle.yw_journal.proofs.make.make_of.Goals as goal

pub returns-clause-any_moment : goal.returns-clause-any_moment
returns-clause-any_moment g c = λ tells.
    let D = g.D.Desk in
    let f = c.args.f in
    let header = c.args.header.now in
    let framed = c.args.framed.now in
    let old = c.args.desk.now in
    let closed = c.shut.new.desk in
    let written = c.write_rest.new.desk in
    let new = c.write_synced.new.desk in
    let P = IsBeforeShutOrMade f header framed (D.state old) in
    let first = weakened D old closed (IsBeforeOrShut f (D.state old)) P (c.shut.ensures.any_moment tells)
    (λ i b. record { file = ⊎_elim (λ (e : file_in f i ≡ file_in f (D.state old)). inl e) (λ (e : is_live (file_in f i) ≡ false). inr (inl e)) b.file; other = b.other; said = b.said }) in
    let shut = c.in_ok-shut.ensures.rewrites tells in
    let tells_closed : IsTrue (D.tells closed) = c.in_ok-shut.ensures.counts.tells ∙ tells in
    let second = and_then D old closed written P (KeepsGateByte f (D.state closed)) first (c.write_rest.ensures.any_moment tells_closed)
    (λ i k. record { file = inr (inl (stays_shut (file_in f (D.state closed)) (file_in f i) shut.bytes.gate k.gate)); other = k.other ∙ shut.other; said = k.said ∙ shut.said }) in
    let rest = c.in_ok-write_rest.ensures.rewrites tells_closed in
    let behind = drop (21 + length framed) (file_in f (D.state closed)) in
    let whole = header ++ framed ++ behind in
    let only = settled_is (D.state written) (D.may_leave written) rest.settled (g.met.D.Desk.said_by_now written) in
    and_then D old written new P (After (Writes f 0 1) (D.may_leave written)) second c.write_synced.ensures.any_moment
    (λ i a.
    let w = after_settled f 0 1 (D.state written) (D.may_leave written) only i a in
    record {
      file = ⊎_elim (λ (e : is_live (file_in f i) ≡ false). inr (inl e)) (λ (e : file_in f i ≡ 1 ∷ whole). inr (inr (behind, e)))
          (opening_gate (file_in f (D.state written)) (file_in f i) whole (behind_gate (file_in f (D.state closed)) (file_in f (D.state written)) header framed behind shut.bytes.some rest.bytes)
          (with_gate (file_in f (D.state closed)) (file_in f (D.state written)) header framed behind shut.bytes.some rest.bytes) w.torn);
      other = w.other ∙ rest.other ∙ shut.other;
      said = w.said ∙ rest.said ∙ shut.said;
    })

pub returns-clause-rewrites : goal.returns-clause-rewrites
returns-clause-rewrites g c =
    let D = g.D.Desk in
    let f = c.args.f in
    let header = c.args.header.now in
    let framed = c.args.framed.now in
    let old = c.args.desk.now in
    let closed = c.shut.new.desk in
    let written = c.write_rest.new.desk in
    let new = c.write_synced.new.desk in
    let X = IsRewritten D f (IsMadeOver header framed) old new in
    if_then_ok c.write_synced.result (IsTrue (D.tells old)) X (λ tells.
    let shut = c.in_ok-shut.ensures.rewrites tells in
    let tells_closed : IsTrue (D.tells closed) = c.in_ok-shut.ensures.counts.tells ∙ tells in
    let rest = c.in_ok-write_rest.ensures.rewrites tells_closed in
    let tells_written : IsTrue (D.tells written) = c.in_ok-write_rest.ensures.counts.tells ∙ tells_closed in
    let last = c.write_synced.ensures.written tells_written in
    at_ok c.write_synced.result (Holds (file_in f (D.state written)) 0 (1 ∷ []) (file_in f (D.state new))) (NonePending D new) X last.ok
    (c.write_synced.ensures.settled (λ _. rest.settled))
    (λ holds none. record {
      bytes = made_over (file_in f (D.state old)) (file_in f (D.state closed)) (file_in f (D.state written)) (file_in f (D.state new)) header framed shut.bytes rest.bytes holds;
      other = last.other ∙ rest.other ∙ shut.other;
      said = last.said ∙ rest.said ∙ shut.said;
      settled = none (c.write_synced.ensures.counts.tells ∙ tells_written);
    }))
