use Rattle.std.proofs.Common.{Bool, Result, inl, inr, ◌≡◌, Err, refl, sym, subst, rules}
use Rattle.std.specs.Bool.{IsTrue}
use Rattle.yw_serve.proofs.FaultLemmas.{notice_faults, status_then}
use Rattle.yw_serve.specs.declared.top.Status.TheVariants as statuses
use Rattle.yw_serve.proofs.OpenEnds.{opens_by, opens_in_part}
use Rattle.yw_serve.proofs.ServedLemmas.{damage_ends, runs_from}
use Rattle.yw_serve.proofs.HeldWell.{held_well}
use Rattle.yw_serve.specs.Opening.{OpenFaults}
use Rattle.yw_serve.specs.Session.{server_state}
use Rattle.yw_serve.specs.declared.opening.StartFault.{StartFault}
use Rattle.yw_serve.specs.declared.opening.StartFault.TheVariants as faults
use Rattle.yw_serve.specs.declared.server.Server.{Server}
use Rattle.yw_serve.specs.declared.run.TheConstants.{INPUT_LIMIT}
use Rattle.yw_serve.proofs.top.serve_files.Goals as goal

pub returns-in-Ok-start-clause-ends : goal.returns-in-Ok-start-clause-ends
returns-in-Ok-start-clause-ends g c = λ tells bytes left.
    let D = g.D.Desk in
    let old = c.args.desk.now in
    let mid = c.start.new.desk in
    let is = c.in-Ok-start.ensures.opened tells in
    let still = g.S.Source.left c.serve_lines.new.source in
    let piece = g.S.Source.piece c.serve_lines.new.source in
    let then : IsTrue (D.tells mid) = subst (λ (b : Bool). IsTrue b) (sym c.start.ensures.counts.telling) tells in
    inr (runs_from D c.in-Ok-start.server INPUT_LIMIT c.args.limit piece bytes still c.serve_lines.result old mid c.serve_lines.new.desk is
    (c.in-Ok-start.ensures.stands.settled then) (opens_by D c.start.result old mid (c.start.ensures.any_moment tells) (search rules)) c.in-Ok-start.ensures.limited
    (c.serve_lines.ensures.ends then is.now bytes (held_well is.before (server_state c.in-Ok-start.server) (D.state old) is.held) is.current left))

pub returns-in-Err-Disk-clause-ends : goal.returns-in-Err-Disk-clause-ends
returns-in-Err-Disk-clause-ends g c = λ tells bytes left.
    let D = g.D.Desk in
    inl (opens_in_part D c.start.result c.args.desk.now c.start.new.desk (c.start.ensures.any_moment tells) (c.start.ensures.said tells), refl)

pub returns-in-Err-Memory-clause-ends : goal.returns-in-Err-Memory-clause-ends
returns-in-Err-Memory-clause-ends g c = λ tells bytes left.
    let D = g.D.Desk in
    inl (inl (opens_in_part D c.start.result c.args.desk.now c.start.new.desk (c.start.ensures.any_moment tells) (c.start.ensures.said tells)), refl)

pub returns-clause-ends : goal.returns-clause-ends
returns-clause-ends g c = λ tells bytes left.
    let D = g.D.Desk in
    let old = c.args.desk.now in
    let mid = c.start.new.desk in
    let f = c.in-Err-Damaged.file in
    let place = c.in-Err-Damaged.place in
    let is : c.start.result ≡ Err (faults.Damaged f place) = search rules in
    inl (
      damage_ends D c.tell_damage.result f place old mid c.tell_damage.new.desk
          (c.start.ensures.damaged tells f place is) (c.start.ensures.unchanged f place is) (c.start.ensures.settled f place is)
          (opens_by D c.start.result old mid (c.start.ensures.any_moment tells) (search rules))
          (c.tell_damage.ensures.told (subst (λ (b : Bool). IsTrue b) (sym c.start.ensures.counts.telling) tells)),
      refl,
    )

pub returns-in-Ok-start-clause-faults : goal.returns-in-Ok-start-clause-faults
returns-in-Ok-start-clause-faults g c =
    let D = g.D.Desk in
    status_then D c.args.desk.now c.start.new.desk c.serve_lines.new.desk (record { disk = c.in-Ok-start.ensures.faults; say = c.start.ensures.say_faults })
    c.serve_lines.result _ _ c.serve_lines.ensures.faults

pub returns-clause-faults : goal.returns-clause-faults
returns-clause-faults g c =
    let D = g.D.Desk in
    let old = c.args.desk.now in
    let mid = c.start.new.desk in
    let new = c.tell_damage.new.desk in
    let is : c.start.result ≡ Err (faults.Damaged c.in-Err-Damaged.file c.in-Err-Damaged.place) = search rules in
    status_then D old mid new (record { disk = subst (λ (r : Result Server StartFault). OpenFaults D r old mid) is c.start.ensures.faults; say = c.start.ensures.say_faults }) c.tell_damage.result _ _
    (notice_faults D _ _ refl mid new c.tell_damage.result statuses.Damaged (λ none. (refl, none)) c.tell_damage.ensures.faults)
