use Rattle.std.proofs.Common.{◌≡◌, ◌≤◌, ◌+◌, ℕ, [], IsTrue, Result, Err, inl, refl, sym, ap, ◌∙◌, subst, arith, rules}
use Rattle.yw_outside.specs.declared.desk.File.{File}
use Rattle.yw_outside.specs.declared.desk.File.TheVariants.{A}
use Rattle.yw_outside.specs.declared.image.Image.{Image}
use Rattle.yw_journal.specs.Files.{count_of, greatest}
use Rattle.yw_journal.specs.Journal.{IsCurrent}
use Rattle.yw_journal.specs.declared.journal.Journal.{Journal}
use Rattle.yw_engine.specs.Held as engine
use Rattle.yw_state.specs.State.{State, opening}
use Rattle.yw_serve.specs.Damage.{HoldNow, IsDamagedNow}
use Rattle.yw_serve.specs.Desks.{Stands}
use Rattle.yw_serve.specs.Opening.{HasFaultCause, HasOpenCause, IsDamagedAt, IsReached, IsOpened}
use Rattle.yw_serve.specs.Session.{server_state}
use Rattle.yw_serve.specs.declared.opening.StartFault.{StartFault}
use Rattle.yw_serve.specs.declared.opening.StartFault.TheVariants.{Memory}
use Rattle.yw_serve.specs.declared.server.Server.{Server}
use Rattle.yw_serve.proofs.OpenHeld.{chosen_start, content_of, current_records, damaged_within, held_records}
use Rattle.yw_serve.proofs.OpenLooked.{fault_further, still_settled}
use Rattle.yw_serve.proofs.opening.resume.Goals as goal

pub returns-in_err-tail-clause-cause : goal.returns-in_err-tail-clause-cause
returns-in_err-tail-clause-cause g c =
    let D = g.D.Desk in
    let old = c.args.desk.now in
    let new = c.read_entries.new.desk in
    let i = D.state old in
    let s : State = engine.state_of c.opening-engine.result in
    let whole = λ (f : File) (place : ℕ). IsTrue (D.tells old) → IsDamagedNow i f place in
    let found = λ (_ : ℕ) (f : File) (place : ℕ). IsTrue (D.tells old) → IsReached i.a 29 [] s → IsDamagedAt i.a f place in
    let fault : StartFault = c.in_err-tail.field-0.0 in
    let nobody : opening ≡ s = sym c.opening-engine.ensures.state in
    let is : c.from_residual.result ≡ Err fault = search rules in
    let cause : HasFaultCause whole (D.disk_faults old) (D.disk_faults new) fault =
    fault_further found whole (D.disk_faults old) (D.disk_faults old) (D.disk_faults new) fault (λ n. c.in_err-tail.ensures.cause) 0
    (λ f place all tells.
    let chosen = c.requires.chosen tells in
    damaged_within i c.args.head.now chosen f place (all 0 tells (subst (λ (p : State). IsReached i.a 29 [] p) nobody (chosen_start i c.args.head.now chosen))))
    refl in
    subst (λ (r : Result Server StartFault). HasOpenCause D r whole old new) (sym is) cause

pub returns-in_err-office-clause-cause : goal.returns-in_err-office-clause-cause
returns-in_err-office-clause-cause g c =
    let D = g.D.Desk in
    let old = c.args.desk.now in
    let new = c.read_entries.new.desk in
    let whole = λ (f : File) (place : ℕ). IsTrue (D.tells old) → IsDamagedNow (D.state old) f place in
    let is : c.from_residual-in_err-office.result ≡ Err Memory = search rules in
    subst (λ (r : Result Server StartFault). HasOpenCause D r whole old new) (sym is) c.in_ok-tail.ensures.cause

pub returns-clause-opened : goal.returns-clause-opened
returns-clause-opened g c = λ tells.
    let i = g.D.Desk.state c.args.desk.now in
    let head = c.args.head.now in
    let chosen = c.requires.chosen tells in
    let tail = c.in_ok-tail.tail in
    let s : State = engine.state_of c.read_entries.new.engine in
    let first : State = engine.state_of c.opening-engine.result in
    let nobody : opening ≡ first = sym c.opening-engine.ensures.state in
    let looked = c.in_ok-tail.ensures.looked in
    let read = c.in_ok-tail.ensures.reached tells (subst (λ (p : State). IsReached i.a 29 [] p) nobody (chosen_start i head chosen)) in
    let records = read.1.0 in
    let journal : Journal = record { file = A; generation = c.u64_in.result; end = tail.gate + 1; limit = c.args.limit; number = c.u64_in-2.result + tail.records } in
    let server = c.new.result in
    let same : server_state server ≡ s = c.new.ensures.state ∙ c.in_ok-office.ensures.state in
    let held = subst (λ (t : State). HoldNow (content_of i.a records) t i) (sym same) (held_records i head chosen tail.gate records s read.1.1 read.0) in
    let current = subst (λ (x : Journal). IsCurrent x (content_of i.a records) i) (sym c.new.ensures.journal) (current_records i head chosen journal tail.gate records s read.1.1 read.0 refl refl c.u64_in.ensures
    (ap (λ (n : ℕ). n + tail.records) c.u64_in-2.ensures ∙ ap (λ (n : ℕ). count_of head.bytes + n) (sym read.1.2))) in
    let here : IsOpened server i i = record { before = content_of i.a records; held = held; now = content_of i.a records; holds = held; current = current; content = inl (refl, refl); other = refl; said = refl } in
    subst (λ (j : Image). IsOpened server i j) (sym looked.same) here

pub returns-clause-stands : goal.returns-clause-stands
returns-clause-stands g c =
    let D = g.D.Desk in
    let i = D.state c.args.desk.now in
    let head = c.args.head.now in
    let tail = c.in_ok-tail.tail in
    let s : State = engine.state_of c.read_entries.new.engine in
    let first : State = engine.state_of c.opening-engine.result in
    let nobody : opening ≡ first = sym c.opening-engine.ensures.state in
    let looked = c.in_ok-tail.ensures.looked in
    let bound = c.in_ok-tail.ensures.bound in
    let few : c.u64_in-2.result ≤ greatest = subst (λ (n : ℕ). n ≤ greatest) (sym c.u64_in-2.ensures) c.requires.counted in
    let journal : Journal = record { file = A; generation = c.u64_in.result; end = tail.gate + 1; limit = c.args.limit; number = c.u64_in-2.result + tail.records } in
    let back = λ (t : IsTrue (D.tells c.read_entries.new.desk)). sym looked.telling ∙ t in
    subst (λ (x : Journal). Stands D x c.read_entries.new.desk) (sym c.new.ensures.journal) (record {
      ready = record { some = omega arith; within = omega (arith, c.requires.size); limited = c.requires.limit; counted = omega arith };
      current = λ telling.
          let tells = back telling in
          let chosen = c.requires.chosen tells in
          let read = c.in_ok-tail.ensures.reached tells (subst (λ (p : State). IsReached i.a 29 [] p) nobody (chosen_start i head chosen)) in
          let current = current_records i head chosen journal tail.gate read.1.0 s read.1.1 read.0 refl refl c.u64_in.ensures
          (ap (λ (n : ℕ). n + tail.records) c.u64_in-2.ensures ∙ ap (λ (n : ℕ). count_of head.bytes + n) (sym read.1.2)) in
          (content_of i.a read.1.0, subst (λ (j : Image). IsCurrent journal (content_of i.a read.1.0) j) (sym looked.same) current);
      settled = λ telling. still_settled D c.args.desk.now c.read_entries.new.desk looked (c.requires.settled (back telling));
    })
