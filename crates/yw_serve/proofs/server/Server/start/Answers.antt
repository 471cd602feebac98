use Rattle.std.proofs.Common.{◌≡◌, ℕ, IsTrue, Err, IfOk, inl, inr, ◌∙◌, rules}
use Rattle.yw_outside.specs.declared.desk.File.{File}
use Rattle.yw_serve.specs.Damage.{IsDamagedNow}
use Rattle.yw_serve.specs.Opening.{IsOpened}
use Rattle.yw_serve.specs.declared.opening.StartFault.TheVariants.{Damaged}
use Rattle.yw_serve.proofs.OpenLaws.{answers_state, answers_damage}
use Rattle.yw_serve.proofs.OpenLooked.{looked_on, open_faults, opens_beginning, opens_looking, still_settled, unsynced}
use Rattle.yw_serve.proofs.server.Server.start.Goals as goal

pub returns-in_err-sync_both-clause-any_moment : goal.returns-in_err-sync_both-clause-any_moment
returns-in_err-sync_both-clause-any_moment g c = λ tells.
    let D = g.D.Desk in
    inr (search rules, unsynced D c.args.desk.now c.sync_both.new.desk c.in_err-sync_both.ensures.looked)

pub returns-in_err-head-clause-any_moment : goal.returns-in_err-head-clause-any_moment
returns-in_err-head-clause-any_moment g c = λ tells.
    let D = g.D.Desk in
    let synced = c.sync_both.new.desk in
    inl (opens_looking D c.args.desk.now synced c.in_ok-sync_both.ensures.looked c.in_ok-sync_both.ensures.settled (g.met.D.Desk.said_by_now synced)
    c.choose.new.desk c.in_err-head.ensures.looked)

pub returns-in-Some-clause-any_moment : goal.returns-in-Some-clause-any_moment
returns-in-Some-clause-any_moment g c = λ tells.
    let D = g.D.Desk in
    let synced = c.sync_both.new.desk in
    let chosen = c.choose.new.desk in
    let new = c.resume.new.desk in
    inl (opens_looking D c.args.desk.now synced c.in_ok-sync_both.ensures.looked c.in_ok-sync_both.ensures.settled (g.met.D.Desk.said_by_now synced)
    new (looked_on D synced chosen new c.in_ok-head.ensures.looked c.resume.ensures.looked))

pub returns-in-None-clause-any_moment : goal.returns-in-None-clause-any_moment
returns-in-None-clause-any_moment g c = λ tells.
    let D = g.D.Desk in
    let synced = c.sync_both.new.desk in
    let chosen = c.choose.new.desk in
    inl (opens_beginning D c.args.desk.now synced c.in_ok-sync_both.ensures.looked c.in_ok-sync_both.ensures.settled (g.met.D.Desk.said_by_now synced)
    chosen c.begin.new.desk c.in_ok-head.ensures.looked (c.begin.ensures.any_moment (c.in_ok-head.ensures.looked.telling ∙ c.in_ok-sync_both.ensures.looked.telling ∙ tells)))

pub returns-in_err-head-clause-settled : goal.returns-in_err-head-clause-settled
returns-in_err-head-clause-settled g c = λ f place is.
    let D = g.D.Desk in
    still_settled D c.sync_both.new.desk c.choose.new.desk c.in_err-head.ensures.looked c.in_ok-sync_both.ensures.settled

pub returns-in-Some-clause-settled : goal.returns-in-Some-clause-settled
returns-in-Some-clause-settled g c = λ f place is.
    let D = g.D.Desk in
    let synced = c.sync_both.new.desk in
    let chosen = c.choose.new.desk in
    let new = c.resume.new.desk in
    still_settled D synced new
    (looked_on D synced chosen new c.in_ok-head.ensures.looked c.resume.ensures.looked) c.in_ok-sync_both.ensures.settled

pub returns-in_err-head-clause-held : goal.returns-in_err-head-clause-held
returns-in_err-head-clause-held g c = λ tells.
    let D = g.D.Desk in
    let i = D.state c.args.desk.now in
    let result = c.from_residual-in_err-head.result in
    let ok : IfOk result (λ server. IsTrue (D.tells c.args.desk.now) → IsOpened server i i) = search rules in
    let bad : (f : File) (place : ℕ) → result ≡ Err (Damaged f place) → IsDamagedNow i f place = λ f place is. search rules in
    answers_state i i result (IsTrue (D.tells c.args.desk.now)) tells ok bad

pub returns-in-Some-clause-held : goal.returns-in-Some-clause-held
returns-in-Some-clause-held g c = λ tells.
    let D = g.D.Desk in
    let i = D.state c.args.desk.now in
    let j = D.state c.resume.new.desk in
    let result = c.resume.result in
    let ok : IfOk result (λ server. IsTrue (D.tells c.args.desk.now) → IsOpened server i j) = search rules in
    let bad : (f : File) (place : ℕ) → result ≡ Err (Damaged f place) → IsDamagedNow i f place = λ f place is. search rules in
    answers_state i j result (IsTrue (D.tells c.args.desk.now)) tells ok bad

pub returns-in-Some-clause-first : goal.returns-in-Some-clause-first
returns-in-Some-clause-first g c = λ tells.
    let D = g.D.Desk in
    let i = D.state c.args.desk.now in
    let j = D.state c.resume.new.desk in
    let result = c.resume.result in
    let ok : IfOk result (λ server. IsTrue (D.tells c.args.desk.now) → IsOpened server i j) = search rules in
    let bad : (f : File) (place : ℕ) → result ≡ Err (Damaged f place) → IsDamagedNow i f place = λ f place is. search rules in
    answers_damage i j result (IsTrue (D.tells c.args.desk.now)) tells ok bad

pub returns-in-None-clause-held : goal.returns-in-None-clause-held
returns-in-None-clause-held g c = λ tells.
    let D = g.D.Desk in
    let i = D.state c.args.desk.now in
    let j = D.state c.begin.new.desk in
    let result = c.begin.result in
    let ok : IfOk result (λ server. IsTrue (D.tells c.args.desk.now) → IsOpened server i j) = search rules in
    let bad : (f : File) (place : ℕ) → result ≡ Err (Damaged f place) → IsDamagedNow i f place = λ f place is. search rules in
    answers_state i j result (IsTrue (D.tells c.args.desk.now)) tells ok bad

pub returns-in-Some-clause-faults : goal.returns-in-Some-clause-faults
returns-in-Some-clause-faults g c =
    let D = g.D.Desk in
    open_faults D _ c.args.desk.now c.resume.new.desk _ c.resume.result (c.in_ok-head.ensures.cause ∙ c.in_ok-sync_both.ensures.cause.none_failed) c.resume.ensures.cause

pub returns-in-None-clause-faults : goal.returns-in-None-clause-faults
returns-in-None-clause-faults g c =
    let D = g.D.Desk in
    open_faults D _ c.args.desk.now c.begin.new.desk _ c.begin.result (c.in_ok-head.ensures.cause ∙ c.in_ok-sync_both.ensures.cause.none_failed) c.begin.ensures.cause
