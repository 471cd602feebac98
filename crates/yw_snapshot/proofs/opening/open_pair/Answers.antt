use Rattle.std.proofs.Common.{inl, inr, sym, ◌∙◌, rules}
use Rattle.yw_journal.specs.Calls.{NonePending}
use Rattle.yw_snapshot.specs.Opening.{LeftAfterSyncs}
use Rattle.yw_snapshot.proofs.Looks.{on_ok, opens_by, opens_synced, still_settled, then_looks, unsynced}
use Rattle.yw_snapshot.proofs.opening.open_pair.Goals as goal

pub returns-in_err-sync_both-clause-any_moment : goal.returns-in_err-sync_both-clause-any_moment
returns-in_err-sync_both-clause-any_moment g c = λ tells.
    inr (search rules, unsynced g.D.Desk c.args.desk.now c.sync_both.new.desk c.in_err-sync_both.ensures.looked)

pub returns-in_err-window-clause-any_moment : goal.returns-in_err-window-clause-any_moment
returns-in_err-window-clause-any_moment g c = λ tells.
    let synced = c.sync_both.new.desk in
    inl (opens_synced g.D.Desk c.args.desk.now synced c.in_ok-sync_both.ensures.looked c.in_ok-sync_both.ensures.settled (g.met.D.Desk.said_by_now synced)
    (g.met.D.Desk.only_now synced))

pub returns-in_err-front-clause-any_moment : goal.returns-in_err-front-clause-any_moment
returns-in_err-front-clause-any_moment g c = λ tells.
    inl (opens_by g.D.Desk c.args.desk.now c.sync_both.new.desk c.find_front.new.desk c.in_ok-sync_both.ensures.looked c.in_ok-sync_both.ensures.settled
    (c.in_err-front.ensures.any_moment (c.in_ok-sync_both.ensures.looked.telling ∙ tells)))

pub returns-clause-any_moment : goal.returns-clause-any_moment
returns-clause-any_moment g c = λ tells.
    let D = g.D.Desk in
    let synced = c.sync_both.new.desk in
    let found = c.find_front.new.desk in
    let new = c.open_front.new.desk in
    inl (opens_by D c.args.desk.now synced new c.in_ok-sync_both.ensures.looked c.in_ok-sync_both.ensures.settled
    (then_looks D synced found new (LeftAfterSyncs (D.state synced)) (g.met.D.Desk.counts_now found)
    (c.in_ok-front.ensures.any_moment (c.in_ok-sync_both.ensures.looked.telling ∙ tells)) c.open_front.ensures.looked))

pub returns-clause-settled : goal.returns-clause-settled
returns-clause-settled g c =
    let D = g.D.Desk in
    let found = c.find_front.new.desk in
    let new = c.open_front.new.desk in
    let looked = c.open_front.ensures.looked in
    on_ok c.open_front.result (NonePending D new) (λ tells. still_settled D found new looked (c.in_ok-front.ensures.settled (sym looked.telling ∙ tells)))
