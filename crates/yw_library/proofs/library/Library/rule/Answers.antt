use Rattle.std.proofs.Common.{None, Some, ℕ}
use Rattle.std.proofs.lemmas.Result.{err_from_is_err_and}
use Rattle.yw_library.proofs.Answering.{only_refused, refused_as}
use Rattle.yw_library.proofs.RuleLeads.{grows, unbroken}
use Rattle.yw_library.proofs.library.Library.rule.Goals as goal
use Rattle.yw_library.specs.Adding.{AlwaysRefuses, a_command}
use Rattle.yw_library.specs.Holdings.{with_holdings}
use Rattle.yw_library.specs.declared.trees.Room.{Room}
use Rattle.yw_library.specs.declared.trees.Wanted.{Wanted}
use Rattle.yw_state.proofs.OneRule.{command-breaks-one}
use Rattle.yw_state.specs.declared.rule.Refusal.{Refusal}
use Rattle.yw_texts.proofs.ReadingOnce.{reads_one}
use Rattle.yw_texts.specs.Texts.{reader}

pub keep_rule-requires : goal.keep_rule-requires
keep_rule-requires c = c.in_ok-room.ensures.ok

pub returns-in_err-room-clause-refused : goal.returns-in_err-room-clause-refused
returns-in_err-room-clause-refused c =
    let p = err_from_is_err_and c.from_residual.result c.from_residual.ensures.1 in
    rw (p.1, p.2)
    (refused_as Room ℕ _ (λ (r : Refusal). AlwaysRefuses c.args.self.now
    (a_command c.args.place.now c.args.at c.args.side c.args.when.now c.args.conclusion) (Some r)) c.in_err-room.ensures.refused)

pub returns-in_err-room-clause-only : goal.returns-in_err-room-clause-only
returns-in_err-room-clause-only c =
    let p = err_from_is_err_and c.from_residual.result c.from_residual.ensures.1 in
    rw (p.1, p.2) (only_refused c.args.self.now (a_command c.args.place.now c.args.at c.args.side c.args.when.now c.args.conclusion) _
    c.in_err-room.ensures.refused)

pub returns-clause-ok : goal.returns-clause-ok
returns-clause-ok c =
    let w : Wanted = record { place = c.args.place; at = c.args.at; side = c.args.side; when = c.args.when } in
    grows c.args.self.now w c.args.conclusion c.in_ok-room.room c.in_ok-room.ensures.ok c.keep_rule.new.self c.in_ok-number.number
    c.in_ok-number.ensures.ok

pub returns-clause-only : goal.returns-clause-only
returns-clause-only c = λ s found h.
    let w : Wanted = record { place = c.args.place; at = c.args.at; side = c.args.side; when = c.args.when } in
    command-breaks-one reader reads_one (with_holdings s c.args.self.now) (a_command c.args.place.now c.args.at c.args.side c.args.when.now c.args.conclusion) found None h
    (unbroken c.args.self.now w c.args.conclusion c.in_ok-room.room c.in_ok-room.ensures.ok s)
