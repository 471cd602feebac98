use Rattle.std.proofs.Common.{ap, ◌∙◌}
use Rattle.yw_breaks.specs.Persons.{roles_of}
use Rattle.yw_engine.proofs.decide.look_for.Goals as goal
use Rattle.yw_engine.specs.Decides.{TellsRest, TellsRestFor}
use Rattle.yw_library.specs.Holdings.{Holdings}
use Rattle.yw_nest.proofs.Results.{if_ok}
use Rattle.yw_state.proofs.Tests.{nowhere}

pub returns-then-is_at_rest-clause-rest : goal.returns-then-is_at_rest-clause-rest
returns-then-is_at_rest-clause-rest c = λ roles has. c.is_at_rest.ensures c.if-is_at_rest.true

pub returns-in_default-clause-rest : goal.returns-in_default-clause-rest
returns-in_default-clause-rest c = λ roles has.
    nowhere (c.in_default.ensures ∙ ap (λ (k : Holdings). roles_of k c.args.who.now) c.known.ensures ∙ has)

pub returns-clause-rest : goal.returns-clause-rest
returns-clause-rest c =
    let h = c.args.work.now.standing in
    if_ok c.look.result (TellsRest h c.args.case) (TellsRestFor h c.args.who.now c.args.case) c.look.ensures.rest (λ quiet tells. λ roles has. tells)
