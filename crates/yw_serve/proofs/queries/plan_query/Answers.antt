use Rattle.std.proofs.Common.{sym, ◌∙◌}
use Rattle.yw_engine.specs.Held.{state_of}
use Rattle.yw_serve.proofs.ToldLemmas.{told_as}
use Rattle.yw_serve.proofs.queries.plan_query.Goals as goal

pub plan_show-requires : goal.plan_show-requires
plan_show-requires c = c.engine-engine.ensures.fresh (sym c.is_spent.ensures ∙ c.if-is_spent.false)

pub plan_specs-requires : goal.plan_specs-requires
plan_specs-requires c = c.engine-engine.ensures.fresh (sym c.is_spent.ensures ∙ c.if-is_spent.false)

pub returns-in-Show : goal.returns-in-Show
returns-in-Show c =
    let s = state_of c.args.office.now in
    let t = state_of c.engine-engine.result.now in
    told_as s t c.args.n _ c.args.query.now c.plan_show.result c.engine-engine.ensures.state c.in-Show.is c.plan_show.ensures

pub returns-in-Ended : goal.returns-in-Ended
returns-in-Ended c =
    let s = state_of c.args.office.now in
    let t = state_of c.engine-engine.result.now in
    told_as s t c.args.n _ c.args.query.now c.plan_ended.result c.engine-engine.ensures.state c.in-Ended.is c.plan_ended.ensures

pub returns-in-Specs : goal.returns-in-Specs
returns-in-Specs c =
    let s = state_of c.args.office.now in
    let t = state_of c.engine-engine.result.now in
    told_as s t c.args.n _ c.args.query.now c.plan_specs.result c.engine-engine.ensures.state c.in-Specs.is c.plan_specs.ensures
