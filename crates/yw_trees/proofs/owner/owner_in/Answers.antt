use Rattle.std.proofs.Common.{◌∙◌}
use Rattle.yw_trees.proofs.PlaceLemmas.{if_some, own_cases}
use Rattle.yw_trees.specs.declared.owner.Owner.TheVariants.{Cases}
use Rattle.yw_trees.proofs.owner.owner_in.Goals as goal

pub returns-in-None-None : goal.returns-in-None-None
returns-in-None-None c =
    c.then_some.ensures
    ∙ if_some c.cases_have.result (Cases c.args.number)
    ∙ own_cases c.args.number c.args.spec.now c.args.place.now c.in-None-None.is-0 c.in-None-None.is-1 c.cases_have.result
    (c.cases_have.ensures c.args.spec.now c.args.place.now.spec)
