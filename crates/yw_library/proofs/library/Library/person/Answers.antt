use Rattle.std.proofs.Common.{ap, ◌∙◌}
use Rattle.yw_library.specs.Holdings.{with_library, with_person}
use Rattle.yw_library.proofs.HoldingsLemmas.{state-with_person}
use Rattle.yw_library.proofs.library.Library.person.Goals as goal

pub returns-in_ok-set_roles-in-Some-clause-ok : goal.returns-in_ok-set_roles-in-Some-clause-ok
returns-in_ok-set_roles-in-Some-clause-ok c = λ s.
    ap (with_library s) c.in_ok-set_roles-in-Some.ensures.ok ∙ state-with_person s c.args.self.now (record { name = c.args.name.now; roles = c.args.roles.now })

pub returns-in_ok-add-in-None-clause-ok : goal.returns-in_ok-add-in-None-clause-ok
returns-in_ok-add-in-None-clause-ok c = λ s.
    ap (with_library s) (c.in_ok-add-in-None.ensures.ok ∙ ap (with_person c.args.self.now) c.in_ok-copy_of_person-in-None.ensures)
    ∙ state-with_person s c.args.self.now (record { name = c.args.name.now; roles = c.args.roles.now })
