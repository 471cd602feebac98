use Rattle.yw_cases.proofs.Loads.{person_done, person_so}
use Rattle.yw_cases.proofs.library.act_person.Goals as goal

pub returns : goal.returns
returns c =
    person_done c.args.standing.now c.requires.stands c.person.new.self c.args.name.now c.args.roles.now
    (person_so c.args.standing.now c.args.name.now c.args.roles.now c.requires.leads) c.in_ok-person.ensures.ok c.in_ok-person.ensures.place
