use Rattle.std.proofs.Common.{ap, map, subst, take_all, ◌∙◌}
use Rattle.yw_library.specs.Holdings.{Holdings, person_name}
use Rattle.yw_worklist.proofs.Asking.{none_asked, person_asked}
use Rattle.yw_worklist.proofs.people.People.ask_all.Goals as goal
use Rattle.yw_worklist.specs.People.{Asks}

pub loop-person-init : goal.loop-person-init
loop-person-init c = none_asked c.args.known.now c.args.self.now

pub loop-person-preserved : goal.loop-person-preserved
loop-person-preserved c =
    person_asked c.args.known.now c.args.self.now c.loop-person.self c.ask.new.self c.as_slice-persons.result.now c.loop-person.person-index c.person-item.result
    c.loop-person-test.true c.person-item.is c.loop-person.invariant c.in_ok-ask.ensures

pub returns : goal.returns
returns c =
    let all = c.as_slice-persons.ensures ∙ c.persons.ensures ∙ ap (λ (k : Holdings). k.persons) c.library.ensures in
    subst (λ ps. Asks c.args.known.now c.args.self.now c.loop-person.self (map person_name ps))
    (take_all c.loop-person.person-index c.as_slice-persons.result.now c.loop-person-test.false ∙ all) c.loop-person.invariant
