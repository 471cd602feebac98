use Rattle.std.proofs.Common.{option_to_list, subst}
use Rattle.yw_tree.proofs.OnResults.{on_ok}
use Rattle.yw_worklist.proofs.Asking.{none_asked}
use Rattle.yw_worklist.proofs.people.People.ask_event.Goals as goal
use Rattle.yw_worklist.specs.People.{Asks}

pub returns-in-Some : goal.returns-in-Some
returns-in-Some c =
    on_ok c.ask.result _ _ c.ask.ensures
    (λ asks. subst (λ o. Asks c.args.known.now c.args.self.now c.ask.new.self (option_to_list o)) c.in-Some.ensures asks)

pub returns-in-None : goal.returns-in-None
returns-in-None c =
    subst (λ o. Asks c.args.known.now c.args.self.now c.args.self.now (option_to_list o)) c.in-None.ensures (none_asked c.args.known.now c.args.self.now)
