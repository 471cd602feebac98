use Rattle.yw_accept.specs.Scopes.{Spells}
use Rattle.yw_check_sorts.specs.Wanted.{IsWanted}
use Rattle.yw_check_sorts.proofs.Deciding.{all_of_some}
use Rattle.yw_check_sorts.proofs.spelling.spells_if_any.Goals as goal

pub returns-in_ok-yes-in-Some : goal.returns-in_ok-yes-in-Some
returns-in_ok-yes-in-Some c =
    all_of_some (Spells c.args.scope.now (IsWanted c.args.wanted)) c.args.text.now c.in-Some.text c.as_str.result.now c.in-Some.is c.as_str.ensures c.in_ok-yes-in-Some.yes c.in_ok-yes-in-Some.ensures
