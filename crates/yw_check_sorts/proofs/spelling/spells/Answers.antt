use Rattle.yw_check_sorts.specs.Wanted.{IsWanted}
use Rattle.yw_check_sorts.proofs.SpellsLemmas.{spells_sort, spells_none}
use Rattle.yw_check_sorts.proofs.spelling.spells.Goals as goal

pub returns-in-Ok : goal.returns-in-Ok
returns-in-Ok c =
    spells_sort c.args.text.now c.args.scope.now (IsWanted c.args.wanted) c.in-Ok.expression c.sort_of.result c.in-Ok.ensures.means c.in-Ok.ensures.only c.sort_of.ensures c.is_wanted.result c.is_wanted.ensures

pub returns-in_ok-has_fault-in-Err : goal.returns-in_ok-has_fault-in-Err
returns-in_ok-has_fault-in-Err c =
    spells_none c.args.text.now c.args.scope.now (IsWanted c.args.wanted) c.in-Err.fault c.in_ok-has_fault-in-Err.ensures c.in-Err.ensures.only
