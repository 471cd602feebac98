use Rattle.yw_worklist.proofs.Noting.{NoteLaws, stays_right}
use Rattle.yw_worklist.proofs.note.untouched_stays_right.Goals as goal

pub returns : goal.returns
returns c =
    let laws : NoteLaws = record { follows = c.open_follows.ensures; rule = c.rule_leaves_open.ensures; reached = c.gone_is_reached.ensures } in
    λ f es s t l j. stays_right laws f es s t l j
