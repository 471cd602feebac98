use Rattle.std.proofs.Common.{ap, ◌∙◌}
use Rattle.std.proofs.lemmas.List.{take_all}
use Rattle.std.specs.Prelude.{fold}
use Rattle.yw_mark.proofs.TokenLemmas.{takes_each}
use Rattle.yw_mark.proofs.join.lose_each.Goals as goal
use Rattle.yw_state.specs.After.{one_less}

pub returns : goal.returns
returns c = takes_each c.args.places.now c.args.marks.now c.loop-c.marks (c.loop-c.invariant ∙ ap (fold one_less c.args.marks.now) (take_all _ _ c.loop-c-test.false))
