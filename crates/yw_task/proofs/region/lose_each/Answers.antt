use Rattle.std.proofs.Common.{arith, length, take, ◌<◌, ◌≡◌, subst, List, ℕ}
use Rattle.std.proofs.lemmas.List.{take_all}
use Rattle.std.specs.Prelude.{fold}
use Rattle.yw_state.specs.After.{without_items}
use Rattle.yw_task.proofs.TurnLaw.{turns_more, turns_stay}
use Rattle.yw_task.proofs.region.lose_each.Goals as goal
use Rattle.yw_task.specs.Turning.{Turns}

pub lose_items-requires : goal.lose_items-requires
lose_items-requires c = c.loop-t.invariant.0

pub loop-t-init : goal.loop-t-init
loop-t-init c = (c.requires, turns_stay c.args.state.now)

pub loop-t-preserved : goal.loop-t-preserved
loop-t-preserved c =
    let at : c.loop-t.t-index < length c.args.tasks.now = omega arith in
    (c.lose_items.ensures.boxed, turns_more c.args.state.now c.loop-t.state c.lose_items.new.state c.args.tasks.now c.loop-t.t-index 0 at c.loop-t.invariant.1 c.lose_items.ensures.turns)

pub returns-clause-turns : goal.returns-clause-turns
returns-clause-turns c =
    let all : take c.loop-t.t-index c.args.tasks.now ≡ c.args.tasks.now = take_all _ _ c.loop-t-test.false in
    subst (λ (ks : List ℕ). Turns c.args.state.now c.loop-t.state (λ i s. fold (without_items i) s ks)) all c.loop-t.invariant.1
