use Rattle.std.proofs.Common.{ap, ◌∙◌, ◌≡◌, subst, List, ℕ}
use Rattle.std.specs.Prelude.{fold}
use Rattle.yw_state.specs.After.{no_more, without_items}
use Rattle.yw_task.proofs.RegionLaw.{region_turns}
use Rattle.yw_task.proofs.TurnLaw.{own_boxed}
use Rattle.yw_task.proofs.region.clear_region.Goals as goal
use Rattle.yw_task.specs.Turning.{Turns}
use Rattle.yw_tree.specs.declared.NetState.{out-NetState}

pub lose_each-requires : goal.lose_each-requires
lose_each-requires c = own_boxed c.args.state.now c.wipe.new.state (fold no_more (out-NetState c.args.state.now).marks c.as_slice.result.now) (out-NetState c.args.state.now).vals c.wipe.ensures c.requires

pub returns-clause-turns : goal.returns-clause-turns
returns-clause-turns c =
    let t = c.args.task.now in
    let old = c.args.state.now in
    let wiped : out-NetState c.wipe.new.state ≡ record (out-NetState old) { marks = fold no_more (out-NetState old).marks t.drop_places } =
    c.wipe.ensures ∙ ap (λ (cs : List ℕ). record (out-NetState old) { marks = fold no_more (out-NetState old).marks cs }) c.as_slice.ensures in
    let lost = subst (λ (ks : List ℕ). Turns c.wipe.new.state c.lose_each.new.state (λ i s. fold (without_items i) s ks)) c.as_slice-2.ensures c.lose_each.ensures.turns in
    region_turns old c.wipe.new.state c.lose_each.new.state t wiped lost
