use Rattle.std.proofs.Common.{Some, ap, length, sym, ◌∙◌, ◌≡◌}
use Rattle.std.proofs.lemmas.Result.{on_ok_weaker}
use Rattle.std.specs.Option.{option_copied_mut}
use Rattle.yw_state.proofs.Tests.{nowhere}
use Rattle.yw_steps.proofs.EnterLaw.{enters}
use Rattle.yw_steps.proofs.entering.come_at.Goals as goal
use Rattle.yw_tree.proofs.NetAt.{net_here}
use Rattle.yw_base.proofs.Parents.{identity_long}
use Rattle.yw_tree.specs.Places.{net_at}

pub unreachable-requires : goal.unreachable-requires
unreachable-requires c = nowhere (sym (ap option_copied_mut c.in-None.is) ∙ c.net_mut.ensures.value ∙ c.requires.may.found)

pub come-requires-clause-may : goal.come-requires-clause-may
come-requires-clause-may c = c.requires.come c.in-Some.state.now (sym (rw c.in-Some.is at c.net_mut.ensures.value))

pub come-requires-clause-rows : goal.come-requires-clause-rows
come-requires-clause-rows c = c.requires.rows c.in-Some.state.now (sym (rw c.in-Some.is at c.net_mut.ensures.value))

pub come-requires-clause-boxed : goal.come-requires-clause-boxed
come-requires-clause-boxed c =
    let f = c.args.forest.now in
    let i = c.args.at.now in
    let found : net_at f i ≡ Some c.in-Some.state.now = sym (rw c.in-Some.is at c.net_mut.ensures.value) in
    (net_here f i c.in-Some.state.now c.requires.boxed (identity_long i c.net_mut.ensures.identity) found).boxed

pub returns : goal.returns
returns c =
    let f = c.args.forest.now in
    let i = c.args.at.now in
    let old = c.in-Some.state.now in
    let found : net_at f i ≡ Some old = sym (rw c.in-Some.is at c.net_mut.ensures.value) in
    on_ok_weaker c.come.result
    (enters f c.requires.boxed i c.net_mut.ensures.identity old found c.args.net.now c.args.t c.args.taken c.args.first c.args.due c.come.new.state (length c.args.rows.items)) c.come.ensures
