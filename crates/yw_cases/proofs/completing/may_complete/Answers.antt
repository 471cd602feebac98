use Rattle.std.proofs.Common.{ap, sym, ◌∙◌}
use Rattle.std.proofs.lemmas.Result.{IfOk-weaker}
use Rattle.yw_cases.proofs.CompleteLaw.{held_back, item_found, not_made, not_there, tells_completed}
use Rattle.yw_cases.proofs.completing.may_complete.Goals as goal
use Rattle.yw_steps.specs.Completes.{defined_once}
use Rattle.yw_tree.specs.declared.NetState.{out-NetState}

pub returns-then-is_held : goal.returns-then-is_held
returns-then-is_held c = held_back c.args.standing.now c.requires c.args.j.now c.args.out.now (sym c.is_held.ensures ∙ c.if-is_held.true)

pub returns-in_default : goal.returns-in_default
returns-in_default c =
    not_there c.args.standing.now c.requires c.args.j.now c.args.out.now c.item_here.result c.in_default.is (c.item_here.ensures _ c.requires.held)

pub returns-then-not-can_make : goal.returns-then-not-can_make
returns-then-not-can_make c =
    not_made c.args.standing.now c.requires c.args.j.now c.args.out.now c.in-Some.here
    (item_found c.args.standing.now c.args.j.now c.item_here.result c.in-Some.here c.in-Some.is (c.item_here.ensures _ c.requires.held))
    (sym c.can_make.ensures ∙ c.if-not-can_make.true)

pub returns : goal.returns
returns c =
    let w = c.in-Some.here in
    let here = item_found c.args.standing.now c.args.j.now c.item_here.result w c.in-Some.is (c.item_here.ensures _ c.requires.held) in
    let vals = (out-NetState w.outer.state.now).vals in
    IfOk-weaker c.are_defined.result _ _
    (λ b e. tells_completed c.args.standing.now c.requires c.args.j.now c.args.out.now w here (sym c.is_held.ensures ∙ c.if-is_held.false) (sym c.can_make.ensures ∙ c.if-not-can_make.false) b
    (e ∙ ap (λ ns. defined_once w.task.now ns vals c.args.j.now c.args.out.now) c.items_in-items.ensures))
    c.are_defined.ensures
