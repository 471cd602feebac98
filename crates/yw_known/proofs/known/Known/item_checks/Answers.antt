use Rattle.std.proofs.Common.{Bool, subst, sym}
use Rattle.yw_known.proofs.Judging.{tells_item}
use Rattle.yw_known.proofs.known.Known.item_checks.Goals as goal
use Rattle.yw_known.specs.Judged.{TellsItemChecks}
use Rattle.yw_library.specs.Holdings.{Holdings}
use Rattle.yw_state.specs.State.{no_checks}
use Rattle.yw_trees.specs.Owners.{NamesTasks}

pub returns : goal.returns
returns c =
    let known = c.args.self.now in
    subst
    (λ (b : Bool). TellsItemChecks known c.args.spec c.args.net c.args.number c.args.task.now
    (record { pre = c.has_rule.result; select = b; post = no_checks.post }))
    (sym c.both.ensures)
    (tells_item known (subst (λ (h : Holdings). NamesTasks h.specs) c.library.ensures c.named_after.ensures.tasks) c.args.spec c.args.net c.args.number
    c.args.task.now c.has_rule.result c.is_atomic.result c.is_chosen.result c.has_rule.ensures c.is_atomic.ensures c.is_chosen.ensures)
