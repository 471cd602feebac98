use Rattle.std.proofs.Common.{subst, ◌∙◌}
use Rattle.yw_exlet.proofs.begin.new_run.Goals as goal
use Rattle.yw_tree.specs.Begins.{BeginsRun}

pub returns : goal.returns
returns c =
    subst (λ z. BeginsRun z c.args.exlet.now c.begin.result) c.in_ok-id.ensures (subst (λ z. BeginsRun c.in_ok-id.id z c.begin.result) (c.in_ok-rest.ensures ∙ c.as_slice.ensures) c.begin.ensures)
