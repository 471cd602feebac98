use Rattle.std.proofs.Common.{ap, ◌∙◌}
use Rattle.std.specs.Prelude.{fold}
use Rattle.yw_expr.specs.Rows.{put_in}
use Rattle.yw_state.specs.Passing.{split_places}
use Rattle.yw_task.proofs.exits.exit_outcome.Goals as goal

pub returns : goal.returns
returns c =
    let split = split_places c.args.task.now in
    record {
      values = c.in_ok-puts.ensures;
      places = c.in_ok-places.ensures ∙ ap (λ ps. split (fold put_in c.args.vals.now ps)) c.as_slice.ensures ∙ ap split c.in_ok-puts.ensures;
    }
