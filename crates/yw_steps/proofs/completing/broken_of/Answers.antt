use Rattle.std.proofs.Common.{ap, sym, ◌∙◌, ◌≡◌}
use Rattle.yw_nest.proofs.Results.{if_ok}
use Rattle.yw_steps.proofs.completing.broken_of.Goals as goal
use Rattle.yw_steps.specs.Completes.{Finds, outs_once}
use Rattle.yw_task.specs.Completes.{or_else, undefined_fault}
use Rattle.yw_tree.specs.declared.NetState.{out-NetState}

pub returns : goal.returns
returns c = λ who shown f found stands_in.
    let net = c.args.net.now in
    let j = c.args.j.now in
    let out = c.args.out.now in
    let outer = c.args.outer.now in
    let item = c.args.item.now in
    let task = c.task_at-task.result.now in
    let so_far = c.in_ok-so_far.so_far in
    let fault = undefined_fault net task (out-NetState outer).vals so_far out in
    if_ok c.undefined_fault.result (λ found. found ≡ fault) (Finds f net j who out) c.undefined_fault.ensures
    (λ found_first is. record {
      place =
          record {
            item = item;
            outer = outer;
            found = found;
            stands_in = stands_in;
            task = c.requires;
          };
      task = task;
      of_task = c.task_at-task.ensures;
      so_far = so_far;
      together = λ many. c.in_ok-so_far.ensures many ∙ ap (λ ns. outs_once j out ns 0 task.outs) c.items_in.ensures;
      is = is ∙ ap (or_else fault) (sym shown);
    })
