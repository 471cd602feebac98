use Rattle.std.proofs.Common.{refl}
use Rattle.std.proofs.lemmas.Result.{on_ok_weaker}
use Rattle.yw_shown.proofs.DueLemmas.{mark_added, no_run}
use Rattle.yw_shown.proofs.marks.push_target.Goals as goal

pub returns : goal.returns
returns c =
    on_ok_weaker c.push_mark.result
    (λ marked x due suspended run. record {
      due = c.in_ok-push_due.ensures x due;
      runs = no_run c.args.at.now x c.args.shown.now.runs run;
      suspended = mark_added c.args.at.now x c.args.suspended _ _ suspended marked;
      items = refl;
      nets = refl;
      tokens = refl;
    }) c.push_mark.ensures
