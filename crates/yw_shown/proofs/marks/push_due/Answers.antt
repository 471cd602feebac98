use Rattle.std.proofs.lemmas.Result.{on_ok_weaker}
use Rattle.yw_shown.proofs.DueLemmas.{due_added}
use Rattle.yw_shown.proofs.marks.push_due.Goals as goal

pub returns : goal.returns
returns c =
    on_ok_weaker c.push_if-3.result
    (λ last x same. due_added c.args.at.now c.args.due x _ _ _ _ same c.in_ok-push_if.ensures c.in_ok-push_if-2.ensures last) c.push_if-3.ensures
