use Rattle.std.proofs.Common.{subst}
use Rattle.yw_judge.specs.Counts.{CountsWrite}
use Rattle.yw_judge.specs.declared.verdict.Verdict.{Verdict}
use Rattle.yw_outside.specs.Causes.{Rose}
use Rattle.yw_judge.proofs.EndLemmas.{says_only, judged_by, completed}
use Rattle.yw_judge.proofs.verdict.judge_input.Goals as goal

pub returns-in-Ok-clause-only : goal.returns-in-Ok-clause-only
returns-in-Ok-clause-only g c = λ tells bytes other e is.
    let found = c.in-Ok.finding in
    let same = g.met.J.Judgement.found_once bytes found other (c.in-Ok.ensures.ok bytes e).0 is in
    says_only g.D.Desk g.J.Judgement c.tell.result found other c.args.desk.now c.tell.new.desk same (c.tell.ensures.says tells)

pub returns-in-Ok-clause-judges : goal.returns-in-Ok-clause-judges
returns-in-Ok-clause-judges g c = λ bytes other e is.
    let found = c.in-Ok.finding in
    let same = g.met.J.Judgement.found_once bytes found other (c.in-Ok.ensures.ok bytes e).0 is in
    judged_by g.D.Desk g.J.Judgement c.tell.result found other c.args.desk.now c.tell.new.desk same c.tell.ensures.verdicts

pub returns-in-Ok-clause-complete : goal.returns-in-Ok-clause-complete
returns-in-Ok-clause-complete g c = λ no_read no_write.
    let D = g.D.Desk in
    completed (g.J.Judgement.accepts c.in-Ok.finding) c.tell.result c.args.desk.now c.tell.new.desk (Rose (D.say_faults c.args.desk.now) (D.say_faults c.tell.new.desk)) c.tell.ensures.verdicts (λ e. subst (λ (v : Verdict). CountsWrite v (D.say_faults c.args.desk.now) (D.say_faults c.tell.new.desk)) e c.tell.ensures.counts.say) no_write
