use Rattle.std.proofs.Common.{Option, ap, subst, sym, ◌∙◌}
use Rattle.yw_breaks.proofs.Completes.{completes_first}
use Rattle.yw_breaks.proofs.complete.complete_most.Goals as goal
use Rattle.yw_breaks.specs.Complete.{FindsMost, most_broken}
use Rattle.yw_breaks.specs.Finds.{Finds}
use Rattle.yw_breaks.specs.Tables.{complete_most}
use Rattle.yw_nest.proofs.Results.{if_ok}
use Rattle.yw_state.specs.Broken.{First}
use Rattle.yw_state.specs.Identity.{Ident}
use Rattle.yw_state.specs.Words.{held}
use Rattle.yw_state.specs.declared.rule.Refusal.{Refusal}

pub returns-clause-finds : goal.returns-clause-finds
returns-clause-finds c = λ known j says.
    let f = c.args.forest.now in
    let who = c.args.who.now in
    let gs = c.args.given.now in
    let x = c.args.here.now in
    if_ok c.most_broken.result (FindsMost f who gs x) (Finds known f (λ s. complete_most s who j gs)) c.most_broken.ensures.finds
    (λ found finds. λ s h.
    let here = says s h in
    subst (λ (o : Option Refusal). First (complete_most s who j gs) o)
    (sym (finds known s h ∙ ap (λ (i : Ident). most_broken who gs x (held s i)) here.identity))
    (completes_first known f s who j gs x h here))
