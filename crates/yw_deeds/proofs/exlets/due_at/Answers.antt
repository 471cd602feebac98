use Rattle.std.proofs.Common.{Some, ap, ◌∙◌}
use Rattle.std.specs.Prelude.{option_map}
use Rattle.yw_deeds.proofs.ExletsGo.{due_there, none_due}
use Rattle.yw_deeds.proofs.exlets.due_at.Goals as goal
use Rattle.yw_state.specs.Map.{get}
use Rattle.yw_tree.specs.Entries.{case_site, item_site, run_site}
use Rattle.yw_tree.specs.Spots.{part_of, part_site}

pub returns-in-Some-Case : goal.returns-in-Some-Case
returns-in-Some-Case c = λ names s boxed sites.
    let found = c.find.ensures.site names boxed ∙ ap (λ o. option_map (part_site names) (option_map part_of o)) (c.in-Some-Case.is ∙ ap Some c.in-Some-Case.field-0-is) in
    due_there s c.args.at.now (case_site names c.in-Some-Case.case.now) (ap (λ m. get m c.args.at.now) sites ∙ found)

pub returns-in-Some-Item : goal.returns-in-Some-Item
returns-in-Some-Item c = λ names s boxed sites.
    let found = c.find.ensures.site names boxed ∙ ap (λ o. option_map (part_site names) (option_map part_of o)) (c.in-Some-Item.is ∙ ap Some c.in-Some-Item.field-0-is) in
    due_there s c.args.at.now (item_site names c.in-Some-Item.node.now) (ap (λ m. get m c.args.at.now) sites ∙ found)

pub returns-in-Some-Run : goal.returns-in-Some-Run
returns-in-Some-Run c = λ names s boxed sites.
    let found = c.find.ensures.site names boxed ∙ ap (λ o. option_map (part_site names) (option_map part_of o)) (c.in-Some-Run.is ∙ ap Some c.in-Some-Run.field-0-is) in
    due_there s c.args.at.now (run_site names c.in-Some-Run._run.now) (ap (λ m. get m c.args.at.now) sites ∙ found)

pub returns-in-None : goal.returns-in-None
returns-in-None c = λ names s boxed sites.
    none_due s c.args.at.now
    (ap (λ m. get m c.args.at.now) sites ∙ c.find.ensures.site names boxed ∙ ap (λ o. option_map (part_site names) (option_map part_of o)) c.in-None.is)
