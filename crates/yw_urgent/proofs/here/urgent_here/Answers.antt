use Rattle.std.proofs.Common.{Some, ap, sym, ◌∙◌}
use Rattle.std.specs.Prelude.{option_map}
use Rattle.yw_state.specs.Map.{get}
use Rattle.yw_tree.specs.Entries.{case_site, item_site, run_site}
use Rattle.yw_tree.specs.Spots.{part_of, part_site}
use Rattle.yw_urgent.proofs.Looking.{due_there, nothing_there, run_here, run_there}
use Rattle.yw_urgent.proofs.here.urgent_here.Goals as goal

pub returns-in-Some-Case : goal.returns-in-Some-Case
returns-in-Some-Case c = λ names s boxed sites.
    let j = c.args.at.now in
    let x = case_site names c.in-Some-Case.case.now in
    let found = c.find.ensures.site names boxed ∙ ap (λ o. option_map (part_site names) (option_map part_of o)) (c.in-Some-Case.is ∙ ap Some c.in-Some-Case.field-0-is) in
    let here = ap (λ m. get m j) sites ∙ found in
    c.check_of.ensures names s boxed sites (due_there s j x here) (run_there s j x here)

pub returns-in-Some-Item : goal.returns-in-Some-Item
returns-in-Some-Item c = λ names s boxed sites.
    let j = c.args.at.now in
    let x = item_site names c.in-Some-Item.node.now in
    let found = c.find.ensures.site names boxed ∙ ap (λ o. option_map (part_site names) (option_map part_of o)) (c.in-Some-Item.is ∙ ap Some c.in-Some-Item.field-0-is) in
    let here = ap (λ m. get m j) sites ∙ found in
    c.check_of-in-Some-Item.ensures names s boxed sites (due_there s j x here) (run_there s j x here)

pub returns-in-Some-Run : goal.returns-in-Some-Run
returns-in-Some-Run c = λ names s boxed sites.
    let j = c.args.at.now in
    let run = c.in-Some-Run.run'.now in
    let x = run_site names run in
    let found = c.find.ensures.site names boxed ∙ ap (λ o. option_map (part_site names) (option_map part_of o)) (c.in-Some-Run.is ∙ ap Some c.in-Some-Run.field-0-is) in
    let here = ap (λ m. get m j) sites ∙ found in
    run_here s j run (sym (due_there s j x here)) (run_there s j x here) c.run_of.result c.run_of.ensures

pub returns-in-None : goal.returns-in-None
returns-in-None c = λ names s boxed sites.
    nothing_there s c.args.at.now
    (ap (λ m. get m c.args.at.now) sites ∙ c.find.ensures.site names boxed ∙ ap (λ o. option_map (part_site names) (option_map part_of o)) c.in-None.is)
