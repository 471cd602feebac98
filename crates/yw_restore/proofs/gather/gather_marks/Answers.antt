use Rattle.std.proofs.Common.{◌≡◌, ◌∙◌, Some, ap, subst, sym}
use Rattle.std.proofs.lemmas.Result.{on_ok_weaker}
use Rattle.std.specs.Prelude.{option_map}
use Rattle.yw_restore.proofs.gather.gather_marks.Goals as goal
use Rattle.yw_restore.specs.Gathers.{AddsMarks}
use Rattle.yw_state.proofs.MapLemmas.{some_same}
use Rattle.yw_state.specs.Map.{get}
use Rattle.yw_state.specs.State.{Site}
use Rattle.yw_tree.specs.Entries.{case_site, item_site, run_site}
use Rattle.yw_tree.specs.Spots.{part_of, part_site}

pub returns-in-Some-Case : goal.returns-in-Some-Case
returns-in-Some-Case c =
    on_ok_weaker c.gather_target.result (λ adds names s x boxed sites stands.
    let found = c.find.ensures.site names boxed ∙ ap (λ o. option_map (part_site names) (option_map part_of o)) (c.in-Some-Case.is
    ∙ ap Some c.in-Some-Case.field-0-is) in
    let same : x ≡ case_site names c.in-Some-Case.case.now = some_same x _ (sym stands ∙ ap (λ m. get m c.args.at.now) sites ∙ found) in
    adds x (ap (λ (z : Site). z.due) same) (ap (λ (z : Site). z.suspended) same) (ap (λ (z : Site). z.run) same)) c.gather_target.ensures

pub returns-in-Some-Item : goal.returns-in-Some-Item
returns-in-Some-Item c =
    on_ok_weaker c.gather_target-in-Some-Item.result (λ adds names s x boxed sites stands.
    let found = c.find.ensures.site names boxed ∙ ap (λ o. option_map (part_site names) (option_map part_of o)) (c.in-Some-Item.is
    ∙ ap Some c.in-Some-Item.field-0-is) in
    let same : x ≡ item_site names c.in-Some-Item.node.now = some_same x _ (sym stands ∙ ap (λ m. get m c.args.at.now) sites ∙ found) in
    adds x (ap (λ (z : Site). z.due) same) (ap (λ (z : Site). z.suspended) same) (ap (λ (z : Site). z.run) same)) c.gather_target-in-Some-Item.ensures

pub returns-in-Some-Run : goal.returns-in-Some-Run
returns-in-Some-Run c =
    on_ok_weaker c.gather_run.result (λ adds names s x boxed sites stands.
    let found = c.find.ensures.site names boxed ∙ ap (λ o. option_map (part_site names) (option_map part_of o)) (c.in-Some-Run.is
    ∙ ap Some c.in-Some-Run.field-0-is) in
    let same : x ≡ run_site names c.in-Some-Run.run'.now = some_same x _ (sym stands ∙ ap (λ m. get m c.args.at.now) sites ∙ found) in
    subst (λ y. AddsMarks (c.args.at.now, y) c.args.lines.now c.gather_run.new.lines) (sym same) (adds names)) c.gather_run.ensures
