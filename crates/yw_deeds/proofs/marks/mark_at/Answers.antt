use Rattle.std.proofs.Common.{Some, ap, sym, ◌∙◌}
use Rattle.std.specs.Prelude.{option_and_then, option_map}
use Rattle.yw_deeds.proofs.marks.mark_at.Goals as goal
use Rattle.yw_deeds.specs.Marks.{mark_of}
use Rattle.yw_tree.specs.Spots.{part_of}

pub returns-in-Some-Case : goal.returns-in-Some-Case
returns-in-Some-Case c = ap (λ o. option_and_then mark_of (option_map part_of o)) (sym (c.in-Some-Case.is ∙ ap Some c.in-Some-Case.field-0-is)) ∙ ap (option_and_then mark_of) c.find.ensures.found

pub returns-in-Some-Item : goal.returns-in-Some-Item
returns-in-Some-Item c = ap (λ o. option_and_then mark_of (option_map part_of o)) (sym (c.in-Some-Item.is ∙ ap Some c.in-Some-Item.field-0-is)) ∙ ap (option_and_then mark_of) c.find.ensures.found

pub returns-in-Some-Run : goal.returns-in-Some-Run
returns-in-Some-Run c = ap (λ o. option_and_then mark_of (option_map part_of o)) (sym (c.in-Some-Run.is ∙ ap Some c.in-Some-Run.field-0-is)) ∙ ap (option_and_then mark_of) c.find.ensures.found

pub returns-in-None : goal.returns-in-None
returns-in-None c = ap (λ o. option_and_then mark_of (option_map part_of o)) (sym c.in-None.is) ∙ ap (option_and_then mark_of) c.find.ensures.found
