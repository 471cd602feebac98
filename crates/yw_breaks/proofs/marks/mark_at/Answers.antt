use Rattle.std.proofs.Common.{Some, ap, sym, ◌∙◌}
use Rattle.std.specs.Prelude.{option_and_then, option_map}
use Rattle.yw_breaks.proofs.Marked.{marked_there, nothing_there}
use Rattle.yw_breaks.proofs.marks.mark_at.Goals as goal
use Rattle.yw_deeds.specs.Marks.{mark_of}
use Rattle.yw_tree.specs.Spots.{part_of}
use Rattle.yw_tree.specs.declared.Node.{out-Node}

pub returns-in-Some-Case : goal.returns-in-Some-Case
returns-in-Some-Case c = λ known s h.
    marked_there known c.args.forest.now s h c.args.at.now c.numbers.ensures.identity c.in-Some-Case.case.now.suspended
    (sym (ap (option_and_then mark_of) c.find.ensures.found)
    ∙ ap (λ o. option_and_then mark_of (option_map part_of o)) (c.in-Some-Case.is ∙ ap Some c.in-Some-Case.field-0-is))

pub returns-in-Some-Item : goal.returns-in-Some-Item
returns-in-Some-Item c = λ known s h.
    marked_there known c.args.forest.now s h c.args.at.now c.numbers.ensures.identity (out-Node c.in-Some-Item.node.now).suspended
    (sym (ap (option_and_then mark_of) c.find.ensures.found)
    ∙ ap (λ o. option_and_then mark_of (option_map part_of o)) (c.in-Some-Item.is ∙ ap Some c.in-Some-Item.field-0-is))

pub returns-in-Some-Run : goal.returns-in-Some-Run
returns-in-Some-Run c = λ known s h.
    nothing_there known c.args.forest.now s h c.args.at.now c.numbers.ensures.identity
    (sym (ap (option_and_then mark_of) c.find.ensures.found)
    ∙ ap (λ o. option_and_then mark_of (option_map part_of o)) (c.in-Some-Run.is ∙ ap Some c.in-Some-Run.field-0-is))
    c.unknown_rule-unknown.result c.unknown_rule-unknown.ensures

pub returns-in-None : goal.returns-in-None
returns-in-None c = λ known s h.
    nothing_there known c.args.forest.now s h c.args.at.now c.numbers.ensures.identity
    (sym (ap (option_and_then mark_of) c.find.ensures.found) ∙ ap (λ o. option_and_then mark_of (option_map part_of o)) c.in-None.is)
    c.unknown_rule-unknown.result c.unknown_rule-unknown.ensures
