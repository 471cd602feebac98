use Rattle.std.proofs.Common.{◌≡◌, None, ap, sym, ◌∙◌}
use Rattle.std.specs.Prelude.{filter}
use Rattle.yw_mark.proofs.SplitLemmas.{none_kept}
use Rattle.yw_mark.proofs.split.first_of.Goals as goal
use Rattle.yw_mark.specs.Splits.{first_place, is_place}

pub returns-in_default : goal.returns-in_default
returns-in_default g c =
    let none : None ≡ first_place c.args.task.now.branch (g.V.Values.values c.args.values.now) =
    sym c.in_default.is ∙ c.first_place.ensures ∙ ap (λ bs. first_place bs (g.V.Values.values c.args.values.now)) c.as_slice.ensures in
    c.new.ensures.items ∙ none_kept c.args.task.now.after ∙ ap (λ o. filter (is_place o) c.args.task.now.after) none
