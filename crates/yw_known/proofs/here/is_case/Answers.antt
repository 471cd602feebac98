use Rattle.std.proofs.Common.{ap, get_or, sym, ◌∙◌}
use Rattle.std.specs.Prelude.{is_some}
use Rattle.yw_known.proofs.Items.{case_is, copied_there, one_number}
use Rattle.yw_known.proofs.here.is_case.Goals as goal
use Rattle.yw_state.specs.State.{is_case}

pub returns-in-len1 : goal.returns-in-len1
returns-in-len1 c = λ known s h.
    let id = c.numbers.result.now in
    let one = one_number id c.in-len1.len_at_least c.in-len1.len_below in
    c.is_some.ensures ∙ sym (copied_there c.case.result) ∙ ap is_some c.case.ensures
    ∙ sym (ap (is_case s) (sym c.numbers.ensures.numbers ∙ one) ∙ case_is known c.args.forest.now s h (get_or id 0 0))
