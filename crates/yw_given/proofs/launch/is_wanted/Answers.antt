use Rattle.std.proofs.Common.{None, Some, ◌∙◌, ap, sym}
use Rattle.std.specs.Prelude.{find, is_some}
use Rattle.yw_given.specs.Found.{comes_as}
use Rattle.yw_given.proofs.Wanting.{wanted_is}
use Rattle.yw_given.proofs.launch.is_wanted.Goals as goal
use Rattle.yw_state.specs.Given.{as_sort}

pub returns-in-Some : goal.returns-in-Some
returns-in-Some c =
    let vars = c.args.vars.now in
    let given = c.args.given.now in
    let var = c.in-Some.var.now in
    c.is_of_sort.ensures
    ∙ ap (λ v. is_some (as_sort var.sort v)) c.as_ref.ensures.value
    ∙ sym (wanted_is vars given c.requires.first (Some var)
    (c.in-Some.ensures ∙ c.requires.found c.as_str.result.now ∙ ap (λ key. find (λ y. comes_as y key) vars) c.as_str.ensures))

pub returns-in-None : goal.returns-in-None
returns-in-None c =
    let vars = c.args.vars.now in
    let given = c.args.given.now in
    sym (wanted_is vars given c.requires.first None
    (c.in-None.ensures ∙ c.requires.found c.as_str.result.now ∙ ap (λ key. find (λ y. comes_as y key) vars) c.as_str.ensures))
