use Rattle.std.proofs.Common.{◌∙◌, ap}
use Rattle.std.specs.Prelude.{find, is_some}
use Rattle.yw_given.specs.Found.{is_called}
use Rattle.yw_given.proofs.Finding.{find_any, some_copied}
use Rattle.yw_given.proofs.complete.is_known.Goals as goal

pub returns : goal.returns
returns c =
    let params = c.args.params.now in
    c.is_some.ensures
    ∙ some_copied c.found_in.result
    ∙ ap is_some (c.found_in.ensures ∙ c.requires c.as_str.result.now)
    ∙ ap (λ key. is_some (find (λ p. is_called p key) params)) c.as_str.ensures
    ∙ find_any (λ p. is_called p c.args.given.now.name) params
