use Rattle.std.proofs.Common.{◌≡◌, ◌∙◌, Some, ap, sym}
use Rattle.std.specs.Option.{option_copied}
use Rattle.std.specs.Prelude.{option_map, slice_get}
use Rattle.yw_restore.proofs.order.text_under.Goals as goal
use Rattle.yw_restore.specs.Names.{text_in}
use Rattle.yw_state.proofs.Tests.{nowhere}

pub returns-in-Some-get : goal.returns-in-Some-get
returns-in-Some-get c =
    let is = c.in-Some.ensures in
    ap (option_map text_in) (sym (ap option_copied c.in-Some-get.is) ∙ c.get.ensures ∙ ap (λ ls. slice_get ls c.in-Some.number) c.specs.ensures.all ∙ is.stands ∙ sym is.kept)

pub returns-in-None-get : goal.returns-in-None-get
returns-in-None-get c = nowhere (sym (ap option_copied c.in-None-get.is) ∙ c.get.ensures ∙ ap (λ ls. slice_get ls c.in-Some.number) c.specs.ensures.all ∙ c.in-Some.ensures.stands)

pub returns-in-None : goal.returns-in-None
returns-in-None c = ap (option_map text_in) (sym c.in-None.ensures)
