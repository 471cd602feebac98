use Rattle.std.proofs.Common.{length, ap, ◌∙◌}
use Rattle.std.specs.List.{list_all}
use Rattle.yw_path.proofs.WithinLemmas.{fitting}
use Rattle.yw_path.proofs.within.has_its_places.Goals as goal
use Rattle.yw_path.specs.Direct.{fits}

pub returns-clause-holds : goal.returns-clause-holds
returns-clause-holds c = fitting c.args.net.now c.all_fit.result
    (c.all_fit.ensures
    ∙ ap (λ places. list_all (fits (length places)) c.as_slice-2.result.now) c.as_slice.ensures
    ∙ ap (list_all (fits (length c.args.net.now.places))) c.as_slice-2.ensures)
