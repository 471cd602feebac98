use Rattle.std.proofs.Common.{ap, sym, ◌∙◌}
use Rattle.std.specs.Prelude.{is_some}
use Rattle.yw_tree.specs.Places.{hung_at}
use Rattle.yw_tree.proofs.BusyLaw.{busy_is}
use Rattle.yw_tree.proofs.Parents.{identity_short}
use Rattle.yw_base.proofs.Parents.{identity_long}
use Rattle.yw_tree.proofs.Forest.is_busy.Goals as goal

pub returns-clause-busy : goal.returns-clause-busy
returns-clause-busy c = λ names s b is.
    let f = c.args.self.now in
    let id = c.args.id.now in
    let i = c.numbers.ensures.identity in
    c.is_busy.ensures ∙ ap (λ z. is_some (hung_at f z)) c.numbers.ensures.numbers ∙ sym (busy_is f b id (identity_long id i) (identity_short id i) names s is)
