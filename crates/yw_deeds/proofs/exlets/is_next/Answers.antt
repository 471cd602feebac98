use Rattle.std.proofs.Common.{ap, sym, ◌+◌, ◌∙◌}
use Rattle.std.specs.Prelude.{nat_le, ◌&&◌, ◌==◌}
use Rattle.yw_base.specs.Identity.{number_end}
use Rattle.yw_standing.proofs.Trying.{next_is}
use Rattle.yw_deeds.proofs.exlets.is_next.Goals as goal

pub returns : goal.returns
returns c = c.draws.ensures ∙ ap (λ k. c.args.n == k && nat_le (c.args.n + 1) number_end) (sym (next_is c.args.standing.now))
