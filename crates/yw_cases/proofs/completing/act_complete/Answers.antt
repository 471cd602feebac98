use Rattle.yw_cases.proofs.CompleteLaw.{completed_there, completes_done}
use Rattle.yw_cases.proofs.completing.act_complete.Goals as goal

pub finish_at-requires-clause-stands : goal.finish_at-requires-clause-stands
finish_at-requires-clause-stands c = completed_there c.args.standing.now c.requires.stands c.args.j.now c.args.out.now c.requires.leads

pub returns : goal.returns
returns c =
    completes_done c.args.standing.now c.requires.stands c.args.j.now c.args.out.now c.requires.leads c.finish_at.new.forest c.in_ok-made.made c.in_ok-made.ensures
    c.finish_at.ensures
