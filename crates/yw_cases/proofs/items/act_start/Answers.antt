use Rattle.yw_cases.proofs.ItemsGo.{start_stands, started, starts_so}
use Rattle.yw_cases.proofs.items.act_start.Goals as goal

pub begin-requires-clause-stands : goal.begin-requires-clause-stands
begin-requires-clause-stands c =
    let suits = starts_so c.args.standing.now c.requires.stands c.args.j.now c.args.who.now c.requires.leads in
    start_stands c.args.standing.now c.requires.stands c.args.j.now c.args.who.now suits

pub returns : goal.returns
returns c =
    let suits = starts_so c.args.standing.now c.requires.stands c.args.j.now c.args.who.now c.requires.leads in
    started c.args.standing.now c.requires.stands c.args.j.now c.args.who.now suits c.begin.new.forest c.in_ok-starter.starter c.in_ok-starter.ensures c.begin.ensures
