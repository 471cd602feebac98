use Rattle.std.specs.Option.{option_copied}
use Rattle.yw_loose.proofs.Counting.{tells}
use Rattle.yw_loose.proofs.Looking.{found_counted}
use Rattle.yw_loose.proofs.next.event_counted.Goals as goal

pub returns-clause-found : goal.returns-clause-found
returns-clause-found c =
    found_counted c.args.known.now c.args.forest.now c.args.id.now c.args.next c.args.counts.now (option_copied c.told.result)
    (λ s held right.
    tells c.args.known.now c.args.forest.now s held c.args.id.now c.numbers.ensures.identity c.know.new.self
    (c.in_ok-know.ensures c.args.known.now s held right) (option_copied c.told.result) c.told.ensures)
    c.event_at.result c.event_at.ensures
