use Rattle.std.proofs.Common.{ap, sym, ◌∙◌}
use Rattle.yw_loose.proofs.Moving.{moved_at, then, unknown}
use Rattle.yw_loose.proofs.loose.Loose.add_at.Goals as goal
use Rattle.yw_loose.specs.Loose.{is_known}
use Rattle.yw_tree.proofs.OnResults.{on_ok}

pub returns : goal.returns
returns c =
    on_ok c.add_around.result _ _ c.add_around.ensures
    (λ around. moved_at c.args.self.now c.add_around.new.self c.args.event.now c.args.at.now c.requires
    (then c.args.self.now c.add_made.new.self c.add_around.new.self _ _ c.in_ok-add_made.ensures around))

pub returns-then-not-contains : goal.returns-then-not-contains
returns-then-not-contains c =
    unknown c.args.self.now c.args.event.now c.args.at.now c.requires c.numbers.ensures.identity
    (ap (is_known c.args.self.now) (sym c.case_number.ensures) ∙ sym c.contains.ensures ∙ c.if-not-contains.true)
