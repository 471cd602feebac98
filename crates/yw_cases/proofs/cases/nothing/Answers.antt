use Rattle.std.proofs.Common.{ap, ◌∙◌}
use Rattle.yw_cases.proofs.Trying.{opening_stands, opens}
use Rattle.yw_cases.proofs.cases.nothing.Goals as goal
use Rattle.yw_standing.specs.State.{state_of}
use Rattle.yw_standing.specs.declared.standing.Standing.{Standing}

pub returns-clause-state : goal.returns-clause-state
returns-clause-state c =
    ap (λ es. let h : Standing = record { known = c.new.result; forest = c.new-2.result; ended = es; next = 1 } in state_of h) c.new-3.ensures
    ∙ opens c.new.result c.new-2.result c.new.ensures.empty c.new-2.ensures.sites

pub returns-clause-stands : goal.returns-clause-stands
returns-clause-stands c =
    opening_stands (record { known = c.new.result; forest = c.new-2.result; ended = c.new-3.result; next = 1 })
    (ap (λ es. let h : Standing = record { known = c.new.result; forest = c.new-2.result; ended = es; next = 1 } in state_of h) c.new-3.ensures
    ∙ opens c.new.result c.new-2.result c.new.ensures.empty c.new-2.ensures.sites)
    c.new-2.ensures.boxed
