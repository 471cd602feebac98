use Rattle.std.proofs.Common.{arith, subst, sym}
use Rattle.yw_restore.proofs.Below.{all_lower, entries_climb, less_on, lower, next_level, none_lower, of_entry}
use Rattle.yw_restore.proofs.Drawn.{all_drawn, none_first}
use Rattle.yw_restore.proofs.Gathering.{gathers_both, gathers_none}
use Rattle.yw_restore.proofs.cases.gather_all.Goals as goal
use Rattle.yw_restore.specs.Gathers.{Gathers}
use Rattle.yw_restore.specs.Lines.{no_lines}
use Rattle.yw_state.specs.Answers.{of_case}
use Rattle.yw_state.specs.Map.{entries}

pub loop-n-init : goal.loop-n-init
loop-n-init c = λ s held.
    let es = entries s.sites in
    subst (Gathers s (lower of_entry 1 es) no_lines) (sym c.no_lines-lines.ensures)
    (gathers_none s (lower of_entry 1 es) (none_lower of_entry 1 es (none_first s held.well.numbers)) no_lines)

pub loop-n-preserved : goal.loop-n-preserved
loop-n-preserved c = λ s held.
    let es = entries s.sites in
    let n = c.loop-n.n in
    let new = c.gather_number.new.lines in
    subst (λ fs. Gathers s fs no_lines new) (sym (next_level of_entry n es (entries_climb es s.sites.sorted)))
    (gathers_both s (lower of_entry n es) (of_case s n) no_lines c.loop-n.lines new (c.loop-n.invariant s held)
    (c.in_ok-gather_number.ensures s held))

pub returns : goal.returns
returns c = λ s held drawn_next.
    let es = entries s.sites in
    let n = c.loop-n.n in
    subst (λ fs. Gathers s fs no_lines c.loop-n.lines)
    (all_lower of_entry n es (less_on of_entry n s.next es (omega (arith, drawn_next, c.loop-n-test.false)) (all_drawn s held.well.numbers)))
    (c.loop-n.invariant s held)
