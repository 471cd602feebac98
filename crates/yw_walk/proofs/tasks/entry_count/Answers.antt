use Rattle.std.proofs.Common.{Option, subst, ◌∙◌, ◌≤◌}
use Rattle.std.proofs.Math.Nat.{min-eq_left}
use Rattle.std.specs.Prelude.{option_map, unwrap_or}
use Rattle.yw_spec.specs.declared.task.Many.{Many}
use Rattle.yw_walk.proofs.tasks.entry_count.Goals as goal

pub returns-in-Some : goal.returns-in-Some
returns-in-Some c = λ few.
    c.min.ensures
    ∙ min-eq_left (subst (λ (o : Option Many). c.args.rows ≤ unwrap_or (option_map (λ (m : Many). m.max) o) 1) c.in-Some.is few)

pub returns-in-None : goal.returns-in-None
returns-in-None c = λ few.
    c.min-in-None.ensures
    ∙ min-eq_left (subst (λ (o : Option Many). c.args.rows ≤ unwrap_or (option_map (λ (m : Many). m.max) o) 1) c.in-None.is few)
