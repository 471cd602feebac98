use Rattle.std.proofs.Common.{ap, ◌∙◌}
use Rattle.yw_library.specs.Holdings.{Holdings}
use Rattle.yw_tree.proofs.OnResults.{on_ok}
use Rattle.yw_worklist.proofs.Asking.{asked}
use Rattle.yw_worklist.proofs.people.People.ask.Goals as goal
use Rattle.yw_worklist.specs.People.{known_roles}
use Rattle.std.specs.Prelude.{None, Some}

pub returns-in-Some : goal.returns-in-Some
returns-in-Some c =
    let name = c.args.name.now in
    on_ok c.put.result _ _ c.put.ensures
    (λ sets. asked c.args.known.now c.args.self.now c.put.new.self name (Some c.in-Some.roles.now) sets
    (c.in-Some.ensures ∙ ap (λ (k : Holdings). known_roles k name) c.library.ensures))

pub returns-in-None : goal.returns-in-None
returns-in-None c =
    let name = c.args.name.now in
    asked c.args.known.now c.args.self.now c.forget.new.self name None c.forget.ensures
    (c.in-None.ensures ∙ ap (λ (k : Holdings). known_roles k name) c.library.ensures)
