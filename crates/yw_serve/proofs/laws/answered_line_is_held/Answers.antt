use Rattle.std.specs.Prelude.{[], ◌∷◌}
use Rattle.yw_model.proofs.RunLemmas.{Run-one}
use Rattle.yw_serve.proofs.HeadlineLemmas.{held_after}
use Rattle.yw_serve.proofs.laws.answered_line_is_held.Goals as goal
use Rattle.yw_serve.specs.Session.{server_state, with_steps}

pub returns : goal.returns
returns g k = λ c before now n line old new ends held.
    let s = server_state before in
    let t = server_state now in
    let d = ends.are_done in
    let run = Run-one s n line ends.step t ends.answers in (
      with_steps c (ends.step ∷ []),
      held_after now.journal.file c s (g.D.Desk.state old) n (line ∷ []) (ends.step ∷ []) t (g.D.Desk.state new) held run d.written (now.journal.end, d.file.holds) d.other,
    )
