use Rattle.std.proofs.Common.{take, ◌≡◌}
use Rattle.std.specs.List.{filter_map}
use Rattle.std.specs.Prelude.{option_and_then}
use Rattle.yw_state.specs.Passing.{text_in}
use Rattle.yw_steps.proofs.together.texts.Given as goal
use Rattle.yw_steps.specs.Completes.{made_once}

abbrev pub invariant-loop-node : goal.invariant-loop-node
invariant-loop-node l = l.texts ≡ filter_map (λ n. option_and_then text_in (made_once l.j l.out l.k n)) (take l.node-index l.nodes)
