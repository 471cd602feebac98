use Rattle.std.proofs.Common.{Bor, List, false, take, ℕ, ◌≡◌}
use Rattle.std.specs.List.{All}
use Rattle.yw_state.specs.Identity.{Ident}
use Rattle.yw_state.specs.State.{State}
use Rattle.yw_tree.specs.Forest.{IsForest, sites_of}
use Rattle.yw_urgent.proofs.first.first_of.Given as goal
use Rattle.yw_idle.specs.Idle.{is_urgent_at}

abbrev pub invariant-loop-id : goal.invariant-loop-id
invariant-loop-id l =
    (names : ℕ → List ℕ) (s : State) → IsForest l.forest → s.sites ≡ sites_of names l.forest
    → All (λ (b : Bor Ident). is_urgent_at s b.now ≡ false) (take l.id-index l.idents.items)
