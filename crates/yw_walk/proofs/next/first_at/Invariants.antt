use Rattle.std.proofs.Common.{Bor, take, ℕ, ◌≡◌}
use Rattle.std.specs.List.{All}
use Rattle.yw_base.specs.Identity.{case_number}
use Rattle.yw_idents.specs.Idents.{lent}
use Rattle.yw_state.specs.Identity.{Ident}
use Rattle.yw_state.specs.State.{State}
use Rattle.yw_walk.proofs.next.first_at.Given as goal
use Rattle.yw_walk.specs.Finds.{Rests, StandsCalm}

abbrev pub invariant-loop-id : goal.invariant-loop-id
invariant-loop-id l =
    (n : ℕ) (s : State) → StandsCalm l.known l.forest l.next n s → All (λ j. case_number j ≡ n) (lent l.idents.items)
    → All (λ (b : Bor Ident). Rests s b.now) (take l.id-index l.idents.items)
