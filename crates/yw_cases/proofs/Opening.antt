-- The parts of the opening state stand for it.
use Rattle.std.proofs.Common.{ap, ◌∙◌, ◌≡◌, ℕ, List, []}
use Rattle.yw_cases.proofs.Trying.{opening_stands, opens}
use Rattle.yw_cases.specs.State.{MayStand, standing_of}
use Rattle.yw_library.specs.Parts.{IsOpening}
use Rattle.yw_library.specs.declared.parts.Parts.{Parts}
use Rattle.yw_standing.specs.State.{state_of}
use Rattle.yw_standing.specs.declared.standing.Standing.{Standing}
use Rattle.yw_state.specs.State.{opening}
use Rattle.yw_state.specs.declared.part.Way.{Way}

module _ (p : Parts) (is : IsOpening p) where
  abbrev with_ended : List (ℕ × Way) → ℕ → Standing
  with_ended es n = record { known = p.library; forest = p.forest; ended = es; next = n }

  pub is_opening : state_of (standing_of p) ≡ opening
  is_opening =
      ap (λ es. state_of (with_ended es p.next)) is.ended
      ∙ ap (λ n. state_of (with_ended [] n)) is.next
      ∙ opens p.library p.forest is.library is.sites

  pub may_stand : MayStand (standing_of p)
  may_stand = opening_stands (standing_of p) is_opening is.boxed
