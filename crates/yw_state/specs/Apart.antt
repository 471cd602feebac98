-- States that are alike: in all but one case, or in all cases. That cases leave each other alone is the paper's; that it is said by
-- what stands under their numbers is our own.
use Rattle.std.specs.Prelude.{◌≡◌, ◌≢◌, ℕ}
use Rattle.yw_state.specs.Identity.{Ident}
use Rattle.yw_base.specs.Identity.{case_number}
use Rattle.yw_state.specs.Map.{get}
use Rattle.yw_state.specs.State.{State}

-- All but the case with this number is the same: what stands in other cases and how they ended, and specifications, persons and rules.
pub record SameElsewhere (n : ℕ) (s t : State) : Type 0 where
  pub sites : (j : Ident) → case_number j ≢ n → get t.sites j ≡ get s.sites j
  pub ended : (m : ℕ) → m ≢ n → get t.ended m ≡ get s.ended m
  pub specs : t.specs ≡ s.specs
  pub persons : t.persons ≡ s.persons
  pub rules : t.rules ≡ s.rules

-- All that stands in cases is the same, how cases ended, and the number that is drawn next.
pub record SameCases (s t : State) : Type 0 where
  pub sites : t.sites ≡ s.sites
  pub ended : t.ended ≡ s.ended
  pub next : t.next ≡ s.next
