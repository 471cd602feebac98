-- A net that stands in a state where no work is held, and what is known of the numbers there.
use Rattle.std.specs.Prelude.{◌≡◌, ℕ, List, true}
use Rattle.yw_spec.specs.declared.spec.Net.{Net}
use Rattle.yw_spec.specs.declared.spec.Spec.{Spec}
use Rattle.yw_state.specs.Identity.{Ident}
use Rattle.yw_state.specs.State.{State}
use Rattle.yw_state.specs.Well.{NumbersFit}
use Rattle.yw_state.specs.Words.{clear}
use Rattle.yw_task.specs.Standing.{NetStands}
use Rattle.yw_tree.specs.declared.Forest.{Forest}
use Rattle.yw_tree.specs.declared.NetState.{NetState}
use Rattle.yw_within.specs.Within.{NetIsWithin}

-- The net stands at i, the numbers in the state are fit, and nothing holds work at i.
pub record StandsFree (names : ℕ → List ℕ) (f : Forest) (s : State) (i : Ident) (net : Net) (state : NetState) : Type 0 where
  pub stands : NetStands names f s i net state
  pub numbers : NumbersFit s
  pub free : clear s i ≡ true

-- So it is, the net is within, and this number is drawn next.
pub record MayDraw (names : ℕ → List ℕ) (f : Forest) (s : State) (i : Ident) (net : Net) (state : NetState) (first : ℕ) : Type 0 where
  pub free : StandsFree names f s i net state
  pub spec : Spec
  pub within : NetIsWithin spec net
  pub next : s.next ≡ first
