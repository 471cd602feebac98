-- A run that begins.
use Rattle.std.specs.Option.{option_map_or}
use Rattle.std.specs.Prelude.{◌≡◌, ◌<◌, ◌+◌, List, None, [], length, true, ℕ}
use Rattle.yw_base.specs.Identity.{child, is_number, most_numbers}
use Rattle.yw_nest.specs.Does.{Does}
use Rattle.yw_state.specs.After.{primitives_of, with_next}
use Rattle.yw_state.specs.Identity.{Ident}
use Rattle.yw_state.specs.Judged.{conclusion_at}
use Rattle.yw_state.specs.State.{State}
use Rattle.yw_state.specs.declared.event.Event.TheVariants as events
use Rattle.yw_state.specs.declared.tree.Primitive.{Primitive}
use Rattle.yw_state.specs.declared.tree.TreeKind.{TreeKind}
use Rattle.yw_tree.specs.Coming.{TargetStands}
use Rattle.yw_tree.specs.Places.{hung_at}
use Rattle.yw_tree.specs.Spots.{part_at}
use Rattle.yw_tree.specs.declared.Forest.{Forest}

-- A run may begin under this number at the case or item at j: none hangs there, and nothing stands at its identity.
pub record RunMayBegin (f : Forest) (j : Ident) (n : ℕ) : Type 0 where
  pub target : TargetStands f j
  pub idle : hung_at f j ≡ None
  pub room : length j < most_numbers
  pub number : is_number n ≡ true
  pub vacant : part_at f (child j n) ≡ None

-- the rule of that number concludes this exlet
abbrev pub Concludes : Ident → TreeKind → ℕ → List Primitive → (ℕ → List ℕ) → State → Type 0
Concludes j kind node exlet names s = exlet ≡ option_map_or primitives_of (conclusion_at s j kind node) []

-- run n begins at j, and n is drawn
abbrev pub Raises : Ident → TreeKind → ℕ → ℕ → List Primitive → Forest → Forest → Type 0
Raises j kind node n exlet = Does (λ names. events.Raise j kind node n) (Concludes j kind node exlet) (λ s. with_next s (n + 1))

abbrev pub Excepts : Ident → TreeKind → ℕ → ℕ → List Primitive → Forest → Forest → Type 0
Excepts j check node n exlet = Does (λ names. events.Except j check node n) (Concludes j check node exlet) (λ s. with_next s (n + 1))
