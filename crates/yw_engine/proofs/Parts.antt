-- What is said of the parts that are read of what is held is so of it.
use Rattle.std.proofs.Common.{◌≡◌, subst, sym, ℕ}
use Rattle.std.specs.Prelude.{MatchOption, None, Option, Some, option_map}
use Rattle.yw_library.specs.Ended.{ended_of}
use Rattle.yw_cases.specs.State.{MayStand}
use Rattle.yw_engine.specs.Decides.{IsNext}
use Rattle.yw_library.specs.Held.{IsHeld}
use Rattle.yw_known.specs.Here.{SaysItem, SaysNet}
use Rattle.yw_known.specs.declared.here.ItemHere.{ItemHere}
use Rattle.yw_known.specs.declared.here.NetHere.{NetHere}
use Rattle.yw_library.specs.Holdings.{Holdings, with_library}
use Rattle.yw_standing.specs.State.{state_of}
use Rattle.yw_standing.specs.declared.standing.Standing.{Standing}
use Rattle.yw_state.specs.Automatic.{Comes, IsQuiet}
use Rattle.yw_state.specs.Identity.{Ident}
use Rattle.yw_state.specs.Map.{get}
use Rattle.yw_state.specs.declared.part.Way.{Way}
use Rattle.yw_tree.specs.declared.Forest.{Forest}
use Rattle.yw_walk.specs.declared.found.Found.{Found}

pub next_of : (h : Standing) (next : ℕ) → next ≡ h.next → (state_of h).next ≡ next
unfolding with_library
next_of h next is = sym is

pub held_by : (h : Standing) (known : Holdings) (f : Forest) → known ≡ h.known → f ≡ h.forest → MayStand h → IsHeld known f (state_of h)
held_by h known f same same_forest may =
    subst (λ (k : Holdings). IsHeld k f (state_of h)) (sym same)
    (subst (λ (g : Forest). IsHeld h.known g (state_of h)) (sym same_forest) may.held)

-- what is found of the parts
module _ (h : Standing) (known : Holdings) (f : Forest) (same : known ≡ h.known) (same_forest : f ≡ h.forest) where
  pub says_item : (j : Ident) (w : ItemHere) → SaysItem known f j w → SaysItem h.known h.forest j w
  says_item j w says =
      subst (λ (k : Holdings). SaysItem k h.forest j w) same (subst (λ (g : Forest). SaysItem known g j w) same_forest says)

  pub says_net : (i : Ident) (w : NetHere) → SaysNet known f i w → SaysNet h.known h.forest i w
  says_net i w says =
      subst (λ (k : Holdings). SaysNet k h.forest i w) same (subst (λ (g : Forest). SaysNet known g i w) same_forest says)

pub ended_by : (h : Standing) (n : ℕ) (way : Option Way) → way ≡ get (ended_of h.ended) n → way ≡ get (state_of h).ended n
unfolding with_library
ended_by h n way is = is

-- what is found, whatever is built
pub found_so : (h : Standing) (n : ℕ) (found : Option Found) → IsNext h n found
    → MatchOption (option_map (λ (w : Found). w.event) found) (IsQuiet (state_of h) n) (Comes (state_of h) n)
found_so h n None quiet = quiet
found_so h n (Some w) next = next.comes
