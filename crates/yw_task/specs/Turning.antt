-- A net that goes on through several changes, wherever it stands: what its map is after each.
use Rattle.std.specs.Prelude.{◌≡◌, ℕ, List, false, option_map, ◌++◌}
use Rattle.yw_base.specs.Identity.{under}
use Rattle.yw_sites.specs.Entries.{Entries}
use Rattle.yw_sites.specs.Idents.{AreChildren}
use Rattle.yw_state.specs.After.{with_net, with_sites}
use Rattle.yw_state.specs.Identity.{Ident}
use Rattle.yw_state.specs.Map.{get}
use Rattle.yw_state.specs.State.{State}
use Rattle.yw_tree.specs.Boxed.{IsBoxedNet, ids}
use Rattle.yw_tree.specs.Entries.{net_part}
use Rattle.yw_tree.specs.Shows.{ShowsNet, StandsBeside}
use Rattle.yw_tree.specs.declared.NetState.{NetState}

-- beside the net at i may stand what stands there, whichever items it has that leave room for these others
abbrev pub StaysBeside : Ident → List Ident → Entries → Type 0
StaysBeside i others beside = (w : NetState) → AreChildren i (ids w ++ others) → StandsBeside i (ids w) beside

-- The state s came of another by changes of the net at i alone, which is w now. Nothing has changed but what is under i, and of what stands
-- at i only its net.
pub record HasCome (names : ℕ → List ℕ) (i : Ident) (others : List Ident) (beside : Entries) (before s : State) (w : NetState) : Type 0 where
  pub boxed : IsBoxedNet w
  pub children : AreChildren i (ids w ++ others)
  pub shows : ShowsNet names s.sites i beside w
  pub own : get s.sites i ≡ option_map (with_net (λ _. net_part names w)) (get before.sites i)
  pub outside : (q : Ident) → under q i ≡ false → get s.sites q ≡ get before.sites q
  pub rest : s ≡ with_sites before s.sites

-- wherever it stands, the net old becomes new where the state is changed so
abbrev pub Turns : NetState → NetState → (Ident → State → State) → Type 0
Turns old new op =
    (names : ℕ → List ℕ) (i : Ident) (others : List Ident) (beside : Entries) (before s : State) → StaysBeside i others beside
    → HasCome names i others beside before s old → HasCome names i others beside before (op i s) new
