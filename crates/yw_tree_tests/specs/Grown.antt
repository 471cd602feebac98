-- A forest that grows call by call.
use Rattle.std.specs.Prelude.{◌≡◌, ◌<◌, ℕ, true, None, IsSome, IsSomeAnd, is_some}
use Rattle.yw_base.specs.Identity.{is_identity, number_end, child}
use Rattle.yw_state.specs.Identity.{Ident}
use Rattle.yw_tree.specs.Coming.{AreDrawn, HasNoNet, HasTask}
use Rattle.yw_tree.specs.Forest.{IsForest, item_of}
use Rattle.yw_tree.specs.Places.{net_at, net_of_run, run_of}
use Rattle.yw_tree.specs.Spots.{part_at}
use Rattle.yw_tree.specs.Ways.{net_of_item}
use Rattle.yw_tree.specs.declared.Forest.{Forest}

-- It is well boxed, and all numbers in it are below n.
pub record Grown (f : Forest) (n : ℕ) : Type 0 where
  pub boxed : IsForest f
  pub drawn : AreDrawn f n

-- the identity i with the number n behind it
pub record IsBelow (i : Ident) (n : ℕ) (id : Ident) : Type 0 where
  pub is : id ≡ child i n
  pub identity : is_identity i ≡ true
  pub number : n < number_end

-- something stands at i, with a net that has the task
pub record HasRoom (f : Forest) (i : Ident) (t : ℕ) : Type 0 where
  pub there : is_some (part_at f i) ≡ true
  pub task : IsSomeAnd (net_at f i) (HasTask t)

-- an item without a net stands at i
pub record IsBareItem (f : Forest) (i : Ident) : Type 0 where
  pub stands : IsSome (item_of f i)
  pub vacant : net_of_item (item_of f i) ≡ None

-- a run without a net stands at i
pub record IsBareRun (f : Forest) (i : Ident) : Type 0 where
  pub stands : IsSome (run_of f i)
  pub vacant : net_of_run (run_of f i) ≡ None
  pub alone : IsSomeAnd (run_of f i) HasNoNet
