-- Numbers in order, and places by the tasks at which their flows end or begin.
use Rattle.std.specs.Prelude.{◌≡◌, ℕ, ◌<◌, List, [], ◌∷◌, ◌++◌, length, get_or, filter, Bool, true, false}
use Rattle.std.specs.List.{AllZip}
use Rattle.std.specs.Str.{bytes_eq}
use Rattle.yw_read.specs.declared.raw.RawFlow.{RawFlow}
use Rattle.yw_read.specs.declared.raw.RawNet.{RawNet}
use Rattle.yw_accept.specs.Built.{IsPlaceOf}
use Rattle.yw_accept.specs.Nodes.{task_names}
use Rattle.yw_build.specs.declared.rows.Around.{Around}

-- the flow's place is added to the row of the task with this name, where there is one, and the other rows stay
pub record AddsPlace (net : RawNet) (node : List ℕ) (flow : RawFlow) (old new : List (List ℕ)) : Type 0 where
  pub len : length new ≡ length old
  pub row : (t : ℕ) → t < length net.task → get_or (task_names net.task) t [] ≡ node → (k : ℕ) × IsPlaceOf net flow k × (get_or new t [] ≡ get_or old t [] ++ k ∷ [])
  pub others : (t : ℕ) → t < length net.task → (get_or (task_names net.task) t [] ≡ node → ⊥) → get_or new t [] ≡ get_or old t []

-- there is a row for each task, which has the places of those flows whose node is the task, in flow order
pub record AreRows (net : RawNet) (node : RawFlow → List ℕ) (flows : List RawFlow) (rows : List (List ℕ)) : Type 0 where
  pub len : length rows ≡ length net.task
  pub row : (t : ℕ) → t < length net.task → AllZip (IsPlaceOf net) (filter (λ flow. bytes_eq (node flow) (get_or (task_names net.task) t [])) flows) (get_or rows t [])

-- a number of this kind is added where it is to be, and else nothing
pub record AddsWhere (adds : Bool) (Is : ℕ → Type 0) (old new : List ℕ) : Type 0 where
  pub hit : adds ≡ true → (k : ℕ) × Is k × (new ≡ old ++ k ∷ [])
  pub miss : adds ≡ false → new ≡ old

pub record AreAround (net : RawNet) (around : Around) : Type 0 where
  pub before : AreRows net (λ flow. flow.to) net.flows around.before.items
  pub after : AreRows net (λ flow. flow.from) net.flows around.after.items
