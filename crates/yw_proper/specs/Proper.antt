-- A certificate that a net completes properly: a weight for each of its places and tasks, by which no task makes anything heavier. That a
-- net's tokens never get heavier is the field's (place invariants of Petri nets, as inequalities); that an active task has a weight of its
-- own, so that an OR-split and a removal set can be weighed, is our own.
use Rattle.std.specs.Prelude.{◌≡◌, ◌+◌, ◌&&◌, ℕ, Bool, List, length, nat_le, slice_get, sum_by, unwrap_or, Some, IsTrue}
use Rattle.std.specs.List.{list_all}
use Rattle.yw_base.specs.declared.gate.Gate.{Gate}
use Rattle.yw_base.specs.declared.gate.Gate.TheVariants.{And, Xor, Or}
use Rattle.yw_spec.specs.declared.spec.Net.{Net}
use Rattle.yw_spec.specs.declared.spec.Spec.{Spec}
use Rattle.yw_spec.specs.declared.task.Task.{Task}

-- ---- weights: one for each place, and then one for each task

abbrev pub weight_of_place : List ℕ → ℕ → ℕ
weight_of_place w c = unwrap_or (slice_get w c) 0

abbrev pub weight_of_task : Net → List ℕ → ℕ → ℕ
weight_of_task net w k = weight_of_place w (length net.places + k)

-- a token on each of these places
abbrev pub weight_of_each : List ℕ → List ℕ → ℕ
weight_of_each w cs = sum_by (weight_of_place w) cs

abbrev pub most_weight : ℕ
most_weight = 4294967295

abbrev pub is_weight : ℕ → Bool
is_weight n = nat_le 1 n && nat_le n most_weight

-- ---- what a task makes of weights

-- what its join takes weighs as much as the task, or more: from all places, or from whichever one
abbrev pub join_weighs : Gate → List ℕ → List ℕ → ℕ → Bool
join_weighs And w before own = nat_le own (weight_of_each w before)
join_weighs Xor w before own = list_all (λ c. nat_le own (weight_of_place w c)) before
join_weighs Or w before own = list_all (λ c. nat_le own (weight_of_place w c)) before

-- what its split puts weighs as much as the task, or less: on all places, or on whichever one
abbrev pub split_weighs : Gate → List ℕ → List ℕ → ℕ → Bool
split_weighs And w after own = nat_le (weight_of_each w after) own
split_weighs Xor w after own = list_all (λ c. nat_le (weight_of_place w c) own) after
split_weighs Or w after own = nat_le (weight_of_each w after) own

-- A task of this weight makes nothing heavier.
pub record TaskIsProper (w : List ℕ) (own : ℕ) (t : Task) : Type 0 where
  pub join : IsTrue (join_weighs t.join w t.before own)
  pub split : IsTrue (split_weighs t.split w t.after own)

-- ---- the certificate

abbrev pub AreWeights : List ℕ → Type 0
AreWeights w = (k n : ℕ) → slice_get w k ≡ Some n → IsTrue (is_weight n)

abbrev pub TasksAreProper : Net → List ℕ → Type 0
TasksAreProper net w = (k : ℕ) (t : Task) → slice_get net.tasks k ≡ Some t → TaskIsProper w (weight_of_task net w k) t

-- no more at the input than at the output
abbrev pub ends_weigh : Net → List ℕ → Bool
ends_weigh net w = nat_le (weight_of_place w net.input) (weight_of_place w net.output)

abbrev pub HasWeights : Net → List ℕ → Type 0
HasWeights net w = length w ≡ length net.places + length net.tasks

-- Each place and each task has a weight within the bounds, each task's join and split weigh right, and so do the ends.
pub record IsProper (net : Net) (w : List ℕ) : Type 0 where
  pub each : HasWeights net w
  pub weights : AreWeights w
  pub tasks : TasksAreProper net w
  pub ends : IsTrue (ends_weigh net w)

-- It is proper, and this is the weight of the input.
pub record IsProved (net : Net) (w : List ℕ) (bound : ℕ) : Type 0 where
  pub proper : IsProper net w
  pub input : bound ≡ weight_of_place w net.input

-- so of the net with this number
abbrev pub OfNet : Spec → ℕ → (Net → Type 0) → Type 0
OfNet spec k P = (net : Net) → slice_get spec.nets k ≡ Some net → P net
