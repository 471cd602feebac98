-- Which fault of a certificate comes first: what each says is wrong, and the order in which they are looked for. Our own.
use Rattle.std.specs.Prelude.{◌≡◌, ◌⊎◌, ℕ, Bool, true, false, List, nat_le, nat_lt, slice_get, Some, IsTrue}
use Rattle.yw_spec.specs.declared.spec.Net.{Net}
use Rattle.yw_spec.specs.declared.task.Task.{Task}
use Rattle.yw_proper.specs.Proper.{ends_weigh, is_weight, join_weighs, split_weighs, weight_of_task}
use Rattle.yw_proper.specs.declared.certificate.ProofFault.{ProofFault}
use Rattle.yw_proper.specs.declared.certificate.ProofFault.TheVariants.{Weight, Join, Split, Ends}

-- what isn't so where this is the fault
abbrev pub Demands : Net → List ℕ → ProofFault → Type 0
Demands net w (Weight k) = (n : ℕ) → slice_get w k ≡ Some n → IsTrue (is_weight n)
Demands net w (Join k) = (t : Task) → slice_get net.tasks k ≡ Some t → IsTrue (join_weighs t.join w t.before (weight_of_task net w k))
Demands net w (Split k) = (t : Task) → slice_get net.tasks k ≡ Some t → IsTrue (split_weighs t.split w t.after (weight_of_task net w k))
Demands net w Ends = IsTrue (ends_weigh net w)

-- at task k, of this weight: its join, or where that weighs right its split
abbrev pub IsOfTask : List ℕ → ℕ → ℕ → Task → ProofFault → Type 0
IsOfTask w own k t fault =
    (fault ≡ Join k) × (join_weighs t.join w t.before own ≡ false)
    ⊎ (fault ≡ Split k) × IsTrue (join_weighs t.join w t.before own) × (split_weighs t.split w t.after own ≡ false)

-- weights by their numbers, then of each task by its number the join and the split, then the ends
abbrev pub comes_before : ProofFault → ProofFault → Bool
comes_before (Weight j) (Weight k) = nat_lt j k
comes_before (Weight j) fault = true
comes_before fault (Weight k) = false
comes_before (Join j) (Join k) = nat_lt j k
comes_before (Join j) (Split k) = nat_le j k
comes_before (Split j) (Join k) = nat_lt j k
comes_before (Split j) (Split k) = nat_lt j k
comes_before Ends fault = false
comes_before fault Ends = true

-- It isn't so, and all is that comes before.
pub record IsFirst (net : Net) (w : List ℕ) (fault : ProofFault) : Type 0 where
  pub unmet : Demands net w fault → ⊥
  pub earlier : (other : ProofFault) → IsTrue (comes_before other fault) → Demands net w other
