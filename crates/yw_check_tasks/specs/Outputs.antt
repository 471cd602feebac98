-- Maps from names: how often each was counted, and to which nodes flows go from each.
use Rattle.std.specs.Prelude.{◌≡◌, ℕ, List, [], ◌∷◌, ◌++◌, map, filter, count_by, unwrap_or, nat_lt, ◌==◌, Bool, if◌then◌else◌, Vec}
use Rattle.std.specs.Borrow.{Bor}
use Rattle.std.specs.BTreeMap.{BTreeMap, get_by}
use Rattle.std.specs.Cmp.Lexicographic.{slice_cmp}
use Rattle.std.specs.Option.{option_map_or}
use Rattle.std.specs.Ordering.{nat_cmp}
use Rattle.std.specs.Str.{bytes_eq}
use Rattle.yw_read.specs.declared.raw.RawBranch.{RawBranch}
use Rattle.yw_read.specs.declared.raw.RawFlow.{RawFlow}

abbrev pub texts_of : List (Bor (List ℕ)) → List (List ℕ)
texts_of names = map (λ (name : Bor (List ℕ)). name.now) names

-- how often the name was counted
abbrev pub count_at : BTreeMap (Bor (List ℕ)) ℕ → List ℕ → ℕ
count_at counts name = unwrap_or (get_by (λ k. slice_cmp nat_cmp name k.now) counts) 0

-- each name was counted as often as it is the text of one of these
abbrev pub AreCounts : {A : Type 0} → (A → List ℕ) → List A → BTreeMap (Bor (List ℕ)) ℕ → Type 0
AreCounts text xs counts = (name : List ℕ) → count_at counts name ≡ count_by (λ x. bytes_eq name (text x)) xs

-- the branch leads to a name that was counted
abbrev pub is_counted : BTreeMap (Bor (List ℕ)) ℕ → RawBranch → Bool
is_counted counts branch = nat_lt 0 (count_at counts branch.to)

-- the name was counted once
abbrev pub is_counted_once : BTreeMap (Bor (List ℕ)) ℕ → Bor (List ℕ) → Bool
is_counted_once counts name = count_at counts name.now == 1

module _ {A : Type 0} where
  -- the outputs that were found for the node
  abbrev pub outputs_at : BTreeMap (Bor (List ℕ)) (Vec (Bor (List ℕ)) A) → List ℕ → List (List ℕ)
  outputs_at outputs node = texts_of (option_map_or (λ found. found.items) (get_by (λ k. slice_cmp nat_cmp node k.now) outputs) [])

  -- the node `from` has this output more, behind those that it had, and no other has
  abbrev pub AddsOutput : BTreeMap (Bor (List ℕ)) (Vec (Bor (List ℕ)) A) → BTreeMap (Bor (List ℕ)) (Vec (Bor (List ℕ)) A) → List ℕ → List ℕ → Type 0
  AddsOutput old new from to = (node : List ℕ) → outputs_at new node ≡ outputs_at old node ++ (if bytes_eq from node then to ∷ [] else [])

  -- the outputs of each node are those to which these flows go from it, in flow order
  abbrev pub AreOutputs : List RawFlow → BTreeMap (Bor (List ℕ)) (Vec (Bor (List ℕ)) A) → Type 0
  AreOutputs flows outputs =
      (node : List ℕ) → outputs_at outputs node ≡ map (λ (flow : RawFlow). flow.to) (filter (λ (flow : RawFlow). bytes_eq flow.from node) flows)
