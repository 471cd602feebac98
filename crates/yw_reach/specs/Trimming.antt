-- Nodes to which no flow leads are taken away one by one, with the flows from them. `incoming` counts for each node
-- the flows into it that are left, and `free` has the nodes that can be taken away.
use Rattle.std.specs.Prelude.{◌≡◌, ℕ, ◌+◌, ◌≤◌, ◌==◌, ◌⊎◌, List, length, get_or, cond, Contains, count_by, sum, sum_by}
use Rattle.yw_reach.specs.declared.flow.Flow.{Flow}

-- how often a node stands in a list
abbrev pub occurrences : ℕ → List ℕ → ℕ
occurrences node nodes = count_by (λ k. k == node) nodes

-- how many flows lead into a node, where a flow from k counts `weight k` times
abbrev pub flows_into : (ℕ → ℕ) → ℕ → List Flow → ℕ
flows_into weight node flows = sum_by (λ f. cond (f.to == node) (weight f.from) 0) flows

-- a node that isn't taken away yet weighs 1: flows lead into it, or it stands among the free ones
abbrev pub weight : List ℕ → List ℕ → ℕ → ℕ
weight incoming free node = cond (get_or incoming node 0 == 0) 0 1 + occurrences node free

-- For each node of a row one flow into it was taken away, and those without any left are free too.
pub record Lowers (row : List ℕ) (incoming free incoming2 free2 : List ℕ) : Type 0 where
  pub len : length incoming2 ≡ length incoming
  pub counts : (k : ℕ) → get_or incoming2 k 0 + occurrences k row ≡ get_or incoming k 0
  pub weighs : (k : ℕ) → weight incoming2 free2 k ≡ weight incoming free k
  pub from : (k : ℕ) → Contains free2 k → Contains free k ⊎ Contains row k
  pub fewer : sum incoming2 + length free2 ≤ sum incoming + length free
