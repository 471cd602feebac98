-- Taking nodes away: what lowering does, what it keeps, and what it comes to.
use Rattle.std.proofs.Common.{◌≡◌, ℕ, zero, suc, ◌+◌, ◌<◌, ◌≤◌, ◌==◌, ◌↔◌, IsTrue, inl, inr, List, [], ◌∷◌, ◌++◌, length, get_or, replicate, set, take, Bool, true, false, cond, Contains, All, refl, sym, ap, ◌∙◌, subst, arith, add-zero}
use Rattle.std.proofs.lemmas.List.{length-replicate, length-set}
use Rattle.std.proofs.lemmas.List.Elements.{All-contains, All-head, All-nil, All-push, All-tail, Contains-append_left, Contains-append_right, Contains-push}
use Rattle.std.proofs.lemmas.List.Sums.{sum_by-cons, sum_by-append, sum_by_push, sum_by_more_le}
use Rattle.std.proofs.lemmas.Bool.{cases_lt}
use Rattle.std.proofs.lemmas.Bool.Decides.{nat_tests}
use Rattle.yw_reach.specs.declared.flow.Flow.{Flow}
use Rattle.yw_reach.specs.Flows.{Cycle, HasFlow, IsWithin, Path, Walk}
use Rattle.yw_reach.specs.Marking.{Marked}
use Rattle.yw_reach.specs.Rows.{AreRows, targets}
use Rattle.yw_reach.specs.Search.{unmarked}
use Rattle.yw_reach.specs.Trimming.{Lowers, flows_into, occurrences, weight}
use Rattle.yw_reach.proofs.FlowLemmas.{ends_within, has_front, has_later, has_none, has_cases}
use Rattle.yw_reach.proofs.MarkLemmas.{either, mark_only, no_mark, unmarked-set}
use Rattle.yw_reach.proofs.RowLemmas.{from_target, test_or}
use Rattle.yw_reach.proofs.Walks.{cycle_closes, cycle_long, walk_front}

occurrences-push : (nodes : List ℕ) (node k : ℕ) → occurrences k (nodes ++ node ∷ []) ≡ occurrences k nodes + cond (node == k) 1 0
occurrences-push nodes node k = sum_by_push (λ x. cond (x == k) 1 0) nodes node

pub lowers_none : (incoming free : List ℕ) → Lowers [] incoming free incoming free
lowers_none incoming free = record {
  len = refl;
  counts = λ k. omega arith;
  weighs = λ k. refl;
  from = λ k c. inl c;
  fewer = omega arith;
}

module _ (r s i1 f1 i2 f2 i3 f3 : List ℕ) (v : Lowers r i1 f1 i2 f2) (w : Lowers s i2 f2 i3 f3) where
  pub lowers_join : Lowers (r ++ s) i1 f1 i3 f3
  lowers_join = record {
    len = w.len ∙ v.len;
    counts = λ k. omega (arith, v.counts k, w.counts k, sum_by-append (λ x. cond (x == k) 1 0) r s);
    weighs = λ k. w.weighs k ∙ v.weighs k;
    from = λ k c. elim (w.from k c) [
      | inl a ↦ elim (v.from k a) [ inl x ↦ inl x | inr y ↦ inr (Contains-append_left r s k y) ]
      | inr b ↦ inr (Contains-append_right r s k b)
    ];
    fewer = omega (arith, v.fewer, w.fewer);
  }

eqb-same : (m n : ℕ) → m ≡ n → (m == n) ≡ true
eqb-same m n e = grind (arith, nat_tests)

eqb-other : (m n : ℕ) → (m ≡ n → ⊥) → (m == n) ≡ false
eqb-other m n ne = grind (arith, nat_tests)

-- The first i nodes were looked at: those into which no flow leads are free, each once.
pub record AreFreeBelow (incoming : List ℕ) (i : ℕ) (free : List ℕ) : Type 0 where
  pub within : All (λ k. k < length incoming) free
  pub once : (k : ℕ) → k < i → weight incoming free k ≡ 1
  pub later : (k : ℕ) → i ≤ k → occurrences k free ≡ 0

pub free_none : (incoming : List ℕ) → AreFreeBelow incoming 0 []
free_none incoming = record {
  within = All-nil (λ k. k < length incoming);
  once = λ k lt. absurd (omega (arith, lt));
  later = λ k le. refl;
}

module _ (incoming : List ℕ) (i : ℕ) (free : List ℕ) (lt : i < length incoming) (h : AreFreeBelow incoming i free) where
  pub free_more : get_or incoming i 0 ≡ 0 → AreFreeBelow incoming (i + 1) (free ++ i ∷ [])
  free_more none = record {
    within = All-push (λ k. k < length incoming) free i h.within lt;
    once = λ k below. elim (test_or i k) [
      | inl e ↦
          let P : ℕ → Type 0 = λ j. (get_or incoming j 0 ≡ 0) × (occurrences j free ≡ 0) in
          let both : P k = subst P e.1 (none, h.later i (omega arith)) in
          let light : ◌≡◌ {A = ℕ} (cond (get_or incoming k 0 == 0) 0 1) 0 = ap (λ b. cond b 0 1) (eqb-same (get_or incoming k 0) 0 both.0) in
          let one : ◌≡◌ {A = ℕ} (cond (i == k) 1 0) 1 = ap (λ b. cond b 1 0) e.0 in
          omega (arith, light, both.1, occurrences-push free i k, one)
      | inr e ↦
          let zero : ◌≡◌ {A = ℕ} (cond (i == k) 1 0) 0 = ap (λ b. cond b 1 0) e.0 in
          let before : k < i = omega (arith, below, e.1) in
          omega (arith, h.once k before, occurrences-push free i k, zero)
    ];
    later = λ k le.
        let other : i ≡ k → ⊥ = λ e. omega (arith, e, le) in
        let zero : ◌≡◌ {A = ℕ} (cond (i == k) 1 0) 0 = ap (λ b. cond b 1 0) (eqb-other i k other) in
        let none_yet : occurrences k free ≡ 0 = h.later k (omega (arith, le)) in
        omega (arith, none_yet, occurrences-push free i k, zero);
  }

  pub free_same : 0 < get_or incoming i 0 → AreFreeBelow incoming (i + 1) free
  free_same some = record {
    within = h.within;
    once = λ k below. elim (test_or i k) [
      | inl e ↦
          let P : ℕ → Type 0 = λ j. (0 < get_or incoming j 0) × (occurrences j free ≡ 0) in
          let both : P k = subst P e.1 (some, h.later i (omega arith)) in
          let one : ◌≡◌ {A = ℕ} (cond (get_or incoming k 0 == 0) 0 1) 1 = ap (λ b. cond b 0 1) (eqb-other (get_or incoming k 0) 0 (λ z. omega (arith, z, both.0))) in
          omega (arith, one, both.1)
      | inr e ↦ h.once k (omega (arith, below, e.1))
    ];
    later = λ k le. h.later k (omega (arith, le));
  }

-- which flows count
into-cons : (w : ℕ → ℕ) (b : ℕ) (f : Flow) (fs : List Flow) → flows_into w b (f ∷ fs) ≡ cond (f.to == b) (w f.from) 0 + flows_into w b fs
into-cons w b f fs = sum_by-cons (λ (g : Flow). cond (g.to == b) (w g.from) 0) f fs

pub into-push : (w : ℕ → ℕ) (b : ℕ) (fs : List Flow) (f : Flow) → flows_into w b (fs ++ f ∷ []) ≡ flows_into w b fs + cond (f.to == b) (w f.from) 0
into-push w b fs f = sum_by_push (λ (g : Flow). cond (g.to == b) (w g.from) 0) fs f

into-same : (count : ℕ) (w w2 : ℕ → ℕ) → ((k : ℕ) → k < count → w k ≡ w2 k) → (b : ℕ) (fs : List Flow) → All (IsWithin count) fs → flows_into w b fs ≡ flows_into w2 b fs
into-same count w w2 h b [] within = refl
into-same count w w2 h b (f ∷ fs) within =
    let one : cond (f.to == b) (w f.from) 0 ≡ cond (f.to == b) (w2 f.from) 0 = ap (λ n. cond (f.to == b) n 0) (h f.from (All-head (IsWithin count) f fs within).0) in
    let rest : flows_into w b fs ≡ flows_into w2 b fs = into-same count w w2 h b fs (All-tail (IsWithin count) f fs within) in
    omega (arith, into-cons w b f fs, into-cons w2 b f fs, one, rest)

-- where one node weighs one less, a flow from it counts one less
into-lighter : (w w2 : ℕ → ℕ) (node : ℕ) → ((k : ℕ) → w k ≡ w2 k + cond (node == k) 1 0) → (b : ℕ) (fs : List Flow) → flows_into w b fs ≡ flows_into w2 b fs + occurrences b (targets node fs)
into-lighter w w2 node h b [] = omega arith
into-lighter w w2 node h b (f ∷ fs) =
    let rest : flows_into w b fs ≡ flows_into w2 b fs + occurrences b (targets node fs) = into-lighter w w2 node h b fs in
    elim (test_or f.from node) [
      | inl t ↦
          let row : occurrences b (targets node (f ∷ fs)) ≡ cond (f.to == b) 1 0 + occurrences b (targets node fs) = rw t.0 (sum_by-cons (λ x. cond (x == b) 1 0) f.to (targets node fs)) in
          let one : w f.from ≡ w2 f.from + 1 = h f.from ∙ ap (λ n. w2 f.from + cond n 1 0) (eqb-same node f.from (sym t.1)) in
          elim (test_or f.to b) [
            | inl e ↦
                let x : cond (f.to == b) (w f.from) 0 ≡ w f.from = ap (λ n. cond n (w f.from) 0) e.0 in
                let y : cond (f.to == b) (w2 f.from) 0 ≡ w2 f.from = ap (λ n. cond n (w2 f.from) 0) e.0 in
                let z : ◌≡◌ {A = ℕ} (cond (f.to == b) 1 0) 1 = ap (λ n. cond n 1 0) e.0 in
                omega (arith, into-cons w b f fs, into-cons w2 b f fs, rest, row, one, x, y, z)
            | inr e ↦
                let x : cond (f.to == b) (w f.from) 0 ≡ 0 = ap (λ n. cond n (w f.from) 0) e.0 in
                let y : cond (f.to == b) (w2 f.from) 0 ≡ 0 = ap (λ n. cond n (w2 f.from) 0) e.0 in
                let z : ◌≡◌ {A = ℕ} (cond (f.to == b) 1 0) 0 = ap (λ n. cond n 1 0) e.0 in
                omega (arith, into-cons w b f fs, into-cons w2 b f fs, rest, row, x, y, z)
          ]
      | inr t ↦
          let row : occurrences b (targets node (f ∷ fs)) ≡ occurrences b (targets node fs) = rw t.0 refl in
          let same : w f.from ≡ w2 f.from = h f.from ∙ ap (λ n. w2 f.from + cond n 1 0) (eqb-other node f.from (λ s. t.1 (sym s))) ∙ add-zero (w2 f.from) in
          let one : cond (f.to == b) (w f.from) 0 ≡ cond (f.to == b) (w2 f.from) 0 = ap (λ n. cond (f.to == b) n 0) same in
          omega (arith, into-cons w b f fs, into-cons w2 b f fs, rest, row, one)
    ]

-- where none counts, each comes from a node of no weight
into-none : (w : ℕ → ℕ) (b : ℕ) (fs : List Flow) → flows_into w b fs ≡ 0 → (c : ℕ) → HasFlow fs c b → w c ≡ 0
into-none w b [] h c f = absurd (has_none _ f)
into-none w b (g ∷ fs) h c f = elim (has_cases g _ fs f) [
  | inl e ↦
      let P : ℕ → Type 0 = λ j. w j ≡ 0 in
      let x : cond (g.to == b) (w g.from) 0 ≡ w g.from = ap (λ n. cond n (w g.from) 0) (eqb-same g.to b (ap (λ (f : Flow). f.to) e)) in
      subst P (ap (λ (f : Flow). f.from) e) (omega (arith, h, into-cons w b g fs, x))
  | inr later ↦ into-none w b fs (omega (arith, h, into-cons w b g fs)) c later
]

-- where some counts, one comes from a node of some weight
into-some : (w : ℕ → ℕ) (b : ℕ) (fs : List Flow) → 0 < flows_into w b fs → (c : ℕ) × HasFlow fs c b × (0 < w c)
into-some w b [] h = absurd (omega (arith, h))
into-some w b (f ∷ fs) h =
    let later : 0 < flows_into w b fs → (c : ℕ) × HasFlow (f ∷ fs) c b × (0 < w c) = λ k. let r = into-some w b fs k in (r.0, has_later f _ fs r.1, r.2) in
    elim (test_or f.to b) [
      | inl e ↦ elim (cases_lt 0 (w f.from)) [
        | inl some ↦ (f.from, (let P : ℕ → Type 0 = λ j. Contains (f ∷ fs) (record { from = f.from; to = j }) in subst P e.1 (has_front f fs)), some)
        | inr none ↦
            let x : cond (f.to == b) (w f.from) 0 ≡ w f.from = ap (λ n. cond n (w f.from) 0) e.0 in
            later (omega (arith, h, none, into-cons w b f fs, x))
      ]
      | inr e ↦
          let x : cond (f.to == b) (w f.from) 0 ≡ 0 = ap (λ n. cond n (w f.from) 0) e.0 in
          later (omega (arith, h, into-cons w b f fs, x))
    ]

-- while a row is lowered, the next of its nodes has a flow left
pub some_left_at : (row : List ℕ) (i : ℕ) → i < length row → (incoming free incoming2 free2 : List ℕ) → ((k : ℕ) → occurrences k row ≤ get_or incoming k 0) → Lowers (take i row) incoming free incoming2 free2 → 0 < get_or incoming2 (get_or row i 0) 0
some_left_at row i lt incoming free incoming2 free2 enough v =
    let itself : ◌≡◌ {A = ℕ} (cond (get_or row i 0 == get_or row i 0) 1 0) 1 = ap (λ b. cond b 1 0) (eqb-same (get_or row i 0) (get_or row i 0) refl) in
    omega (arith, enough (get_or row i 0), v.counts (get_or row i 0), sum_by_more_le (λ x. cond (x == get_or row i 0) 1 0) row i 0 lt, itself)

-- which nodes weigh nothing
weightless : (incoming free : List ℕ) (k : ℕ) → weight incoming free k ≡ 0 → get_or incoming k 0 ≡ 0
weightless incoming free k h = elim (test_or (get_or incoming k 0) 0) [
  | inl e ↦ e.1
  | inr e ↦
      let one : ◌≡◌ {A = ℕ} (cond (get_or incoming k 0 == 0) 0 1) 1 = ap (λ b. cond b 0 1) e.0 in
      absurd (omega (arith, h, one))
]

-- each walk into a node has less than n flows
abbrev pub IsBounded : List Flow → ℕ → ℕ → Type 0
IsBounded flows n b = (a m : ℕ) → Walk flows a b m → m < n

bounded_more : (flows : List Flow) (w : ℕ → ℕ) (n : ℕ) → ((c : ℕ) → w c ≡ 0 → IsBounded flows n c) → (b : ℕ) → flows_into w b flows ≡ 0 → IsBounded flows (n + 1) b
bounded_more flows w n h b none a zero walk = omega arith
bounded_more flows w n h b none a (suc m) walk =
    let lt : m < n = h walk.0 (into-none w b flows none walk.0 walk.2) a m walk.1 in
    omega (arith, lt)

-- How far the trimming has come: the flows from nodes of some weight are left, and to a node into which none is left
-- only short walks lead.
pub record Trimmed (count : ℕ) (flows : List Flow) (incoming free : List ℕ) : Type 0 where
  pub len : length incoming ≡ count
  pub counts : (b : ℕ) → get_or incoming b 0 ≡ flows_into (weight incoming free) b flows
  pub within : (k : ℕ) → Contains free k → k < count
  pub most : ℕ
  pub bounded : (b : ℕ) → get_or incoming b 0 ≡ 0 → IsBounded flows most b

pub trim_begins : (count : ℕ) (flows : List Flow) (incoming all free : List ℕ) → All (IsWithin count) flows → length incoming ≡ count → ((b : ℕ) → get_or incoming b 0 ≡ flows_into (λ _. 1) b flows)
    → all ≡ incoming → All (λ k. k < length all) free → ((k : ℕ) → k < length all → weight all free k ≡ 1) → Trimmed count flows incoming free
trim_begins count flows incoming all free h len counts is within once = record {
  len = len;
  counts = λ b.
      let one : (k : ℕ) → k < count → 1 ≡ weight incoming free k = λ k lt. sym (let P : List ℕ → Type 0 = λ ks. weight ks free k ≡ 1 in subst P is (once k (omega (arith, lt, len, ap length is)))) in
      counts b ∙ into-same count (λ _. 1) (weight incoming free) one b flows h;
  within = λ k c. let lt : k < length all = All-contains (λ j. j < length all) free k within c in omega (arith, lt, len, ap length is);
  most = 0 + 1;
  bounded = λ b none. bounded_more flows (λ _. 1) 0 (λ c zero. absurd (omega (arith, zero))) b (sym (counts b) ∙ none);
}

-- a free node is taken away, and its row is lowered
module _ (count : ℕ) (flows : List Flow) (rows : List (List ℕ)) (r : AreRows count flows rows) (incoming free rest : List ℕ) (node : ℕ) (e : free ≡ rest ++ node ∷ []) (began : Trimmed count flows incoming free) where
  node_within : node < count
  node_within = began.within node (let P : List ℕ → Type 0 = λ ks. Contains ks node in subst P (sym e) (Contains-push rest node))

  lighter : (k : ℕ) → weight incoming free k ≡ weight incoming rest k + cond (node == k) 1 0
  lighter k =
      let popped : occurrences k free ≡ occurrences k rest + cond (node == k) 1 0 = ap (λ (ks : List ℕ). occurrences k ks) e ∙ occurrences-push rest node k in
      omega (arith, popped)

  pub trim_there : (all : List (List ℕ)) → all ≡ rows → node < length all
  trim_there all is = omega (arith, node_within, r.len, ap length is)

  module _ (all : List (List ℕ)) (is : all ≡ rows) (row : List ℕ) (has : row ≡ get_or all node []) where
    the_row : row ≡ targets node flows
    the_row = has ∙ ap (λ (rs : List (List ℕ)). get_or rs node []) is ∙ r.row node node_within

    left : (b : ℕ) → get_or incoming b 0 ≡ flows_into (weight incoming rest) b flows + occurrences b row
    left b = began.counts b ∙ into-lighter (weight incoming free) (weight incoming rest) node lighter b flows ∙ ap (λ (ks : List ℕ). flows_into (weight incoming rest) b flows + occurrences b ks) (sym the_row)

    pub trim_enough : (b : ℕ) → occurrences b row ≤ get_or incoming b 0
    trim_enough b = omega (arith, left b)

    module _ (h : All (IsWithin count) flows) (incoming2 free2 : List ℕ) (v : Lowers row incoming rest incoming2 free2) where
      counts_rest : (b : ℕ) → get_or incoming2 b 0 ≡ flows_into (weight incoming rest) b flows
      counts_rest b = omega (arith, left b, v.counts b)

      row_within : (k : ℕ) → Contains row k → k < count
      row_within k c = (ends_within count node k flows h (from_target node k flows (let P : List ℕ → Type 0 = λ ks. Contains ks k in subst P the_row c))).1

      pub trim_goes_on : Trimmed count flows incoming2 free2
      trim_goes_on = record {
        len = v.len ∙ began.len;
        counts = λ b. counts_rest b ∙ into-same count (weight incoming rest) (weight incoming2 free2) (λ k lt. sym (v.weighs k)) b flows h;
        within = λ k c. elim (v.from k c) [
          | inl old ↦ began.within k (let P : List ℕ → Type 0 = λ ks. Contains ks k in subst P (sym e) (Contains-append_left rest (node ∷ []) k old))
          | inr new ↦ row_within k new
        ];
        most = began.most + 1;
        bounded = λ b none. bounded_more flows (weight incoming rest) began.most (λ c zero. began.bounded c (weightless incoming rest c zero)) b (sym (counts_rest b) ∙ none);
      }

-- Among nodes each of which has one of them before it there is a cycle: on the way back from one to the next, a
-- node is met again, at the latest when all were seen.
module _ (count : ℕ) (flows : List Flow) (Left : ℕ → Type 0) (within : (k : ℕ) → Left k → k < count) (before : (k : ℕ) → Left k → (c : ℕ) × HasFlow flows c k × Left c) where
  way_back : (n : ℕ) (seen : List Bool) → length seen ≡ count → unmarked seen ≡ n → (k : ℕ) → Left k → ((b : ℕ) → Marked seen b → Path flows k b) → Cycle flows
  way_back zero seen len unseen k left paths =
      let p = before k left in
      let lt : p.0 < length seen = omega (arith, within p.0 p.2, len) in
      elim (either (get_or seen p.0 false)) [
        | inl met ↦ cycle_closes (HasFlow flows) p.0 k p.1 (paths p.0 met)
        | inr new ↦ absurd (omega (arith, unseen, unmarked-set seen p.0 lt new))
      ]
  way_back (suc n) seen len unseen k left paths =
      let p = before k left in
      let lt : p.0 < length seen = omega (arith, within p.0 p.2, len) in
      elim (either (get_or seen p.0 false)) [
        | inl met ↦ cycle_closes (HasFlow flows) p.0 k p.1 (paths p.0 met)
        | inr new ↦ way_back n (set seen p.0 true) (length-set seen p.0 true ∙ len) (omega (arith, unseen, unmarked-set seen p.0 lt new)) p.0 p.2 (λ b m. elim (mark_only seen p.0 lt b m) [
          | inl old ↦ (let q = paths b old in (suc q.0, walk_front (HasFlow flows) p.0 k b q.0 p.1 q.1))
          | inr here ↦ (0, here)
        ])
      ]

  pub cycle_among : (k : ℕ) → Left k → Cycle flows
  cycle_among k left = way_back (unmarked (replicate count false)) (replicate count false) (length-replicate count false) refl k left (λ b m. absurd (no_mark count b m))

positive-within : (xs : List ℕ) (k : ℕ) → 0 < get_or xs k 0 → k < length xs
positive-within [] k h = absurd (omega (arith, h))
positive-within (x ∷ xs) zero h = omega arith
positive-within (x ∷ xs) (suc k) h = let lt : k < length xs = positive-within xs k h in omega (arith, lt)

-- what is left when no node is free
module _ (count : ℕ) (flows : List Flow) (incoming free : List ℕ) (none : free ≡ []) (ended : Trimmed count flows incoming free) where
  left_before : (k : ℕ) → 0 < get_or incoming k 0 → (c : ℕ) × HasFlow flows c k × (0 < get_or incoming c 0)
  left_before k some =
      let s = into-some (weight incoming free) k flows (omega (arith, some, ended.counts k)) in
      let lone : occurrences s.0 free ≡ 0 = ap (λ (ks : List ℕ). occurrences s.0 ks) none in (
        s.0,
        s.1,
        elim (test_or (get_or incoming s.0 0) 0) [
          | inl e ↦
              let light : ◌≡◌ {A = ℕ} (cond (get_or incoming s.0 0 == 0) 0 1) 0 = ap (λ b. cond b 0 1) e.0 in
              absurd (omega (arith, s.2, lone, light))
          | inr e ↦ omega (arith, e.1)
        ],
      )

  pub trim_cyclic : (k : ℕ) → 0 < get_or incoming k 0 → Cycle flows
  trim_cyclic k some = cycle_among count flows (λ j. 0 < get_or incoming j 0) (λ j s. omega (arith, positive-within incoming j s, ended.len)) left_before k some

  pub trim_acyclic : Cycle flows → (k : ℕ) × (0 < get_or incoming k 0)
  trim_acyclic cycle = elim (cases_lt 0 (get_or incoming cycle.0 0)) [
    | inl some ↦ (cycle.0, some)
    | inr le ↦
        let l = cycle_long (HasFlow flows) cycle.0 cycle.1 cycle.2 ended.most in
        let lt : l.0 < ended.most = ended.bounded cycle.0 (omega (arith, le)) cycle.0 l.0 l.2 in
        absurd (omega (arith, lt, l.1))
  ]

  pub trim_ends : (all : List ℕ) → all ≡ incoming → (found : Bool) → (IsTrue found ↔ ((k : ℕ) × (0 < get_or all k 0))) → IsTrue found ↔ Cycle flows
  trim_ends all is found says =
      let P : ℕ → List ℕ → Type 0 = λ k ks. 0 < get_or ks k 0 in (
        (λ t. let some = says.0 t in trim_cyclic some.0 (subst (P some.0) is some.1)),
        (λ cycle. let some = trim_acyclic cycle in says.1 (some.0, subst (P some.0) (sym is) some.1)),
      )
