-- A search: what visits of nodes do, one and many, and what they come to when nothing is pending.
use Rattle.std.proofs.Common.{◌≡◌, ℕ, zero, suc, ◌<◌, ◌⊎◌, inl, inr, List, [], ◌∷◌, ◌++◌, length, get_or, set, Bool, true, false, Contains, All, refl, sym, ap, ◌∙◌, subst, arith, length-append}
use Rattle.std.proofs.lemmas.List.{length-set}
use Rattle.std.proofs.lemmas.List.Elements.{Contains-append_left, Contains-append_right, Contains-append_cases, Contains-get_or, Contains-push, Contains-push_cases}
use Rattle.yw_reach.specs.declared.flow.Flow.{Flow}
use Rattle.yw_reach.specs.Flows.{HasFlow, IsWithin, Path, Walk}
use Rattle.yw_reach.specs.Marking.{AreMarked, Marked}
use Rattle.yw_reach.specs.Rows.{AreRows}
use Rattle.yw_reach.specs.Search.{Visits}
use Rattle.yw_reach.proofs.FlowLemmas.{has_none, has_single, ends_within}
use Rattle.yw_reach.proofs.MarkLemmas.{marked-within, mark_keeps, mark_only, mark_there, unmarked-set}
use Rattle.yw_reach.proofs.RowLemmas.{from_row, to_row}
use Rattle.yw_reach.proofs.Walks.{path_refl}

pub visits_none : (marks : List Bool) (pending : List ℕ) → Visits [] marks pending marks pending
visits_none marks pending = record {
  len = refl;
  keeps = λ k m. m;
  all = λ k c. absurd (has_none k c);
  only = λ k m. inl m;
  waits = λ k c. c;
  fresh = λ k m. inl m;
  from = λ k c. inl c;
  count = refl;
}

pub visits_known : (marks : List Bool) (pending : List ℕ) (node : ℕ) → Marked marks node → Visits (node ∷ []) marks pending marks pending
visits_known marks pending node m = record {
  len = refl;
  keeps = λ k h. h;
  all = λ k c. let P : ℕ → Type 0 = λ j. Marked marks j in subst P (has_single node k c) m;
  only = λ k h. inl h;
  waits = λ k c. c;
  fresh = λ k h. inl h;
  from = λ k c. inl c;
  count = refl;
}

pub visits_new : (marks : List Bool) (pending : List ℕ) (node : ℕ) → node < length marks → get_or marks node false ≡ false → Visits (node ∷ []) marks pending (set marks node true) (pending ++ node ∷ [])
visits_new marks pending node lt m =
    let here : (k : ℕ) → node ≡ k → Contains (pending ++ node ∷ []) k = λ k e. (let P : ℕ → Type 0 = λ j. Contains (pending ++ node ∷ []) j in subst P e (Contains-push pending node)) in
    let only : (k : ℕ) → Marked (set marks node true) k → Marked marks k ⊎ (node ≡ k) = mark_only marks node lt in
    record {
      len = length-set marks node true;
      keeps = mark_keeps marks node lt;
      all = λ k c. let P : ℕ → Type 0 = λ j. Marked (set marks node true) j in subst P (has_single node k c) (mark_there marks node lt);
      only = λ k h. elim (only k h) [ inl old ↦ inl old | inr e ↦ inr (0, omega arith, e) ];
      waits = λ k c. Contains-append_left pending (node ∷ []) k c;
      fresh = λ k h. elim (only k h) [ inl old ↦ inl old | inr e ↦ inr (here k e) ];
      from = λ k c. elim (Contains-push_cases pending node k c) [ inl old ↦ inl old | inr e ↦ inr (0, omega arith, e) ];
      count = omega (arith, length-append pending (node ∷ []), unmarked-set marks node lt m);
    }

module _ (r s : List ℕ) (m1 m2 m3 : List Bool) (p1 p2 p3 : List ℕ) (v : Visits r m1 p1 m2 p2) (w : Visits s m2 p2 m3 p3) where
  pub visits_join : Visits (r ++ s) m1 p1 m3 p3
  visits_join = record {
    len = w.len ∙ v.len;
    keeps = λ k h. w.keeps k (v.keeps k h);
    all = λ k c. elim (Contains-append_cases r s k c) [ inl a ↦ w.keeps k (v.all k a) | inr b ↦ w.all k b ];
    only = λ k h. elim (w.only k h) [
      | inl a ↦ elim (v.only k a) [ inl x ↦ inl x | inr y ↦ inr (Contains-append_left r s k y) ]
      | inr b ↦ inr (Contains-append_right r s k b)
    ];
    waits = λ k c. w.waits k (v.waits k c);
    fresh = λ k h. elim (w.fresh k h) [
      | inl a ↦ elim (v.fresh k a) [ inl x ↦ inl x | inr y ↦ inr (w.waits k y) ]
      | inr b ↦ inr b
    ];
    from = λ k c. elim (w.from k c) [
      | inl a ↦ elim (v.from k a) [ inl x ↦ inl x | inr y ↦ inr (Contains-append_left r s k y) ]
      | inr b ↦ inr (Contains-append_right r s k b)
    ];
    count = w.count ∙ v.count;
  }

-- How far a search has come: the flows of the marked nodes are followed, but for the pending ones.
pub record Searching (flows : List Flow) (starts marks : List Bool) (pending : List ℕ) : Type 0 where
  pub len : length marks ≡ length starts
  pub begins : (k : ℕ) → Marked starts k → Marked marks k
  pub sound : (k : ℕ) → Marked marks k → (a : ℕ) × Marked starts a × Path flows a k
  pub waiting : (k : ℕ) → Contains pending k → Marked marks k
  pub followed : (a b : ℕ) → Marked marks a → HasFlow flows a b → Contains pending a ⊎ Marked marks b

pub search_begins : (flows : List Flow) (starts : List Bool) (pending : List ℕ) → ((k : ℕ) → Contains pending k → Marked starts k) → ((k : ℕ) → Marked starts k → Contains pending k) → Searching flows starts starts pending
search_begins flows starts pending to from = record {
  len = refl;
  begins = λ k m. m;
  sound = λ k m. (k, m, path_refl (HasFlow flows) k);
  waiting = to;
  followed = λ a b m f. inl (from a m);
}

-- one node of the pending ones is taken, and its row is visited
module _ (count : ℕ) (flows : List Flow) (rows : List (List ℕ)) (r : AreRows count flows rows) (h : All (IsWithin count) flows)
    (starts marks : List Bool) (len : length starts ≡ count) (pending rest : List ℕ) (node : ℕ) (e : pending ≡ rest ++ node ∷ []) (began : Searching flows starts marks pending) where
  taken : Searching flows starts marks (rest ++ node ∷ [])
  taken = let P : List ℕ → Type 0 = λ ps. Searching flows starts marks ps in subst P e began

  node_marked : Marked marks node
  node_marked = taken.waiting node (Contains-push rest node)

  node_within : node < count
  node_within = omega (arith, marked-within marks node node_marked, taken.len, len)

  pub row_there : (all : List (List ℕ)) → all ≡ rows → node < length all
  row_there all is = omega (arith, node_within, r.len, ap length is)

  module _ (all : List (List ℕ)) (is : all ≡ rows) (row : List ℕ) (has : row ≡ get_or all node []) where
    the_row : row ≡ get_or rows node []
    the_row = has ∙ ap (λ (rs : List (List ℕ)). get_or rs node []) is

    from : (b : ℕ) → Contains row b → HasFlow flows node b
    from b c = let P : List ℕ → Type 0 = λ ks. Contains ks b in from_row count flows rows r h node node_within b (subst P the_row c)

    to : (b : ℕ) → HasFlow flows node b → Contains row b
    to b f = let P : List ℕ → Type 0 = λ ks. Contains ks b in subst P (sym the_row) (to_row count flows rows r h node node_within b f)

    pub row_marks : All (λ k. k < length marks) row
    row_marks k d lt =
        let w : get_or row k d < count = (ends_within count node (get_or row k d) flows h (from (get_or row k d) (Contains-get_or row k d lt))).1 in
        omega (arith, w, taken.len, len)

    module _ (marks2 : List Bool) (pending2 : List ℕ) (v : Visits row marks rest marks2 pending2) where
      old_waits : (k : ℕ) → Contains rest k → Marked marks2 k
      old_waits k c = v.keeps k (taken.waiting k (Contains-append_left rest (node ∷ []) k c))

      beyond : (k : ℕ) → Contains row k → (a : ℕ) × Marked starts a × Path flows a k
      beyond k c = let p = taken.sound node node_marked in (p.0, p.1, (suc p.2.0, (node, p.2.1, from k c)))

      follows : (a b : ℕ) → Marked marks2 a → HasFlow flows a b → Contains pending2 a ⊎ Marked marks2 b
      follows a b m f = elim (v.fresh a m) [
        | inl old ↦ elim (taken.followed a b old f) [
          | inl waits ↦ elim (Contains-push_cases rest node a waits) [
            | inl still ↦ inl (v.waits a still)
            | inr here ↦ inr (v.all b (to b (let P : ℕ → Type 0 = λ j. HasFlow flows j b in subst P (sym here) f)))
          ]
          | inr done ↦ inr (v.keeps b done)
        ]
        | inr new ↦ inl new
      ]

      pub search_goes_on : Searching flows starts marks2 pending2
      search_goes_on = record {
        len = v.len ∙ taken.len;
        begins = λ k m. v.keeps k (taken.begins k m);
        sound = λ k m. elim (v.only k m) [ inl old ↦ taken.sound k old | inr new ↦ beyond k new ];
        waiting = λ k c. elim (v.from k c) [ inl old ↦ old_waits k old | inr new ↦ v.all k new ];
        followed = follows;
      }

module _ (count : ℕ) (flows : List Flow) (starts marks : List Bool) (len : length starts ≡ count) (s : Searching flows starts marks []) where
  ends_marked : (a : ℕ) → Marked starts a → (n k : ℕ) → Walk flows a k n → Marked marks k
  ends_marked a m zero k w = let P : ℕ → Type 0 = λ j. Marked marks j in subst P w (s.begins a m)
  ends_marked a m (suc n) k w = elim (s.followed w.0 k (ends_marked a m n w.0 w.1) w.2) [
    | inl waits ↦ absurd (has_none w.0 waits)
    | inr done ↦ done
  ]

  pub search_ends : AreMarked count (λ b. (a : ℕ) × Marked starts a × Path flows a b) marks
  search_ends = record {
    len = s.len ∙ len;
    only = s.sound;
    all = λ b p. ends_marked p.0 p.1 p.2.0 b p.2.1;
  }
