-- Rows of steps become rows of paths.
use Rattle.std.proofs.Common.{◌≡◌, ℕ, zero, suc, ◌+◌, ◌<◌, ◌≤◌, ◌⊎◌, inl, inr, List, [], length, get_or, set, refl, sym, ap, ◌∙◌, subst, arith, get_or-set_same, get_or-set_other}
use Rattle.std.proofs.lemmas.Bool.{cases_eq, cases_lt}
use Rattle.std.proofs.lemmas.List.{get_or_past, length-set}
use Rattle.yw_path.proofs.BitLemmas.{has-nil}
use Rattle.yw_path.specs.Bits.{Adds, Has, words_for}
use Rattle.yw_path.specs.Rows.{AddsWhere, AreRows, IsClosure, Leads}
use Rattle.yw_reach.proofs.Walks.{path_trans}
use Rattle.yw_reach.specs.Walks.{PathAlong, WalkAlong}

-- what has something in its row has a row
pub leads-within : (rows : List (List ℕ)) (u t : ℕ) → Leads rows u t → t < length rows
leads-within rows u t h = elim (cases_lt t (length rows)) [
  | inl lt ↦ lt
  | inr past ↦ let P : List ℕ → Type 0 = λ row. Has row u in absurd (has-nil u (subst P (get_or_past rows t [] past) h))
]

-- a step is a path
step_path : {A : Type 0} (leads : A → A → Type 0) (a b : A) → leads a b → PathAlong leads a b
step_path leads a b h = (1, (a, refl, h))

-- The rows below n that have k are joined, and the others are as before.
pub record AddsBelow (n k : ℕ) (P : ℕ → Type 0) (old new : List (List ℕ)) : Type 0 where
  pub len : length new ≡ length old
  pub done : (t : ℕ) → t < n → Adds (λ u. Leads old k t × P u) (get_or old t []) (get_or new t [])
  pub rest : (t : ℕ) → n ≤ t → get_or new t [] ≡ get_or old t []

pub below_none : (k : ℕ) (P : ℕ → Type 0) (old : List (List ℕ)) → AddsBelow 0 k P old old
below_none k P old = record { len = refl; done = λ t lt. absurd (omega (arith, lt)); rest = λ t le. refl }

-- the next row
module _ (n k : ℕ) (P : ℕ → Type 0) (old rows : List (List ℕ)) (row : List ℕ) (lt : n < length old) (below : AddsBelow n k P old rows) (adds : Adds (λ u. Leads rows k n × P u) (get_or rows n []) row) where
  same : get_or rows n [] ≡ get_or old n []
  same = below.rest n (omega arith)

  next : Adds (λ u. Leads old k n × P u) (get_or old n []) row
  next = let Q : List ℕ → Type 0 = λ r. Adds (λ u. Has r k × P u) r row in subst Q same adds

  pub below_more : AddsBelow (n + 1) k P old (set rows n row)
  below_more = record {
    len = length-set rows n row ∙ below.len;
    done = λ t before. elim (cases_eq t n) [
      | inl is ↦
          let Q : ℕ → Type 0 = λ j. Adds (λ u. Leads old k j × P u) (get_or old j []) (get_or (set rows n row) j []) in
          let R : List ℕ → Type 0 = λ r. Adds (λ u. Leads old k n × P u) (get_or old n []) r in
          subst Q (sym is) (subst R (sym (get_or-set_same rows n row [] (omega (arith, lt, below.len)))) next)
      | inr other ↦
          let R : List ℕ → Type 0 = λ r. Adds (λ u. Leads old k t × P u) (get_or old t []) r in
          subst R (sym (get_or-set_other rows n t row [] other)) (below.done t (omega (arith, before, other)))
    ];
    rest = λ t le. let other : t ≡ n → ⊥ = λ e. omega (arith, le, e) in get_or-set_other rows n t row [] other ∙ below.rest t (omega (arith, le));
  }

pub below_all : (n k : ℕ) (P : ℕ → Type 0) (old new : List (List ℕ)) → length old ≤ n → AddsBelow n k P old new → AddsWhere k P old new
below_all n k P old new le below = record { len = below.len; each = λ t lt. below.done t (omega (arith, lt, le)) }

-- Behind k turns: the rows have paths alone, all steps, and each path by one middle below k.
pub record Closing (k : ℕ) (old rows : List (List ℕ)) : Type 0 where
  pub are_rows : AreRows (length old) rows
  pub only : (u t : ℕ) → Leads rows u t → PathAlong (Leads old) u t
  pub keeps : (u t : ℕ) → Leads old u t → Leads rows u t
  pub through : (m u t : ℕ) → m < k → Leads rows u m → Leads rows m t → Leads rows u t

pub closing_none : (old : List (List ℕ)) → AreRows (length old) old → Closing 0 old old
closing_none old rows = record {
  are_rows = rows;
  only = step_path (Leads old);
  keeps = λ u t h. h;
  through = λ m u t lt. absurd (omega (arith, lt));
}

module _ (k : ℕ) (old rows new : List (List ℕ)) (so_far : Closing k old rows) (turn : AddsWhere k (Has (get_or rows k [])) rows new) where
  -- a path of the new rows is one of those before, or goes through k
  parts : (u t : ℕ) → Leads new u t → Leads rows u t ⊎ (Leads rows u k × Leads rows k t)
  parts u t h =
      let lt : t < length rows = omega (arith, leads-within new u t h, turn.len) in
      elim ((turn.each t lt).only u h) [ inl was ↦ inl was | inr added ↦ inr (added.1, added.0) ]

  kept : (u t : ℕ) → Leads rows u t → Leads new u t
  kept u t h = (turn.each t (leads-within rows u t h)).keeps u h

  added : (u t : ℕ) → Leads rows u k → Leads rows k t → Leads new u t
  added u t h g = (turn.each t (leads-within rows k t g)).all u (g, h)

  to_middle : (u : ℕ) → Leads new u k → Leads rows u k
  to_middle u h = elim (parts u k h) [ inl was ↦ was | inr both ↦ both.0 ]

  from_middle : (t : ℕ) → Leads new k t → Leads rows k t
  from_middle t h = elim (parts k t h) [ inl was ↦ was | inr both ↦ both.1 ]

  earlier : (m u t : ℕ) → m < k → Leads new u m → Leads new m t → Leads new u t
  earlier m u t lt h g = elim (parts u m h) [
    | inl um ↦ elim (parts m t g) [
      | inl mt ↦ kept u t (so_far.through m u t lt um mt)
      | inr mkt ↦ added u t (so_far.through m u k lt um mkt.0) mkt.1
    ]
    | inr ukm ↦ elim (parts m t g) [
      | inl mt ↦ added u t ukm.0 (so_far.through m k t lt ukm.1 mt)
      | inr mkt ↦ added u t ukm.0 mkt.1
    ]
  ]

  through : (m u t : ℕ) → m < k + 1 → Leads new u m → Leads new m t → Leads new u t
  through m u t lt h g = elim (cases_eq m k) [
    | inl is ↦
        let P : ℕ → Type 0 = λ j. Leads new u j in
        let Q : ℕ → Type 0 = λ j. Leads new j t in
        added u t (to_middle u (subst P is h)) (from_middle t (subst Q is g))
    | inr other ↦ earlier m u t (omega (arith, lt, other)) h g
  ]

  -- one turn more
  pub closing_more : Closing (k + 1) old new
  closing_more = record {
    are_rows = record {
      len = turn.len ∙ so_far.are_rows.len;
      width = λ t lt. (turn.each t (omega (arith, lt, so_far.are_rows.len))).len ∙ so_far.are_rows.width t lt;
      within = λ u t h. elim (parts u t h) [ inl was ↦ so_far.are_rows.within u t was | inr ukt ↦ so_far.are_rows.within u k ukt.0 ];
    };
    only = λ u t h. elim (parts u t h) [
      | inl was ↦ so_far.only u t was
      | inr ukt ↦ path_trans (Leads old) u k t (so_far.only u k ukt.0) (so_far.only k t ukt.1)
    ];
    keeps = λ u t h. kept u t (so_far.keeps u t h);
    through = through;
  }

-- at the end each path is there
module _ (old rows : List (List ℕ)) (are : AreRows (length old) old) (each : (t : ℕ) → t < length old → Leads old t t) (done : Closing (length old) old rows) where
  walk_there : (u t n : ℕ) → t < length old → WalkAlong (Leads old) u t n → Leads rows u t
  walk_there u t zero lt w = let P : ℕ → Type 0 = λ j. Leads rows j t in subst P (sym w) (done.keeps t t (each t lt))
  walk_there u t (suc n) lt w =
      let middle : w.0 < length old = are.within w.0 t w.2 in
      done.through w.0 u t middle (walk_there u w.0 n middle w.1) (done.keeps w.0 t w.2)

  pub closing_all : IsClosure old rows
  closing_all = record { are_rows = done.are_rows; only = done.only; all = λ u t lt p. walk_there u t p.0 lt p.1 }
