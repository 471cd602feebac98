-- Rows have the targets of the flows.
use Rattle.std.proofs.Common.{◌≡◌, ℕ, ◌<◌, ◌==◌, ◌⊎◌, inl, inr, List, [], ◌∷◌, ◌++◌, length, get_or, set, replicate, true, false, Contains, All, refl, sym, ap, ◌∙◌, subst, arith, get_or-set_same, get_or-set_other}
use Rattle.std.proofs.lemmas.List.{length-set, length-replicate, get_or-replicate, append-nil}
use Rattle.std.proofs.lemmas.List.Elements.{Contains-get_or}
use Rattle.std.proofs.lemmas.Bool.Decides.{nat_tests}
use Rattle.yw_reach.specs.declared.flow.Flow.{Flow}
use Rattle.yw_reach.specs.Flows.{HasFlow, IsWithin}
use Rattle.yw_reach.specs.Rows.{AreRows, targets}
use Rattle.yw_reach.proofs.FlowLemmas.{has_front, has_later, has_cases, has_none, ends_within}

pub test_or : (m n : ℕ) → ((m == n) ≡ true) × (m ≡ n) ⊎ ((m == n) ≡ false) × (m ≡ n → ⊥)
test_or m n = grind (arith, nat_tests)

targets-append : (a : ℕ) (fs : List Flow) (f : Flow) → targets a (fs ++ f ∷ []) ≡ targets a fs ++ targets a (f ∷ [])
targets-append a [] f = refl
targets-append a (g ∷ fs) f = elim (test_or g.from a) [
  | inl e ↦ rw e.0 (ap (λ (ts : List ℕ). g.to ∷ ts) (targets-append a fs f))
  | inr e ↦ rw e.0 (targets-append a fs f)
]

-- a target is where a flow goes to
pub from_target : (a b : ℕ) (fs : List Flow) → Contains (targets a fs) b → HasFlow fs a b
from_target a b [] c = absurd (has_none b c)
from_target a b (f ∷ fs) c = elim (test_or f.from a) [
  | inl e ↦ elim (has_cases f.to b (targets a fs) (rw e.0 at c)) [
    | inl same ↦ let P : ℕ → ℕ → Type 0 = λ i j. Contains (f ∷ fs) (record { from = i; to = j }) in subst (λ j. P a j) same (subst (λ i. P i f.to) e.1 (has_front f fs))
    | inr later ↦ has_later f _ fs (from_target a b fs later)
  ]
  | inr e ↦ has_later f _ fs (from_target a b fs (rw e.0 at c))
]

pub to_target : (a b : ℕ) (fs : List Flow) → HasFlow fs a b → Contains (targets a fs) b
to_target a b [] c = absurd (has_none _ c)
to_target a b (f ∷ fs) c = elim (test_or f.from a) [
  | inl t ↦ rw t.0 (elim (has_cases f _ fs c) [
    | inl e ↦ let P : ℕ → Type 0 = λ j. Contains (f.to ∷ targets a fs) j in subst P (ap (λ (g : Flow). g.to) e) (has_front f.to (targets a fs))
    | inr later ↦ has_later f.to b (targets a fs) (to_target a b fs later)
  ])
  | inr t ↦ rw t.0 (elim (has_cases f _ fs c) [
    | inl e ↦ absurd (t.1 (ap (λ (g : Flow). g.from) e))
    | inr later ↦ to_target a b fs later
  ])
]

pub no_rows : (count : ℕ) (rows : List (List ℕ)) → rows ≡ replicate count [] → AreRows count [] rows
no_rows count rows e = record {
  len = ap length e ∙ length-replicate count [];
  row = λ a lt. ap (λ (rs : List (List ℕ)). get_or rs a []) e ∙ get_or-replicate count a [] [] lt;
}

-- one flow more
pub more_rows : (count : ℕ) (fs : List Flow) (f : Flow) (rows rows2 : List (List ℕ)) → f.from < count → AreRows count fs rows → rows2 ≡ set rows f.from (get_or rows f.from [] ++ f.to ∷ []) → AreRows count (fs ++ f ∷ []) rows2
more_rows count fs f rows rows2 lt r e = record {
  len = ap length e ∙ length-set rows f.from _ ∙ r.len;
  row = λ a h. ap (λ (rs : List (List ℕ)). get_or rs a []) e ∙ elim (test_or f.from a) [
    | inl t ↦
        let P : ℕ → Type 0 = λ j. get_or (set rows f.from (get_or rows f.from [] ++ f.to ∷ [])) j [] ≡ targets j fs ++ f.to ∷ [] in
        subst P t.1 (get_or-set_same rows f.from _ [] (omega (arith, lt, r.len)) ∙ ap (λ (ts : List ℕ). ts ++ f.to ∷ []) (r.row f.from lt)) ∙ sym (targets-append a fs f ∙ rw t.0 refl)
    | inr t ↦
        get_or-set_other rows f.from a _ [] (λ s. t.1 (sym s)) ∙ r.row a h ∙ sym (targets-append a fs f ∙ rw t.0 (append-nil (targets a fs)))
  ];
}

module _ (count : ℕ) (fs : List Flow) (rows : List (List ℕ)) (r : AreRows count fs rows) (h : All (IsWithin count) fs) (a : ℕ) (lt : a < count) where
  pub from_row : (b : ℕ) → Contains (get_or rows a []) b → HasFlow fs a b
  from_row b c = from_target a b fs (let P : List ℕ → Type 0 = λ ts. Contains ts b in subst P (r.row a lt) c)

  pub to_row : (b : ℕ) → HasFlow fs a b → Contains (get_or rows a []) b
  to_row b c = let P : List ℕ → Type 0 = λ ts. Contains ts b in subst P (sym (r.row a lt)) (to_target a b fs c)

  -- a row has nodes alone
  pub row_within : All (λ k. k < count) (get_or rows a [])
  row_within k d lt2 =
      let b : ℕ = get_or (get_or rows a []) k d in
      (ends_within count a b fs h (from_row b (Contains-get_or (get_or rows a []) k d lt2))).1
