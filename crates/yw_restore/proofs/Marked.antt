-- The tokens of a net, place by place.
use Rattle.std.proofs.Common.{◌≡◌, ◌⊎◌, ◌∙◌, ◌==◌, ◌++◌, ◌∷◌, [], ℕ, Bool, true, false, List, ap, append_assoc, if◌then◌else◌, inl, inr, refl, sym}
use Rattle.yw_restore.specs.Gathers.{marked}
use Rattle.yw_spec.specs.declared.spec.Place.{Place}
use Rattle.yw_state.specs.Identity.{Ident}
use Rattle.yw_states.specs.States.{place_rows}
use Rattle.yw_states.specs.declared.cases.TokenRow.{TokenRow}

by_count : (b : Bool) (row : TokenRow) (rest : List TokenRow) → (if b then rest else row ∷ rest) ≡ (if b then [] else row ∷ []) ++ rest
by_count true row rest = refl
by_count false row rest = refl

first_place : (j : Ident) (p : Place) (ps : List Place) (n : ℕ) (ns : List ℕ) → place_rows j (p ∷ ps) (n ∷ ns) ≡ marked j p n ++ place_rows j ps ns
first_place j p ps n ns = by_count (n == 0) (record { ident = j; place = p; count = n }) (place_rows j ps ns)

-- the next place of those that are left
pub next_place : (j : Ident) (ps us : List Place) (ns vs : List ℕ) (p : Place) (n : ℕ) (a b whole : List TokenRow) → (ps ≡ p ∷ us) × (ns ≡ n ∷ vs)
    → b ≡ a ++ marked j p n → a ++ place_rows j ps ns ≡ whole → b ++ place_rows j us vs ≡ whole
next_place j ps us ns vs p n a b whole turn added so_far =
    ap (λ z. z ++ place_rows j us vs) added ∙ append_assoc a (marked j p n) (place_rows j us vs)
    ∙ ap (λ z. a ++ z) (sym (first_place j p us n vs)) ∙ ap (λ z. a ++ place_rows j (p ∷ us) z) (sym turn.1)
    ∙ ap (λ z. a ++ place_rows j z ns) (sym turn.0) ∙ so_far

none_of_counts : (j : Ident) (ps : List Place) → place_rows j ps [] ≡ []
none_of_counts j [] = refl
none_of_counts j (p ∷ ps) = refl

pub none_left : (j : Ident) (ps : List Place) (ns : List ℕ) → (ps ≡ []) ⊎ (ns ≡ []) → place_rows j ps ns ≡ []
none_left j ps ns (inl none) = ap (λ z. place_rows j z ns) none
none_left j ps ns (inr none) = ap (place_rows j ps) none ∙ none_of_counts j ps
