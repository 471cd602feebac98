-- The table of the rules that a new rule of a tree can break, row by row.
use Rattle.std.proofs.Common.{◌≡◌, ℕ, List, [], ◌∷◌, Bool, true, false, None, Some, refl, sym, inl, inr}
use Rattle.yw_state.proofs.Tests.{never}
use Rattle.yw_state.specs.Broken.{Check, First, fact_at, placed, placeless, test}
use Rattle.yw_state.specs.declared.rule.Rule.TheVariants.{BadConclusion, BadExpr, Numbers, PlaceTaken, UnknownPlace, UnknownSpec}

-- no specification, no place, a side that is taken, a text with a fault, nothing that may be concluded, no room
abbrev pub table : Bool → Bool → Bool → (List ℕ → Type 0) → Bool → Bool → List Check
table a b c Miss d e =
    test a UnknownSpec ∷ test b UnknownPlace ∷ test c PlaceTaken ∷ fact_at Miss BadExpr ∷ test d BadConclusion ∷ test e Numbers ∷ []

module _ (Miss : List ℕ → Type 0) where
  pub unknown_spec : (a b c d e : Bool) → a ≡ true → First (table a b c Miss d e) (Some (placeless UnknownSpec))
  unknown_spec true b c d e is = refl
  unknown_spec false b c d e is = never is

  pub unknown_place : (a b c d e : Bool) → a ≡ false → b ≡ true → First (table a b c Miss d e) (Some (placeless UnknownPlace))
  unknown_place true b c d e there is = never (sym there)
  unknown_place false true c d e there is = refl
  unknown_place false false c d e there is = never is

  pub side_taken : (a b c d e : Bool) → a ≡ false → b ≡ false → c ≡ true → First (table a b c Miss d e) (Some (placeless PlaceTaken))
  side_taken true b c d e x y is = never (sym x)
  side_taken false true c d e x y is = never (sym y)
  side_taken false false true d e x y is = refl
  side_taken false false false d e x y is = never is

  pub misspelt : (a b c d e : Bool) → a ≡ false → b ≡ false → c ≡ false → (at : List ℕ) → Miss at → First (table a b c Miss d e) (Some (placed BadExpr at))
  misspelt true b c d e x y z at is = never (sym x)
  misspelt false true c d e x y z at is = never (sym y)
  misspelt false false true d e x y z at is = never (sym z)
  misspelt false false false d e x y z at is = inl (at, is, refl)

  module _ (spelt : (at : List ℕ) → Miss at → ⊥) where
    pub bad_conclusion : (a b c d e : Bool) → a ≡ false → b ≡ false → c ≡ false → d ≡ true → First (table a b c Miss d e) (Some (placeless BadConclusion))
    bad_conclusion true b c d e x y z is = never (sym x)
    bad_conclusion false true c d e x y z is = never (sym y)
    bad_conclusion false false true d e x y z is = never (sym z)
    bad_conclusion false false false true e x y z is = inr (spelt, refl)
    bad_conclusion false false false false e x y z is = never is

    pub full : (a b c d e : Bool) → a ≡ false → b ≡ false → c ≡ false → d ≡ false → e ≡ true → First (table a b c Miss d e) (Some (placeless Numbers))
    full true b c d e x y z w is = never (sym x)
    full false true c d e x y z w is = never (sym y)
    full false false true d e x y z w is = never (sym z)
    full false false false true e x y z w is = never (sym w)
    full false false false false true x y z w is = inr (spelt, refl)
    full false false false false false x y z w is = never is

    pub none : (a b c d e : Bool) → a ≡ false → b ≡ false → c ≡ false → d ≡ false → e ≡ false → First (table a b c Miss d e) None
    none true b c d e x y z w is = never (sym x)
    none false true c d e x y z w is = never (sym y)
    none false false true d e x y z w is = never (sym z)
    none false false false true e x y z w is = never (sym w)
    none false false false false true x y z w is = never (sym is)
    none false false false false false x y z w is = inr (spelt, refl)
