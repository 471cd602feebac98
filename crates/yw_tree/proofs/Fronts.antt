-- The order of identities and their fronts.
use Rattle.std.proofs.Common.{[], ap, arith, false, length, refl, sym, true, ℕ, ◌∙◌, ◌∷◌, ◌≡◌}
use Rattle.std.proofs.lemmas.Bool.{eqb-true}
use Rattle.std.proofs.lemmas.Cmp.{tied_itself}
use Rattle.std.specs.Ordering.{is_le, is_lt, nat_cmp, ordering_reverse, ordering_then}
use Rattle.std.specs.Prelude.{T, ◌==◌}
use Rattle.std.specs.declared.cmp.Ordering.TheVariants.{Equal, Greater, Less}
use Rattle.yw_base.specs.Identity.{under}
use Rattle.yw_sites.proofs.Prefix.{and_true}
use Rattle.yw_state.proofs.MapLemmas.{by_number}
use Rattle.yw_state.proofs.Tests.{never}
use Rattle.yw_state.specs.Identity.{Ident}
use Rattle.yw_state.specs.Map.{lexical}

-- a number stands to the same one as it does to itself
same_number : (x y : ℕ) → x == y ≡ true → nat_cmp x y ≡ Equal
same_number x y h = ap (nat_cmp x) (sym (eqb-true x y h)) ∙ tied_itself by_number.total x

-- a front comes before all that begins with it, or is it
pub front_comes_by : (id j : Ident) → under id j ≡ true → is_le (lexical j id) ≡ true
front_comes_by [] [] h = refl
front_comes_by (y ∷ id) [] h = refl
front_comes_by [] (x ∷ j) h = never h
front_comes_by (y ∷ id) (x ∷ j) h =
    let p = and_true (x == y) (under id j) h in
    ap (λ o. is_le (ordering_then o (lexical j id))) (same_number x y p.0) ∙ front_comes_by id j p.1

-- what comes before a front comes before all that begins with it
pub before_comes_by : (id j l : Ident) → under id j ≡ true → T (is_lt (lexical l j)) → is_le (lexical l id) ≡ true
before_comes_by [] [] [] h b = refl
before_comes_by (y ∷ id) [] [] h b = refl
before_comes_by id [] (z ∷ l) h b = absurd b
before_comes_by [] (x ∷ j) l h b = never h
before_comes_by (y ∷ id) (x ∷ j) [] h b = refl
before_comes_by (y ∷ id) (x ∷ j) (z ∷ l) h b =
    let p = and_true (x == y) (under id j) h in
    let e = eqb-true x y p.0 in
    elim (nat_cmp z x) as (λ o. nat_cmp z x ≡ o → T (is_lt (ordering_then o (lexical l j))) → is_le (ordering_then (nat_cmp z y) (lexical l id)) ≡ true) [
      | Less ↦ λ o b. ap (λ r. is_le (ordering_then r (lexical l id))) (ap (nat_cmp z) (sym e) ∙ o)
      | Equal ↦ λ o b. ap (λ r. is_le (ordering_then r (lexical l id))) (ap (nat_cmp z) (sym e) ∙ o) ∙ before_comes_by id j l p.1 b
      | Greater ↦ λ o b. absurd b
    ] refl b

-- what comes after a front and is as long comes after all that begins with it
pub beyond_comes_after : (id j l : Ident) → length j ≡ length l → under id j ≡ true → T (is_lt (lexical j l)) → is_le (lexical l id) ≡ false
beyond_comes_after id [] [] s h b = absurd b
beyond_comes_after id [] (z ∷ l) s h b = absurd (omega arith)
beyond_comes_after id (x ∷ j) [] s h b = absurd (omega arith)
beyond_comes_after [] (x ∷ j) (z ∷ l) s h b = never h
beyond_comes_after (y ∷ id) (x ∷ j) (z ∷ l) s h b =
    let p = and_true (x == y) (under id j) h in
    let e = eqb-true x y p.0 in
    let rest : length j ≡ length l = omega arith in
    let turned : nat_cmp z y ≡ ordering_reverse (nat_cmp x z) = ap (nat_cmp z) (sym e) ∙ by_number.total.antisymm z x in
    elim (nat_cmp x z) as (λ o. nat_cmp x z ≡ o → T (is_lt (ordering_then o (lexical j l))) → is_le (ordering_then (nat_cmp z y) (lexical l id)) ≡ false) [
      | Less ↦ λ o b. ap (λ r. is_le (ordering_then r (lexical l id))) (turned ∙ ap ordering_reverse o)
      | Equal ↦ λ o b. ap (λ r. is_le (ordering_then r (lexical l id))) (turned ∙ ap ordering_reverse o) ∙ beyond_comes_after id j l rest p.1 b
      | Greater ↦ λ o b. absurd b
    ] refl b
