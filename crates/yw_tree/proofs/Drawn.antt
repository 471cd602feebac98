-- A number that is above all that were drawn comes last.
use Rattle.std.proofs.Common.{List, Ordering, [], arith, length, subst, sym, true, ℕ, ◌<◌, ◌∙◌, ◌∷◌, ◌≡◌, ◌≤◌}
use Rattle.std.proofs.lemmas.Bool.{and_parts, ltb-true}
use Rattle.std.specs.Cmp.{nat_cmp_is}
use Rattle.std.specs.List.{list_all}
use Rattle.std.specs.Ordering.{is_lt, ordering_then}
use Rattle.std.specs.Prelude.{T, is_some, nat_lt}
use Rattle.std.specs.declared.cmp.Ordering.TheVariants.{Equal, Less}
use Rattle.yw_sites.proofs.Prefix.{child_length, child_of}
use Rattle.yw_state.specs.Identity.{Ident}
use Rattle.yw_base.specs.Identity.{child}
use Rattle.yw_state.specs.Map.{get, lexical}
use Rattle.yw_tree.proofs.Stood.{found_in_map}
use Rattle.yw_tree.specs.Coming.{AreDrawn, ComesAfter}
use Rattle.yw_tree.specs.Forest.{IsForest, sites_of}
use Rattle.yw_tree.specs.declared.Forest.{Forest}

comes_before : (i : Ident) (a n : ℕ) → a < n → T (is_lt (lexical (child i a) (child i n)))
comes_before [] a n h = subst (λ (o : Ordering). T (is_lt (ordering_then o Equal))) (nat_cmp_is a n Less h) tt
comes_before (x ∷ i) a n h = subst (λ (o : Ordering). T (is_lt (ordering_then o (lexical (child i a) (child i n))))) (nat_cmp_is x x Equal (λ j. x)) (comes_before i a n h)

last_drawn : (i : Ident) (a n : ℕ) → list_all (λ k. nat_lt k n) (child i a) ≡ true → a < n
last_drawn [] a n h = ltb-true a n (and_parts (nat_lt a n) true h).0
last_drawn (x ∷ i) a n h = last_drawn i a n (and_parts (nat_lt x n) (list_all (λ k. nat_lt k n) (child i a)) h).1

pub after_drawn : (f : Forest) (id : Ident) (n : ℕ) → IsForest f → 1 ≤ length id → length id ≤ 40 → AreDrawn f n → ComesAfter f id (child id n)
after_drawn f id n b long short drawn j c there =
    let names : ℕ → List ℕ = λ k. [] in
    let cj = child_of j id c in
    let l = child_length id j cj in
    let at_least : 1 ≤ length j = omega arith in
    let at_most : length j ≤ 41 = omega arith in
    let known : is_some (get (sites_of names f) j) ≡ true = sym (found_in_map f b j at_least names at_most) ∙ there in
    let all : list_all (λ k. nat_lt k n) (child id cj.0) ≡ true = subst (λ z. list_all (λ k. nat_lt k n) z ≡ true) cj.1 (drawn names j known) in
    subst (λ z. T (is_lt (lexical z (child id n)))) (sym cj.1) (comes_before id cj.0 n (last_drawn id cj.0 n all))
