-- What is picked from sorted entries, each by its key and value, and kept at its key.
use Rattle.std.proofs.Common.{Bool, List, None, Option, Ordering, Some, [], ap, cond, false, refl, subst, sym, true, ◌∙◌, ◌∷◌, ◌≡◌}
use Rattle.std.specs.FinMap.Entries.{below_all, find, is_sorted}
use Rattle.std.specs.List.{cons_option, filter_map}
use Rattle.std.specs.Ordering.{eq_by_cmp, is_eq, is_lt}
use Rattle.std.specs.Prelude.{T, option_and_then, option_map, ◌&&◌}
use Rattle.std.specs.declared.cmp.Ordering.TheVariants.{Equal, Greater, Less}
use Rattle.yw_state.proofs.MapLemmas.{by_name, tied}
use Rattle.yw_state.proofs.Tests.{by_option, by_test}
use Rattle.yw_state.specs.Identity.{Ident}
use Rattle.yw_state.specs.Map.{lexical}

pub halves : (a b : Bool) → T (a && b) → T a × T b
halves true b h = (tt, h)
halves false b h = absurd h

pub joined : (a b : Bool) → T a → T b → T (a && b)
joined true b p q = q
joined false b p q = absurd p

not_tied : (o : Ordering) → T (is_lt o) → is_eq o ≡ false
not_tied Less h = refl
not_tied Equal h = absurd h
not_tied Greater h = refl

pub find_below : {X : Type 0} (q : Ident) (es : List (Ident × X)) → T (below_all lexical q es) → find lexical q es ≡ None
find_below q [] h = refl
find_below q (e ∷ es) h = let p = halves _ _ h in ap (λ b. cond b (Some e.1) (find lexical q es)) (not_tied _ p.0) ∙ find_below q es p.1

pub same_filter : {X Y : Type 0} (h k : X → Option Y) → ((x : X) → h x ≡ k x) → (xs : List X) → filter_map h xs ≡ filter_map k xs
same_filter h k e [] = refl
same_filter h k e (x ∷ xs) = λ j. cons_option (e x j) (same_filter h k e xs j)

module _ {X Y : Type 0} (g : Ident → X → Option Y) where
  abbrev pub pick : Ident × X → Option (Ident × Y)
  pick e = option_map (λ y. (e.0, y)) (g e.0 e.1)

  abbrev pub picked : List (Ident × X) → List (Ident × Y)
  picked es = filter_map pick es

  pub none_step : (e : Ident × X) (es : List (Ident × X)) → g e.0 e.1 ≡ None → picked (e ∷ es) ≡ picked es
  none_step e es n = ap (λ o. cons_option (option_map (λ (y : Y). (e.0, y)) o) (picked es)) n

  pub some_step : (e : Ident × X) (es : List (Ident × X)) (y : Y) → g e.0 e.1 ≡ Some y → picked (e ∷ es) ≡ (e.0, y) ∷ picked es
  some_step e es y n = ap (λ o. cons_option (option_map (λ (y : Y). (e.0, y)) o) (picked es)) n

  below_picked : (k : Ident) (es : List (Ident × X)) → T (below_all lexical k es) → T (below_all lexical k (picked es))
  below_picked k [] h = tt
  below_picked k (e ∷ es) h =
      let p = halves _ _ h in
      by_option (g e.0 e.1)
      (λ (n : g e.0 e.1 ≡ None). subst (λ z. T (below_all lexical k z)) (sym (none_step e es n)) (below_picked k es p.1))
      (λ (y : Y) (n : g e.0 e.1 ≡ Some y). subst (λ z. T (below_all lexical k z)) (sym (some_step e es y n)) (joined _ _ p.0 (below_picked k es p.1)))

  pub sorted_picked : (es : List (Ident × X)) → T (is_sorted lexical es) → T (is_sorted lexical (picked es))
  sorted_picked [] h = tt
  sorted_picked (e ∷ es) h =
      let p = halves _ _ h in
      by_option (g e.0 e.1)
      (λ (n : g e.0 e.1 ≡ None). subst (λ z. T (is_sorted lexical z)) (sym (none_step e es n)) (sorted_picked es p.1))
      (λ (y : Y) (n : g e.0 e.1 ≡ Some y). subst (λ z. T (is_sorted lexical z)) (sym (some_step e es y n)) (joined _ _ (below_picked e.0 es p.0) (sorted_picked es p.1)))

  pub find_picked : (q : Ident) (es : List (Ident × X)) → T (is_sorted lexical es) → find lexical q (picked es) ≡ option_and_then (g q) (find lexical q es)
  find_picked q [] h = refl
  find_picked q (e ∷ es) h =
      let p = halves _ _ h in
      by_test (eq_by_cmp lexical q e.0)
      (λ (t : eq_by_cmp lexical q e.0 ≡ true).
      let k = tied by_name q e.0 t in
      let right : option_and_then (g q) (find lexical q (e ∷ es)) ≡ g e.0 e.1 = ap (λ b. option_and_then (g q) (cond b (Some e.1) (find lexical q es))) t ∙ ap (λ z. g z e.1) k in
      let none = find_below q (picked es) (subst (λ z. T (below_all lexical z (picked es))) (sym k) (below_picked e.0 es p.0)) in
      by_option (g e.0 e.1)
      (λ (n : g e.0 e.1 ≡ None). ap (find lexical q) (none_step e es n) ∙ none ∙ sym (right ∙ n))
      (λ (y : Y) (n : g e.0 e.1 ≡ Some y). ap (find lexical q) (some_step e es y n) ∙ ap (λ b. cond b (Some y) (find lexical q (picked es))) t ∙ sym (right ∙ n)))
      (λ (t : eq_by_cmp lexical q e.0 ≡ false).
      let right : option_and_then (g q) (find lexical q (e ∷ es)) ≡ option_and_then (g q) (find lexical q es) = ap (λ b. option_and_then (g q) (cond b (Some e.1) (find lexical q es))) t in
      by_option (g e.0 e.1)
      (λ (n : g e.0 e.1 ≡ None). ap (find lexical q) (none_step e es n) ∙ find_picked q es p.1 ∙ sym right)
      (λ (y : Y) (n : g e.0 e.1 ≡ Some y). ap (find lexical q) (some_step e es y n) ∙ ap (λ b. cond b (Some y) (find lexical q (picked es))) t ∙ find_picked q es p.1 ∙ sym right))
