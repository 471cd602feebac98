-- How many entries of a map are of a kind, after one comes.
use Rattle.std.specs.Prelude.{◌≡◌, ◌&&◌, suc, Bool, true, false, cond, T, List, [], ◌∷◌, length, Option, Some, None, refl}
use Rattle.std.specs.FinMap.Entries.{below_all, by_order, find, is_sorted, is_sorted-put, put}
use Rattle.std.specs.List.{cons_option, filter_map}
use Rattle.std.specs.Ordering.{is_eq}
use Rattle.std.specs.declared.cmp.Ordering.{Ordering}
use Rattle.std.specs.declared.cmp.Ordering.TheVariants.{Less, Equal, Greater}
use Rattle.std.proofs.Common.{sym, ◌∙◌, ap}
use Rattle.yw_state.proofs.MapLemmas.{KeyOrder, nowhere, of_sorted_list}
use Rattle.yw_state.specs.Map.{Map, entries, get, insert}

later_part : (a b : Bool) → T (a && b) → T b
later_part true b h = h
later_part false b h = absurd h

behind : {B : Type 0} (a b : Option B) (xs ys : List B) → length xs ≡ length (cons_option b ys) → length (cons_option a xs) ≡ length (cons_option b (cons_option a ys))
behind None b xs ys e = e
behind (Some x) None xs ys e = ap suc e
behind (Some x) (Some y) xs ys e = ap suc e

module _ {K X : Type 0} {R : K → K → Ordering} (o : KeyOrder R) {B : Type 0} (g : K × X → Option B) (k : K) (w : X) where
  length-put_new : (es : List (K × X)) → T (is_sorted R es) → find R k es ≡ None → length (filter_map g (put R k w es)) ≡ length (cons_option (g (k, w)) (filter_map g es))
  length-put_new [] sorted absent = refl
  length-put_new (e ∷ es) sorted absent =
      elim (R k e.0) as (λ r. R k e.0 ≡ r → length (filter_map g (by_order r ((k, w) ∷ e ∷ es) ((e.0, w) ∷ es) (e ∷ put R k w es))) ≡ length (cons_option (g (k, w)) (filter_map g (e ∷ es)))) [
        | Less ↦ λ r. refl
        | Equal ↦ λ r. nowhere (sym absent ∙ ap (λ c. cond (is_eq c) (Some e.1) (find R k es)) r)
        | Greater ↦ λ r. behind (g e) (g (k, w)) _ (filter_map g es) (length-put_new es (later_part (below_all R e.0 es) (is_sorted R es) sorted) (sym (ap (λ c. cond (is_eq c) (Some e.1) (find R k es)) r) ∙ absent))
      ] refl

  -- one more is of the kind, if the new one is
  pub length-insert_new : (m : Map R X) → get m k ≡ None → length (filter_map g (entries (insert m k w))) ≡ length (cons_option (g (k, w)) (filter_map g (entries m)))
  length-insert_new m absent =
      ap (λ es. length (filter_map g es)) (of_sorted_list o _ _ refl m (is_sorted-put R o.total k w m.list m.sorted)) ∙ length-put_new m.list m.sorted absent
