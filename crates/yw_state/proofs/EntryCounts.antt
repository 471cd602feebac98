-- How many entries of a map are of a kind, after one value is changed.
use Rattle.std.specs.Prelude.{◌≡◌, ◌&&◌, suc, Bool, true, false, cond, T, List, [], ◌∷◌, length, Option, Some, None, is_some, refl}
use Rattle.std.specs.FinMap.Entries.{below_all, by_order, find, is_sorted, is_sorted-put, put}
use Rattle.std.specs.List.{cons_option, filter_map}
use Rattle.std.specs.Ordering.{eq_by_cmp, is_eq, is_lt}
use Rattle.std.specs.declared.cmp.Ordering.{Ordering}
use Rattle.std.specs.declared.cmp.Ordering.TheVariants.{Less, Equal, Greater}
use Rattle.std.proofs.Common.{sym, ◌∙◌, ap}
use Rattle.yw_state.proofs.MapLemmas.{KeyOrder, by_option, by_test, never, nowhere, of_sorted_list, some_same, tied, tied_self}
use Rattle.yw_state.specs.Map.{Map, entries, get, insert, update}

both_parts : (a b : Bool) → T (a && b) → T a × T b
both_parts true b h = (tt, h)
both_parts false b h = absurd h

is_less : (o : Ordering) → T (is_lt o) → o ≡ Less
is_less Less h = refl
is_less Equal h = absurd h
is_less Greater h = absurd h

same_length : {B : Type 0} (o p : Option B) (xs ys : List B) → is_some o ≡ is_some p → length xs ≡ length ys → length (cons_option o xs) ≡ length (cons_option p ys)
same_length None None xs ys e f = f
same_length None (Some y) xs ys e f = never e
same_length (Some x) None xs ys e f = never (sym e)
same_length (Some x) (Some y) xs ys e f = ap suc f

uncounted : {B : Type 0} (o : Option B) (xs : List B) → is_some o ≡ false → length (cons_option o xs) ≡ length xs
uncounted None xs e = refl
uncounted (Some x) xs e = never (sym e)

module _ {K X : Type 0} {R : K → K → Ordering} (o : KeyOrder R) where
  absent_below : (q x : K) (es : List (K × X)) → R q x ≡ Less → T (below_all R x es) → find R q es ≡ None
  absent_below q x [] less below = refl
  absent_below q x (e ∷ es) less below =
      let parts = both_parts (is_lt (R x e.0)) (below_all R x es) below in
      ap (λ r. cond (is_eq r) (Some e.1) (find R q es)) (o.total.trans q x e.0 less (is_less (R x e.0) parts.0)) ∙ absent_below q x es less parts.1

  module _ {B : Type 0} (g : K × X → Option B) (k : K) (v w : X) (alike : (q : K) → is_some (g (q, w)) ≡ is_some (g (q, v))) where
    length-put : (es : List (K × X)) → T (is_sorted R es) → find R k es ≡ Some v → length (filter_map g (put R k w es)) ≡ length (filter_map g es)
    length-put [] sorted found = nowhere found
    length-put (e ∷ es) sorted found =
        let parts = both_parts (below_all R e.0 es) (is_sorted R es) sorted in
        elim (R k e.0) as (λ r. R k e.0 ≡ r → length (filter_map g (by_order r ((k, w) ∷ e ∷ es) ((e.0, w) ∷ es) (e ∷ put R k w es))) ≡ length (filter_map g (e ∷ es))) [
          | Less ↦ λ r. nowhere (sym (ap (λ c. cond (is_eq c) (Some e.1) (find R k es)) r ∙ absent_below k e.0 es r parts.0) ∙ found)
          | Equal ↦ λ r. same_length (g (e.0, w)) (g e) (filter_map g es) (filter_map g es) (alike e.0 ∙ ap (λ x. is_some (g (e.0, x))) (some_same v e.1 (sym found ∙ ap (λ c. cond (is_eq c) (Some e.1) (find R k es)) r))) refl
          | Greater ↦ λ r. same_length (g e) (g e) _ _ refl (length-put es parts.1 (sym (ap (λ c. cond (is_eq c) (Some e.1) (find R k es)) r) ∙ found))
        ] refl

  -- so many are of the kind after a value is changed, if it is of the kind as before
  pub length-update : {B : Type 0} (g : K × X → Option B) (m : Map R X) (k : K) (f : X → X) → ((q : K) (v : X) → is_some (g (q, f v)) ≡ is_some (g (q, v))) → length (filter_map g (entries (update m k f))) ≡ length (filter_map g (entries m))
  length-update g m k f alike =
      by_option (get m k)
      (λ none. ap (λ n. length (filter_map g (entries n))) (update_none none))
      (λ v some. ap (λ n. length (filter_map g (entries n))) (update_some v some)
      ∙ ap (λ es. length (filter_map g es)) (of_sorted_list o _ _ refl m (is_sorted-put R o.total k (f v) m.list m.sorted))
      ∙ length-put g k v (f v) (λ q. alike q v) m.list m.sorted some)
    where
      update_none : get m k ≡ None → update m k f ≡ m
      update_none e = rw e refl

      update_some : (v : X) → get m k ≡ Some v → update m k f ≡ insert m k (f v)
      update_some v e = rw e refl

  -- ---- an entry that isn't of the kind

  length-put_other : {B : Type 0} (g : K × X → Option B) (k : K) (w : X) → ((q : K) → is_some (g (q, w)) ≡ false) → (es : List (K × X)) → T (is_sorted R es) → find R k es ≡ None → length (filter_map g (put R k w es)) ≡ length (filter_map g es)
  length-put_other g k w other [] sorted absent = uncounted (g (k, w)) [] (other k)
  length-put_other g k w other (e ∷ es) sorted absent =
      let parts = both_parts (below_all R e.0 es) (is_sorted R es) sorted in
      elim (R k e.0) as (λ r. R k e.0 ≡ r → length (filter_map g (by_order r ((k, w) ∷ e ∷ es) ((e.0, w) ∷ es) (e ∷ put R k w es))) ≡ length (filter_map g (e ∷ es))) [
        | Less ↦ λ r. uncounted (g (k, w)) (filter_map g (e ∷ es)) (other k)
        | Equal ↦ λ r. nowhere (sym absent ∙ ap (λ c. cond (is_eq c) (Some e.1) (find R k es)) r)
        | Greater ↦ λ r. same_length (g e) (g e) _ _ refl (length-put_other g k w other es parts.1 (sym (ap (λ c. cond (is_eq c) (Some e.1) (find R k es)) r) ∙ absent))
      ] refl

  -- so many are of the kind after another comes that isn't
  pub length-insert_other : {B : Type 0} (g : K × X → Option B) (m : Map R X) (k : K) (w : X) → ((q : K) → is_some (g (q, w)) ≡ false) → get m k ≡ None → length (filter_map g (entries (insert m k w))) ≡ length (filter_map g (entries m))
  length-insert_other g m k w other absent =
      ap (λ es. length (filter_map g es)) (of_sorted_list o _ _ refl m (is_sorted-put R o.total k w m.list m.sorted)) ∙ length-put_other g k w other m.list m.sorted absent

  -- ---- none of the kind

  missing_below : (q : K) (es : List (K × X)) → T (below_all R q es) → find R q es ≡ None
  missing_below q [] below = refl
  missing_below q (e ∷ es) below =
      let parts = both_parts (is_lt (R q e.0)) (below_all R q es) below in
      ap (λ r. cond (is_eq r) (Some e.1) (find R q es)) (is_less (R q e.0) parts.0) ∙ missing_below q es parts.1

  pub length-none : {B : Type 0} (g : K × X → Option B) (es : List (K × X)) → T (is_sorted R es) → ((q : K) (y : X) → find R q es ≡ Some y → is_some (g (q, y)) ≡ false) → length (filter_map g es) ≡ 0
  length-none g [] sorted other = refl
  length-none g (e ∷ es) sorted other =
      let parts = both_parts (below_all R e.0 es) (is_sorted R es) sorted in
      uncounted (g e) (filter_map g es) (other e.0 e.1 (ap (λ b. cond b (Some e.1) (find R e.0 es)) (tied_self o e.0)))
      ∙ length-none g es parts.1 (λ q y found. other q y (behind q y parts.0 found))
    where
      behind : (q : K) (y : X) → T (below_all R e.0 es) → find R q es ≡ Some y → find R q (e ∷ es) ≡ Some y
      behind q y below found =
          by_test (eq_by_cmp R q e.0)
          (λ b. nowhere (sym (missing_below e.0 es below) ∙ ap (λ i. find R i es) (sym (tied o q e.0 b)) ∙ found))
          (λ b. ap (λ c. cond c (Some e.1) (find R q es)) b ∙ found)
