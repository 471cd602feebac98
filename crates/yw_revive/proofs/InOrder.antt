-- Rows whose keys ascend are the entries of a map.
use Rattle.std.proofs.Common.{◌≡◌, ◌∙◌, ◌++◌, ◌∷◌, ◌&&◌, [], ℕ, List, Ordering, Bool, true, false, T, Option, None, Some, inl, inr, map, refl, sym, ap, subst}
use Rattle.std.specs.FinMap.Entries.{below_all, find, is_sorted}
use Rattle.std.specs.Ordering.{eq_by_cmp, is_eq, is_lt}
use Rattle.std.specs.Prelude.{cond}
use Rattle.std.specs.declared.cmp.Ordering.TheVariants.{Equal, Greater, Less}
use Rattle.yw_state.proofs.Entries.{IsIn}
use Rattle.yw_state.proofs.MapEntries.{get-of_entries}
use Rattle.yw_state.proofs.MapLemmas.{KeyOrder, apart, same_list, tied_self}
use Rattle.yw_state.proofs.Tests.{and_left, and_right, never}
use Rattle.yw_state.specs.Map.{Map, entries, get, of_entries}
use Rattle.yw_states.specs.Ascending.{ascend}

to_T : (b : Bool) → b ≡ true → T b
to_T b e = subst T (sym e) tt

both_T : (p q : Bool) → T p → T q → T (p && q)
both_T true q h k = k
both_T false q h k = absurd h

-- ---- order by a key

-- rows ascend where their keys do
pub ascend_keys : {X Y : Type 0} (key : X → Y) (before : X → X → Bool) (lower : Y → Y → Bool) → ((a b : X) → before a b ≡ lower (key a) (key b))
    → (xs : List X) → ascend before xs ≡ ascend lower (map key xs)
ascend_keys key before lower by_key [] = refl
ascend_keys key before lower by_key (x ∷ []) = refl
ascend_keys key before lower by_key (x ∷ y ∷ ys) =
    ap (λ (b : Bool). b && ascend before (y ∷ ys)) (by_key x y) ∙ ap (λ (b : Bool). lower (key x) (key y) && b) (ascend_keys key before lower by_key (y ∷ ys))

pub ascend_on : {X : Type 0} (before : X → X → Bool) (x : X) (xs : List X) → ascend before (x ∷ xs) ≡ true → ascend before xs ≡ true
ascend_on before x [] up = refl
ascend_on before x (y ∷ ys) up = and_right (before x y) (ascend before (y ∷ ys)) up

module _ {K : Type 0} {R : K → K → Ordering} (o : KeyOrder R) where
  abbrev pub lower : K → K → Bool
  lower a b = is_lt (R a b)

  less_is : (r : Ordering) → T (is_lt r) → r ≡ Less
  less_is Less h = refl
  less_is Equal h = absurd h
  less_is Greater h = absurd h

  before_on : (j i k : K) → T (is_lt (R j i)) → T (is_lt (R i k)) → T (is_lt (R j k))
  before_on j i k a b = subst (λ (r : Ordering). T (is_lt r)) (sym (o.total.trans j i k (less_is (R j i) a) (less_is (R i k) b))) tt

  pub not_itself : (k : K) → T (is_lt (R k k)) → ⊥
  not_itself k h = by (R k k) (tied_self o k) h
    where
      by : (r : Ordering) → is_eq r ≡ true → T (is_lt r) → ⊥
      by Less e l = never e
      by Equal e l = l
      by Greater e l = l

  -- the first comes before all others
  first_lowest : (x : K) (ys : List K) → ascend lower (x ∷ ys) ≡ true → (y : K) → IsIn ys y → T (is_lt (R x y))
  first_lowest x [] up y within = absurd within
  first_lowest x (z ∷ zs) up y (inl same) = subst (λ (w : K). T (is_lt (R x w))) same (to_T (lower x z) (and_left (lower x z) (ascend lower (z ∷ zs)) up))
  first_lowest x (z ∷ zs) up y (inr rest) =
      before_on x z y (to_T (lower x z) (and_left (lower x z) (ascend lower (z ∷ zs)) up))
      (first_lowest z zs (and_right (lower x z) (ascend lower (z ∷ zs)) up) y rest)

  in_front : (xs ys : List K) (y : K) → IsIn ys y → IsIn (xs ++ ys) y
  in_front [] ys y within = within
  in_front (x ∷ xs) ys y within = inr (in_front xs ys y within)

  -- those in front come before what comes behind them
  pub earlier : (front back : List K) (x : K) → ascend lower (front ++ (x ∷ back)) ≡ true → (y : K) → IsIn front y → T (is_lt (R y x))
  earlier [] back x up y within = absurd within
  earlier (z ∷ zs) back x up y (inl same) =
      subst (λ (w : K). T (is_lt (R w x))) same (first_lowest z (zs ++ (x ∷ back)) up x (in_front zs (x ∷ back) x (inl refl)))
  earlier (z ∷ zs) back x up y (inr rest) = earlier zs back x (ascend_on lower z (zs ++ (x ∷ back)) up) y rest

  module _ {X : Type 0} where
    abbrev pub keys_of : List (K × X) → List K
    keys_of es = map (λ (e : K × X). e.0) es

    below : (k : K) (es : List (K × X)) → ((y : K) → IsIn (keys_of es) y → T (is_lt (R k y))) → T (below_all R k es)
    below k [] all = tt
    below k (e ∷ es) all = both_T (is_lt (R k e.0)) (below_all R k es) (all e.0 (inl refl)) (below k es (λ y within. all y (inr within)))

    pub sorted : (es : List (K × X)) → ascend lower (keys_of es) ≡ true → T (is_sorted R es)
    sorted [] up = tt
    sorted (e ∷ es) up =
        both_T (below_all R e.0 es) (is_sorted R es) (below e.0 es (first_lowest e.0 (keys_of es) up)) (sorted es (ascend_on lower e.0 (keys_of es) up))

    -- the entries are those that were given
    pub entries_are : (es : List (K × X)) → ascend lower (keys_of es) ≡ true → entries (of_entries {R = R} es) ≡ es
    entries_are es up =
        let m : Map R X = record { list = es; sorted = sorted es up } in
        same_list o (of_entries {R = R} es) m (get-of_entries o es)

    -- what comes behind them isn't among them
    pub none_before : (es : List (K × X)) (k : K) → ((y : K) → IsIn (keys_of es) y → T (is_lt (R y k))) → find R k es ≡ None
    none_before [] k all = refl
    none_before (e ∷ es) k all =
        ap (λ (b : Bool). cond b (Some e.1) (find R k es)) (apart o k e.0 (λ same. not_itself k (subst (λ (w : K). T (is_lt (R w k))) (sym same) (all e.0 (inl refl)))))
        ∙ none_before es k (λ y within. all y (inr within))
