-- A map's entries and what it answers.
use Rattle.std.specs.Prelude.{◌≡◌, ◌⊎◌, ◌&&◌, ◌||◌, Bool, true, false, cond, T, List, [], ◌∷◌, Option, Some, None, refl}
use Rattle.std.specs.List.{list_any, filter_map, cons_option}
use Rattle.std.specs.Ordering.{eq_by_cmp, is_eq, is_lt, ordering_reverse}
use Rattle.std.specs.FinMap.Entries.{below_all, find, is_sorted}
use Rattle.std.specs.declared.cmp.Ordering.{Ordering}
use Rattle.std.specs.declared.cmp.Ordering.TheVariants.{Less, Equal, Greater}
use Rattle.std.proofs.Common.{sym, ◌∙◌, ap, subst, inl, inr}
use Rattle.yw_state.proofs.MapLemmas.{KeyOrder, by_test, never, some_same, tied, tied_self}

-- x is an element of xs
abbrev pub IsIn : {X : Type 0} → List X → X → Type 0
IsIn [] x = ⊥
IsIn (y ∷ ys) x = (y ≡ x) ⊎ IsIn ys x

-- an element that passes
pub passing : {X : Type 0} (p : X → Bool) (xs : List X) → list_any p xs ≡ true → (x : X) × IsIn xs x × (p x ≡ true)
passing p [] some = never some
passing p (x ∷ xs) some =
    by_test (p x) (λ here. (x, inl refl, here)) (λ none. let rest = passing p xs (ap (λ b. b || list_any p xs) (sym none) ∙ some) in (rest.0, inr rest.1, rest.2))

-- an element from which one comes that passes
abbrev pub ComesFrom : {X Y : Type 0} → (X → Option Y) → (Y → Bool) → List X → Type 0
ComesFrom {X} {Y} h p xs = (x : X) × (y : Y) × IsIn xs x × (h x ≡ Some y) × (p y ≡ true)

later : {X Y : Type 0} (h : X → Option Y) (p : Y → Bool) (x : X) (xs : List X) → ComesFrom h p xs → ComesFrom h p (x ∷ xs)
later h p x xs r = (r.0, r.1, inr r.2, r.3, r.4)

pub comes_from : {X Y : Type 0} (h : X → Option Y) (p : Y → Bool) (xs : List X) → list_any p (filter_map h xs) ≡ true → ComesFrom h p xs
comes_from h p [] some = never some
comes_from h p (x ∷ xs) some =
    elim (h x) as (λ o. h x ≡ o → list_any p (cons_option o (filter_map h xs)) ≡ true → ComesFrom h p (x ∷ xs)) [
      | None ↦ λ e any. later h p x xs (comes_from h p xs any)
      | Some y ↦ λ e any. by_test (p y) (λ here. (x, y, inl refl, e, here)) (λ none. later h p x xs (comes_from h p xs (ap (λ b. b || list_any p (filter_map h xs)) (sym none) ∙ any)))
    ] refl some

halves : (a b : Bool) → T (a && b) → T a × T b
halves true b h = (tt, h)
halves false b h = absurd h

not_tied : (r : Ordering) → T (is_lt r) → is_eq (ordering_reverse r) ≡ false
not_tied Less h = refl
not_tied Equal h = absurd h
not_tied Greater h = refl

module _ {K X : Type 0} {R : K → K → Ordering} (o : KeyOrder R) where
  above : (k : K) (es : List (K × X)) (e : K × X) → T (below_all R k es) → IsIn es e → T (is_lt (R k e.0))
  above k [] e h within = absurd within
  above k (f ∷ es) e h (inl same) = subst (λ (g : K × X). T (is_lt (R k g.0))) same (halves _ _ h).0
  above k (f ∷ es) e h (inr rest) = above k es e (halves _ _ h).1 rest

  -- an entry of a sorted list is found
  pub find-entry : (es : List (K × X)) (e : K × X) → T (is_sorted R es) → IsIn es e → find R e.0 es ≡ Some e.1
  find-entry [] e h within = absurd within
  find-entry (f ∷ es) e h (inl same) =
      subst (λ (g : K × X). cond (eq_by_cmp R g.0 f.0) (Some f.1) (find R g.0 es) ≡ Some g.1) same (ap (λ b. cond b (Some f.1) (find R f.0 es)) (tied_self o f.0))
  find-entry (f ∷ es) e h (inr rest) =
      let other : eq_by_cmp R e.0 f.0 ≡ false = ap is_eq (o.total.antisymm e.0 f.0) ∙ not_tied _ (above f.0 es e (halves _ _ h).0 rest) in
      ap (λ b. cond b (Some f.1) (find R e.0 es)) other ∙ find-entry es e (halves _ _ h).1 rest

  -- what is found is an entry
  pub entry-found : (es : List (K × X)) (k : K) (x : X) → find R k es ≡ Some x → IsIn es (k, x)
  entry-found [] k x e = absurd (subst (λ (q : Option X). elim q as (λ _. Type 0) [ None ↦ Unit {0} | Some _ ↦ ⊥ ]) e tt)
  entry-found (f ∷ es) k x e =
      by_test (eq_by_cmp R k f.0)
      (λ t. let value = some_same _ _ (sym (ap (λ b. cond b (Some f.1) (find R k es)) t) ∙ e) in let key = tied o k f.0 t in inl (λ i. (sym key i, value i)))
      (λ t. inr (entry-found es k x (sym (ap (λ b. cond b (Some f.1) (find R k es)) t) ∙ e)))

pub passes : {X : Type 0} (p : X → Bool) (xs : List X) (x : X) → IsIn xs x → p x ≡ true → list_any p xs ≡ true
passes p [] x within e = absurd within
passes p (y ∷ ys) x (inl same) e = ap (λ z. p z || list_any p ys) same ∙ ap (λ b. b || list_any p ys) e
passes p (y ∷ ys) x (inr rest) e =
    elim (p y) as (λ b. (b || list_any p ys) ≡ true) [ true ↦ refl | false ↦ passes p ys x rest e ]

pub mapped_in : {X Y : Type 0} (h : X → Option Y) (xs : List X) (x : X) (y : Y) → IsIn xs x → h x ≡ Some y → IsIn (filter_map h xs) y
mapped_in h [] x y within e = absurd within
mapped_in h (z ∷ zs) x y (inl same) e = subst (λ o. IsIn (cons_option o (filter_map h zs)) y) (sym e ∙ ap h (sym same)) (inl refl)
mapped_in h (z ∷ zs) x y (inr rest) e =
    elim (h z) as (λ o. IsIn (cons_option o (filter_map h zs)) y) [ None ↦ mapped_in h zs x y rest e | Some w ↦ inr (mapped_in h zs x y rest e) ]
