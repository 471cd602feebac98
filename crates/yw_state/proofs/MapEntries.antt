-- The map of a list of entries.
use Rattle.std.specs.Prelude.{◌≡◌, Bool, cond, List, [], ◌∷◌, ◌++◌, Some, None, refl}
use Rattle.std.specs.FinMap.Entries.{find}
use Rattle.std.specs.Ordering.{eq_by_cmp}
use Rattle.std.specs.declared.cmp.Ordering.{Ordering}
use Rattle.std.proofs.Common.{sym, ◌∙◌, ap}
use Rattle.yw_state.specs.Map.{get, insert, of_entries}
use Rattle.yw_state.proofs.MapLemmas.{KeyOrder, by_test, get-insert, never, nowhere, same_map, tied}

module _ {K X : Type 0} {R : K → K → Ordering} (o : KeyOrder R) where
  pub get-of_entries : (es : List (K × X)) (q : K) → get (of_entries {R = R} es) q ≡ find R q es
  get-of_entries [] q = refl
  get-of_entries (e ∷ es) q = get-insert o (of_entries es) e.0 e.1 q ∙ ap (cond (eq_by_cmp R q e.0) (Some e.1)) (get-of_entries es q)

  found_behind : (es : List (K × X)) (k : K) (v : X) (q : K) → find R k es ≡ None → find R q (es ++ (k, v) ∷ []) ≡ cond (eq_by_cmp R q k) (Some v) (find R q es)
  found_behind [] k v q none = refl
  found_behind (e ∷ es) k v q none =
      by_test (eq_by_cmp R k e.0)
      (λ t. nowhere (sym (ap (λ (b : Bool). cond b (Some e.1) (find R k es)) (sym t) ∙ none)))
      (λ f.
      let rest = found_behind es k v q (sym (ap (λ (b : Bool). cond b (Some e.1) (find R k es)) f) ∙ none) in
      by_test (eq_by_cmp R q e.0)
      (λ h.
      let other = by_test (eq_by_cmp R q k) (λ g. never (sym f ∙ ap (λ (x : K). eq_by_cmp R x e.0) (sym (tied o q k g)) ∙ h)) (λ g. g) in
      ap (λ (b : Bool). cond b (Some e.1) (find R q (es ++ (k, v) ∷ []))) h
      ∙ sym (ap (λ (b : Bool). cond b (Some v) (cond (eq_by_cmp R q e.0) (Some e.1) (find R q es))) other ∙ ap (λ (b : Bool). cond b (Some e.1) (find R q es)) h))
      (λ h.
      ap (λ (b : Bool). cond b (Some e.1) (find R q (es ++ (k, v) ∷ []))) h
      ∙ rest
      ∙ sym (ap (λ (b : Bool). cond (eq_by_cmp R q k) (Some v) (cond b (Some e.1) (find R q es))) h)))

  -- one behind the others, at a key that none of them has
  pub of_entries-push : (es : List (K × X)) (k : K) (v : X) → find R k es ≡ None → of_entries {R = R} (es ++ (k, v) ∷ []) ≡ insert (of_entries es) k v
  of_entries-push es k v none = same_map o _ _ (λ q.
      get-of_entries (es ++ (k, v) ∷ []) q ∙ found_behind es k v q none
      ∙ sym (get-insert o (of_entries es) k v q ∙ ap (cond (eq_by_cmp R q k) (Some v)) (get-of_entries es q)))
