-- Entries no two of which have one key: what is asked of the map is asked of them in their own order.
use Rattle.std.proofs.Common.{Bool, None, Some, [], ap, cond, false, refl, subst, sym, true, ◌++◌, ◌∙◌, ◌∷◌, ◌≡◌}
use Rattle.std.specs.FinMap.Entries.{by_order, find, is_sorted, is_sorted-put, put}
use Rattle.std.specs.List.{list_any}
use Rattle.std.specs.Ordering.{eq_by_cmp, is_eq}
use Rattle.std.specs.Prelude.{T, ◌||◌}
use Rattle.std.specs.declared.cmp.Ordering.TheVariants.{Equal, Greater, Less}
use Rattle.yw_base.specs.Identity.{under}
use Rattle.yw_sites.proofs.Each.{Each-append}
use Rattle.yw_sites.proofs.Prefix.{child_strict, under_refl}
use Rattle.yw_sites.specs.Entries.{Entries, Entry, NoneUnder, AllUnder}
use Rattle.yw_state.specs.State.{sites_of_entries}
use Rattle.yw_sites.specs.Idents.{Each, IsChild}
use Rattle.yw_state.proofs.MapEntries.{get-of_entries}
use Rattle.yw_state.proofs.MapLemmas.{by_name, tied}
use Rattle.yw_state.proofs.Tests.{by_test, never, nowhere}
use Rattle.yw_state.specs.Identity.{Ident}
use Rattle.yw_state.specs.Map.{Map, entries, lexical, of_sorted}
use Rattle.yw_state.specs.State.{Site}
use Rattle.yw_sites.specs.Entries.{Unique}

module _ (p : Entry → Bool) where
  swap_or : (a b c : Bool) → (a || (b || c)) ≡ (b || (a || c))
  swap_or true true c = refl
  swap_or true false c = refl
  swap_or false true c = refl
  swap_or false false c = refl

  any_put : (k : Ident) (v : Site) (es : Entries) → find lexical k es ≡ None → list_any p (put lexical k v es) ≡ (p (k, v) || list_any p es)
  any_put k v [] h = refl
  any_put k v (e ∷ es) h =
      elim (lexical k e.0) as (λ o. lexical k e.0 ≡ o → list_any p (by_order o ((k, v) ∷ e ∷ es) ((e.0, v) ∷ es) (e ∷ put lexical k v es)) ≡ (p (k, v) || (p e || list_any p es))) [
        | Less ↦ λ o. refl
        | Equal ↦ λ o. nowhere (sym (ap (λ r. cond (is_eq r) (Some e.1) (find lexical k es)) (sym o) ∙ h))
        | Greater ↦ λ o. ap (λ b. p e || b) (any_put k v es (sym (ap (λ r. cond (is_eq r) (Some e.1) (find lexical k es)) o) ∙ h)) ∙ swap_or (p e) (p (k, v)) (list_any p es)
      ] refl

  list_is : (es : Entries) (b : Bool) (e : is_sorted lexical es ≡ b) (m : Map lexical Site) → T b → entries (of_sorted es b e m) ≡ es
  list_is es true e m h = refl
  list_is es false e m h = absurd h

  not_found : (k : Ident) (es : Entries) → Each (λ (f : Entry). f.0 ≡ k → ⊥) es → find lexical k es ≡ None
  not_found k [] h = refl
  not_found k (e ∷ es) h =
      by_test (eq_by_cmp lexical k e.0)
      (λ (t : eq_by_cmp lexical k e.0 ≡ true). absurd (h.0 (sym (tied by_name k e.0 t))))
      (λ (t : eq_by_cmp lexical k e.0 ≡ false). ap (λ b. cond b (Some e.1) (find lexical k es)) t ∙ not_found k es h.1)

  -- some entry of the map passes where one of the list does
  pub some_is : (es : Entries) → Unique es → list_any p (entries (sites_of_entries es)) ≡ list_any p es
  some_is [] u = refl
  some_is (e ∷ es) u =
      let m = sites_of_entries es in
      ap (list_any p) (list_is (put lexical e.0 e.1 (entries m)) _ refl m (is_sorted-put lexical by_name.total e.0 e.1 (entries m) m.sorted))
      ∙ any_put e.0 e.1 (entries m) (get-of_entries by_name es e.0 ∙ not_found e.0 es u.0)
      ∙ ap (λ b. p e || b) (some_is es u.1)

pub apart_lists : (j : Ident) (xs ys : Entries) → AllUnder j xs → NoneUnder j ys → Each (λ (x : Entry). Each (λ (y : Entry). y.0 ≡ x.0 → ⊥) ys) xs
apart_lists j [] ys h a = tt
apart_lists j (x ∷ xs) ys h a = (differ x.0 ys h.0 a, apart_lists j xs ys h.1 a)
  where
    differ : (k : Ident) (ys : Entries) → under k j ≡ true → NoneUnder j ys → Each (λ (y : Entry). y.0 ≡ k → ⊥) ys
    differ k [] u a = tt
    differ k (y ∷ ys) u a = ((λ e. never (sym a.0 ∙ ap (λ z. under z j) e ∙ u)), differ k ys u a.1)

pub unique_both : (xs ys : Entries) → Unique xs → Unique ys → Each (λ (x : Entry). Each (λ (y : Entry). y.0 ≡ x.0 → ⊥) ys) xs → Unique (xs ++ ys)
unique_both [] ys u v c = v
unique_both (x ∷ xs) ys u v c = (Each-append (λ (f : Entry). f.0 ≡ x.0 → ⊥) xs ys u.0 c.0, unique_both xs ys u.1 v c.1)

-- what lies under a child of i isn't i
pub not_above : (i j : Ident) → IsChild i j → (es : Entries) → AllUnder j es → Each (λ (f : Entry). f.0 ≡ i → ⊥) es
not_above i j c [] h = tt
not_above i j c (e ∷ es) h = ((λ s. never (sym (child_strict i i j c (under_refl i)) ∙ subst (λ z. under z j ≡ true) s h.0)), not_above i j c es h.1)
