-- The keys of a map, and of entries in any order.
use Rattle.std.proofs.Common.{◌≡◌, ◌∙◌, ℕ, Bool, true, false, List, [], ◌∷◌, Some, map, ap, inl, inr, refl, sym}
use Rattle.std.specs.FinMap.Entries.{below_all, find, is_sorted}
use Rattle.std.specs.Ordering.{eq_by_cmp, is_lt}
use Rattle.std.specs.Prelude.{T, ◌&&◌, cond}
use Rattle.yw_shown.proofs.Rising.{Rises}
use Rattle.yw_sites.specs.Idents.{Each}
use Rattle.yw_state.proofs.Entries.{IsIn}
use Rattle.yw_state.proofs.MapLemmas.{by_name, by_test, nowhere, tied, tied_self}
use Rattle.yw_state.specs.Map.{lexical}

both : (a b : Bool) → T (a && b) → T a × T b
both true b h = (tt, h)
both false b h = absurd h

is_true : (b : Bool) → T b → b ≡ true
is_true true h = refl
is_true false h = absurd h

module _ {X : Type 0} where
  abbrev pub firsts : List (List ℕ × X) → List (List ℕ)
  firsts es = map (λ (e : List ℕ × X). e.0) es

  above : (k : List ℕ) (es : List (List ℕ × X)) → T (below_all lexical k es) → Each (λ y. is_lt (lexical k y) ≡ true) (firsts es)
  above k [] h = tt
  above k (e ∷ es) h = let parts = both (is_lt (lexical k e.0)) (below_all lexical k es) h in (is_true _ parts.0, above k es parts.1)

  pub keys_rise : (es : List (List ℕ × X)) → T (is_sorted lexical es) → Rises by_name (firsts es)
  keys_rise [] h = tt
  keys_rise (e ∷ es) h = let parts = both (below_all lexical e.0 es) (is_sorted lexical es) h in (above e.0 es parts.0, keys_rise es parts.1)

  -- what stands under a key is found
  pub found_some : (es : List (List ℕ × X)) (k : List ℕ) → IsIn (firsts es) k → (x : X) × (find lexical k es ≡ Some x)
  found_some [] k within = absurd within
  found_some (e ∷ es) k (inl same) =
      (e.1, ap (λ b. cond b (Some e.1) (find lexical k es)) (ap (eq_by_cmp lexical k) same ∙ tied_self by_name k))
  found_some (e ∷ es) k (inr rest) =
      by_test (eq_by_cmp lexical k e.0)
      (λ t. (e.1, ap (λ b. cond b (Some e.1) (find lexical k es)) t))
      (λ f. let there = found_some es k rest in (there.0, ap (λ b. cond b (Some e.1) (find lexical k es)) f ∙ there.1))

  -- what is found stands under the key
  pub found_listed : (es : List (List ℕ × X)) (k : List ℕ) (x : X) → find lexical k es ≡ Some x → IsIn (firsts es) k
  found_listed [] k x e = nowhere e
  found_listed (f ∷ es) k x e =
      by_test (eq_by_cmp lexical k f.0)
      (λ t. inl (sym (tied by_name k f.0 t)))
      (λ o. inr (found_listed es k x (sym (ap (λ b. cond b (Some f.1) (find lexical k es)) o) ∙ e)))
